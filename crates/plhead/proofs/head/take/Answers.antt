use Rattle.std.proofs.Common.{◌<◌, arith}
use Rattle.plsubst.specs.Subst.{put}
use Rattle.plcells.specs.Store.{value}
use Rattle.plhead.proofs.Slots.{fresh-absent, keeps-same, put-is}
use Rattle.plhead.proofs.head.take.Goals as goal

pub returns-in_err-set-clause-keeps : goal.returns-in_err-set-clause-keeps
returns-in_err-set-clause-keeps c = keeps-same c.args.env.now c.set.new.self c.in_err-set.ensures.err

pub returns-clause-ok : goal.returns-clause-ok
returns-clause-ok c =
    let h = c.args.env.now.heap in
    let n = c.args.number in
    record {
      unifier = put n (value h c.args.v);
      is = put-is n (value h c.args.v) (fresh-absent h c.requires.heap n c.requires.fresh.0 c.args.v c.requires.value) (λ u q.
          let above : n < u → ⊥ = c.requires.older u q in
          omega (arith, above));
      made = c.in_ok-set.ensures.ok n c.requires.free;
    }
