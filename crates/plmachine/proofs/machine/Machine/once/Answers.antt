use Rattle.std.proofs.Common.{refl, ap, sym, ◌∙◌, ◌∷◌, []}
use Rattle.plsearch.specs.Types.{Commit, Marker}
use Rattle.plsearch.specs.Rows.{once_1}
use Rattle.plstack.specs.Levels.{Choosing}
use Rattle.plstack.specs.State.{goals_of, kinds_in}
use Rattle.plmachine.specs.Machine.{local_of}
use Rattle.plmachine.proofs.Moves.{grown-stays, moved-grown, stays-trans, on_err, on_ok_map, on_err_map}
use Rattle.plmachine.proofs.Arounds.{run-same}
use Rattle.plmachine.proofs.Levels.{run-level, commit-precedes, depth-kinds}
use Rattle.plmachine.proofs.machine.Machine.once.Goals as goal

pub returns-in_err-ready-clause-err : goal.returns-in_err-ready-clause-err
returns-in_err-ready-clause-err c P = on_err _ (grown-stays P c.args.self.now c.ready_before.new.self c.ready_before.ensures.grown c.ready_before.ensures.frame)

pub run-requires-clause-how : goal.run-requires-clause-how
run-requires-clause-how c =
    let s = c.args.self.now.stack in
    record {
      few = tt;
      around = tt;
      list = c.in_ok-ready.ensures.list.there;
      level = run-level s c.ready_before.new.self.stack c.ready_before.ensures.grown.extends (Choosing ∷ []) c.depth-depth.result c.in_ok-ready.list _ c.in_ok-ready.ensures.list
          (commit-precedes (kinds_in s) c.depth-depth.result (c.depth-depth.ensures.is ∙ sym (depth-kinds s)) (goals_of s c.args.rest) c.requires.fits);
    }

pub returns-clause-ok : goal.returns-clause-ok
returns-clause-ok c P =
    let s = c.args.self.now in
    let t = c.ready_before.new.self in
    let g = c.ready_before.ensures.grown in
    let depth = c.depth-depth.ensures.is in
    let goals = c.in_ok-ready.ensures.list.is ∙ ap (λ d. Marker Commit d ∷ goals_of s.stack c.args.rest) depth in
    on_ok_map c.run.result (moved-grown P s t c.run.new.self _ _ g c.ready_before.ensures.frame
    (run-same once_1 once_1 refl _ _ _ _ _ _ _ _ _ _ _ _ (sym c.in_ok-ready.ensures.ready.is) refl (depth) goals g.count (ap (λ x. local_of x) c.ready_before.ensures.frame))) (c.run.ensures.ok P)

pub returns-clause-err : goal.returns-clause-err
returns-clause-err c P =
    let s = c.args.self.now in
    on_err_map c.run.result (stays-trans P s c.ready_before.new.self c.run.new.self (grown-stays P s c.ready_before.new.self c.ready_before.ensures.grown c.ready_before.ensures.frame)) (c.run.ensures.err P)
