use Rattle.std.proofs.Common.{◌≡◌, ◌+◌, ◌-◌, ◌++◌, ◌∙◌, suc, arith, ap, subst}
use Rattle.plbind.specs.Unifying.{pairs}
use Rattle.plbind.proofs.Work.{pairs-more}
use Rattle.plbind.proofs.unify.push_pairs.Goals as goal

pub loop-i-preserved : goal.loop-i-preserved
loop-i-preserved c =
    let i = c.loop-i.i - 1 in
    let up : c.loop-i.i ≡ suc i = omega (arith, c.loop-i-test.true) in
    let so_far = subst (λ j. c.loop-i.work.items ≡ c.args.work.now.items ++ pairs (c.args.a + j) (c.args.b + j) (c.args.k - j)) up c.loop-i.invariant.so_far in
    let count : suc (c.args.k - suc i) ≡ c.args.k - i = omega (arith, c.loop-i.invariant.most, up) in
    record {
      most = omega (arith, c.loop-i.invariant.most);
      so_far =
          (rw (c.after.ensures, c.after-in-loop-i.ensures) at c.in_ok-push.ensures.items)
          ∙ pairs-more c.loop-i.work.items c.args.work.now.items c.args.a c.args.b i (c.args.k - suc i) so_far
          ∙ ap (λ k. c.args.work.now.items ++ pairs (c.args.a + i) (c.args.b + i) k) count;
    }
