use Rattle.std.proofs.Common.{◌≡◌, ◌+◌, ◌-◌, ◌++◌, ◌∙◌, suc, arith, ap, subst}
use Rattle.plcells.specs.Walking.{run}
use Rattle.plcells.proofs.Taking.{run-more}
use Rattle.plcells.proofs.take.push_run.Goals as goal

pub loop-i-preserved : goal.loop-i-preserved
loop-i-preserved c =
    let i = c.loop-i.i - 1 in
    let up : c.loop-i.i ≡ suc i = omega (arith, c.loop-i-test.true) in
    let so_far = subst (λ j. c.loop-i.stack.items ≡ c.args.stack.now.items ++ run (c.args.first + j) (c.args.count - j)) up c.loop-i.invariant.so_far in
    let count : suc (c.args.count - suc i) ≡ c.args.count - i = omega (arith, c.loop-i.invariant.most, up) in
    record {
      most = omega (arith, c.loop-i.invariant.most);
      so_far =
          (rw c.after.ensures at c.in_ok-push.ensures.items)
          ∙ run-more c.loop-i.stack.items c.args.stack.now.items c.args.first i (c.args.count - suc i) so_far
          ∙ ap (λ k. c.args.stack.now.items ++ run (c.args.first + i) k) count;
    }
