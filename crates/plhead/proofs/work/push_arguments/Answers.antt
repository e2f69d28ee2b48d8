use Rattle.std.proofs.Common.{◌≡◌, ◌+◌, ◌-◌, suc, arith, subst}
use Rattle.plhead.specs.Equations.{Pushes}
use Rattle.plhead.proofs.Listing.{pushes-more}
use Rattle.plhead.proofs.work.push_arguments.Goals as goal

pub loop-i-preserved : goal.loop-i-preserved
loop-i-preserved c =
    let l = c.loop-i in
    let old = c.args.work.now.items in
    let h = c.args.heap.now in
    let i = l.i - 1 in
    let up : l.i ≡ suc i = omega (arith, c.loop-i-test.true) in
    let count : suc (c.args.count - suc i) ≡ c.args.count - i = omega (arith, l.invariant.most, up) in
    let so_far = subst (λ j. Pushes h old l.work.items (c.args.at + j) (c.args.cells + j) (c.args.count - j)) up l.invariant.so_far in
    record {
      most = omega (arith, l.invariant.most);
      so_far = subst (Pushes h old c.push.new.self.items (c.args.at + i) (c.args.cells + i)) count
          (pushes-more h old l.work.items c.push.new.self.items c.args.at c.args.cells i (c.args.count - suc i) c.argument.result so_far c.argument.ensures.fits (rw c.after.ensures at c.argument.ensures.same) c.in_ok-push.ensures.items);
    }
