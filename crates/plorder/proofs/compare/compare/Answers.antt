use Rattle.plcells.specs.Store.{value}
use Rattle.plorder.specs.Runs.{IsComparison}
use Rattle.plorder.proofs.Settling.{one-run, one-order, ok-same}
use Rattle.plorder.proofs.compare.compare.Goals as goal

pub settle-requires : goal.settle-requires
unfolding IsComparison
settle-requires c =
    one-run c.args.heap.now (value c.args.heap.now c.args.a) (value c.args.heap.now c.args.b) c.in-Arguments.inner c.in-Arguments.ensures c.clear.new.self.items c.push.new.self.items c.clear.ensures.items c.in_ok-push-in-Arguments.ensures.items

pub returns-in-Decided : goal.returns-in-Decided
unfolding IsComparison
returns-in-Decided c = c.in-Decided.ensures

pub returns-in_ok-push-in-Arguments : goal.returns-in_ok-push-in-Arguments
unfolding IsComparison
returns-in_ok-push-in-Arguments c =
    ok-same c.settle.result _ _ c.settle.ensures (one-order c.args.heap.now (value c.args.heap.now c.args.a) (value c.args.heap.now c.args.b) c.in-Arguments.inner c.in-Arguments.ensures c.clear.new.self.items c.push.new.self.items c.clear.ensures.items c.in_ok-push-in-Arguments.ensures.items)
