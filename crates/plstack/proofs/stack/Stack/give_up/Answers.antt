use Rattle.std.proofs.Common.{ap}
use Rattle.plstack.specs.State.{State}
use Rattle.plstack.proofs.Settling.{given-older, given-within}
use Rattle.plstack.proofs.stack.Stack.give_up.Goals as goal

pub settle_since-requires-clause-within : goal.settle_since-requires-clause-within
settle_since-requires-clause-within c =
    given-within c.args.self.now c.empty_from.new.self c.args.frame.at c.oldest_from-since.result (ap (λ (x : State). x.env) c.in_ok-empty_from.ensures.same) c.oldest_from-since.ensures

pub settle_since-requires-clause-older : goal.settle_since-requires-clause-older
settle_since-requires-clause-older c =
    given-older c.args.self.now c.empty_from.new.self c.args.frame.at _ c.oldest_from-since.result c.in_ok-empty_from.ensures.ok c.oldest_from-since.ensures
