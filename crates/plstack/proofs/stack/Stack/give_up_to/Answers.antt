use Rattle.std.proofs.Common.{ap, subst}
use Rattle.plstack.specs.State.{State, goals_of}
use Rattle.plstack.specs.Cutting.{ChoiceAt}
use Rattle.plstack.proofs.Settling.{given-older, given-within}
use Rattle.plstack.proofs.Emptying.{cut-none, never-precedes, drops_settled}
use Rattle.plstack.proofs.stack.Stack.give_up_to.Goals as goal

pub drop_from-requires-clause-none : goal.drop_from-requires-clause-none
drop_from-requires-clause-none c =
    let frame = c.choice_at-frame.result in
    let at = subst (λ (x : State). ChoiceAt x.frames c.args.level frame.at frame.below) c.self.view_is (rw c.deref.ensures.value at c.choice_at-frame.ensures) in
    let s : State = c.args.self.now in
    cut-none s c.args.level frame.at frame.below at (goals_of s c.requires.0) (never-precedes s c.args.level c.requires.0 c.requires.1)

pub settle_since-requires-clause-within : goal.settle_since-requires-clause-within
settle_since-requires-clause-within c =
    given-within c.args.self.now c.drop_from.new.self c.choice_at-frame.result.at c.oldest_from-since.result (ap (λ (x : State). x.env) c.drop_from.ensures.same) c.oldest_from-since.ensures

pub settle_since-requires-clause-older : goal.settle_since-requires-clause-older
settle_since-requires-clause-older c =
    given-older c.args.self.now c.drop_from.new.self c.choice_at-frame.result.at _ c.oldest_from-since.result c.drop_from.ensures.empties c.oldest_from-since.ensures

pub returns : goal.returns
returns c =
    let frame = c.choice_at-frame.result in
    let at = subst (λ (x : State). ChoiceAt x.frames c.args.level frame.at frame.below) c.self.view_is (rw c.deref.ensures.value at c.choice_at-frame.ensures) in
    let s : State = c.args.self.now in
    drops_settled s c.drop_from.new.self c.args.level frame.at frame.below at c.drop_from.ensures.empties c.drop_from.ensures.same c.settle_since.new.self c.settle_since.ensures
