use Rattle.std.proofs.Common.{ap, subst}
use Rattle.plstack.specs.State.{State, goals_of, kinds_in}
use Rattle.plstack.specs.Levels.{FitsIn}
use Rattle.plstack.specs.Cutting.{ChoiceAt}
use Rattle.plstack.proofs.Settling.{given-older, given-within}
use Rattle.plstack.proofs.Emptying.{pass-one, pass-visited, passes, ended_settled, ended_basis}
use Rattle.plstack.proofs.Seeing.{own-visiting}
use Rattle.plstack.proofs.stack.Stack.pass_transact.Goals as goal

pub end_from-requires-clause-one : goal.end_from-requires-clause-one
end_from-requires-clause-one c =
    let frame = c.choice_at-frame.result in
    let at = subst (λ (x : State). ChoiceAt x.frames c.args.level frame.at frame.below) c.self.view_is (rw c.deref.ensures.value at c.choice_at-frame.ensures) in
    let s : State = c.args.self.now in
    let first = c.requires.1 in
    (c.requires.0, pass-one s c.args.level frame.at frame.below at c.requires.0 (goals_of s c.args.list) (subst (FitsIn (kinds_in s)) first.goals first.levels))

pub settle_since-requires-clause-within : goal.settle_since-requires-clause-within
settle_since-requires-clause-within c =
    given-within c.args.self.now c.end_from.new.self c.choice_at-frame.result.at c.oldest_from-since.result (ap (λ (x : State). x.env) c.in_ok-end_from.ensures.same) c.oldest_from-since.ensures

pub settle_since-requires-clause-older : goal.settle_since-requires-clause-older
settle_since-requires-clause-older c =
    given-older c.args.self.now c.end_from.new.self c.choice_at-frame.result.at _ c.oldest_from-since.result c.in_ok-end_from.ensures.ok c.oldest_from-since.ensures

pub visit-requires-clause-list : goal.visit-requires-clause-list
visit-requires-clause-list c =
    let frame = c.choice_at-frame.result in
    let at = subst (λ (x : State). ChoiceAt x.frames c.args.level frame.at frame.below) c.self.view_is (rw c.deref.ensures.value at c.choice_at-frame.ensures) in
    let s : State = c.args.self.now in
    let given = ended_settled s c.end_from.new.self frame.at _ c.in_ok-end_from.ensures.ok c.in_ok-end_from.ensures.basis c.in_ok-end_from.ensures.same c.settle_since.new.self c.settle_since.ensures in
    (given.keeps.lists c.args.list c.requires.1.there).0

pub visit-requires-clause-fits : goal.visit-requires-clause-fits
visit-requires-clause-fits c =
    let frame = c.choice_at-frame.result in
    let at = subst (λ (x : State). ChoiceAt x.frames c.args.level frame.at frame.below) c.self.view_is (rw c.deref.ensures.value at c.choice_at-frame.ensures) in
    let s : State = c.args.self.now in
    let given = ended_settled s c.end_from.new.self frame.at _ c.in_ok-end_from.ensures.ok c.in_ok-end_from.ensures.basis c.in_ok-end_from.ensures.same c.settle_since.new.self c.settle_since.ensures in
    pass-visited s c.settle_since.new.self c.args.level frame.at frame.below at given c.requires.0 c.args.list c.requires.1

pub returns-clause-ok : goal.returns-clause-ok
returns-clause-ok c =
    let frame = c.choice_at-frame.result in
    let at = subst (λ (x : State). ChoiceAt x.frames c.args.level frame.at frame.below) c.self.view_is (rw c.deref.ensures.value at c.choice_at-frame.ensures) in
    let s : State = c.args.self.now in
    let given = ended_settled s c.end_from.new.self frame.at _ c.in_ok-end_from.ensures.ok c.in_ok-end_from.ensures.basis c.in_ok-end_from.ensures.same c.settle_since.new.self c.settle_since.ensures in
    passes s c.settle_since.new.self c.args.level frame.at frame.below at given c.requires.0 c.args.list c.requires.1
    (ended_basis s c.end_from.new.self frame.at _ c.in_ok-end_from.ensures.ok c.in_ok-end_from.ensures.basis c.in_ok-end_from.ensures.same c.settle_since.new.self c.settle_since.ensures) c.visit.new.self c.visit.ensures.is

pub returns-clause-own : goal.returns-clause-own
returns-clause-own c = λ db own. own-visiting db own c.settle_since.new.self c.visit.new.self c.args.list c.visit.ensures.is (c.visit.ensures.own db own)
