use Rattle.std.proofs.Common.{subst}
use Rattle.plstack.specs.State.{State, goals_of, kinds_in}
use Rattle.plstack.specs.Cutting.{ChoiceAt}
use Rattle.plstack.proofs.Naming.{fits-most}
use Rattle.plstack.proofs.Emptying.{cut-none, cut-visited, cuts_emptied}
use Rattle.plstack.proofs.stack.Stack.cut.Goals as goal

pub give_up-requires-clause-none : goal.give_up-requires-clause-none
give_up-requires-clause-none c =
    let frame = c.choice_at-frame.result in
    let at = subst (λ (x : State). ChoiceAt x.frames c.args.level frame.at frame.below) c.self.view_is (rw c.deref.ensures.value at c.choice_at-frame.ensures) in
    cut-none c.args.self.now c.args.level frame.at frame.below at (goals_of c.args.self.now c.args.list) c.requires.level

pub visit-requires-clause-fits : goal.visit-requires-clause-fits
visit-requires-clause-fits c =
    let frame = c.choice_at-frame.result in
    let at = subst (λ (x : State). ChoiceAt x.frames c.args.level frame.at frame.below) c.self.view_is (rw c.deref.ensures.value at c.choice_at-frame.ensures) in
    cut-visited c.args.self.now c.give_up.new.self c.args.level frame.at frame.below at c.in_ok-give_up.ensures.ok c.args.list c.requires.list c.requires.level

pub returns-clause-ok : goal.returns-clause-ok
returns-clause-ok c =
    let s = c.args.self.now in
    let frame = c.choice_at-frame.result in
    let at = subst (λ (x : State). ChoiceAt x.frames c.args.level frame.at frame.below) c.self.view_is (rw c.deref.ensures.value at c.choice_at-frame.ensures) in
    cuts_emptied s c.give_up.new.self c.args.level frame.at frame.below at c.in_ok-give_up.ensures.ok c.visit.new.self c.args.list (fits-most (kinds_in s) c.args.level (goals_of s c.args.list) c.requires.level.0.2) c.in_ok-give_up.ensures.basis c.visit.ensures.is
