use Rattle.std.proofs.Common.{ap, subst, sym}
use Rattle.plstack.specs.First.{IsFirst}
use Rattle.plstack.proofs.Beginning.{both-fits}
use Rattle.plsolver.proofs.Conjunctions.{both-marker, both-nothing, both-of, both-step, both-steps}
use Rattle.plsolver.proofs.progress.Progress.pass_both.Goals as goal

pub visit-requires-clause-list : goal.visit-requires-clause-list
visit-requires-clause-list c = c.requires.first.1.there

pub visit-requires-clause-fits : goal.visit-requires-clause-fits
visit-requires-clause-fits c = both-fits c.args.self.now.machine.stack _ c.args.next c.args.step c.requires.first.1

pub first_of_step-first-requires : goal.first_of_step-first-requires
first_of_step-first-requires c = both-step c.args.self.now c.args.next c.args.step c.requires.first.0 c.requires.first.1 c.visit.new.self c.visit.ensures.is

pub selected_of-requires-clause-some : goal.selected_of-requires-clause-some
selected_of-requires-clause-some c = λ e.
    both-nothing c.args.self.now c.args.next c.args.step c.requires.first.0 c.requires.first.1 c.visit.new.self c.visit.ensures.is (subst (IsFirst c.visit.new.self) e c.first_of_step-first.ensures)

pub selected_of-requires-clause-goal : goal.selected_of-requires-clause-goal
selected_of-requires-clause-goal c = λ kind level rest e.
    both-marker c.args.self.now c.args.next c.args.step c.requires.first.0 c.requires.first.1 c.visit.new.self c.visit.ensures.is kind level rest (subst (IsFirst c.visit.new.self) e c.first_of_step-first.ensures)

pub returns-clause-first : goal.returns-clause-first
returns-clause-first c = (c.requires.first.0, subst (IsFirst c.visit.new.self) (sym c.selected_of.ensures) c.first_of_step-first.ensures)

pub returns-clause-of : goal.returns-clause-of
returns-clause-of c = both-of c.args.self.now c.args.next c.args.step c.requires.first.0 c.requires.first.1 c.visit.new.self c.visit.ensures.is

pub returns-clause-latest : goal.returns-clause-latest
returns-clause-latest c = ap (λ z. z.basis.latest.place) c.visit.ensures.is

pub returns-clause-steps : goal.returns-clause-steps
returns-clause-steps c = both-steps c.args.self.now c.args.next c.args.step c.requires.first.0 c.requires.first.1 c.visit.new.self c.visit.ensures.is c.requires.within
