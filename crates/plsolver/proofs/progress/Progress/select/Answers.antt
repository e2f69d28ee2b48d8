use Rattle.std.proofs.Common.{ap, subst}
use Rattle.plcells.specs.Store.{value}
use Rattle.plstack.specs.State.{goals_of, kinds_in}
use Rattle.plstack.specs.Levels.{FitsIn}
use Rattle.plmachine.specs.Machine.{IsLast}
use Rattle.plmachine.specs.Selected.{bound_at}
use Rattle.plmachine.proofs.Moves.{on_ok_map}
use Rattle.plsolver.specs.Solver.{IsSelected}
use Rattle.plsolver.proofs.Runs.{either_latest, either_of, either_walks, selects-row, visits-tied}
use Rattle.plstack.proofs.Beginning.{both-fits}
use Rattle.plsolver.proofs.Conjunctions.{both-of, both-selects}
use Rattle.plsolver.proofs.Ending.{ends_refl}
use Rattle.plsolver.proofs.progress.Progress.select.Goals as goal

-- ---- a conjunction

pub visit-requires-clause-fits : goal.visit-requires-clause-fits
visit-requires-clause-fits c =
    let both = subst (IsSelected c.args.self.now.machine) c.in-Both.is c.requires.goal in
    both-fits c.args.self.now.machine.stack _ c.in-Both.next _ both.1

pub returns-in-Both-clause-ok : goal.returns-in-Both-clause-ok
returns-in-Both-clause-ok c =
    let both = subst (IsSelected c.args.self.now.machine) c.in-Both.is c.requires.goal in
    both-selects c.args.self.now c.in-Both.next _ both.0 both.1 c.visit.new.self c.visit.ensures.is c.args.program.now

pub returns-in-Both-clause-of : goal.returns-in-Both-clause-of
returns-in-Both-clause-of c =
    let both = subst (IsSelected c.args.self.now.machine) c.in-Both.is c.requires.goal in
    both-of c.args.self.now c.in-Both.next _ both.0 both.1 c.visit.new.self c.visit.ensures.is c.args.program.now c.requires.of

pub returns-in-Both-clause-latest : goal.returns-in-Both-clause-latest
returns-in-Both-clause-latest c = ap (λ st. st.basis.latest.place) c.visit.ensures.is

pub returns-in-Both-clause-walks : goal.returns-in-Both-clause-walks
returns-in-Both-clause-walks c = rw c.visit.ensures.is (ends_refl _)

-- ---- a term

pub term-requires-clause-visits : goal.term-requires-clause-visits
term-requires-clause-visits c = c.requires.goal.0

pub term-requires-clause-goal : goal.term-requires-clause-goal
term-requires-clause-goal c = (subst (IsSelected c.args.self.now.machine) c.in-Goal.is c.requires.goal).1.fits

pub term-requires-clause-rest : goal.term-requires-clause-rest
term-requires-clause-rest c = (subst (IsSelected c.args.self.now.machine) c.in-Goal.is c.requires.goal).1.there

pub term-requires-clause-level : goal.term-requires-clause-level
term-requires-clause-level c =
    let s = c.args.self.now.machine in
    let first = (subst (IsSelected s) c.in-Goal.is c.requires.goal).1 in
    subst (FitsIn (kinds_in s.stack)) first.goals first.levels

pub term-requires-clause-tied : goal.term-requires-clause-tied
term-requires-clause-tied c = visits-tied c.args.program.now c.args.self.now.machine c.requires.goal.0 c.requires.of

pub returns-in-Goal-clause-ok : goal.returns-in-Goal-clause-ok
returns-in-Goal-clause-ok c =
    let s = c.args.self.now in
    let first = subst (IsSelected s.machine) c.in-Goal.is c.requires.goal in
    on_ok_map c.term.result
    (selects-row c.args.program.now s.machine c.term.new.self c.in-Goal.level (value s.machine.stack.env.heap c.in-Goal.goal) (goals_of s.machine.stack c.in-Goal.rest) first.1.goals) c.term.ensures.ok

pub returns-in-Goal-clause-of : goal.returns-in-Goal-clause-of
returns-in-Goal-clause-of c = either_of c.args.program.now c.args.self.now.machine c.term.new.self _ c.term.result c.requires.of (λ last. subst IsLast c.requires.goal.0 last) c.term.ensures.ok c.term.ensures.err

pub returns-in-Goal-clause-latest : goal.returns-in-Goal-clause-latest
returns-in-Goal-clause-latest c = either_latest c.args.program.now c.args.self.now.machine c.term.new.self _ c.term.result c.term.ensures.ok c.term.ensures.err

pub returns-in-Goal-clause-walks : goal.returns-in-Goal-clause-walks
returns-in-Goal-clause-walks c = either_walks c.args.program.now c.args.self.now.machine c.term.new.self _ c.term.result c.term.ensures.ok c.term.ensures.err

-- ---- a step of a body

pub step-requires-clause-visits : goal.step-requires-clause-visits
step-requires-clause-visits c = c.requires.goal.0

pub step-requires-clause-at : goal.step-requires-clause-at
step-requires-clause-at c = (_, (subst (IsSelected c.args.self.now.machine) c.in-Step.is c.requires.goal).1)

pub step-requires-clause-tied : goal.step-requires-clause-tied
step-requires-clause-tied c = visits-tied c.args.program.now c.args.self.now.machine c.requires.goal.0 c.requires.of

pub returns-in-Step-clause-ok : goal.returns-in-Step-clause-ok
returns-in-Step-clause-ok c =
    let s = c.args.self.now in
    let first = subst (IsSelected s.machine) c.in-Step.is c.requires.goal in
    on_ok_map c.step.result
    (selects-row c.args.program.now s.machine c.step.new.self c.in-Step.run'.level (bound_at s.machine.stack c.in-Step.run' first.1.goal) (goals_of s.machine.stack c.in-Step.rest) first.1.goals) (c.step.ensures.ok _ first.1)

pub returns-in-Step-clause-of : goal.returns-in-Step-clause-of
returns-in-Step-clause-of c =
    let s = c.args.self.now in
    let first = subst (IsSelected s.machine) c.in-Step.is c.requires.goal in
    either_of c.args.program.now s.machine c.step.new.self _ c.step.result c.requires.of (λ last. subst IsLast c.requires.goal.0 last) (c.step.ensures.ok _ first.1) c.step.ensures.err

pub returns-in-Step-clause-latest : goal.returns-in-Step-clause-latest
returns-in-Step-clause-latest c =
    let s = c.args.self.now in
    let first = subst (IsSelected s.machine) c.in-Step.is c.requires.goal in
    either_latest c.args.program.now s.machine c.step.new.self _ c.step.result (c.step.ensures.ok _ first.1) c.step.ensures.err

pub returns-in-Step-clause-walks : goal.returns-in-Step-clause-walks
returns-in-Step-clause-walks c =
    let s = c.args.self.now in
    let first = subst (IsSelected s.machine) c.in-Step.is c.requires.goal in
    either_walks c.args.program.now s.machine c.step.new.self _ c.step.result (c.step.ensures.ok _ first.1) c.step.ensures.err
