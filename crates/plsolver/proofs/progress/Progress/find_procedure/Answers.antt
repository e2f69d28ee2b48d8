use Rattle.std.proofs.Common.{true, refl, sym, ◌∙◌, inl}
use Rattle.plcells.specs.Store.{value}
use Rattle.plclause.specs.Indicators.{indicator}
use Rattle.plstore.specs.declared.query.Query.{Query}
use Rattle.plmachine.specs.declared.machine.Find.TheVariants as finds
use Rattle.plmachine.specs.declared.machine.Mode.TheVariants as modes
use Rattle.plmachine.specs.declared.machine.Outcome.TheVariants as outcomes
use Rattle.plsolver.specs.Solver.{PausesAt}
use Rattle.plsolver.specs.Asking.{activations}
use Rattle.plsolver.proofs.Ending.{ends_refl}
use Rattle.plsolver.proofs.Finding.{named-exists, there-fails}
use Rattle.plsolver.proofs.Further.{onward_ends, onward_refl}
use Rattle.plsolver.proofs.Keeping.{finds_keeps, found_of}
use Rattle.plsolver.proofs.progress.Progress.find_procedure.Goals as goal

pub returns-in_err-is_named-clause-walks : goal.returns-in_err-is_named-clause-walks
returns-in_err-is_named-clause-walks c = onward_ends c.args.self.now.machine c.args.self.now.machine.stack (ends_refl _)

pub returns-then-not-branch-clause-due : goal.returns-then-not-branch-clause-due
unfolding PausesAt
returns-then-not-branch-clause-due c P b =
    (c.args.view.place, Query.Exists (indicator (value c.args.self.now.machine.stack.env.heap c.args.goal)), inl (finds.Exists c.args.goal c.args.view, c.requires.finds, refl, (sym c.in_ok-is_named.ensures ∙ c.if-not-branch.true, refl)))

pub returns-then-not-branch-clause-walks : goal.returns-then-not-branch-clause-walks
returns-then-not-branch-clause-walks c = onward_ends c.args.self.now.machine c.args.self.now.machine.stack (ends_refl _)

pub returns-clause-keeps : goal.returns-clause-keeps
returns-clause-keeps c P b =
    let s = c.args.self.now in
    let f = finds.Exists c.args.goal c.args.view in
    finds_keeps P s (record s { machine = record s.machine { mode = modes.Back outcomes.Fail } }) f c.requires.finds refl refl (found_of P s.machine (record s.machine { mode = modes.Back outcomes.Fail }) f c.requires.finds refl refl refl)
    (λ v ordered. there-fails P v s.machine c.args.goal c.args.view c.requires.finds true (sym (named-exists v s.machine.layer.own.updates c.args.view (indicator (value s.machine.stack.env.heap c.args.goal)) (sym c.in_ok-is_named.ensures ∙ c.if-not-branch.false))) refl)

pub returns-clause-walks : goal.returns-clause-walks
returns-clause-walks c = onward_ends c.args.self.now.machine c.args.self.now.machine.stack (ends_refl _)

pub returns-then-not-branch-clause-asks : goal.returns-then-not-branch-clause-asks
returns-then-not-branch-clause-asks c = onward_refl 0 (activations c.args.self.now.machine)

pub returns-clause-asks : goal.returns-clause-asks
returns-clause-asks c = onward_ends c.args.self.now.machine c.args.self.now.machine.stack (ends_refl _)
