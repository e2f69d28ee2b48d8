use Rattle.std.proofs.Common.{arith, true, refl, sym, ap, ◌∙◌, inl, subst}
use Rattle.plcells.specs.Store.{value}
use Rattle.plclause.specs.Indicators.{indicator}
use Rattle.plstore.specs.declared.query.Query.{Query}
use Rattle.pltx.specs.declared.own.OwnCursor.TheVariants.{Start}
use Rattle.plstack.specs.State.{walks_in}
use Rattle.plmachine.specs.declared.machine.Find.TheVariants as finds
use Rattle.plmachine.specs.declared.machine.Mode.TheVariants as modes
use Rattle.plstack.proofs.Growing.{if_ok}
use Rattle.plsolver.specs.declared.progress.Progress.{Progress}
use Rattle.plsolver.specs.Asking.{activations, in_cases, SeeksOn}
use Rattle.plsolver.specs.Solver.{Keeps, PausesAt}
use Rattle.plsolver.proofs.Asked.{all-on}
use Rattle.plsolver.proofs.Ending.{ends_refl}
use Rattle.plsolver.proofs.Finding.{named-exists}
use Rattle.plsolver.proofs.Further.{onward_ends, onward_refl, onward_seeks, onward_trans}
use Rattle.plsolver.proofs.Keeping.{finds_keeps, keeps_trans}
use Rattle.plsolver.proofs.Sweeping.{all-of, all-swept}
use Rattle.plsolver.proofs.progress.Progress.find_all.Goals as goal

pub returns-in_err-is_named-clause-walks : goal.returns-in_err-is_named-clause-walks
returns-in_err-is_named-clause-walks c = onward_ends c.args.self.now.machine c.args.self.now.machine.stack (ends_refl _)

pub returns-then-not-branch-clause-due : goal.returns-then-not-branch-clause-due
unfolding PausesAt
returns-then-not-branch-clause-due c P b =
    (c.args.view.place, Query.Exists (indicator (value c.args.self.now.machine.stack.env.heap c.args.head)), inl (finds.All c.args.head c.args.view, c.requires.finds, refl, (sym c.in_ok-is_named.ensures ∙ c.if-not-branch.true, refl)))

pub returns-then-not-branch-clause-walks : goal.returns-then-not-branch-clause-walks
returns-then-not-branch-clause-walks c = onward_ends c.args.self.now.machine c.args.self.now.machine.stack (ends_refl _)

pub sweep-requires-clause-sweeps : goal.sweep-requires-clause-sweeps
sweep-requires-clause-sweeps c = let b = c.begin_sweep.ensures in (c.args.head, b.0, ap (λ x. x.machine.mode) b.1)

pub returns-clause-keeps : goal.returns-clause-keeps
returns-clause-keeps c P of =
    let s = c.args.self.now in
    let b = c.begin_sweep.ensures in
    let mid = record s { machine = record s.machine { mode = modes.Find (finds.Sweep c.args.head b.0) } } in
    let named = sym c.in_ok-is_named.ensures ∙ c.if-not-branch.false in
    let begun : Keeps P s c.begin_sweep.new.self = subst (Keeps P s) (sym b.1)
    (finds_keeps P s mid (finds.All c.args.head c.args.view) c.requires.finds refl refl (all-of P s.machine c.args.head c.args.view b.0 c.requires.finds b.2)
    (λ v ordered. all-swept P v ordered s.machine c.args.head c.args.view c.requires.finds true (sym (named-exists v s.machine.layer.own.updates c.args.view (indicator (value s.machine.stack.env.heap c.args.head)) named)) b.0 b.2 b.3 b.4 refl)) in
    keeps_trans P s c.begin_sweep.new.self c.sweep.new.self begun (c.sweep.ensures.keeps P (begun.of of))

pub returns-then-not-branch-clause-asks : goal.returns-then-not-branch-clause-asks
returns-then-not-branch-clause-asks c = onward_refl 0 (activations c.args.self.now.machine)

pub returns-clause-walks : goal.returns-clause-walks
returns-clause-walks c =
    let s = c.args.self.now.machine in
    let t = c.begin_sweep.new.self.machine in
    let b = c.begin_sweep.ensures in
    onward_trans 0 0 0 (activations s) (activations t) (in_cases c.sweep.new.self.machine.stack) omega arith
    (onward_seeks s t (ap (λ (n : Progress). walks_in n.machine.stack) b.1) (subst (λ (n : Progress). SeeksOn s n.machine) (sym b.1) (all-on c.args.head c.args.view s b.0 Start c.requires.finds b.2 b.3))) c.sweep.ensures.walks

pub returns-clause-asks : goal.returns-clause-asks
returns-clause-asks c =
    let s = c.args.self.now.machine in
    let t = c.begin_sweep.new.self.machine in
    let b = c.begin_sweep.ensures in
    if_ok _ _ c.sweep.result
    (λ o. onward_trans 0 0 0 (activations s) (activations t) (activations c.sweep.new.self.machine) omega arith
    (onward_seeks s t (ap (λ (n : Progress). walks_in n.machine.stack) b.1) (subst (λ (n : Progress). SeeksOn s n.machine) (sym b.1) (all-on c.args.head c.args.view s b.0 Start c.requires.finds b.2 b.3))))
    c.sweep.ensures.asks
