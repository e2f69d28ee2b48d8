use Rattle.std.proofs.Common.{rules, sym, subst, refl}
use Rattle.plsearch.specs.Lookups.{missing}
use Rattle.plstack.specs.State.{goals_of}
use Rattle.plmachine.specs.declared.machine.Outcome.TheVariants as outcomes
use Rattle.plmachine.specs.declared.machine.Mode.TheVariants as modes
use Rattle.plmachine.specs.Machine.{local_of, Moved}
use Rattle.plmachine.proofs.Moves.{gave, on_ok_map}
use Rattle.plsolver.proofs.Keeping.{found_of}
use Rattle.plsolver.proofs.Runs.{either_of}
use Rattle.plsolver.proofs.Seeking.{finds-last}
use Rattle.plsolver.proofs.progress.Progress.missing.Goals as goal

pub returns-in-Fail-clause-ok : goal.returns-in-Fail-clause-ok
returns-in-Fail-clause-ok c = λ P b t of.
    let s = c.args.self.now.machine in
    subst (λ u. Moved P s (record s { mode = modes.Back outcomes.Fail }) (missing u t (goals_of s.stack s.stack.goals) (local_of s))) (sym c.in-Fail.is)
    (gave P s (record s { mode = modes.Back outcomes.Fail }) outcomes.Fail tt refl)

pub returns-in-Fail-clause-of : goal.returns-in-Fail-clause-of
returns-in-Fail-clause-of c P b =
    let s = c.args.self.now.machine in
    found_of P s (record s { mode = modes.Back outcomes.Fail }) c.requires.seeks.0 c.requires.seeks.1 refl refl refl b

pub returns-in_ok-error-in-Error-clause-of : goal.returns-in_ok-error-in-Error-clause-of
returns-in_ok-error-in-Error-clause-of c P b =
    let s = c.args.self.now.machine in
    either_of P s c.raise.new.self _ c.raise.result b (finds-last s.mode c.requires.seeks.0 c.requires.seeks.1) (on_ok_map c.raise.result (λ m. m.moved) (c.raise.ensures.ok P)) (c.raise.ensures.err P)

pub returns-in_ok-error-in-Error-clause-ok : goal.returns-in_ok-error-in-Error-clause-ok
returns-in_ok-error-in-Error-clause-ok c P b = let ok = c.raise.ensures.ok P in search rules

pub returns-in_ok-error-in-Error-clause-latest : goal.returns-in_ok-error-in-Error-clause-latest
returns-in_ok-error-in-Error-clause-latest c =
    let ok = c.raise.ensures.ok c.requires.of.0 in
    let err = c.raise.ensures.err c.requires.of.0 in
    search rules

pub returns-in_ok-error-in-Error-clause-err : goal.returns-in_ok-error-in-Error-clause-err
returns-in_ok-error-in-Error-clause-err c P b = let err = c.raise.ensures.err P in search rules
