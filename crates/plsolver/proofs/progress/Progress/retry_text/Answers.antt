use Rattle.std.proofs.Common.{[], ◌∷◌, ap, sym, subst, ◌∙◌}
use Rattle.plclause.specs.Indicators.{indicator}
use Rattle.plprogram.specs.Program.{clauses_for}
use Rattle.plsearch.specs.Types.{Choice}
use Rattle.plmachine.specs.declared.machine.Mode.{Mode}
use Rattle.plmachine.specs.Clauses.{mode_by}
use Rattle.plmachine.proofs.Moves.{on_err}
use Rattle.plsolver.specs.declared.progress.Progress.{Progress}
use Rattle.plsolver.specs.Solver.{QuietIn, Stays}
use Rattle.plsolver.proofs.Quiets.{db_in, quiet-close, quiet-retry-by}
use Rattle.plsolver.proofs.Trying.{closes-choice, stays-fails}
use Rattle.plsolver.proofs.Ending.{ends_same, ends_trans}
use Rattle.plsolver.proofs.progress.Progress.retry_text.Goals as goal

pub returns-in_err-entered-clause-err : goal.returns-in_err-entered-clause-err
returns-in_err-entered-clause-err c =
    let P = c.args.program.now in
    let s = c.args.self.now in
    let named = rw (c.heap-heap.ensures.is, c.env.ensures) at c.in_ok-p.ensures in
    let head = c.head_at-head.ensures.is in
    let whole = c.clauses_of-clauses.ensures ∙ ap (clauses_for P) (named ∙ ap indicator head) in
    on_err c.from_residual-in_err-entered.result (subst (Stays P s) (sym c.first_of_text.ensures.frame)
    (stays-fails P s c.first_of_text.new.self.machine.stack c.requires.fails c.first_of_text.ensures.basis c.first_of_text.ensures.walks (λ v. c.in_err-entered.ensures.err P v s.machine.layer.own.updates whole)))

pub returns-in_default-clause-ok : goal.returns-in_default-clause-ok
returns-in_default-clause-ok c = λ v ordered.
    let P = c.args.program.now in
    let s = c.args.self.now in
    let st = c.first_of_text.new.self.machine.stack in
    let named = rw (c.heap-heap.ensures.is, c.env.ensures) at c.in_ok-p.ensures in
    let head = c.head_at-head.ensures.is in
    let whole = c.clauses_of-clauses.ensures ∙ ap (clauses_for P) (named ∙ ap indicator head) in
    let none = (rw c.in_default.is at c.in_ok-entered.ensures.none) P v s.machine.layer.own.updates whole in
    let closed = closes-choice st c.close.new.self c.close.result (db_in P v s.machine) none.0 none.2 c.close.ensures.some c.close.ensures.none c.close.ensures.basis in
    subst (λ (x : Progress). QuietIn P v s (record x { machine = record x.machine { stack = c.close.new.self } })) (sym c.first_of_text.ensures.frame)
    (quiet-close P v s c.close.new.self c.requires.fails (closed.1 ∙ c.first_of_text.ensures.basis) (none.1 ∙ ap (λ cs. Choice [] ∷ cs) (sym closed.0)))

pub returns-clause-ok : goal.returns-clause-ok
returns-clause-ok c = λ v ordered.
    let P = c.args.program.now in
    let s = c.args.self.now in
    let e = c.in-Some.entered in
    let named = rw (c.heap-heap.ensures.is, c.env.ensures) at c.in_ok-p.ensures in
    let head = c.head_at-head.ensures.is in
    let whole = c.clauses_of-clauses.ensures ∙ ap (clauses_for P) (named ∙ ap indicator head) in
    let retries = (rw c.in-Some.is at c.in_ok-entered.ensures.some) P v s.machine.layer.own.updates whole in
    subst (λ (m : Mode). QuietIn P v s (record c.first_of_text.new.self { machine = record c.first_of_text.new.self.machine { mode = m } })) (sym c.mode_of.ensures)
    (subst (λ (x : Progress). QuietIn P v s (record x { machine = record x.machine { mode = mode_by e.erased } })) (sym c.first_of_text.ensures.frame)
    (quiet-retry-by P v s c.first_of_text.new.self.machine.stack e.erased c.requires.fails c.first_of_text.ensures.basis retries))

pub returns-in_err-entered-clause-walks : goal.returns-in_err-entered-clause-walks
returns-in_err-entered-clause-walks c = ends_same _ _ c.first_of_text.ensures.walks

pub returns-in_default-clause-walks : goal.returns-in_default-clause-walks
returns-in_default-clause-walks c = ends_trans _ _ _ (ends_same _ _ c.first_of_text.ensures.walks) c.close.ensures.walks

pub returns-clause-walks : goal.returns-clause-walks
returns-clause-walks c = ends_same _ _ c.first_of_text.ensures.walks
