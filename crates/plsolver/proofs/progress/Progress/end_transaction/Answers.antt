use Rattle.std.proofs.Common.{sym, subst, ◌∙◌, ap, refl}
use Rattle.plsearch.specs.Rows.{published}
use Rattle.plevent.specs.declared.request.Request.TheVariants.{Publish}
use Rattle.plmachine.specs.declared.machine.Mode.TheVariants as modes
use Rattle.plmachine.specs.declared.machine.Question.TheVariants as questions
use Rattle.plmachine.specs.declared.machine.Then.TheVariants as thens
use Rattle.plsolver.specs.Solver.{QuietIn}
use Rattle.plsolver.proofs.Transacting.{quiet-merged, quiet-published}
use Rattle.plsolver.proofs.progress.Progress.end_transaction.Goals as goal

pub returns-in-Some-clause-ok : goal.returns-in-Some-clause-ok
returns-in-Some-clause-ok c = λ P v ordered.
    let s = c.args.self.now in
    let st = c.pass_transact.new.self in
    let r = c.requires in
    let passed = c.in_ok-pass_transact.ensures in
    subst (λ x. QuietIn P v s (record s { machine = record s.machine { stack = st; layer = x; mode = modes.Ask (questions.Await (Publish c.in-Some.updates) thens.GoesOn) } })) (sym c.end-ended.ensures.ended)
    (quiet-published P v s st _ c.args.outer r.marker.0 c.args.rest r.visits r.marker.1 r.tied passed.ok passed.own c.in-Some.updates (sym c.end-ended.ensures.answer ∙ c.in-Some.ensures.some) refl)

pub returns-in_default-clause-ok : goal.returns-in_default-clause-ok
returns-in_default-clause-ok c = λ P v ordered.
    let s = c.args.self.now in
    let st = c.pass_transact.new.self in
    let r = c.requires in
    let passed = c.in_ok-pass_transact.ensures in
    subst (λ x. QuietIn P v s (record s { machine = record s.machine { stack = st; layer = x } })) (sym c.end-ended.ensures.ended)
    (quiet-merged P v s st s.machine.mode c.args.outer r.marker.0 c.args.rest r.visits r.marker.1 r.tied passed.ok passed.own r.visits (ap published (sym c.end-ended.ensures.answer) ∙ c.in_default.ensures.none))
