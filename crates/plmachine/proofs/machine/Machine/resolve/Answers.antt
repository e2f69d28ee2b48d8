use Rattle.std.proofs.Common.{[], refl, subst}
use Rattle.plstack.specs.Places.{called}
use Rattle.plstack.specs.Calls.{Calls, CallsNone}
use Rattle.plstack.specs.StaticCalls.{statics_of, database_of}
use Rattle.plstack.proofs.Program.{code-statics}
use Rattle.plmachine.proofs.Moves.{on_err}
use Rattle.plmachine.proofs.Calling.{calls, calls-none, stays-at}
use Rattle.plmachine.proofs.machine.Machine.resolve.Goals as goal

pub call-requires-clause-statics : goal.call-requires-clause-statics
call-requires-clause-statics c = (database_of c.requires.begun.0 (λ g. []) [], code-statics c.requires.begun.0 (λ g. []) [] c.args.self.now.stack.basis.code c.requires.begun.1)

pub returns-in_err-call-clause-err : goal.returns-in_err-call-clause-err
returns-in_err-call-clause-err c P b = on_err _ (stays-at P c.args.self.now _ c.call.new.self c.requires.visits c.call.ensures.basis c.call.ensures.walks refl c.in_err-call.ensures.err)

pub returns-then-branch-clause-ok : goal.returns-then-branch-clause-ok
returns-then-branch-clause-ok c P b p t is =
    let s = c.args.self.now in
    let i = c.args.place in
    calls P s c.call.new.self p t i c.args.rest is c.call.ensures.basis c.call.ensures.walks _ c.requires.visits refl
    (λ v. subst (λ vs. Calls (database_of P v s.layer.own.updates) s.stack c.call.new.self (called s.stack.env.heap (statics_of P i).name vs) c.args.rest (statics_of P i).clauses) c.deref.ensures.value (c.in_ok-call.ensures.yes c.if-branch.true (database_of P v s.layer.own.updates) (code-statics P v s.layer.own.updates s.stack.basis.code b)))

pub returns-clause-ok : goal.returns-clause-ok
returns-clause-ok c P b p t is =
    let s = c.args.self.now in
    let i = c.args.place in
    calls-none P s c.call.new.self p t i c.args.rest is c.call.ensures.basis c.call.ensures.walks c.give.new.self c.give.ensures
    (λ v. subst (λ vs. CallsNone (database_of P v s.layer.own.updates) s.stack c.call.new.self (called s.stack.env.heap (statics_of P i).name vs) c.args.rest (statics_of P i).clauses) c.deref.ensures.value (c.in_ok-call.ensures.no c.if-branch.false (database_of P v s.layer.own.updates) (code-statics P v s.layer.own.updates s.stack.basis.code b))) (λ g. [])
