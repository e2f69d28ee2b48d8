use Rattle.std.proofs.Common.{[], refl}
use Rattle.plstack.specs.StaticCalls.{database_of}
use Rattle.plmachine.proofs.Moves.{on_err}
use Rattle.plmachine.proofs.Calling.{chooses, chooses-none, stays-at}
use Rattle.plmachine.proofs.machine.Machine.several.Goals as goal

pub returns-in_err-call_answers-clause-err : goal.returns-in_err-call_answers-clause-err
returns-in_err-call_answers-clause-err c P = on_err _ (stays-at P c.args.self.now _ c.call_answers.new.self c.requires.visits c.call_answers.ensures.basis c.call_answers.ensures.walks refl c.in_err-call_answers.ensures.err)

pub returns-then-branch-clause-ok : goal.returns-then-branch-clause-ok
returns-then-branch-clause-ok c P =
    let s = c.args.self.now in
    let a = c.in_ok-call_answers.ensures.yes c.if-branch.true in
    chooses P s _ c.call_answers.new.self _ c.requires.visits c.call_answers.ensures.basis c.call_answers.ensures.walks refl (λ v. let x = a (database_of P v s.layer.own.updates) in (x.others, x.places, x.cases))

pub returns-clause-ok : goal.returns-clause-ok
returns-clause-ok c P =
    let s = c.args.self.now in
    let a = c.in_ok-call_answers.ensures.no c.if-branch.false in
    chooses-none P s c.give.new.self c.call_answers.new.self _ c.call_answers.ensures.basis c.call_answers.ensures.walks c.give.ensures (a (database_of P (λ g. []) [])).none (λ v. (a (database_of P v s.layer.own.updates)).cases)
