use Rattle.std.proofs.Common.{subst}
use Rattle.plmachine.specs.Calculating.{NeedsNoCell}
use Rattle.plmachine.proofs.machine.Machine.calculate.Goals as goal

pub returns-in-Is-clause-heap : goal.returns-in-Is-clause-heap
returns-in-Is-clause-heap c = λ t k needs.
    let each = subst (λ b. NeedsNoCell c.args.self.now.stack c.args.call.run b k.left k.right) c.in-Is.is needs in
    c.evaluate.ensures.heap t k each.0 each.1

pub returns-in-Compare-clause-heap : goal.returns-in-Compare-clause-heap
returns-in-Compare-clause-heap c = λ t k needs.
    let each = subst (λ b. NeedsNoCell c.args.self.now.stack c.args.call.run b k.left k.right) c.in-Compare.is needs in
    c.compare.ensures.heap t k each.0 each.1
