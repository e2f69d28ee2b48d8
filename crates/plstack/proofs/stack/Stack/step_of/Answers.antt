use Rattle.std.proofs.Common.{ap}
use Rattle.plcode.specs.Steps.{ends}
use Rattle.plstack.proofs.Stacks.{inside}
use Rattle.plstack.proofs.Beginning.{at-end, not-ends}
use Rattle.plstack.proofs.stack.Stack.step_of.Goals as goal

pub returns-in-Proceed-clause-none : goal.returns-in-Proceed-clause-none
returns-in-Proceed-clause-none c =
    rw (← c.self.view_is) (at-end (inside c.self.inside).basis.code.text c.args.run.position c.args.run.owed c.step-step.result (rw c.code.ensures at c.step-step.ensures.is) (ap ends c.in-Proceed.is))

pub returns-clause-some : goal.returns-clause-some
returns-clause-some c =
    rw (← c.self.view_is) (record { is = (rw c.code.ensures at c.step-step.ensures.is); runs = (rw c.code.ensures at c.step-step.ensures.meets).runs (not-ends c.step-step.result.op c.in_default.not-Proceed) })
