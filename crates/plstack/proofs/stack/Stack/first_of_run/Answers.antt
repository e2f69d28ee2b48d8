use Rattle.plstack.proofs.Beginning.{both, after-there, at-step}
use Rattle.plstack.proofs.stack.Stack.first_of_run.Goals as goal

pub returns-then-run-step : goal.returns-then-run-step
returns-then-run-step c = both c.args.self.now c.args.list c.requires.list c.args.step c.requires.step c.if-run-step.true c.requires.fits

pub settled-requires : goal.settled-requires
settled-requires c = after-there c.args.self.now c.args.list c.requires.list c.args.step c.requires.step c.if-run-step.false

pub returns : goal.returns
returns c = at-step c.args.self.now c.args.list c.requires.list c.args.step c.requires.step c.if-run-step.false c.requires.fits c.settled.result c.settled.ensures.there c.settled.ensures.same c.settled.ensures.short
