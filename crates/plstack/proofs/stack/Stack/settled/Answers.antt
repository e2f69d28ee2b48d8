use Rattle.std.proofs.Common.{refl}
use Rattle.plstack.proofs.Beginning.{alone-there, alone-goals, some-goals}
use Rattle.plstack.proofs.stack.Stack.settled.Goals as goal

pub returns-in-None-clause-there : goal.returns-in-None-clause-there
returns-in-None-clause-there c = rw c.alone.ensures (alone-there c.args.self.now c.step_of.ensures.state c.args.list c.requires)

pub returns-in-None-clause-same : goal.returns-in-None-clause-same
returns-in-None-clause-same c = rw c.alone.ensures (alone-goals c.args.self.now c.step_of.ensures.state c.args.list c.requires c.in-None.ensures.none)

pub returns-in-Some-clause-short : goal.returns-in-Some-clause-short
returns-in-Some-clause-short c = λ none. absurd (some-goals c.args.self.now.basis.code.text c.args.list.run.position c.args.list.run.owed _ c.in-Some.ensures.some none)

pub returns-in-None-clause-short : goal.returns-in-None-clause-short
returns-in-None-clause-short c = rw c.alone.ensures (λ none. (refl, refl))
