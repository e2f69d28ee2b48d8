use Rattle.std.proofs.Common.{refl}
use Rattle.plcells.specs.Store.{value}
use Rattle.plmachine.proofs.machine.Machine.term.Goals as goal

pub returns-clause-ok : goal.returns-clause-ok
returns-clause-ok c = c.solve.ensures.ok (value c.args.self.now.stack.env.heap c.args.goal) (c.requires.goal, refl)
