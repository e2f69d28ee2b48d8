use Rattle.std.proofs.Common.{rules}
use Rattle.plmachine.proofs.machine.Machine.retrieve.Goals as goal

pub returns-in-Some-clause-ok : goal.returns-in-Some-clause-ok
returns-in-Some-clause-ok c = let ok = c.raise_of.ensures.ok c.args.program.now c.requires.begun in search rules
