use Rattle.std.proofs.Common.{rules}
use Rattle.plmachine.proofs.machine.Machine.retract_all.Goals as goal

pub returns-in-Some-clause-ok : goal.returns-in-Some-clause-ok
returns-in-Some-clause-ok c = let ok = c.raise_of.ensures.ok c.args.program.now c.requires.begun in search rules

pub returns-clause-ok : goal.returns-clause-ok
returns-clause-ok c = let ok = c.seek.ensures.ok c.args.program.now in search rules

pub returns-clause-err : goal.returns-clause-err
returns-clause-err c = c.seek.ensures.err c.args.program.now
