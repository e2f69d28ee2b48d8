use Rattle.plmachine.proofs.machine.Machine.declare.Goals as goal

pub returns-clause-err : goal.returns-clause-err
returns-clause-err c = c.publish.ensures.err c.args.program.now
