use Rattle.plmachine.proofs.machine.Machine.run.Goals as goal

pub returns-in-Raises-clause-ok : goal.returns-in-Raises-clause-ok
returns-in-Raises-clause-ok c P = rw c.in-Raises.is (c.raise_in.ensures.ok P)

pub returns-in-Runs-clause-ok : goal.returns-in-Runs-clause-ok
returns-in-Runs-clause-ok c P = rw c.in-Runs.is (c.enter_goal.ensures.ok P)
