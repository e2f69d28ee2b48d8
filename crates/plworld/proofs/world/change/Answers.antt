use Rattle.plworld.proofs.world.change.Goals as goal

pub returns-in-Batch-clause-standing : goal.returns-in-Batch-clause-standing
returns-in-Batch-clause-standing c = rw c.in-Batch.is (c.publish.ensures c.args.worker c.args.thread c.in-Batch.batch)

pub returns-in-End-clause-standing : goal.returns-in-End-clause-standing
returns-in-End-clause-standing c = rw (c.in-End.is, ← c.in_ok-end-in-End.ensures) (c.end.ensures c.args.worker)

pub returns-in-Halt-clause-standing : goal.returns-in-Halt-clause-standing
returns-in-Halt-clause-standing c = rw c.in-Halt.is (c.halt.ensures c.args.worker c.args.thread)

pub returns-in-Left-clause-standing : goal.returns-in-Left-clause-standing
returns-in-Left-clause-standing c = rw c.in-Left.is (c.leave.ensures c.args.worker)
