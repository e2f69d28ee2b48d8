use Rattle.plcollect.proofs.Holding.{trim-copies, trim-kept}
use Rattle.plcollect.proofs.collection.trim.Goals as goal

pub returns-clause-are : goal.returns-clause-are
returns-clause-are c = rw c.truncate.ensures.items (trim-copies c.args.nodes.now.items c.args.held.now c.index-held-count.result c.requires c.if-count-eq0.false c.index-held-count.is)

pub returns-clause-same : goal.returns-clause-same
returns-clause-same c = rw c.truncate.ensures.items (trim-kept c.args.nodes.now.items c.args.held.now c.index-held-count.result c.requires c.if-count-eq0.false c.index-held-count.is)
