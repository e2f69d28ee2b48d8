use Rattle.std.proofs.Common.{◌∙◌}
use Rattle.plsubst.specs.Subst.{bind}
use Rattle.plcollect.proofs.list.put_pair.Goals as goal

pub returns-clause-ok : goal.returns-clause-ok
unfolding bind
returns-clause-ok c = rw (c.nodes.ensures.tree ∙ c.requires.pair) at c.put_nodes.ensures.ok
