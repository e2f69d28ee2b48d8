use Rattle.plterm.proofs.Spellings.{whole_copy}
use Rattle.pltests.proofs.terms.by_nodes.Goals as goal

pub from_prefix-requires : goal.from_prefix-requires
from_prefix-requires c = (whole_copy _ _ _ _ c.new-nodes.ensures.items c.alone-terms.ensures c.in_ok-copy_nodes.ensures.nodes c.in_ok-copy_nodes.ensures.fits).term
