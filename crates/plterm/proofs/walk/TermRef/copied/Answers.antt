use Rattle.std.proofs.Common.{◌∙◌}
use Rattle.plterm.proofs.Spellings.{IsWhole, whole_copy}
use Rattle.plterm.proofs.walk.TermRef.copied.Goals as goal
use Rattle.plterm.proofs.walk.TermRef.copied.Goals.{In_ok-copy_nodes}

whole : (c : In_ok-copy_nodes) → IsWhole c.copy_nodes.new.made.items c.args.self.now
whole c = whole_copy _ _ _ _ c.new-nodes.ensures.items c.alone-terms.ensures c.in_ok-copy_nodes.ensures.nodes c.in_ok-copy_nodes.ensures.fits

pub from_prefix-requires : goal.from_prefix-requires
from_prefix-requires c = (whole (goal.at.from_prefix-requires c).In_ok-copy_nodes).term

pub returns : goal.returns
returns c = c.from_prefix.ensures ∙ (whole (goal.at.returns c).In_ok-copy_nodes).tree
