use Rattle.std.proofs.Common.{rules, arith}
use Rattle.plpack.proofs.Nodes.{no_tag, other_tag}
use Rattle.plpack.proofs.item.item_at.Goals as goal

pub returns-in-empty : goal.returns-in-empty
returns-in-empty c = no_tag c.args.bytes.now c.in-empty.len_below

pub returns-in-len1-up : goal.returns-in-len1-up
returns-in-len1-up c = other_tag c.args.bytes.now (omega arith, omega arith, omega arith, search rules)
