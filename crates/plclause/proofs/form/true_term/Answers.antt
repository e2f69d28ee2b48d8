use Rattle.std.proofs.Common.{◌∷◌, [], codes, refl, arith}
use Rattle.plterm.specs.declared.node.Node.TheVariants.{Atom}
use Rattle.plterm.specs.Reading.{IsTerm}
use Rattle.plclause.proofs.Names.{IsName-true}
use Rattle.plclause.proofs.form.true_term.Goals as goal

true_term : IsTerm (Atom (codes "true") ∷ [])
true_term = record { forest = (IsName-true, omega arith, tt); one = refl }

pub from_prefix-requires : goal.from_prefix-requires
from_prefix-requires c = rw (c.in_ok-nodes.ensures.items, c.in_ok-name.ensures) true_term
