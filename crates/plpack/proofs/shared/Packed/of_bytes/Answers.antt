use Rattle.std.proofs.Common.{◌∙◌, ap, subst, sym}
use Rattle.plpack.specs.Shared.{term_of, IsHeld}
use Rattle.plpack.proofs.Holding.{held, held-is}
use Rattle.plpack.proofs.shared.Packed.of_bytes.Goals as goal

pub invariant_of-result : goal.invariant_of-result
invariant_of-result c = subst IsHeld (sym c.in_ok-bytes.ensures) (held c.args.bytes.items c.requires.0 c.requires.1)

pub returns : goal.returns
returns c = λ t h. ap term_of c.in_ok-bytes.ensures ∙ held-is c.args.bytes.items t h
