use Rattle.std.proofs.Common.{ap, ◌∙◌, sym, w64}
use Rattle.std.proofs.lemmas.Int.{to_z-of_z}
use Rattle.plarith.specs.Operations.{unary}
use Rattle.plarith.proofs.Absolute.{absolute_fits}
use Rattle.plarith.proofs.unary.apply.Goals as goal

pub returns-in-Absolute : goal.returns-in-Absolute
returns-in-Absolute c = c.fitting-in-Absolute.ensures _ (absolute_fits _ c.args.x c.ranges.x (rw (to_z-of_z w64 c.args.x c.ranges.x) at c.checked_abs.ensures)) ∙ ap (λ f. unary f c.args.x) (sym c.in-Absolute.is)
