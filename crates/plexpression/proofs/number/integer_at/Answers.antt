use Rattle.std.proofs.Common.{◌∙◌}
use Rattle.plhead.proofs.Clashes.{no-integer}
use Rattle.plexpression.proofs.number.integer_at.Goals as goal

pub returns-in_default : goal.returns-in_default
returns-in_default c = record {
  some = tt;
  none = λ i e.
      no-integer c.args.heap.now c.root-root.ensures.heap i c.root-root.result c.root-root.ensures.fits (λ j q. c.in_default.not-Ref j q) (λ n q. c.in_default.not-Int n q) (λ p q. c.in_default.not-Wide p q)
      (c.root-root.ensures.same ∙ e);
}
