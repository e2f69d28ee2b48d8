use Rattle.plhead.proofs.Clashes.{no-integer}
use Rattle.plhead.proofs.Verdicts.{no}
use Rattle.plhead.proofs.compare.is_number.Goals as goal

pub returns-in_default : goal.returns-in_default
returns-in_default c = (
  λ f. absurd (no f),
  λ e. absurd (no-integer c.args.heap.now c.requires.heap c.args.number c.args.v c.requires.value c.requires.solid (λ n q. c.in_default.not-Int n q) (λ p q. c.in_default.not-Wide p q) e),
)
