use Rattle.std.proofs.Common.{◌∙◌, refl}
use Rattle.plhead.proofs.Clashes.{solid-other}
use Rattle.plhead.proofs.head.is_younger.Goals as goal

pub returns-in_default : goal.returns-in_default
returns-in_default c = record {
  variable = λ n e. absurd (solid-other c.args.heap.now c.root.ensures.heap c.root.result c.root.ensures.fits (λ j q. c.in_default.not-Ref j q) n (c.root.ensures.same ∙ e));
  other = λ n. refl;
}
