use Rattle.std.proofs.Common.{◌∙◌, IsTrue, false, ap}
use Rattle.plclause.specs.Clausal.{neck_parts}
use Rattle.plclause.proofs.Necks.{long_neck}
use Rattle.plclause.proofs.form.parted.Goals as goal

no : IsTrue false → ⊥
no h = cc

pub returns-else-is_empty : goal.returns-else-is_empty
returns-else-is_empty c =
    long_neck c.in-Compound.name.now _ _ c.in-Compound.args _ _ c.in_ok-head-in-Compound.ensures c.in_ok-body-in-Compound.ensures (λ e. no (c.if-is_empty.ensures.1 e))
    ∙ ap neck_parts c.in-Compound.ensures.shown
