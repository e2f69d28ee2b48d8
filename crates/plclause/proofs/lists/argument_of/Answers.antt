use Rattle.std.proofs.Common.{◌∙◌, IsTrue, false, ap}
use Rattle.plclause.specs.Lists.{only_argument}
use Rattle.plclause.proofs.Arguments.{more_arguments}
use Rattle.plclause.proofs.lists.argument_of.Goals as goal

no : IsTrue false → ⊥
no h = cc

pub returns-else-is_empty : goal.returns-else-is_empty
returns-else-is_empty c =
    more_arguments c.args.name.now c.in-Compound.found.now _ c.in-Compound.args _ c.in_ok-first-in-Compound.ensures (λ e. no (c.if-is_empty.ensures.1 e))
    ∙ ap (only_argument c.args.name.now) c.in-Compound.ensures.shown
