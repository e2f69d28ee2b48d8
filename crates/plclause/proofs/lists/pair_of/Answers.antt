use Rattle.std.proofs.Common.{◌∙◌, IsTrue, false, ap}
use Rattle.plclause.specs.Lists.{pair_of}
use Rattle.plclause.proofs.Arguments.{more_than_pair}
use Rattle.plclause.proofs.lists.pair_of.Goals as goal

no : IsTrue false → ⊥
no h = cc

pub returns-else-is_empty : goal.returns-else-is_empty
returns-else-is_empty c =
    more_than_pair c.args.name.now c.in-Compound.found.now _ _ c.in-Compound.args _ _ c.in_ok-left-in-Compound.ensures c.in_ok-right-in-Compound.ensures (λ e. no (c.if-is_empty.ensures.1 e))
    ∙ ap (pair_of c.args.name.now) c.in-Compound.ensures.shown
