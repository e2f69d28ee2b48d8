use Rattle.std.proofs.Common.{◌∙◌, length, ap, sym}
use Rattle.plterm.proofs.Forests.{list_of-trees}
use Rattle.plsearch.specs.Forms.{arguments}
use Rattle.plcode.proofs.clause.arity_of.Goals as goal

pub returns-in-Compound : goal.returns-in-Compound
returns-in-Compound c =
    c.len.ensures ∙ sym (ap (λ t. length (arguments t)) (sym c.in-Compound.ensures.shown) ∙ ap length (list_of-trees c.in-Compound.args))
