use Rattle.std.proofs.Common.{◌∙◌, ap, sym, length}
use Rattle.plterm.proofs.Forests.{list_of-trees}
use Rattle.plevent.specs.Keys.{fits_functor, key_of, may_fit}
use Rattle.plevent.proofs.key.Key.fits_argument.Goals as goal

pub returns-in-Compound : goal.returns-in-Compound
returns-in-Compound c =
    c.fits_compound.ensures ∙ ap (λ ts. fits_functor c.args.self.now c.in-Compound.name.now (length ts)) (sym (list_of-trees c.in-Compound.args))
    ∙ ap (λ t. may_fit c.args.self.now (key_of t)) c.in-Compound.ensures.shown
