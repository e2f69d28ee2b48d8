use Rattle.std.proofs.Common.{◌∙◌, ap, sym, length}
use Rattle.plterm.proofs.Forests.{list_of-trees}
use Rattle.plevent.specs.declared.key.Key.TheVariants.{Functor}
use Rattle.plevent.specs.Keys.{key_of}
use Rattle.plrecords.specs.Slots.{slot_behind}
use Rattle.plrecords.proofs.slot.Slots.of_argument.Goals as goal

pub returns-in-Compound : goal.returns-in-Compound
returns-in-Compound c =
    c.of_functor.ensures ∙ ap (λ n. slot_behind c.args.self.hasher (Functor c.in-Compound.name.now n)) c.len.ensures
    ∙ ap (λ ts. slot_behind c.args.self.hasher (Functor c.in-Compound.name.now (length ts))) (sym (list_of-trees c.in-Compound.args))
    ∙ ap (λ t. slot_behind c.args.self.hasher (key_of t)) c.in-Compound.ensures.shown
