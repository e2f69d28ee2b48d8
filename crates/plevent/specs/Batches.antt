-- The updates of a batch.
use Rattle.std.specs.Prelude.{List, [], ◌∷◌}
use Rattle.std.specs.Arc.{arc_value}
use Rattle.plevent.specs.declared.update.Update.{Update}
use Rattle.plevent.specs.declared.update.Held.{Held}
use Rattle.plevent.specs.declared.update.Held.TheVariants.{One, Shared, Alone}

abbrev pub updates_held : Held → List Update
updates_held (One u) = u ∷ []
updates_held (Shared us) = (arc_value us).items
updates_held (Alone us) = us.items
