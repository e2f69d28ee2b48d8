use Rattle.std.proofs.Common.{◌≡◌, [], Option, Some, None, map, refl, sym, ap, ◌∙◌}
use Rattle.plcells.specs.declared.cell.Cell.{Cell}
use Rattle.plcells.specs.Store.{Store, value}
use Rattle.plbuiltin.specs.Format.{arguments_of}
use Rattle.plbuiltin.specs.Lists.{elements_of}
use Rattle.pltexts.specs.Format.{given}
use Rattle.pltexts.proofs.format.values_of.Goals as goal

none_given : (h : Store) (o : Option Cell) → ((v : Cell) → o ≡ Some v → ⊥) → arguments_of (given h o) ≡ []
unfolding elements_of
none_given h None other = refl
none_given h (Some v) other = absurd (other v refl)

pub returns-in_default-clause-are : goal.returns-in_default-clause-are
returns-in_default-clause-are c =
    let h = c.args.heap.now in
    ap (map (value h)) c.new.ensures.items ∙ sym (none_given h c.args.arguments.now c.in_default.not-Some)
