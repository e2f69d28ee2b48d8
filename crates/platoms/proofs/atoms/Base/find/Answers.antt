use Rattle.std.proofs.Common.{◌≡◌, ◌<◌, ◌∙◌, [], length, get_or, IfSome, ℕ, List, sym, ap, subst, bytes_eq}
use Rattle.std.specs.Arc.{arc_value}
use Rattle.std.proofs.lemmas.Slice.Eq.{bytes_eq-Decides}
use Rattle.platoms.specs.Names.{keys_of}
use Rattle.platoms.proofs.Layers.{found}
use Rattle.platoms.proofs.atoms.Base.find.Goals as goal

pub returns-in-Some-clause-some : goal.returns-in-Some-clause-some
returns-in-Some-clause-some c =
    let x = c.args.name.now in
    let base : (arc_value c.in-Some.names).keys ≡ c.args.self.now = ap keys_of (sym c.in-Some.is) ∙ c.self.view_is in
    let is = rw c.deref.ensures at c.get_index_of.ensures.index in
    subst (λ (xs : List (List ℕ)). IfSome c.get_index_of.result (λ place. (place < length xs) × (get_or xs place [] ≡ x))) base (found bytes_eq bytes_eq-Decides [] (arc_value c.in-Some.names).keys x c.get_index_of.result is)
