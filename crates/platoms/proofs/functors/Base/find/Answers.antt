use Rattle.std.proofs.Common.{◌≡◌, ◌<◌, ◌∙◌, length, get_or, IfSome, List, sym, ap, subst}
use Rattle.std.specs.Arc.{arc_value}
use Rattle.platoms.specs.declared.names.Functor.{Functor}
use Rattle.platoms.specs.Names.{keys_of, no_functor, same_functor}
use Rattle.platoms.proofs.Layers.{found}
use Rattle.platoms.proofs.Tables.{same_functor-Decides}
use Rattle.platoms.proofs.functors.Base.find.Goals as goal

pub returns-in-Some-clause-some : goal.returns-in-Some-clause-some
returns-in-Some-clause-some c =
    let k = c.args.functor in
    let base : (arc_value c.in-Some.functors).keys ≡ c.args.self.now = ap keys_of (sym c.in-Some.is) ∙ c.self.view_is in
    let is = rw c.deref.ensures at c.get_index_of.ensures.index in
    subst (λ (xs : List Functor). IfSome c.get_index_of.result (λ f. (f < length xs) × (get_or xs f no_functor ≡ k))) base (found same_functor same_functor-Decides no_functor (arc_value c.in-Some.functors).keys k c.get_index_of.result is)
