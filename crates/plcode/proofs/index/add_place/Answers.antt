use Rattle.std.proofs.Common.{◌∷◌, ◌++◌, [], Some, refl, ◌∙◌, ap, subst}
use Rattle.indexmap.specs.IndexMap.{Updates}
use Rattle.plcode.specs.contracts.key.KeyPartialEq.TheImpl.{ghosts}
use Rattle.std.specs.Option.{IsSome}
use Rattle.plcode.specs.Index.{items}
use Rattle.plcode.proofs.Indexing.{HasPlaces-more}
use Rattle.plcode.proofs.index.add_place.Goals as goal

pub returns-in_ok-push-in-Some : goal.returns-in_ok-push-in-Some
returns-in_ok-push-in-Some c =
    let h = c.get_mut.follows.holds c.push.new.self in
    let there = subst IsSome c.in-Some.ensures.value refl in
    HasPlaces-more c.args.places.now (c.get_mut.follows.lender c.push.new.self) c.args.key c.args.place c.push.new.self (h.3 there)
    (c.in_ok-push-in-Some.ensures.items ∙ ap (λ xs. items xs ++ c.args.place ∷ []) c.in-Some.ensures.value)

pub returns-in_ok-insert-in-None : goal.returns-in_ok-insert-in-None
returns-in_ok-insert-in-None c =
    let same = c.get_mut.follows.holds-at-none in
    let none = c.in-None.ensures.value in
    HasPlaces-more c.args.places.now c.insert.new.self c.args.key c.args.place c.push-in-None.new.self
    (subst (λ m. Updates ghosts.eq m c.insert.new.self c.args.key (Some c.push-in-None.new.self)) same c.in_ok-insert-in-None.ensures.updates)
    (c.in_ok-push-in-None.ensures.items ∙ ap (λ xs. xs ++ c.args.place ∷ []) c.new-first.ensures.items ∙ ap (λ xs. items xs ++ c.args.place ∷ []) none)
