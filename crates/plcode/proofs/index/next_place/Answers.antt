use Rattle.std.proofs.Common.{◌∙◌, ℕ, List, Option, sym, subst}
use Rattle.plcode.specs.declared.key.Key.TheVariants.{Any}
use Rattle.plcode.specs.Index.{IsRising, IsFirstFrom}
use Rattle.plcode.proofs.Indexing.{places_rise, next_of}
use Rattle.plcode.proofs.index.next_place.Goals as goal

pub first_from-own-requires : goal.first_from-own-requires
first_from-own-requires c =
    let index = c.requires.index in
    let P : List ℕ → Type 0 = IsRising in
    subst P (sym (c.places_in.ensures ∙ index.1 c.args.key)) (places_rise c.args.key 0 index.0)

pub first_from-open-requires : goal.first_from-open-requires
first_from-open-requires c =
    let index = c.requires.index in
    let P : List ℕ → Type 0 = IsRising in
    subst P (sym (c.places_in-2.ensures ∙ index.1 Any)) (places_rise Any 0 index.0)

pub returns : goal.returns
returns c cs has =
    let from = c.args.from in
    let P : Option ℕ → List ℕ → Type 0 = λ r ps. IsFirstFrom ps from r in
    let own = subst (P c.first_from-own.result) (c.places_in.ensures ∙ has c.args.key) c.first_from-own.ensures in
    let wide = subst (P c.first_from-open.result) (c.places_in-2.ensures ∙ has Any) c.first_from-open.ensures in
    let e = c.earlier.ensures in
    next_of c.args.key cs from c.requires.some c.first_from-own.result c.first_from-open.result c.earlier.result own wide e.one_of e.before_one e.before_other
