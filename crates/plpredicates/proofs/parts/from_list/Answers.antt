use Rattle.std.proofs.Common.{◌≡◌, ℕ, List, Result, IfOk, map, sym, ap, ap₂, ◌∙◌}
use Rattle.std.proofs.lemmas.Result.{IfOk-weaker}
use Rattle.plterm.specs.Tree.{Tree}
use Rattle.plcells.specs.declared.cell.Cell.{Cell}
use Rattle.plcells.specs.Store.{Store, value}
use Rattle.plprogram.specs.declared.settings.Settings.{Settings}
use Rattle.plbuiltin.specs.Lists.{Elements, Other, elements_of}
use Rattle.plbuiltin.specs.Parts.{from_list}
use Rattle.planswers.specs.declared.answer.Answer.{Answer}
use Rattle.planswers.specs.declared.list.Tail.{Tail as Seen}
use Rattle.planswers.specs.declared.list.Tail.TheVariants as tails
use Rattle.planswers.specs.Answers.{meant}
use Rattle.planswers.specs.Lists.{tail_as}
use Rattle.plpredicates.proofs.parts.from_list.Goals as goal

-- the same elements, told by the values that are lent
seen : (h : Store) (xs ys : List Cell) (k j : Seen) → ys ≡ xs → k ≡ j → (let e : Elements = record { items = map (value h) xs; tail = tail_as k } in e) ≡ record { items = map (value h) ys; tail = tail_as j }
seen h xs ys k j e f = ap₂ (λ zs m. let e : Elements = record { items = map (value h) zs; tail = tail_as m } in e) (sym e) f

-- what is no list, by the list's own elements
told : {E : Type 0} (r : Result Answer E) (h : Store) (t l : Tree) (xs : List Tree) → elements_of l ≡ record { items = xs; tail = Other } →
    IfOk r (λ answer. (t : Tree) (s : Settings) (n : ℕ) → meant h s n answer ≡ from_list t xs Other l s) →
    IfOk r (λ answer. (s : Settings) (n : ℕ) → meant h s n answer ≡ from_list t (elements_of l).items (elements_of l).tail l s)
told r h t l xs same is =
    IfOk-weaker r (λ answer. (t : Tree) (s : Settings) (n : ℕ) → meant h s n answer ≡ from_list t xs Other l s) (λ answer. (s : Settings) (n : ℕ) → meant h s n answer ≡ from_list t (elements_of l).items (elements_of l).tail l s)
    (λ answer e s n. e t s n ∙ sym (ap (λ (es : Elements). from_list t es.items es.tail l s) same)) is

pub returns-in-Other-clause-is : goal.returns-in-Other-clause-is
returns-in-Other-clause-is c =
    let h = c.args.heap.now in
    let es = c.in_ok-elements.elements in
    told c.no_list.result h (value h c.args.term) (value h c.args.list) (map (value h) c.deref.result.now)
    (c.in_ok-elements.ensures.is ∙ seen h es.items.items c.deref.result.now es.tail tails.Other c.deref.ensures.value c.in-Other.is)
    c.no_list.ensures.is
