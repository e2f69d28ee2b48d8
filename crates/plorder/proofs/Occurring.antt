-- The variables of values, span by span.
use Rattle.std.proofs.Common.{◌≡◌, ℕ, suc, ◌+◌, ◌-◌, ◌<◌, Bool, true, false, List, [], ◌∷◌, ◌++◌, map, refl, sym, ap, ap₂, ◌∙◌, subst, arith, append_assoc, append-nil, nat_lt}
use Rattle.std.proofs.lemmas.List.{map-append}
use Rattle.plterm.specs.Tree.{Tree, var, compound, trees}
use Rattle.plterm.specs.Reading.{spelling, spellings}
use Rattle.plterm.specs.Variables.{added, seen_after, variables}
use Rattle.platoms.specs.Names.{IsTable, functor_name}
use Rattle.plcells.specs.declared.cell.Cell.{Cell}
use Rattle.plcells.specs.Store.{Store, value, term, terms, IsValue, AreValues, IsBlock}
use Rattle.plcells.specs.Walking.{weight}
use Rattle.plcells.proofs.Searching.{weight-some}
use Rattle.plorder.specs.declared.shape.Block.{Block}
use Rattle.plorder.specs.declared.shape.Shape.{Shape}
use Rattle.plorder.specs.declared.shape.Shape.TheVariants.{Variable, Integer, Atom, Compound}
use Rattle.plorder.specs.declared.variables.Span.{Span}
use Rattle.plorder.specs.declared.occurrences.Found.{Found}
use Rattle.plorder.specs.Shapes.{IsOfShape}
use Rattle.plorder.specs.Spans.{IsSpan, AreSpans, weigh_spans, rest_of}
use Rattle.plorder.specs.Occurrences.{IsFound, Visits, left_terms, all_seen}
use Rattle.plorder.proofs.Looking.{taken, left-taken, IsLeft, looked-block}

-- ---- what was found

pub values-append : (h : Store) (vs ws : List Cell) → AreValues h vs → AreValues h ws → AreValues h (vs ++ ws)
values-append h [] ws are others = others
values-append h (v ∷ vs) ws are others = (are.0, values-append h vs ws are.1 others)

pub values-pushed : (h : Store) (vs after : List Cell) (v : Cell) → AreValues h vs → IsValue h v → after ≡ vs ++ v ∷ [] → AreValues h after
values-pushed h vs after v are is e = subst (AreValues h) (sym e) (values-append h vs (v ∷ []) are (is, tt))

pub found-more : (h : Store) (old new : Found) (n : ℕ) (v : Cell) → IsFound h old → IsValue h v → value h v ≡ var n
    → new.cells.items ≡ old.cells.items ++ v ∷ [] → new.numbers ≡ old.numbers ++ n ∷ [] → IsFound h new
found-more h old new n v found fits is cells numbers = record {
  values = values-pushed h old.cells.items new.cells.items v found.values fits cells;
  is =
      ap (map (value h)) cells ∙ map-append (value h) old.cells.items (v ∷ [])
      ∙ ap₂ (λ (ts : List Tree) (t : Tree). ts ++ t ∷ []) found.is is
      ∙ sym (ap (map var) numbers ∙ map-append var old.numbers (n ∷ []));
}

-- ---- what is left

left-append : (h : Store) (ss : List Span) (s : Span) → left_terms h (ss ++ s ∷ []) ≡ terms h s.first s.count ++ left_terms h ss
left-append h [] s = sym (append-nil (terms h s.first s.count))
left-append h (r ∷ ss) s = ap (λ (ts : List Tree). ts ++ terms h r.first r.count) (left-append h ss s) ∙ append_assoc (terms h s.first s.count) (left_terms h ss) (terms h r.first r.count)

spellings-append : (ts us : List Tree) → spellings (trees (ts ++ us)) ≡ spellings (trees ts) ++ spellings (trees us)
spellings-append [] us = refl
spellings-append (t ∷ ts) us = ap (λ ns. spelling t ++ ns) (spellings-append ts us) ∙ sym (append_assoc (spelling t) (spellings (trees ts)) (spellings (trees us)))

module _ (h : Store) (old rest : List Span) (s : Span) (e : old ≡ rest ++ s ∷ []) (are : AreSpans h old) where
  terms_by : (k : ℕ) → s.count ≡ suc k → left_terms h old ≡ term h s.first ∷ (terms h (s.first + 1) k ++ left_terms h rest)
  terms_by k ek =
      ap (left_terms h) e ∙ left-append h rest s
      ∙ ap (λ (n : ℕ). terms h s.first n ++ left_terms h rest) ek
      ∙ ap (λ (m : ℕ). term h s.first ∷ (terms h m k ++ left_terms h rest)) (omega arith)

  left_by : (b : Bool) → nat_lt 1 s.count ≡ b → (new : List Span) → new ≡ rest ++ rest_of s → left_terms h old ≡ term h s.first ∷ left_terms h new
  left_by true is new en =
      let more : 1 < s.count = grind (arith, is) in
      let k = s.count - 1 in
      let r : Span = record { first = s.first + 1; count = s.count - 1 } in
      let now : new ≡ rest ++ r ∷ [] = en ∙ rw is refl in
      terms_by k (omega (arith, more)) ∙ ap (λ (ts : List Tree). term h s.first ∷ ts) (sym (ap (left_terms h) now ∙ left-append h rest r))
  left_by false is new en =
      let span : IsSpan h s = taken h old rest s e are in
      let few : s.count < 2 = grind (arith, is) in
      let now : new ≡ rest = en ∙ ap (λ (ss : List Span). rest ++ ss) (rw is refl) ∙ append-nil rest in
      terms_by 0 (omega (arith, few, span.some)) ∙ ap (λ (ss : List Span). term h s.first ∷ left_terms h ss) (sym now)

  -- the term of the first cell of the last span, before those that are left
  pub terms-taken : (new : List Span) → new ≡ rest ++ rest_of s → left_terms h old ≡ term h s.first ∷ left_terms h new
  terms-taken new en = left_by (nat_lt 1 s.count) refl new en

-- ---- a term that is looked at

pub visits-variable : (h : Store) (old : List Span) (seen after : List ℕ) (t : Tree) (n : ℕ) → t ≡ var n → after ≡ added seen n → Visits h old old seen after t
visits-variable h old seen after t n e is = record {
  spans = λ are. are;
  is = ap (λ (ms : List ℕ). all_seen ms (left_terms h old)) is ∙ ap (λ (u : Tree). all_seen seen (u ∷ left_terms h old)) (sym e);
  lighter = omega (arith, weight-some t);
}

pub visits-other : (h : Store) (old : List Span) (seen : List ℕ) (t : Tree) (x : Shape) → IsOfShape h t x → ((n : ℕ) → x ≡ Variable n → ⊥) → ((b : Block) → x ≡ Compound b → ⊥) → Visits h old old seen seen t
visits-other h old seen t x is no_variable no_compound = record {
  spans = λ are. are;
  is = same x is no_variable no_compound;
  lighter = omega (arith, weight-some t);
}
  where
    same : (x : Shape) → IsOfShape h t x → ((n : ℕ) → x ≡ Variable n → ⊥) → ((b : Block) → x ≡ Compound b → ⊥) → all_seen seen (left_terms h old) ≡ all_seen seen (t ∷ left_terms h old)
    same (Variable n) is no_variable no_compound = absurd (no_variable n refl)
    same (Integer i) is no_variable no_compound = ap (λ (u : Tree). all_seen seen (u ∷ left_terms h old)) (sym is)
    same (Atom a) is no_variable no_compound = ap (λ (u : Tree). all_seen seen (u ∷ left_terms h old)) (sym is.2)
    same (Compound b) is no_variable no_compound = absurd (no_compound b refl)

pub visits-block : (h : Store) (old new : List Span) (seen : List ℕ) (t : Tree) (b : Block) (s : Span) → IsTable h.names → IsBlock h b.place b.functor b.arity → t ≡ term h b.place
    → s.first ≡ suc b.place → s.count ≡ b.arity → new ≡ old ++ s ∷ [] → Visits h old new seen seen t
visits-block h old new seen t b s names block e ef ec en =
    let looked = looked-block h old new t b s names block e ef ec en in
    let shows : t ≡ compound (functor_name h.names b.functor) (trees (terms h s.first s.count)) =
    e ∙ block.is ∙ ap₂ (λ c k. compound (functor_name h.names b.functor) (trees (terms h c k))) (sym ef) (sym ec) in
    record {
      spans = looked.spans;
      is =
          ap (all_seen seen) (ap (left_terms h) en ∙ left-append h old s)
          ∙ ap (seen_after seen) (spellings-append (terms h s.first s.count) (left_terms h old))
          ∙ ap (λ (u : Tree). all_seen seen (u ∷ left_terms h old)) (sym shows);
      lighter = looked.lighter;
    }

-- ---- the walk

-- what is found and what is left come to the variables of a term
pub record Occurs (h : Store) (spans : List Span) (found : Found) (t : Tree) : Type 0 where
  pub inside : AreSpans h spans
  pub found_is : IsFound h found
  pub is : all_seen found.numbers (left_terms h spans) ≡ variables t

module _ (h : Store) (old rest mid : List Span) (s : Span) (found : Found) (t : Tree) (e : old ≡ rest ++ s ∷ []) (f : mid ≡ rest ++ rest_of s) (occurs : Occurs h old found t) where
  left_is : IsLeft h old mid s.first
  left_is = left-taken h old rest s e occurs.inside mid f

  module _ (new : List Span) (after : Found) (u : Tree) (k : u ≡ term h s.first) (visits : Visits h mid new found.numbers after.numbers u) where
    pub occurs-more : IsFound h after → Occurs h new after t
    occurs-more is = record {
      inside = visits.spans left_is.spans;
      found_is = is;
      is =
          visits.is
          ∙ ap (λ (v : Tree). all_seen found.numbers (v ∷ left_terms h mid)) k
          ∙ ap (all_seen found.numbers) (sym (terms-taken h old rest s e occurs.inside mid f))
          ∙ occurs.is;
    }

    pub lighter-more : weigh_spans h new < weigh_spans h old
    lighter-more = omega (arith, visits.lighter, left_is.weighs, ap weight k)
