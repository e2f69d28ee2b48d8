-- The list of spans, step by step.
use Rattle.std.proofs.Common.{◌≡◌, ℕ, suc, ◌+◌, ◌-◌, ◌<◌, ◌≤◌, Bool, true, false, ◌&&◌, List, [], ◌∷◌, ◌++◌, refl, sym, ap, ap₂, ◌∙◌, subst, arith, append-nil, nat_lt}
use Rattle.plterm.specs.Tree.{Tree, var, compound, trees}
use Rattle.plterm.specs.Ground.{is_ground, are_ground}
use Rattle.platoms.specs.Names.{IsTable, functor_name}
use Rattle.plcells.specs.Store.{Store, term, terms, IsBlock}
use Rattle.plcells.specs.Walking.{weight, weights}
use Rattle.plcells.proofs.Searching.{weight-some}
use Rattle.plorder.specs.declared.shape.Block.{Block}
use Rattle.plorder.specs.declared.shape.Shape.{Shape}
use Rattle.plorder.specs.declared.shape.Shape.TheVariants.{Variable, Integer, Atom, Compound}
use Rattle.plorder.specs.declared.variables.Span.{Span}
use Rattle.plorder.specs.Shapes.{IsOfShape}
use Rattle.plorder.specs.Spans.{IsSpan, AreSpans, IsLooked, all_ground, weigh_spans, rest_of}

and-assoc : (p q r : Bool) → ((p && q) && r) ≡ (p && (q && r))
and-assoc true q r = refl
and-assoc false q r = refl

and-comm : (p q : Bool) → (p && q) ≡ (q && p)
and-comm true true = refl
and-comm true false = refl
and-comm false true = refl
and-comm false false = refl

and-true : (p : Bool) → (p && true) ≡ p
and-true true = refl
and-true false = refl

ground-append : (h : Store) (ss : List Span) (s : Span) → all_ground h (ss ++ s ∷ []) ≡ (all_ground h ss && are_ground (trees (terms h s.first s.count)))
ground-append h [] s = and-true (are_ground (trees (terms h s.first s.count)))
ground-append h (r ∷ ss) s =
    ap (λ (b : Bool). are_ground (trees (terms h r.first r.count)) && b) (ground-append h ss s)
    ∙ sym (and-assoc (are_ground (trees (terms h r.first r.count))) (all_ground h ss) (are_ground (trees (terms h s.first s.count))))

weigh-append : (h : Store) (ss : List Span) (s : Span) → weigh_spans h (ss ++ s ∷ []) ≡ weigh_spans h ss + weights (trees (terms h s.first s.count))
weigh-append h [] s = omega arith
weigh-append h (r ∷ ss) s = omega (arith, weigh-append h ss s)

are-append : (h : Store) (ss : List Span) (s : Span) → AreSpans h ss → IsSpan h s → AreSpans h (ss ++ s ∷ [])
are-append h [] s are is = (is, tt)
are-append h (r ∷ ss) s are is = (are.0, are-append h ss s are.1 is)

are-pop : (h : Store) (ss : List Span) (s : Span) → AreSpans h (ss ++ s ∷ []) → AreSpans h ss × IsSpan h s
are-pop h [] s are = (tt, are.0)
are-pop h (r ∷ ss) s are = let p = are-pop h ss s are.1 in ((are.0, p.0), p.1)

-- what is left of a list when the first cell of its last span has been taken
pub record IsLeft (h : Store) (old new : List Span) (a : ℕ) : Type 0 where
  pub spans : AreSpans h new
  pub is : all_ground h old ≡ (all_ground h new && is_ground (term h a))
  pub weighs : weigh_spans h old ≡ weight (term h a) + weigh_spans h new

module _ (h : Store) (old rest : List Span) (s : Span) (e : old ≡ rest ++ s ∷ []) (are : AreSpans h old) where
  pub taken : IsSpan h s
  taken = (are-pop h rest s (subst (AreSpans h) e are)).1

  others : AreSpans h rest
  others = (are-pop h rest s (subst (AreSpans h) e are)).0

  shrunk : Span
  shrunk = record { first = s.first + 1; count = s.count - 1 }

  parted : (k : ℕ) → s.count ≡ suc k → are_ground (trees (terms h s.first s.count)) ≡ (is_ground (term h s.first) && are_ground (trees (terms h (s.first + 1) k)))
  unfolding is_ground
  parted k ek =
      ap (λ (n : ℕ). are_ground (trees (terms h s.first n))) ek
      ∙ ap (λ (m : ℕ). is_ground (term h s.first) && are_ground (trees (terms h m k))) (omega arith)

  parted_weight : (k : ℕ) → s.count ≡ suc k → weights (trees (terms h s.first s.count)) ≡ weight (term h s.first) + weights (trees (terms h (s.first + 1) k))
  unfolding weight
  parted_weight k ek =
      ap (λ (n : ℕ). weights (trees (terms h s.first n))) ek
      ∙ ap (λ (m : ℕ). weight (term h s.first) + weights (trees (terms h m k))) (omega arith)

  -- the first cell's term last
  turned : (p q r : Bool) → (p && (q && r)) ≡ ((p && r) && q)
  turned p q r = ap (λ (b : Bool). p && b) (and-comm q r) ∙ sym (and-assoc p r q)

  left_by : (b : Bool) → nat_lt 1 s.count ≡ b → (new : List Span) → new ≡ rest ++ rest_of s → IsLeft h old new s.first
  unfolding is_ground weight shrunk
  left_by true is new en =
      let more : 1 < s.count = grind (arith, is) in
      let k = s.count - 1 in
      let ek : s.count ≡ suc k = omega (arith, more) in
      let now : new ≡ rest ++ shrunk ∷ [] = en ∙ rw is refl in
      let span : IsSpan h s = taken in
      record {
        spans = subst (AreSpans h) (sym now) (are-append h rest shrunk others (record {
          some = omega (arith, more);
          within = omega (arith, more, span.within);
          plain = λ d le lt. span.plain d (omega arith) (omega (arith, more));
          few = span.few;
        }));
        is =
            ap (all_ground h) e ∙ ground-append h rest s
            ∙ ap (λ (b : Bool). all_ground h rest && b) (parted k ek)
            ∙ turned (all_ground h rest) (is_ground (term h s.first)) (are_ground (trees (terms h (s.first + 1) k)))
            ∙ ap (λ (b : Bool). b && is_ground (term h s.first)) (sym (ap (all_ground h) now ∙ ground-append h rest shrunk));
        weighs = omega (arith, ap (weigh_spans h) e, weigh-append h rest s, parted_weight k ek, ap (weigh_spans h) now, weigh-append h rest shrunk);
      }
  left_by false is new en =
      let span : IsSpan h s = taken in
      let few : s.count ≤ 1 = grind (arith, is) in
      let ek : s.count ≡ suc 0 = omega (arith, few, span.some) in
      let now : new ≡ rest ++ [] = en ∙ rw is refl in
      let same : new ≡ rest = now ∙ append-nil rest in
      record {
        spans = subst (AreSpans h) (sym same) others;
        is =
            ap (all_ground h) e ∙ ground-append h rest s
            ∙ ap (λ (b : Bool). all_ground h rest && b) (parted 0 ek ∙ and-true (is_ground (term h s.first)))
            ∙ ap (λ (ss : List Span). all_ground h ss && is_ground (term h s.first)) (sym same);
        weighs = omega (arith, ap (weigh_spans h) e, weigh-append h rest s, parted_weight 0 ek, ap (weigh_spans h) same);
      }

  pub left-taken : (new : List Span) → new ≡ rest ++ rest_of s → IsLeft h old new s.first
  left-taken new en = left_by (nat_lt 1 s.count) refl new en

-- the first cell was looked at
module _ (h : Store) (start old new after : List Span) (a : ℕ) (left : IsLeft h old new a) (same : all_ground h old ≡ all_ground h start) where
  pub on-variable : is_ground (term h a) ≡ false → false ≡ all_ground h start
  on-variable here = sym (and-comm (all_ground h new) false) ∙ ap (λ (b : Bool). all_ground h new && b) (sym here) ∙ sym left.is ∙ same

  module _ (looked : IsLooked h new after (term h a)) where
    pub on-looked : all_ground h after ≡ all_ground h start
    on-looked = looked.is ∙ sym left.is ∙ same

    pub spans-looked : AreSpans h after
    spans-looked = looked.spans left.spans

    pub lighter-looked : weigh_spans h after < weigh_spans h old
    lighter-looked = omega (arith, left.weighs, looked.lighter)

-- a term without arguments
pub looked-leaf : (h : Store) (old : List Span) (t : Tree) → is_ground t ≡ true → IsLooked h old old t
looked-leaf h old t none = record {
  spans = λ are. are;
  is = sym (ap (λ (b : Bool). all_ground h old && b) none ∙ and-true (all_ground h old));
  lighter = omega (arith, weight-some t);
}

pub looked-block : (h : Store) (old new : List Span) (t : Tree) (b : Block) (s : Span) → IsTable h.names → IsBlock h b.place b.functor b.arity → t ≡ term h b.place → s.first ≡ suc b.place → s.count ≡ b.arity → new ≡ old ++ s ∷ [] → IsLooked h old new t
unfolding is_ground weight
looked-block h old new t b s names block e ef ec en =
    let shows : t ≡ compound (functor_name h.names b.functor) (trees (terms h s.first s.count)) =
    e ∙ block.is ∙ ap₂ (λ c k. compound (functor_name h.names b.functor) (trees (terms h c k))) (sym ef) (sym ec) in
    let some : 0 < b.arity = subst (λ k. 0 < k) block.arity ((names.functors b.functor block.functor).some) in
    record {
      spans = λ are. subst (AreSpans h) (sym en) (are-append h old s are (record {
        some = omega (arith, some, ec);
        within = omega (arith, block.within);
        plain = λ d le lt. block.plain d (omega arith) (omega arith);
        few = block.few;
      }));
      is = ap (all_ground h) en ∙ ground-append h old s ∙ ap (λ (u : Tree). all_ground h old && is_ground u) (sym shows);
      lighter = omega (arith, ap weight shows, ap (weigh_spans h) en, weigh-append h old s);
    }

-- an integer and an atom
pub shape-ground : (h : Store) (t : Tree) (x : Shape) → IsOfShape h t x → ((n : ℕ) → x ≡ Variable n → ⊥) → ((b : Block) → x ≡ Compound b → ⊥) → is_ground t ≡ true
unfolding is_ground
shape-ground h t (Variable n) is no_variable no_compound = absurd (no_variable n refl)
shape-ground h t (Integer i) is no_variable no_compound = ap is_ground is
shape-ground h t (Atom a) is no_variable no_compound = ap is_ground is.2
shape-ground h t (Compound b) is no_variable no_compound = absurd (no_compound b refl)

pub variable-not : (t : Tree) (n : ℕ) → t ≡ var n → is_ground t ≡ false
unfolding is_ground
variable-not t n e = ap is_ground e
