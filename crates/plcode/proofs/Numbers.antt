-- The numbers of procedures.
use Rattle.std.proofs.Common.{◌≡◌, ◌==◌, ℕ, Bool, true, false, Option, Some, None, List, refl, subst, ap, ◌∙◌, sym, arith, inl, inr, bytes_eq, ◌&&◌}
use Rattle.std.proofs.lemmas.Bool.{eqb-true}
use Rattle.std.proofs.lemmas.Bool.Decides.{eqb_tells}
use Rattle.std.proofs.lemmas.Slice.Eq.{bytes_eq-Decides}
use Rattle.plterm.specs.declared.indicator.Indicator.{Indicator}
use Rattle.plterm.specs.Indicators.{same_indicator}
use Rattle.platoms.specs.declared.names.Functor.{Functor as OfFunctor}
use Rattle.platoms.specs.Names.{Table, IsTable, Extends, functor_at}
use Rattle.platoms.proofs.Extending.{atoms_more, functors_more, atom_same, functor_same}
use Rattle.plcode.specs.declared.callee.Number.{Number}
use Rattle.plcode.specs.declared.callee.Number.TheVariants.{Atom, Functor}
use Rattle.plcode.specs.Callees.{IsNumber, IsNumbered, IsProcedure, same_number}
use Rattle.plcode.proofs.Values.{functor_name-names}

eq_refl : (a : ℕ) → (a == a) ≡ true
eq_refl a = elim (eqb_tells a a) [ inl p ↦ p.0 | inr p ↦ absurd (p.1 refl) ]

pub number_is : (m n : Number) → same_number m n ≡ true → m ≡ n
number_is (Atom a) (Atom b) e = ap Atom (eqb-true a b e)
number_is (Atom a) (Functor g) e = cc
number_is (Functor f) (Atom b) e = cc
number_is (Functor f) (Functor g) e = ap Functor (eqb-true f g e)

pub number_refl : (n : Number) → same_number n n ≡ true
number_refl (Atom a) = eq_refl a
number_refl (Functor f) = eq_refl f

and_true : (a b : Bool) → a ≡ true → b ≡ true → (a && b) ≡ true
and_true true true e f = refl
and_true true false e f = cc
and_true false b e f = cc

indicator_refl : (p : Indicator) → same_indicator p p ≡ true
indicator_refl p = and_true (bytes_eq p.name p.name) (p.arity == p.arity) ((bytes_eq-Decides p.name p.name).1 refl) (eq_refl p.arity)

pub indicator_same : (p q : Indicator) → p ≡ q → same_indicator p q ≡ true
indicator_same p q e = subst (λ r. same_indicator p r ≡ true) e (indicator_refl p)

-- ---- one number for each procedure, and one procedure for each number

module _ (t : Table) (table : IsTable t) where
  functor_one : (f g : ℕ) (p : Indicator) → IsProcedure t f p → IsProcedure t g p → f ≡ g
  functor_one f g p h k =
      let a = functor_at t f in
      let b = functor_at t g in
      let name : a.name ≡ b.name = table.atom_once a.name b.name ((table.functors f h.within).name) ((table.functors g k.within).name) (h.name ∙ sym k.name) in
      let arity : a.arity ≡ b.arity = h.arity ∙ sym k.arity in
      let P : ℕ → OfFunctor = λ n. record { name = n; arity = a.arity } in
      let Q : ℕ → OfFunctor = λ n. record { name = b.name; arity = n } in
      table.functor_once f g h.within k.within (ap P name ∙ ap Q arity)

  no_arguments : (f : ℕ) (p : Indicator) → IsProcedure t f p → p.arity ≡ 0 → ⊥
  no_arguments f p h none = omega (arith, (table.functors f h.within).some, h.arity, none)

  pub number_one : (m n : Number) (p : Indicator) → IsNumber t m p → IsNumber t n p → m ≡ n
  number_one (Atom a) (Atom b) p h k = ap Atom (table.atom_once a b h.1.within k.1.within (h.1.is ∙ sym k.1.is))
  number_one (Atom a) (Functor g) p h k = absurd (no_arguments g p k h.0)
  number_one (Functor f) (Atom b) p h k = absurd (no_arguments f p h k.0)
  number_one (Functor f) (Functor g) p h k = ap Functor (functor_one f g p h k)

pub procedure_one : (t : Table) (n : Number) (p q : Indicator) → IsNumber t n p → IsNumber t n q → p ≡ q
procedure_one t (Atom a) p q h k =
    let P : List ℕ → Indicator = λ s. record { name = s; arity = p.arity } in
    let Q : ℕ → Indicator = λ n. record { name = q.name; arity = n } in
    ap P (sym h.1.is ∙ k.1.is) ∙ ap Q (h.0 ∙ sym k.0)
procedure_one t (Functor f) p q h k =
    let P : List ℕ → Indicator = λ s. record { name = s; arity = p.arity } in
    let Q : ℕ → Indicator = λ n. record { name = q.name; arity = n } in
    ap P (sym h.name ∙ k.name) ∙ ap Q (sym h.arity ∙ k.arity)

-- ---- more names

module _ (s t : Table) (more : Extends s t) (table : IsTable s) where
  pub IsNumber-more : (n : Number) (p : Indicator) → IsNumber s n p → IsNumber t n p
  IsNumber-more (Atom a) p h = (h.0, record { within = omega (arith, h.1.within, atoms_more s t more); is = atom_same s t more a h.1.within ∙ h.1.is })
  IsNumber-more (Functor f) p h = record {
    within = omega (arith, h.within, functors_more s t more);
    name = functor_name-names s t more table f h.within ∙ h.name;
    arity = ap (λ g. g.arity) (functor_same s t more f h.within) ∙ h.arity;
  }

  pub IsNumbered-more : (p : Indicator) (o : Option Number) → IsNumbered s p o → IsNumbered t p o
  IsNumbered-more p (Some n) h = IsNumber-more n p h
  IsNumbered-more p None h = h
