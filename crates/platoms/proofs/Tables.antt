-- A name that is looked up, and put behind the others where it is new.
use Rattle.std.proofs.Common.{◌≡◌, ℕ, zero, suc, ◌<◌, ◌≤◌, ◌==◌, eqb-true, eq-eqb, ap₂, Bool, true, false, ◌&&◌, ◌||◌, List, [], ◌∷◌, ◌++◌, length, length-append, get_or, Some, refl, sym, ap, ◌∙◌, subst, arith, inl, inr, if◌then◌else◌}
use Rattle.std.specs.Bool.{Decides}
use Rattle.std.specs.List.{list_any, slice_get}
use Rattle.std.proofs.lemmas.Bool.{cases_lt}
use Rattle.std.proofs.lemmas.List.{get_or_append_left, get_or_push}
use Rattle.indexmap.specs.IndexSet.{insert_key}
use Rattle.platoms.specs.declared.names.Functor.{Functor}
use Rattle.platoms.specs.Names.{same_functor}

-- what a place holds
pub get-is : {X : Type 0} (xs : List X) (i : ℕ) (x d : X) → slice_get xs i ≡ Some x → (i < length xs) × (get_or xs i d ≡ x)
get-is [] i x d e = absurd (grind (arith, e))
get-is (y ∷ ys) zero x d e = (omega arith, grind (arith, e))
get-is (y ∷ ys) (suc i) x d e = let r = get-is ys i x d e in (omega (arith, r.0), r.1)

module _ {X : Type 0} (eq : X → X → Bool) (decides : (x y : X) → Decides (eq x y) (x ≡ y)) (d : X) where
  pub absent : (xs : List X) (x : X) → list_any (eq x) xs ≡ false → (i : ℕ) → i < length xs → get_or xs i d ≡ x → ⊥
  absent [] x none i lt e = absurd (omega arith)
  absent (y ∷ ys) x none zero lt e =
      let is : eq x y ≡ true = (decides x y).1 (sym e) in
      grind (arith, none, is)
  absent (y ∷ ys) x none (suc i) lt e = absent ys x (rest (eq x y) (list_any (eq x) ys) none) i (omega arith) e
    where
      rest : (p q : Bool) → (p || q) ≡ false → q ≡ false
      rest true q e = absurd (grind (arith, e))
      rest false q e = e

  abbrev pub Once : List X → Type 0
  Once xs = (i j : ℕ) → i < length xs → j < length xs → get_or xs i d ≡ get_or xs j d → i ≡ j

  pub once-push : (xs : List X) (x : X) → Once xs → ((i : ℕ) → i < length xs → get_or xs i d ≡ x → ⊥) → Once (xs ++ x ∷ [])
  once-push xs x once new i j il jl e = elim (cases_lt i (length xs)) [
    | inl io ↦ elim (cases_lt j (length xs)) [
      | inl jo ↦ once i j io jo (sym (old i io) ∙ e ∙ old j jo)
      | inr jn ↦ absurd (new i io (sym (old i io) ∙ e ∙ last j (omega (arith, jl, length-append xs (x ∷ [])))))
    ]
    | inr in_new ↦ elim (cases_lt j (length xs)) [
      | inl jo ↦ absurd (new j jo (sym (old j jo) ∙ sym e ∙ last i (omega (arith, il, length-append xs (x ∷ [])))))
      | inr jn ↦ omega (arith, il, jl, length-append xs (x ∷ []))
    ]
  ]
    where
      old : (k : ℕ) → k < length xs → get_or (xs ++ x ∷ []) k d ≡ get_or xs k d
      old k lt = get_or_append_left xs (x ∷ []) d k lt

      last : (k : ℕ) → k ≡ length xs → get_or (xs ++ x ∷ []) k d ≡ x
      last k is = get_or_push xs x d k (sym is)

  pub all-push : (P : X → Type 0) (xs : List X) (x : X) → ((i : ℕ) → i < length xs → P (get_or xs i d)) → P x → (i : ℕ) → i < length (xs ++ x ∷ []) → P (get_or (xs ++ x ∷ []) i d)
  all-push P xs x all here i lt = elim (cases_lt i (length xs)) [
    | inl io ↦ subst P (sym (get_or_append_left xs (x ∷ []) d i io)) (all i io)
    | inr last ↦ subst P (sym (get_or_push xs x d i (omega (arith, lt, length-append xs (x ∷ []))))) here
  ]

  by_case : (Q : List X → Type 0) (b : Bool) (xs : List X) (x : X) → Q xs → (b ≡ false → Q (xs ++ x ∷ [])) → Q (if b then xs else xs ++ x ∷ [])
  by_case Q true xs x here more = here
  by_case Q false xs x here more = more refl

  pub insert_once : (xs : List X) (x : X) → Once xs → Once (insert_key eq xs x)
  insert_once xs x once = by_case Once (list_any (eq x) xs) xs x once (λ none. once-push xs x once (absent xs x none))

  pub insert_all_fit : (P : X → Type 0) (xs : List X) (x : X) → ((i : ℕ) → i < length xs → P (get_or xs i d)) → P x → (i : ℕ) → i < length (insert_key eq xs x) → P (get_or (insert_key eq xs x) i d)
  insert_all_fit P xs x all here = by_case (λ ys. (i : ℕ) → i < length ys → P (get_or ys i d)) (list_any (eq x) xs) xs x all (λ none. all-push P xs x all here)

  -- what stands at a place stays there
  pub insert_keeps : (xs : List X) (x : X) (i : ℕ) → i < length xs → get_or (insert_key eq xs x) i d ≡ get_or xs i d
  insert_keeps xs x i lt = by_case (λ ys. get_or ys i d ≡ get_or xs i d) (list_any (eq x) xs) xs x refl (λ none. get_or_append_left xs (x ∷ []) d i lt)

  pub insert_longer : (xs : List X) (x : X) → length xs ≤ length (insert_key eq xs x)
  insert_longer xs x = by_case (λ ys. length xs ≤ length ys) (list_any (eq x) xs) xs x (omega arith) (λ none. omega (arith, length-append xs (x ∷ [])))

both : (p q : Bool) → (p && q) ≡ true → (p ≡ true) × (q ≡ true)
both true q e = (refl, e)
both false q e = absurd (grind (arith, e))

both_true : (p q : Bool) → p ≡ true → q ≡ true → (p && q) ≡ true
both_true true q e f = f
both_true false q e f = e

pub same_functor-Decides : (a b : Functor) → Decides (same_functor a b) (a ≡ b)
same_functor-Decides a b = (
  λ e.
      let p = both (a.name == b.name) (a.arity == b.arity) e in
      ap₂ (λ n k. let f : Functor = record { name = n; arity = k } in f) (eqb-true a.name b.name p.0) (eqb-true a.arity b.arity p.1),
  λ e. both_true (a.name == b.name) (a.arity == b.arity) (eq-eqb a.name b.name (ap (λ f. f.name) e)) (eq-eqb a.arity b.arity (ap (λ f. f.arity) e)),
)
