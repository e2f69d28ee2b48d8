-- The places of the clauses of each key.
use Rattle.std.proofs.Common.{◌≡◌, ℕ, zero, suc, ◌+◌, ◌≤◌, ◌<◌, ◌⊎◌, inl, inr, Bool, true, false, cond, Option, Some, None, List, [], ◌∷◌, ◌++◌, Vec, refl, sym, ap, ◌∙◌, subst, eqb-true, append-nil, length, take, drop, get_or, arith, length-take}
use Rattle.std.specs.Global.{Global}
use Rattle.std.proofs.lemmas.Bool.{cases_lt}
use Rattle.std.proofs.lemmas.List.{take_more}
use Rattle.std.proofs.lemmas.Cmp.{int_eq_equiv, nat_eq_equiv}
use Rattle.indexmap.specs.IndexMap.{IndexMap, get, Updates}
use Rattle.plsubst.proofs.Unify.{same_int}
use Rattle.plcode.specs.declared.key.Key.{Key}
use Rattle.plcode.specs.declared.key.Key.TheVariants.{Any, Int, Atom, Fun}
use Rattle.plcode.specs.declared.clause.ClauseCode.{ClauseCode}
use Rattle.plcode.specs.contracts.key.KeyPartialEq.TheImpl.{ghosts}
use Rattle.plcode.specs.Keys.{admits}
use Rattle.plcode.specs.Index.{places, items, places_in, HasPlaces, IsRising, IsOneOf, IsFirstFrom, NotAfter, NoneAdmitted, IsNext}

-- ---- keys

-- of keys other than that of anything, those that are the same admit one another
same_admits : (k l : Key) → (k ≡ Any → ⊥) → (l ≡ Any → ⊥) → ghosts.eq k l ≡ admits l k
same_admits Any l p q = absurd (p refl)
same_admits (Int i) Any p q = absurd (q refl)
same_admits (Int i) (Int j) p q = int_eq_equiv.symm i j
same_admits (Int i) (Atom b) p q = refl
same_admits (Int i) (Fun g) p q = refl
same_admits (Atom a) Any p q = absurd (q refl)
same_admits (Atom a) (Int j) p q = refl
same_admits (Atom a) (Atom b) p q = nat_eq_equiv.symm a b
same_admits (Atom a) (Fun g) p q = refl
same_admits (Fun f) Any p q = absurd (q refl)
same_admits (Fun f) (Int j) p q = refl
same_admits (Fun f) (Atom b) p q = refl
same_admits (Fun f) (Fun g) p q = nat_eq_equiv.symm f g

key_same : (k l : Key) → ghosts.eq k l ≡ true → k ≡ l
key_same Any Any h = refl
key_same Any (Int j) h = cc
key_same Any (Atom b) h = cc
key_same Any (Fun g) h = cc
key_same (Int i) Any h = cc
key_same (Int i) (Int j) h = ap Int (same_int i j h)
key_same (Int i) (Atom b) h = cc
key_same (Int i) (Fun g) h = cc
key_same (Atom a) Any h = cc
key_same (Atom a) (Int j) h = cc
key_same (Atom a) (Atom b) h = ap Atom (eqb-true a b h)
key_same (Atom a) (Fun g) h = cc
key_same (Fun f) Any h = cc
key_same (Fun f) (Int j) h = cc
key_same (Fun f) (Atom b) h = cc
key_same (Fun f) (Fun g) h = ap Fun (eqb-true f g h)

-- each key admits that of anything
admits_any : (k : Key) → admits k Any ≡ true
admits_any Any = refl
admits_any (Int i) = refl
admits_any (Atom a) = refl
admits_any (Fun f) = refl

any_admitted : (k l : Key) → ghosts.eq l Any ≡ true → admits k l ≡ true
any_admitted k l h = ap (admits k) (key_same l Any h) ∙ admits_any k

own_admits : (k : Key) → (k ≡ Any → ⊥) → ghosts.eq k k ≡ true → admits k k ≡ true
own_admits k some h = sym (same_admits k k some some) ∙ h

key_admitted : (k l : Key) → (k ≡ Any → ⊥) → ghosts.eq l k ≡ true → admits k l ≡ true
key_admitted k l some h =
    let e = key_same l k h in
    let P : Key → Type 0 = λ m. ghosts.eq m k ≡ true in
    ap (admits k) e ∙ own_admits k some (subst P e h)

-- a key that is admitted is the same, or that of anything
admits_parts : (k l : Key) → (k ≡ Any → ⊥) → admits k l ≡ true → (ghosts.eq l k ≡ true) ⊎ (ghosts.eq l Any ≡ true)
admits_parts k Any some h = inr refl
admits_parts k (Int j) some h = inl (same_admits (Int j) k (λ e. absurd (cc)) some ∙ h)
admits_parts k (Atom b) some h = inl (same_admits (Atom b) k (λ e. absurd (cc)) some ∙ h)
admits_parts k (Fun g) some h = inl (same_admits (Fun g) k (λ e. absurd (cc)) some ∙ h)

-- ---- the places of a key

-- one place more, or none
more_one : (b : Bool) (n : ℕ) (ps : List ℕ) (p : ℕ) → IsOneOf ps p → IsOneOf (cond b (n ∷ ps) ps) p
more_one true n ps p h = record { index = suc h.index; within = omega (arith, h.within); is = h.is }
more_one false n ps p h = h

one_at : (n : ℕ) (ps : List ℕ) (p i : ℕ) → i < length (n ∷ ps) → get_or (n ∷ ps) i 0 ≡ p → (p ≡ n) ⊎ IsOneOf ps p
one_at n ps p zero lt is = inl (sym is)
one_at n ps p (suc i) lt is = inr (record { index = i; within = omega (arith, lt); is = is })

less_one : (b : Bool) (n : ℕ) (ps : List ℕ) (p : ℕ) → IsOneOf (cond b (n ∷ ps) ps) p → ((b ≡ true) × (p ≡ n)) ⊎ IsOneOf ps p
less_one true n ps p h = elim (one_at n ps p h.index h.within h.is) [ inl e ↦ inl (refl, e) | inr g ↦ inr g ]
less_one false n ps p h = inr h

-- they are places of clauses
pub place_within : (k : Key) (n : ℕ) (cs : List ClauseCode) (p : ℕ) → IsOneOf (places k n cs) p → (n ≤ p) × (p < n + length cs)
place_within k n [] p h = absurd (omega (arith, h.within))
place_within k n (x ∷ xs) p h =
    elim (less_one (ghosts.eq x.key k) n (places k (suc n) xs) p h) [
      | inl e ↦ (omega (arith, e.1), omega (arith, e.1))
      | inr g ↦ let r = place_within k (suc n) xs p g in (omega (arith, r.0), omega (arith, r.1))
    ]

-- that have the key
pub place_key : (k : Key) (n : ℕ) (cs : List ClauseCode) (p i : ℕ) (c : ClauseCode) → IsOneOf (places k n cs) p → p ≡ n + i → take 1 (drop i cs) ≡ c ∷ [] → ghosts.eq c.key k ≡ true
place_key k n [] p i c h at is = absurd (omega (arith, h.within))
place_key k n (x ∷ xs) p zero c h at is =
    let e : x ≡ c = cc in
    elim (less_one (ghosts.eq x.key k) n (places k (suc n) xs) p h) [
      | inl u ↦ sym (ap (λ (y : ClauseCode). ghosts.eq y.key k) e) ∙ u.0
      | inr g ↦ let r = place_within k (suc n) xs p g in absurd (omega (arith, r.0, at))
    ]
place_key k n (x ∷ xs) p (suc i) c h at is =
    elim (less_one (ghosts.eq x.key k) n (places k (suc n) xs) p h) [
      | inl u ↦ absurd (omega (arith, u.1, at))
      | inr g ↦ place_key k (suc n) xs p i c g (omega (arith, at)) is
    ]

-- and all of those
pub key_place : (k : Key) (n : ℕ) (cs : List ClauseCode) (i : ℕ) (c : ClauseCode) → take 1 (drop i cs) ≡ c ∷ [] → ghosts.eq c.key k ≡ true → IsOneOf (places k n cs) (n + i)
key_place k n [] zero c is same = cc
key_place k n [] (suc i) c is same = cc
key_place k n (x ∷ xs) zero c is same =
    let e : x ≡ c = cc in
    let b : ghosts.eq x.key k ≡ true = ap (λ (y : ClauseCode). ghosts.eq y.key k) e ∙ same in
    let ps : List ℕ = places k (suc n) xs in
    let P : Bool → Type 0 = λ t. IsOneOf (cond t (n ∷ ps) ps) (n + 0) in
    subst P (sym b) (record { index = 0; within = omega arith; is = omega arith })
key_place k n (x ∷ xs) (suc i) c is same =
    let ps : List ℕ = places k (suc n) xs in
    let P : ℕ → Type 0 = IsOneOf (cond (ghosts.eq x.key k) (n ∷ ps) ps) in
    let e : suc n + i ≡ n + suc i = omega arith in
    subst P e (more_one (ghosts.eq x.key k) n ps (suc n + i) (key_place k (suc n) xs i c is same))

rises : (n : ℕ) (ps : List ℕ) → ((p : ℕ) → IsOneOf ps p → n ≤ p) → IsRising ps → IsRising (n ∷ ps)
rises n ps low h zero zero le lt = omega arith
rises n ps low h zero (suc j) le lt = low (get_or ps j 0) (record { index = j; within = omega (arith, lt); is = refl })
rises n ps low h (suc i) zero le lt = absurd (omega (arith, le))
rises n ps low h (suc i) (suc j) le lt = h i j (omega (arith, le)) (omega (arith, lt))

rises_more : (b : Bool) (n : ℕ) (ps : List ℕ) → ((p : ℕ) → IsOneOf ps p → n ≤ p) → IsRising ps → IsRising (cond b (n ∷ ps) ps)
rises_more true n ps low h = rises n ps low h
rises_more false n ps low h = h

-- they rise
pub places_rise : (k : Key) (n : ℕ) (cs : List ClauseCode) → IsRising (places k n cs)
places_rise k n [] = λ i j le lt. absurd (omega (arith, lt))
places_rise k n (x ∷ xs) =
    rises_more (ghosts.eq x.key k) n (places k (suc n) xs) (λ p h. let r = place_within k (suc n) xs p h in omega (arith, r.0)) (places_rise k (suc n) xs)

-- ---- one clause more

cond_append : (b : Bool) (n : ℕ) (ps qs : List ℕ) → cond b (n ∷ (ps ++ qs)) (ps ++ qs) ≡ cond b (n ∷ ps) ps ++ qs
cond_append true n ps qs = refl
cond_append false n ps qs = refl

pub places_more : (k : Key) (n : ℕ) (cs : List ClauseCode) (c : ClauseCode) → places k n (cs ++ c ∷ []) ≡ places k n cs ++ cond (ghosts.eq c.key k) ((n + length cs) ∷ []) []
places_more k n [] c = let e : n ≡ n + 0 = omega arith in ap (λ (m : ℕ). cond (ghosts.eq c.key k) (m ∷ []) []) e
places_more k n (x ∷ xs) c =
    let b = ghosts.eq x.key k in
    let ps : List ℕ = places k (suc n) xs in
    let e : suc n + length xs ≡ n + suc (length xs) = omega arith in
    ap (λ (qs : List ℕ). cond b (n ∷ qs) qs) (places_more k (suc n) xs c)
    ∙ cond_append b n ps (cond (ghosts.eq c.key k) ((suc n + length xs) ∷ []) [])
    ∙ ap (λ (m : ℕ). cond b (n ∷ ps) ps ++ cond (ghosts.eq c.key k) (m ∷ []) []) e

-- its place stands at the end of those of its key
module _ {S : Type 0} (m n : IndexMap Key (Vec ℕ Global) S) (key : Key) (place : ℕ) (w : Vec ℕ Global) (updates : Updates ghosts.eq m n key (Some w)) (pushed : w.items ≡ places_in m key ++ place ∷ [])
    (cs : List ClauseCode) (c : ClauseCode) (is : c.key ≡ key) (at : length cs ≡ place) (has : HasPlaces m cs) where
  grown : (k : Key) (b : Bool) → ghosts.eq key k ≡ b → places k 0 (cs ++ c ∷ []) ≡ places k 0 cs ++ cond b (place ∷ []) []
  grown k b e =
      let len : 0 + length cs ≡ place = omega (arith, at) in
      places_more k 0 cs c
      ∙ ap (λ (i : ℕ). places k 0 cs ++ cond (ghosts.eq c.key k) (i ∷ []) []) len
      ∙ ap (λ (t : Bool). places k 0 cs ++ cond t (place ∷ []) []) (ap (λ (l : Key). ghosts.eq l k) is ∙ e)

  found : (k : Key) (b : Bool) → ghosts.eq key k ≡ b → places_in n k ≡ places k 0 (cs ++ c ∷ [])
  found k true e =
      ap items (updates.0 k ∙ ap (λ t. cond t (Some w) (get ghosts.eq m k)) e)
      ∙ pushed
      ∙ ap (λ (ps : List ℕ). ps ++ place ∷ []) (ap (places_in m) (key_same key k e) ∙ has k)
      ∙ sym (grown k true e)
  found k false e =
      ap items (updates.0 k ∙ ap (λ t. cond t (Some w) (get ghosts.eq m k)) e)
      ∙ has k
      ∙ sym (append-nil (places k 0 cs))
      ∙ sym (grown k false e)

  pub HasPlaces-more : HasPlaces n (cs ++ c ∷ [])
  HasPlaces-more k = found k (ghosts.eq key k) refl

-- a step of going over the clauses
pub places_next : {S : Type 0} (m n : IndexMap Key (Vec ℕ Global) S) (cs : List ClauseCode) (i : ℕ) (d : ClauseCode) → i < length cs
    → ((ds : List ClauseCode) (c : ClauseCode) → c.key ≡ (get_or cs i d).key → length ds ≡ i → HasPlaces m ds → HasPlaces n (ds ++ c ∷ [])) → HasPlaces m (take i cs) → HasPlaces n (take (i + 1) cs)
places_next m n cs i d lt step h =
    let P : List ClauseCode → Type 0 = HasPlaces n in
    subst P (sym (take_more cs i d lt)) (step (take i cs) (get_or cs i d) refl (omega (arith, length-take i cs, lt)) h)

-- ---- the next clause

-- no place from `from` on comes before the first one
abbrev Reaches : Option ℕ → ℕ → Type 0
Reaches None p = ⊥
Reaches (Some at) p = at ≤ p

reaches : (ps : List ℕ) (from : ℕ) (one r : Option ℕ) → IsFirstFrom ps from one → NotAfter r one → (p : ℕ) → IsOneOf ps p → from ≤ p → Reaches r p
reaches ps from None r h first p is le = absurd (omega (arith, h p is, le))
reaches ps from (Some a) None h first p is le = absurd first
reaches ps from (Some a) (Some at) h first p is le = omega (arith, h.2 p is le, first)

-- what a binary search finds that does not find the place itself
abbrev pub Searched : List ℕ → ℕ → ℕ → Type 0
Searched ps from at = (at ≤ length ps) × ((i : ℕ) → i < at → get_or ps i 0 < from) × ((i : ℕ) → at ≤ i → i < length ps → from < get_or ps i 0)

pub first_behind : (ps : List ℕ) (from at : ℕ) → at < length ps → IsRising ps → Searched ps from at → IsFirstFrom ps from (Some (get_or ps at 0))
first_behind ps from at lt rise s =
    let own = s.2 at (omega arith) lt in (
      record { index = at; within = lt; is = refl },
      omega (arith, own),
      λ p h le. elim (cases_lt h.index at) [
        | inl below ↦ absurd (omega (arith, s.1 h.index below, h.is, le))
        | inr above ↦ omega (arith, rise at h.index above h.within, h.is)
      ],
    )

pub first_none : (ps : List ℕ) (from at : ℕ) → length ps ≤ at → Searched ps from at → IsFirstFrom ps from None
first_none ps from at le s p h = omega (arith, s.1 h.index (omega (arith, h.within)), h.is)

module _ (k : Key) (cs : List ClauseCode) (from : ℕ) (some : k ≡ Any → ⊥) where
  none_at : (to i : ℕ) (c : ClauseCode) (b : Bool) → admits k c.key ≡ b → take 1 (drop i cs) ≡ c ∷ [] → (IsOneOf (places k 0 cs) i → ⊥) → (IsOneOf (places Any 0 cs) i → ⊥) → admits k c.key ≡ false
  none_at to i c false e is own wide = e
  none_at to i c true e is own wide =
      let at : 0 + i ≡ i = omega arith in
      let P : Key → ℕ → Type 0 = λ l p. IsOneOf (places l 0 cs) p in
      elim (admits_parts k c.key some e) [
        | inl same ↦ absurd (own (subst (P k) at (key_place k 0 cs i c is same)))
        | inr any ↦ absurd (wide (subst (P Any) at (key_place Any 0 cs i c is any)))
      ]

  none_admitted : (to : ℕ) → ((i : ℕ) → from ≤ i → i < to → IsOneOf (places k 0 cs) i → ⊥) → ((i : ℕ) → from ≤ i → i < to → IsOneOf (places Any 0 cs) i → ⊥) → NoneAdmitted k cs from to
  none_admitted to own wide i le lt c is = none_at to i c (admits k c.key) refl is (own i le lt) (wide i le lt)

  pub next_of : (one other r : Option ℕ) → IsFirstFrom (places k 0 cs) from one → IsFirstFrom (places Any 0 cs) from other → (r ≡ one) ⊎ (r ≡ other) → NotAfter r one → NotAfter r other → IsNext k cs from r
  next_of one other None own wide is first second =
      none_admitted (length cs) (λ i le lt h. reaches (places k 0 cs) from one None own first i h le) (λ i le lt h. reaches (places Any 0 cs) from other None wide second i h le)
  next_of one other (Some at) own wide is first second =
      let none = none_admitted at
      (λ i le lt h. let r : at ≤ i = reaches (places k 0 cs) from one (Some at) own first i h le in absurd (omega (arith, r, lt)))
      (λ i le lt h. let r : at ≤ i = reaches (places Any 0 cs) from other (Some at) wide second i h le in absurd (omega (arith, r, lt))) in
      elim is [
        | inl e ↦
            let P : Option ℕ → Type 0 = IsFirstFrom (places k 0 cs) from in
            let h = subst P (sym e) own in
            let within = place_within k 0 cs at h.0 in
            (h.1, omega (arith, within.1), none, λ c stands. key_admitted k c.key some (place_key k 0 cs at at c h.0 (omega arith) stands))
        | inr e ↦
            let P : Option ℕ → Type 0 = IsFirstFrom (places Any 0 cs) from in
            let h = subst P (sym e) wide in
            let within = place_within Any 0 cs at h.0 in
            (h.1, omega (arith, within.1), none, λ c stands. any_admitted k c.key (place_key Any 0 cs at at c h.0 (omega arith) stands))
      ]
