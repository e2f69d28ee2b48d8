-- Marks: the last below a place, and the first from one on.
use Rattle.std.proofs.Common.{◌≡◌, ◌+◌, ◌⊎◌, inl, inr, refl, sym, ◌∙◌, ap, ap₂, subst, arith, ℕ, suc, zero, ◌<◌, ◌≤◌, Bool, true, false, List, [], ◌∷◌, ◌++◌, Option, Some, None, length, get_or, drop, length-append, drop-cons}
use Rattle.std.proofs.lemmas.List.{get_or_append_left, get_or_at}
use Rattle.plevent.specs.Alive.{change_if, or_else}
use Rattle.plrecords.specs.Links.{last_below, first_from}

pub get-in : (bs : List Bool) (i : ℕ) → get_or bs i false ≡ true → i < length bs
get-in [] i e = absurd (cc)
get-in (b ∷ bs) zero e = omega arith
get-in (b ∷ bs) (suc i) e = let l = get-in bs i e in omega (arith, l)

pub length-push : {A : Type 0} (bs : List A) (b : A) → length (bs ++ b ∷ []) ≡ suc (length bs)
length-push bs b = grind (arith, length-append)

pub last-snoc : (bs : List Bool) (b : Bool) (n : ℕ) → n ≤ length bs → last_below (bs ++ b ∷ []) n ≡ last_below bs n
last-snoc bs b zero h = refl
last-snoc bs b (suc n) h = ap₂ (λ u o. change_if u (Some n) o) (get_or_append_left bs (b ∷ []) false n (omega arith)) (last-snoc bs b n (omega arith))

pub last-push : (bs : List Bool) (b : Bool) → last_below (bs ++ b ∷ []) (length (bs ++ b ∷ [])) ≡ change_if b (Some (length bs)) (last_below bs (length bs))
last-push bs b =
    ap (last_below (bs ++ b ∷ [])) (length-push bs b)
    ∙ ap₂ (λ u o. change_if u (Some (length bs)) o) (get_or_at bs b [] false (length bs) refl) (last-snoc bs b (length bs) (omega arith))

pub first-snoc : (k : ℕ) (bs : List Bool) (b : Bool) → first_from k (bs ++ b ∷ []) ≡ or_else (first_from k bs) (change_if b (Some (k + length bs)) None)
first-snoc k [] b = ap (λ n. change_if b (Some n) None) (omega arith)
first-snoc k (true ∷ bs) b = refl
first-snoc k (false ∷ bs) b = first-snoc (suc k) bs b ∙ ap (λ n. or_else (first_from (suc k) bs) (change_if b (Some n) None)) (omega arith)

abbrev pub NoneBelow : List Bool → ℕ → Type 0
NoneBelow bs n = (i : ℕ) → i < n → get_or bs i false ≡ false

pub record LastIs (bs : List Bool) (n l : ℕ) : Type 0 where
  pub within : l < n
  pub here : get_or bs l false ≡ true
  pub above : (i : ℕ) → l < i → i < n → get_or bs i false ≡ false

pub cases : (k m : ℕ) → (k < m) ⊎ ((k ≡ m) ⊎ (m < k))
cases k m = grind arith

pub last-none : (bs : List Bool) (n : ℕ) → last_below bs n ≡ None → NoneBelow bs n
last-none bs zero e = λ i l. absurd (omega arith)
last-none bs (suc n) e = by-mark (get_or bs n false) refl e (λ e. last-none bs n e)
  where
    by-mark : (v : Bool) → get_or bs n false ≡ v → change_if v (Some n) (last_below bs n) ≡ None → (last_below bs n ≡ None → NoneBelow bs n) → NoneBelow bs (suc n)
    by-mark true g e next i l = absurd (cc)
    by-mark false g e next i l = elim (cases i n) [ inl lt ↦ next e i lt | inr o ↦ elim o [ inl q ↦ subst (λ m. get_or bs m false ≡ false) (sym q) g | inr gt ↦ absurd (omega arith) ] ]

some-same : {a b : ℕ} → Some a ≡ Some b → a ≡ b
some-same e = cc

pub last-some : (bs : List Bool) (n l : ℕ) → last_below bs n ≡ Some l → LastIs bs n l
last-some bs zero l e = absurd (cc)
last-some bs (suc n) l e = by-mark (get_or bs n false) refl e (λ e. last-some bs n l e)
  where
    by-mark : (v : Bool) → get_or bs n false ≡ v → change_if v (Some n) (last_below bs n) ≡ Some l → (last_below bs n ≡ Some l → LastIs bs n l) → LastIs bs (suc n) l
    by-mark true g e next = let q : n ≡ l = some-same e in subst (LastIs bs (suc n)) q (record { within = omega arith; here = g; above = λ i a b. absurd (omega arith) })
    by-mark false g e next =
        let p = next e in
        record {
          within = omega (arith, p.within);
          here = p.here;
          above = λ i a b. elim (cases i n) [ inl lt ↦ p.above i a lt | inr o ↦ elim o [ inl q ↦ subst (λ m. get_or bs m false ≡ false) (sym q) g | inr gt ↦ absurd (omega arith) ] ];
        }

pub first-none : (k : ℕ) (bs : List Bool) → NoneBelow bs (length bs) → first_from k bs ≡ None
first-none k [] h = refl
first-none k (b ∷ bs) h = ap (λ v. change_if v (Some k) (first_from (suc k) bs)) (h 0 (omega arith)) ∙ first-none (suc k) bs (λ i l. h (suc i) (omega arith))

pub none-first : (k : ℕ) (bs : List Bool) → first_from k bs ≡ None → NoneBelow bs (length bs)
none-first k [] e i l = absurd (omega arith)
none-first k (true ∷ bs) e i l = absurd (cc)
none-first k (false ∷ bs) e zero l = refl
none-first k (false ∷ bs) e (suc i) l = none-first (suc k) bs e i (omega arith)

-- a mark is found where there is one, so one more changes nothing
pub first-kept : (k : ℕ) (bs : List Bool) (i : ℕ) (o : Option ℕ) → get_or bs i false ≡ true → or_else (first_from k bs) o ≡ first_from k bs
first-kept k [] i o e = absurd (cc)
first-kept k (true ∷ bs) i o e = refl
first-kept k (false ∷ bs) zero o e = absurd (cc)
first-kept k (false ∷ bs) (suc i) o e = first-kept (suc k) bs i o e

pub get-drop : (k : ℕ) (bs : List Bool) (i : ℕ) → get_or (drop k bs) i false ≡ get_or bs (k + i) false
get-drop zero bs i = let e : i ≡ 0 + i = omega arith in ap (λ n. get_or bs n false) e
get-drop (suc k) [] i = refl
get-drop (suc k) (b ∷ bs) i = let e : suc (k + i) ≡ suc k + i = omega arith in get-drop k bs i ∙ ap (λ n. get_or (b ∷ bs) n false) e

pub drop-whole : (bs : List Bool) (k : ℕ) → length bs ≤ k → drop k bs ≡ []
drop-whole [] zero h = refl
drop-whole [] (suc k) h = refl
drop-whole (b ∷ bs) zero h = absurd (omega arith)
drop-whole (b ∷ bs) (suc k) h = drop-whole bs k (omega arith)

pub or-nothing : (o : Option ℕ) → or_else o None ≡ o
or-nothing None = refl
or-nothing (Some n) = refl

-- the marks from k on begin with that of k
pub drop-mark : (bs : List Bool) (k : ℕ) → k < length bs → first_from k (drop k bs) ≡ change_if (get_or bs k false) (Some k) (first_from (suc k) (drop (suc k) bs))
drop-mark bs k l = ap (first_from k) (drop-cons bs k false l)
