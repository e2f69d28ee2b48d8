-- Lists: their first and last elements, and what holds of all.
use Rattle.std.proofs.Common.{◌≡◌, ◌⊎◌, inl, inr, All, List, [], ◌∷◌, ◌++◌, refl, sym, ap, ◌∙◌}
use Rattle.std.proofs.lemmas.List.Elements.{All-nil, All-cons, All-head, All-tail}

module _ {A : Type 0} where
  pub heads : (x y : A) (xs ys : List A) → x ∷ xs ≡ y ∷ ys → (x ≡ y) × (xs ≡ ys)
  heads x y xs ys is = (cc, cc)

  no-cons : (x : A) (xs : List A) → ◌≡◌ {A = List A} (x ∷ xs) [] → ⊥
  no-cons x xs is = cc

  none-behind : (xs ys : List A) → xs ++ ys ≡ [] → ys ≡ []
  none-behind [] ys is = is
  none-behind (x ∷ xs) ys is = absurd (no-cons x (xs ++ ys) is)

  -- a list in two parts whose last element is known
  pub part-last : (front later before : List A) (z : A) → front ++ later ≡ before ++ z ∷ [] → (later ≡ []) ⊎ ((us : List A) × (before ≡ front ++ us) × (later ≡ us ++ z ∷ []))
  part-last [] later before z is = inr (before, refl, is)
  part-last (x ∷ xs) later [] z is = inl (none-behind xs later (heads x z (xs ++ later) [] is).1)
  part-last (x ∷ xs) later (y ∷ ys) z is = let same = heads x y (xs ++ later) (ys ++ z ∷ []) is in go same.0 (part-last xs later ys z same.1)
    where
      go : x ≡ y → ((later ≡ []) ⊎ ((us : List A) × (ys ≡ xs ++ us) × (later ≡ us ++ z ∷ []))) → (later ≡ []) ⊎ ((us : List A) × (y ∷ ys ≡ x ∷ (xs ++ us)) × (later ≡ us ++ z ∷ []))
      go same (inl none) = inl none
      go same (inr some) = inr (some.0, ap (λ a. a ∷ ys) (sym same) ∙ ap (λ l. x ∷ l) some.1, some.2)

  pub last-same : (xs ys : List A) (a b : A) → xs ++ a ∷ [] ≡ ys ++ b ∷ [] → a ≡ b
  last-same xs ys a b is = go (part-last xs (a ∷ []) ys b is)
    where
      one : (us : List A) → a ∷ [] ≡ us ++ b ∷ [] → a ≡ b
      one [] is = (heads a b [] [] is).0
      one (u ∷ us) is = absurd (no-cons b [] (none-behind us (b ∷ []) (sym (heads a u [] (us ++ b ∷ []) is).1)))

      go : ((a ∷ [] ≡ []) ⊎ ((us : List A) × (ys ≡ xs ++ us) × (a ∷ [] ≡ us ++ b ∷ []))) → a ≡ b
      go (inl none) = absurd (no-cons a [] none)
      go (inr some) = one some.0 some.2

  pub all-more : (P Q : A → Type 0) (xs : List A) → ((x : A) → P x → Q x) → All P xs → All Q xs
  all-more P Q xs more all k d lt = more _ (all k d lt)

  -- each element where the list is parted
  pub all-parts : (P : A → Type 0) (l : List A) → ((xs ys : List A) (x : A) → l ≡ xs ++ x ∷ ys → P x) → All P l
  all-parts P [] h = All-nil P
  all-parts P (y ∷ l) h = All-cons P y l (h [] l y refl) (all-parts P l (λ xs ys x is. h (y ∷ xs) ys x (ap (λ l. y ∷ l) is)))

  pub all-front : (P : A → Type 0) (xs ys : List A) → All P (xs ++ ys) → All P xs
  all-front P [] ys all = All-nil P
  all-front P (x ∷ xs) ys all = All-cons P x xs (All-head P x (xs ++ ys) all) (all-front P xs ys (All-tail P x (xs ++ ys) all))

  pub all-at : (P : A → Type 0) (xs : List A) (y : A) (ys : List A) → All P (xs ++ y ∷ ys) → P y
  all-at P [] y ys all = All-head P y ys all
  all-at P (x ∷ xs) y ys all = all-at P xs y ys (All-tail P x (xs ++ y ∷ ys) all)
