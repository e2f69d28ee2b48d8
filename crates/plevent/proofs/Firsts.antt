-- What `position` gives is the first that passes.
use Rattle.std.proofs.Common.{◌≡◌, refl, sym, ◌∙◌, ap, arith, ℕ, suc, zero, ◌<◌, Bool, true, false, List, [], ◌∷◌, Option, Some, None, length, get_or, set, cond, not}
use Rattle.std.specs.Prelude.{MatchOption, nat_lt, ◌≤◌, ◌+◌}
use Rattle.std.specs.List.{position, position_or_len}
use Rattle.std.proofs.lemmas.Bool.Decides.{nat_tests}
use Rattle.std.proofs.lemmas.List.Quantifiers.{position-Some}
use Rattle.plevent.specs.Reading.{changed_first}
use Rattle.plevent.specs.Alive.{change_if}
use Rattle.plevent.specs.First.{NoneFirst, FirstAt}

changed-at : {A : Type 0} (t : A → Bool) (f : A → A) (xs : List A) (i : ℕ) (d : A) → i < length xs → t (get_or xs i d) ≡ true → ((k : ℕ) → k < i → t (get_or xs k d) ≡ false) →
    changed_first t f xs ≡ set xs i (f (get_or xs i d))
changed-at t f [] i d l e h = absurd (omega arith)
changed-at t f (x ∷ xs) zero d l e h = ap (λ v. change_if v (f x ∷ xs) (x ∷ changed_first t f xs)) e
changed-at t f (x ∷ xs) (suc i) d l e h =
    ap (λ v. change_if v (f x ∷ xs) (x ∷ changed_first t f xs)) (h 0 (omega arith))
    ∙ ap (λ l. x ∷ l) (changed-at t f xs i d (omega arith) e (λ k b. h (suc k) (omega arith)))

within-at : (v : Bool) (m n i : ℕ) → nat_lt m n ≡ v → cond v (Some m) None ≡ Some i → i < n
within-at true m n i e h = let k : m ≡ i = cc in let l : m < n = grind (arith, nat_tests) in omega arith
within-at false m n i e h = absurd (cc)

pub first-is : {A : Type 0} (t : A → Bool) (xs : List A) (i : ℕ) → position t xs ≡ Some i → FirstAt t xs i
first-is t xs i e = record {
  within = within-at (nat_lt (position_or_len t xs) (length xs)) (position_or_len t xs) (length xs) i refl e;
  changed = λ f c. let p = position-Some t xs i c e in changed-at t f xs i c p.0 p.1 p.2;
}

unchanged : {A : Type 0} (t : A → Bool) (f : A → A) (xs : List A) → length xs ≤ position_or_len t xs → changed_first t f xs ≡ xs
unchanged t f [] h = refl
unchanged t f (x ∷ xs) h = with-test (t x) refl (λ h. unchanged t f xs h)
  where
    with-test : (v : Bool) → t x ≡ v → (length xs ≤ position_or_len t xs → changed_first t f xs ≡ xs) → changed_first t f (x ∷ xs) ≡ x ∷ xs
    with-test true e next = let z : position_or_len t (x ∷ xs) ≡ 0 = ap (λ v. cond (not v) (1 + position_or_len t xs) 0) e in absurd (omega arith)
    with-test false e next =
        let z : position_or_len t (x ∷ xs) ≡ 1 + position_or_len t xs = ap (λ v. cond (not v) (1 + position_or_len t xs) 0) e in
        ap (λ v. change_if v (f x ∷ xs) (x ∷ changed_first t f xs)) e ∙ ap (λ l. x ∷ l) (next (omega arith))

at-end : (v : Bool) (m n : ℕ) → nat_lt m n ≡ v → cond v (Some m) None ≡ None → n ≤ m
at-end true m n e h = absurd (cc)
at-end false m n e h = grind (arith, nat_tests)

pub none-first : {A : Type 0} (t : A → Bool) (xs : List A) → position t xs ≡ None → NoneFirst t xs
none-first t xs e f = unchanged t f xs (at-end (nat_lt (position_or_len t xs) (length xs)) (position_or_len t xs) (length xs) refl e)

pub placed : {A : Type 0} (t : A → Bool) (xs : List A) (o : Option ℕ) → o ≡ position t xs → MatchOption o (NoneFirst t xs) (λ i. FirstAt t xs i)
placed t xs None e = none-first t xs (sym e)
placed t xs (Some i) e = first-is t xs i (sym e)
