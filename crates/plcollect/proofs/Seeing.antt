-- Numbers in two lists, one behind the other.
use Rattle.std.proofs.Common.{◌≡◌, ℕ, zero, suc, ◌+◌, ◌<◌, ◌≤◌, ◌==◌, eqb, not, cond, Bool, true, false, List, [], ◌∷◌, ◌++◌, length, get_or, length-append, refl, sym, ap, ◌∙◌, arith, append_assoc, append-nil}
use Rattle.std.proofs.lemmas.Bool.{cond_both, eqb-true, eqb-false}
use Rattle.plterm.specs.Variables.{place, added}
use Rattle.plterm.proofs.Spellings.{added_new}

-- what is said of places, with one number before the others
joined : (b : Bool) (p q n m : ℕ) → ((p < n → q ≡ p) × (p ≡ n → q ≡ n + m)) → (cond b (1 + p) 0 < suc n → cond b (1 + q) 0 ≡ cond b (1 + p) 0) × (cond b (1 + p) 0 ≡ suc n → cond b (1 + q) 0 ≡ suc n + m)
joined true p q n m h = ((λ lt. let e = h.0 (omega (arith, lt)) in omega (arith, e)), (λ s. let e = h.1 (omega (arith, s)) in omega (arith, e)))
joined false p q n m h = ((λ lt. refl), (λ s. absurd (omega (arith, s))))

place-append : (v : ℕ) (xs ys : List ℕ) → (place v xs < length xs → place v (xs ++ ys) ≡ place v xs) × (place v xs ≡ length xs → place v (xs ++ ys) ≡ length xs + place v ys)
place-append v [] ys = ((λ lt. absurd (omega (arith, lt))), (λ e. omega arith))
place-append v (x ∷ xs) ys = joined (not (x == v)) (place v xs) (place v (xs ++ ys)) (length xs) (place v ys) (place-append v xs ys)

pub place-front : (v : ℕ) (xs ys : List ℕ) → place v xs < length xs → place v (xs ++ ys) ≡ place v xs
place-front v xs ys lt = (place-append v xs ys).0 lt

pub place-back : (v : ℕ) (xs ys : List ℕ) → place v xs ≡ length xs → place v (xs ++ ys) ≡ length xs + place v ys
place-back v xs ys e = (place-append v xs ys).1 e

added-old : (v : ℕ) (seen : List ℕ) → (place v seen ≡ length seen → ⊥) → added seen v ≡ seen
added-old v seen old = cond_both (eqb (place v seen) (length seen)) (seen ++ v ∷ []) seen (λ l. l ≡ seen) (λ b. absurd (old (eqb-true (place v seen) (length seen) b))) (λ b. refl)

pub added-front : (v : ℕ) (xs ys : List ℕ) → place v xs < length xs → added (xs ++ ys) v ≡ xs ++ ys
added-front v xs ys lt = added-old v (xs ++ ys) (λ e. absurd (omega (arith, e, lt, place-front v xs ys lt, length-append xs ys)))

pub added-back : (v : ℕ) (xs ys : List ℕ) → place v xs ≡ length xs → added (xs ++ ys) v ≡ xs ++ added ys v
added-back v xs ys e =
    let at = place-back v xs ys e in
    cond_both (eqb (place v ys) (length ys)) (ys ++ v ∷ []) ys (λ l. added (xs ++ ys) v ≡ xs ++ l)
    (λ b. added_new v (xs ++ ys) (omega (arith, at, eqb-true (place v ys) (length ys) b, length-append xs ys)) ∙ append_assoc xs ys (v ∷ []))
    (λ b. let other = eqb-false (place v ys) (length ys) b in added-old v (xs ++ ys) (λ s. absurd (other (omega (arith, s, at, length-append xs ys)))))

pub added-last : (v : ℕ) (xs ys : List ℕ) → place v xs ≡ length xs → ys ≡ [] → added (xs ++ ys) v ≡ (xs ++ v ∷ []) ++ ys
added-last v xs ys e none = added-back v xs ys e ∙ ap (λ l. xs ++ added l v) none ∙ sym (append-nil (xs ++ v ∷ [])) ∙ ap (λ l. (xs ++ v ∷ []) ++ l) (sym none)

-- ---- one number after another
passes : (b : Bool) (p : ℕ) → (b ≡ true → ⊥) → 1 ≤ cond (not b) (1 + p) 0
passes true p other = absurd (other refl)
passes false p other = omega arith

passes-on : (b : Bool) (p i : ℕ) → suc i ≤ cond (not b) (1 + p) 0 → (i ≤ p → i + 1 ≤ p) → suc i + 1 ≤ cond (not b) (1 + p) 0
passes-on true p i le more = absurd (omega (arith, le))
passes-on false p i le more = omega (arith, more (omega (arith, le)))

stands : (b : Bool) (p : ℕ) → b ≡ true → 0 ≡ cond (not b) (1 + p) 0
stands true p e = refl
stands false p e = absurd cc

stands-on : (b : Bool) (p i : ℕ) → suc i ≤ cond (not b) (1 + p) 0 → (i ≤ p → i ≡ p) → suc i ≡ cond (not b) (1 + p) 0
stands-on true p i le here = absurd (omega (arith, le))
stands-on false p i le here = omega (arith, here (omega (arith, le)))

pub place-on : (v d : ℕ) (xs : List ℕ) (i : ℕ) → i ≤ place v xs → i < length xs → ((get_or xs i d == v) ≡ true → ⊥) → i + 1 ≤ place v xs
place-on v d [] i le lt other = absurd (omega (arith, lt))
place-on v d (x ∷ xs) zero le lt other = passes (x == v) (place v xs) other
place-on v d (x ∷ xs) (suc i) le lt other = passes-on (x == v) (place v xs) i le (λ low. place-on v d xs i low (omega (arith, lt)) other)

pub place-here : (v d : ℕ) (xs : List ℕ) (i : ℕ) → i ≤ place v xs → i < length xs → (get_or xs i d == v) ≡ true → i ≡ place v xs
place-here v d [] i le lt same = absurd (omega (arith, lt))
place-here v d (x ∷ xs) zero le lt same = stands (x == v) (place v xs) same
place-here v d (x ∷ xs) (suc i) le lt same = stands-on (x == v) (place v xs) i le (λ low. place-here v d xs i low (omega (arith, lt)) same)
