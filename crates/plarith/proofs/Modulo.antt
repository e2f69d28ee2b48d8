-- What remains of a division that rounds down, by what remains of one that rounds toward zero.
use Rattle.std.proofs.Common.{◌≡◌, ℕ, zero, suc, ◌/◌, ◌%◌, ◌^◌, ◌<◌, ◌≤◌, ◌⊎◌, inl, inr, ℤ, pos, negsuc, ◌+ℤ◌, neg_ℤ, true, false, cond, int_rem, FitsSigned, w64, refl, sym, ap, ◌∙◌, arith}
use Rattle.std.proofs.lemmas.Int.{ints}
use Rattle.std.proofs.lemmas.Nat.{div-add-mod', mod-mul-add, mod_below}
use Rattle.std.proofs.lemmas.Bool.{cases_lt, lt-ltb, le-ltb, false≢true}
use lib.IntN.{sub_ℕ}
use Rattle.std.specs.Prelude.{unsigned_abs}
use Rattle.plarith.specs.Integers.{modulo, is_apart}

-- the next number leaves nothing, or one more
mod_next : (a d : ℕ) → 0 < d → ((suc a % d ≡ 0) × (suc (a % d) ≡ d)) ⊎ (suc a % d ≡ suc (a % d))
mod_next a d some =
    elim (cases_lt (suc (a % d)) d) [
      | inl below ↦ inr (ap (λ n. n % d) (omega (arith, div-add-mod' a d)) ∙ mod-mul-add (a / d) d (suc (a % d)) below)
      | inr above ↦ let whole : suc (a % d) ≡ d = omega (arith, mod_below a d some) in inl (ap (λ n. n % d) (omega (arith, div-add-mod' a d, whole)) ∙ mod-mul-add (suc (a / d)) d 0 some, whole)
    ]

nothing_left : (b : ℕ) → 0 % suc b ≡ 0
nothing_left b = ap (λ n. n % suc b) (omega arith) ∙ mod-mul-add 0 (suc b) 0 (omega arith)

-- the remainder with the divisor's sign
abbrev pub adjusted : ℤ → ℤ → ℤ
adjusted r y = cond (is_apart r y) (r +ℤ y) r

above_above : (r d : ℕ) → adjusted (pos r) (pos d) ≡ pos r
above_above zero d = refl
above_above (suc r) d = refl

below_below : (r b : ℕ) → adjusted (neg_ℤ (pos r)) (negsuc b) ≡ neg_ℤ (pos r)
below_below zero b = refl
below_below (suc r) b = refl

pub modulo_is : (x y : ℤ) → 0 < unsigned_abs y → modulo x y ≡ adjusted (int_rem x y) y
modulo_is (pos a) (pos d) some = omega (arith, ints, div-add-mod' a d) ∙ sym (above_above (a % d) d)
modulo_is (negsuc a) (pos d) some =
    elim (mod_next a d some) [
      | inl w ↦ omega (arith, ints, div-add-mod' a d, w.1) ∙ sym (ap (λ n. adjusted (neg_ℤ (pos n)) (pos d)) w.0)
      | inr e ↦ omega (arith, ints, div-add-mod' a d) ∙ sym (ap (λ n. adjusted (neg_ℤ (pos n)) (pos d)) e)
    ]
modulo_is (pos zero) (negsuc b) some = omega (arith, ints) ∙ sym (ap (λ n. adjusted (pos n) (negsuc b)) (nothing_left b))
modulo_is (pos (suc a)) (negsuc b) some =
    elim (mod_next a (suc b) some) [
      | inl w ↦ omega (arith, ints, div-add-mod' a (suc b), w.1) ∙ sym (ap (λ n. adjusted (pos n) (negsuc b)) w.0)
      | inr e ↦ omega (arith, ints, div-add-mod' a (suc b)) ∙ sym (ap (λ n. adjusted (pos n) (negsuc b)) e)
    ]
modulo_is (negsuc a) (negsuc b) some = omega (arith, ints, div-add-mod' (suc a) (suc b)) ∙ sym (below_below (suc a % suc b) b)

pub modulo_apart : (x y r : ℤ) → 0 < unsigned_abs y → r ≡ int_rem x y → is_apart r y ≡ true → modulo x y ≡ r +ℤ y
modulo_apart x y r some is apart = modulo_is x y some ∙ ap (λ s. adjusted s y) (sym is) ∙ ap (λ b. cond b (r +ℤ y) r) apart

pub modulo_alike : (x y r : ℤ) → 0 < unsigned_abs y → r ≡ int_rem x y → is_apart r y ≡ false → modulo x y ≡ r
modulo_alike x y r some is alike = modulo_is x y some ∙ ap (λ s. adjusted s y) (sym is) ∙ ap (λ b. cond b (r +ℤ y) r) alike

sub_fits : (a b : ℕ) → a ≤ 2 ^ 63 → b ≤ 2 ^ 63 → 0 < b → a < 2 ^ 63 → FitsSigned w64 (sub_ℕ a b)
sub_fits a b most_a most_b some less =
    elim (cases_lt a b) [
      | inl lt ↦ rw (lt-ltb a b lt) (record { sfits = omega arith })
      | inr le ↦ rw (le-ltb a b le) (record { sfits = omega arith })
    ]

pub apart_fits : (r y : ℤ) → FitsSigned w64 r → FitsSigned w64 y → is_apart r y ≡ true → FitsSigned w64 (r +ℤ y)
apart_fits (pos zero) y f g e = absurd (false≢true e)
apart_fits (pos (suc m)) (pos n) f g e = absurd (false≢true e)
apart_fits (pos (suc m)) (negsuc n) f g e = sub_fits (suc m) (suc n) (omega (arith, f.sfits)) (omega (arith, g.sfits)) (omega arith) f.sfits
apart_fits (negsuc m) (pos n) f g e = sub_fits n (suc m) (omega (arith, g.sfits)) (omega (arith, f.sfits)) (omega arith) g.sfits
apart_fits (negsuc m) (negsuc n) f g e = absurd (false≢true e)
