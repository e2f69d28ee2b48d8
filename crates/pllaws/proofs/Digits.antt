-- A number begins with a digit.
use Rattle.std.proofs.Common.{◌≡◌, ◌==◌, ◌/◌, ◌%◌, ℕ, zero, suc, true, false, List, [], ◌∷◌, decimal, arith, refl}
use Rattle.std.specs.Char.{is_ascii_digit}
use Rattle.std.specs.Fmt.{digit_glyph, digits_onto, digits}
use Rattle.std.proofs.lemmas.Bool.{cond_both, agree_below_at}
use Rattle.plwrite.specs.Words.{first_byte}

glyph_digit : (n : ℕ) → is_ascii_digit (digit_glyph false (n % 10)) ≡ true
glyph_digit n = agree_below_at (λ d. is_ascii_digit (digit_glyph false d)) (λ d. true) 10 (n % 10) refl (omega arith)

digits_first : (k n d : ℕ) (bytes : List ℕ) → is_ascii_digit d ≡ true → is_ascii_digit (first_byte (digits_onto k 10 false n (d ∷ bytes))) ≡ true
digits_first zero n d bytes h = h
digits_first (suc k) n d bytes h =
    cond_both (n / 10 == 0) _ _ (λ l. is_ascii_digit (first_byte l) ≡ true) (λ e. glyph_digit n) (λ e. digits_first k (n / 10) (digit_glyph false (n % 10)) (d ∷ bytes) (glyph_digit n))

some_digits_first : (k n : ℕ) → is_ascii_digit (first_byte (digits_onto (suc k) 10 false n [])) ≡ true
some_digits_first k n =
    cond_both (n / 10 == 0) _ _ (λ l. is_ascii_digit (first_byte l) ≡ true) (λ e. glyph_digit n) (λ e. digits_first k (n / 10) (digit_glyph false (n % 10)) [] (glyph_digit n))

pub first_digit : (n : ℕ) → is_ascii_digit (first_byte (decimal n)) ≡ true
unfolding digits
first_digit n = some_digits_first 63 n
