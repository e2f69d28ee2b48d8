-- The decimal text of a number is read as the number.
use Rattle.std.proofs.Common.{◌≡◌, ℕ, zero, suc, ◌<◌, ◌≤◌, ◌+◌, ◌*◌, ◌/◌, ◌%◌, ◌^◌, true, false, ◌||◌, ◌==◌, leb, List, [], ◌∷◌, ◌++◌, length, drop, None, refl, sym, ap, ◌∙◌, arith, append_assoc}
use Rattle.std.specs.Prelude.{decimal}
use Rattle.std.specs.List.{list_all}
use Rattle.std.specs.Char.{is_ascii_lowercase, is_ascii_uppercase, digit_value}
use Rattle.std.proofs.lemmas.Bool.{cond-true, cond-false, le-leb, lt-ltb, and_parts, and_from, ne_eqb}
use Rattle.std.proofs.lemmas.Bool.Decides.{nat_tests}
use Rattle.std.proofs.lemmas.Fmt.{decimal_by_steps}
use Rattle.std.proofs.lemmas.List.Folds.{list_all-append}
use Rattle.std.proofs.lemmas.Str.{digit_value_digit}
use Rattle.pllex.specs.declared.token.Base.TheVariants.{Decimal}
use Rattle.pllex.specs.declared.token.Class.TheVariants.{Alphanumeric, Digit}
use Rattle.pllex.specs.declared.token.Kind.TheVariants as kinds
use Rattle.pllex.specs.declared.layout.After.TheVariants.{Ends}
use Rattle.pllex.specs.Characters.{begins_with}
use Rattle.pllex.specs.Classes.{in_class, is_digit}
use Rattle.pllex.specs.Tokens.{run_end, begins_in, between, value, is_fraction, in_range, integer, zero_number, number, base_of, after_letter, token, item_of, next_item}
use Rattle.pllex.specs.Tokens as lex
use Rattle.pllaws.proofs.Items.{run_over, next_here, past}

value-cons : (n b : ℕ) (bytes : List ℕ) → is_digit Decimal b ≡ true → value Decimal n (b ∷ bytes) ≡ value Decimal (10 * n + digit_value b) bytes
unfolding value
value-cons n b bytes e = cond-true (is_digit Decimal b) _ _ e

value_stays : (n : ℕ) (rest : List ℕ) → begins_in (Digit Decimal) rest ≡ false → value Decimal n rest ≡ n
unfolding value
value_stays n [] e = refl
value_stays n (b ∷ rest) e = cond-false (is_digit Decimal b) _ _ e

digit_of : (d : ℕ) → d < 10 → digit_value (48 + d) ≡ d
digit_of d h = let e = digit_value_digit (48 + d) (omega arith, omega arith) in omega arith

is_digit_of : (d : ℕ) → d < 10 → is_digit Decimal (48 + d) ≡ true
is_digit_of d h = lt-ltb (digit_value (48 + d)) 10 (omega (arith, digit_of d h))

-- bytes that are digits of a number, the first one 0 in the number 0 alone
pub record Digits (n : ℕ) (bytes : List ℕ) : Type 0 where
  pub first : ℕ
  pub others : List ℕ
  pub is : bytes ≡ first ∷ others
  pub leads : 0 < n → (first == 48) ≡ false
  pub lone : n ≡ 0 → (first ≡ 48) × (others ≡ [])
  pub are : list_all (is_digit Decimal) bytes ≡ true
  pub value_is : (rest : List ℕ) → value Decimal 0 (bytes ++ rest) ≡ value Decimal n rest

one_digit : (n : ℕ) → n < 10 → Digits n ((48 + n) ∷ [])
one_digit n h = record {
  first = 48 + n;
  others = [];
  is = refl;
  leads = λ some. ne_eqb (48 + n) 48 (λ e. omega arith);
  lone = λ none. (omega arith, refl);
  are = and_from _ _ (is_digit_of n h) refl;
  value_is = λ rest. value-cons 0 (48 + n) rest (is_digit_of n h) ∙ ap (λ m. value Decimal m rest) (omega (arith, digit_of n h));
}

more_digits : (n : ℕ) (bytes : List ℕ) → 10 ≤ n → Digits (n / 10) bytes → Digits n (bytes ++ ((48 + n % 10) ∷ []))
more_digits n bytes h d = record {
  first = d.first;
  others = d.others ++ ((48 + n % 10) ∷ []);
  is = ap (λ l. l ++ ((48 + n % 10) ∷ [])) d.is;
  leads = λ some. d.leads (omega arith);
  lone = λ none. absurd (omega arith);
  are = list_all-append (is_digit Decimal) bytes ((48 + n % 10) ∷ []) ∙ and_from _ _ d.are (and_from _ _ (is_digit_of (n % 10) (omega arith)) refl);
  value_is = λ rest. ap (value Decimal 0) (append_assoc bytes ((48 + n % 10) ∷ []) rest) ∙ d.value_is ((48 + n % 10) ∷ rest) ∙ value-cons (n / 10) (48 + n % 10) rest (is_digit_of (n % 10) (omega arith))
      ∙ ap (λ m. value Decimal m rest) (omega (arith, digit_of (n % 10) (omega arith)));
}

pub decimal_digits : (n : ℕ) → n < 2 ^ 64 → Digits n (decimal n)
decimal_digits n h = decimal_by_steps Digits one_digit more_digits n h

-- ---- the token

-- what stands behind an integer is none of it
pub record EndsNumber (rest : List ℕ) : Type 0 where
  pub alphanumeric : begins_in Alphanumeric rest ≡ false
  pub quote : begins_with 39 rest ≡ false
  pub fraction : is_fraction rest ≡ false

no_digit : (rest : List ℕ) → begins_in Alphanumeric rest ≡ false → begins_in (Digit Decimal) rest ≡ false
no_digit [] e = refl
no_digit (b ∷ rest) e = grind (arith, nat_tests)

no_base : (b : ℕ) → in_class Alphanumeric b ≡ false → base_of b ≡ None
no_base b e = grind (arith, nat_tests)

fits : (n start end : ℕ) → n ≤ 2 ^ 63 → integer (in_range n) start end ≡ token (kinds.Integer n) start end
fits n start end h = ap (λ o. integer o start end) (cond-true (leb n 9223372036854775808) _ _ (le-leb n 9223372036854775808 h))

digits_token : (whole : List ℕ) (place n : ℕ) (bytes rest : List ℕ) → Digits n bytes → n ≤ 2 ^ 63 → drop place whole ≡ bytes ++ rest → EndsNumber rest →
    lex.decimal whole place (bytes ++ rest) ≡ token (kinds.Integer n) place (place + length bytes)
digits_token whole place n bytes rest d h e apart =
    let end : run_end (Digit Decimal) place (bytes ++ rest) ≡ place + length bytes = run_over (Digit Decimal) place bytes rest d.are (no_digit rest apart.alphanumeric) in
    let behind : drop (run_end (Digit Decimal) place (bytes ++ rest)) whole ≡ rest = ap (λ p. drop p whole) end ∙ past whole place bytes rest e in
    let is : value Decimal 0 (bytes ++ rest) ≡ n = d.value_is rest ∙ value_stays n rest (no_digit rest apart.alphanumeric) in
    cond-false _ _ _ (ap is_fraction behind ∙ apart.fraction) ∙ ap (λ m. integer (in_range m) place (run_end (Digit Decimal) place (bytes ++ rest))) is ∙ ap (integer (in_range n) place) end ∙ fits n place (place + length bytes) h

zero_token : (whole : List ℕ) (place : ℕ) (rest : List ℕ) → drop place whole ≡ 48 ∷ rest → EndsNumber rest → zero_number whole place rest ≡ lex.decimal whole place (48 ∷ rest)
zero_token whole place [] e apart = refl
zero_token whole place (b ∷ rest) e apart =
    cond-false (b == 39) _ _ apart.quote ∙ ap (after_letter whole place (48 ∷ b ∷ rest) rest) (no_base b apart.alphanumeric)

number_token : (whole : List ℕ) (place n : ℕ) (bytes rest : List ℕ) (d : Digits n bytes) → drop place whole ≡ bytes ++ rest → EndsNumber rest → number whole place d.first (d.others ++ rest) ≡ lex.decimal whole place (bytes ++ rest)
number_token whole place zero bytes rest d e apart =
    let l = d.lone refl in
    let same : bytes ≡ 48 ∷ [] = cc in
    cond-true (d.first == 48) _ _ (ap (λ b. b == 48) l.0) ∙ ap (λ l. zero_number whole place (l ++ rest)) l.1 ∙ zero_token whole place rest (e ∙ ap (λ l. l ++ rest) same) apart ∙ ap (λ l. lex.decimal whole place (l ++ rest)) (sym same)
number_token whole place (suc n) bytes rest d e apart = cond-false (d.first == 48) _ _ (d.leads (omega arith)) ∙ ap (λ l. lex.decimal whole place (l ++ rest)) (sym d.is)

digit_is : (b : ℕ) → is_digit Decimal b ≡ true → (is_ascii_lowercase b ≡ false) × ((is_ascii_uppercase b || (b == 95)) ≡ false) × (b < 128)
digit_is b e = (grind (arith, nat_tests), grind (arith, nat_tests), grind (arith, nat_tests))

digit_no_gap : (place b : ℕ) (bytes : List ℕ) → is_digit Decimal b ≡ true → between place b bytes ≡ Ends
digit_no_gap place b bytes e = grind (arith, nat_tests)

item_digit : (whole : List ℕ) (place b : ℕ) (bytes : List ℕ) → is_digit Decimal b ≡ true → item_of whole place b bytes ≡ number whole place b bytes
unfolding item_of
item_digit whole place b bytes e = let n = digit_is b e in cond-false _ _ _ n.0 ∙ cond-false _ _ _ n.1 ∙ cond-true _ _ _ e

-- The decimal text of a number is its token, where what stands behind it is none of it.
pub decimal_token : (whole : List ℕ) (place n : ℕ) (rest : List ℕ) → n ≤ 2 ^ 63 → drop place whole ≡ decimal n ++ rest → EndsNumber rest → next_item whole place ≡ token (kinds.Integer n) place (place + length (decimal n))
decimal_token whole place n rest h e apart =
    let d = decimal_digits n (omega arith) in
    let are : list_all (is_digit Decimal) (d.first ∷ d.others) ≡ true = ap (list_all (is_digit Decimal)) (sym d.is) ∙ d.are in
    let digit = (and_parts (is_digit Decimal d.first) _ are).0 in
    let here : drop place whole ≡ d.first ∷ (d.others ++ rest) = e ∙ ap (λ l. l ++ rest) d.is in
    next_here whole place d.first (d.others ++ rest) here (digit_is d.first digit).2 (digit_no_gap place d.first (d.others ++ rest) digit)
    ∙ item_digit whole place d.first (d.others ++ rest) digit ∙ number_token whole place n (decimal n) rest d e apart ∙ digits_token whole place n (decimal n) rest d h e apart
