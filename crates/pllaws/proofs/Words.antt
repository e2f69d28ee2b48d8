-- Each word is read as its parts, whatever stands behind it apart from it.
use Rattle.std.proofs.Common.{◌≡◌, ℕ, suc, ◌<◌, ◌≤◌, ◌+◌, ◌/◌, ◌%◌, ◌^◌, ℤ, pos, negsuc, Bool, true, false, cond, ◌&&◌, ◌||◌, ◌==◌, not, List, [], ◌∷◌, ◌++◌, length, inl, inr, refl, sym, ap, subst, ◌∙◌, arith, append-nil}
use Rattle.std.specs.Prelude.{nat_eq, decimal, codes}
use Rattle.std.specs.List.{list_all, starts_with}
use Rattle.std.specs.Fmt.{signed_decimal}
use Rattle.std.specs.Str.{bytes_eq}
use Rattle.std.specs.Char.{is_ascii_lowercase, is_ascii_uppercase}
use Rattle.std.proofs.lemmas.Bool.{cond_both, and_parts, and_from, and_left, and_right, and_cases, or_parts, or_cases, or_from, not-true}
use Rattle.std.proofs.lemmas.Bool.Decides.{nat_tests}
use Rattle.std.proofs.lemmas.Fmt.{length-decimal-le}
use Rattle.plterm.specs.Characters.{is_alphanumeric, is_symbol}
use Rattle.plops.proofs.Names.{named_itself}
use Rattle.pllex.specs.declared.token.Base.TheVariants.{Decimal}
use Rattle.pllex.specs.declared.token.Kind.TheVariants as kinds
use Rattle.pllex.specs.Classes.{is_digit}
use Rattle.pllex.specs.Tokens.{is_fraction}
use Rattle.plwrite.specs.declared.style.Style.{Style}
use Rattle.plwrite.specs.declared.style.Style.TheVariants as styles
use Rattle.plwrite.specs.declared.text.Sign.{Sign}
use Rattle.plwrite.specs.declared.text.Sign.TheVariants as signs
use Rattle.plwrite.specs.Names.{quoted, quoted_unless, name_text, functor_text, is_solo, is_small, is_symbolic, is_bare, is_empty_brackets}
use Rattle.plwrite.specs.Words.{last_byte, is_letter, sign_text, letter_text, digits_unless_zero}
use Rattle.pllaws.specs.Pieces.{Piece, Variable, Letter, Integer, Name, Functor, Prefix, Operator, Punctuation, Part, word, parts, QuotesNames, Fits, IsName, itself, quoted_part, functor_part, name_parts, operator_parts, integer_parts, sign_kind}
use Rattle.pllaws.proofs.Integers.{decimal_digits, EndsNumber}
use Rattle.pllaws.proofs.Parts.{IsToken, AreTokens, text_of_parts, sign_token, cut_token, semicolon_token, small_token, capital_token, symbolic_token, quoted_token, number_token, Behind, behind_letter, and_gives, no_symbols, no_quote, symbol_is, last_byte_all, last_byte-cons, last_byte-quoted}

-- a text that begins with some byte, and with no fraction
pub record Front (text : List ℕ) : Type 0 where
  pub first : ℕ
  pub others : List ℕ
  pub is : text ≡ first ∷ others
  pub whole : (rest : List ℕ) → is_fraction (text ++ rest) ≡ false

-- the text of parts, which are read as their tokens before bytes that stand apart from it
pub record IsRead (text : List ℕ) (ps : List Part) : Type 0 where
  pub front : Front text
  pub is : text ≡ text_of_parts ps
  pub some : 0 < length ps
  pub tokens : (rest : List ℕ) → Behind (last_byte text) rest → AreTokens ps rest

front_by : (b : ℕ) (bytes : List ℕ) → (b == 46) ≡ false → Front (b ∷ bytes)
front_by b bytes e = record { first = b; others = bytes; is = refl; whole = λ rest. and_left (b == 46) _ e }

one_read : (part : Part) → Front part.text → ((rest : List ℕ) → Behind (last_byte part.text) rest → IsToken part rest) → IsRead part.text (part ∷ [])
one_read part front f = record { front = front; is = sym (append-nil part.text); some = omega arith; tokens = λ rest h. (f rest h, tt) }

sign_read : (s : Sign) → IsRead (sign_text s) (itself (sign_kind s) (sign_text s) ∷ [])
sign_read s = one_read (itself (sign_kind s) (sign_text s)) (front s) (λ rest h. sign_token s rest) where
  front : (s : Sign) → Front (sign_text s)
  front signs.Open = front_by 40 [] refl
  front signs.Close = front_by 41 [] refl
  front signs.OpenSquare = front_by 91 [] refl
  front signs.CloseSquare = front_by 93 [] refl
  front signs.OpenCurly = front_by 123 [] refl
  front signs.CloseCurly = front_by 125 [] refl
  front signs.Comma = front_by 44 [] refl
  front signs.Bar = front_by 124 [] refl

-- ---- names without quotes

cut_read : IsRead (codes "!") (itself kinds.Name (codes "!") ∷ [])
cut_read = one_read (itself kinds.Name (codes "!")) (front_by 33 [] refl) (λ rest h. cut_token rest)

semicolon_read : IsRead (codes ";") (itself kinds.Name (codes ";") ∷ [])
semicolon_read = one_read (itself kinds.Name (codes ";")) (front_by 59 [] refl) (λ rest h. semicolon_token rest)

abbrev Bare : List ℕ → Type 0
Bare s = IsRead s (itself kinds.Name s ∷ [])

solo_read : (s : List ℕ) → is_solo s ≡ true → is_empty_brackets s ≡ false → Bare s
solo_read s e f =
    let n = or_parts (bytes_eq s (codes "[]")) (bytes_eq s (codes "{}")) f in
    elim (or_cases (bytes_eq s (codes "[]")) _ e) [
      | inl h ↦ absurd cc
      | inr g ↦ elim (or_cases (bytes_eq s (codes "{}")) _ g) [
        | inl h ↦ absurd cc
        | inr h ↦ elim (or_cases (bytes_eq s (codes "!")) _ h) [ inl i ↦ subst Bare (sym (named_itself s (codes "!") i)) cut_read | inr i ↦ subst Bare (sym (named_itself s (codes ";") i)) semicolon_read ]
      ]
    ]

lower_is : (b : ℕ) → is_ascii_lowercase b ≡ true → (is_alphanumeric b ≡ true) × ((b == 46) ≡ false)
lower_is b e = (grind (arith, nat_tests), grind (arith, nat_tests))

small_read : (s : List ℕ) → is_small s ≡ true → length s ≤ 65535 → Bare s
small_read [] e few = absurd cc
small_read (b ∷ bytes) e few =
    let p = and_parts (is_ascii_lowercase b) (list_all is_alphanumeric bytes) e in
    let all : list_all is_alphanumeric (b ∷ bytes) ≡ true = and_from (is_alphanumeric b) _ (lower_is b p.0).0 p.1 in
    one_read (itself kinds.Name (b ∷ bytes)) (front_by b bytes (lower_is b p.0).1)
    (λ rest h. small_token b bytes rest p.0 p.1 few (behind_letter (last_byte (b ∷ bytes)) rest h (last_byte_all is_alphanumeric b bytes all)).alphanumeric)

-- a full stop stands before a further symbol character
symbol_front : (b : ℕ) (bytes : List ℕ) → list_all is_symbol (b ∷ bytes) ≡ true → bytes_eq (b ∷ bytes) (codes ".") ≡ false → Front (b ∷ bytes)
symbol_front b [] all stop = front_by b [] (elim (and_cases (b == 46) true stop) [ inl f ↦ f | inr f ↦ absurd (cc) ])
symbol_front b (c ∷ bytes) all stop =
    let p = and_parts (is_symbol b) (list_all is_symbol (c ∷ bytes)) all in
    let q = and_parts (is_symbol c) (list_all is_symbol bytes) p.1 in
    record { first = b; others = c ∷ bytes; is = refl; whole = λ rest. and_right (b == 46) _ (symbol_is c q.0).2 }

symbolic_read : (s : List ℕ) → is_symbolic s ≡ true → length s ≤ 65535 → Bare s
symbolic_read [] e few = absurd cc
symbolic_read (b ∷ bytes) e few =
    let p = and_parts (list_all is_symbol (b ∷ bytes) && not (length (b ∷ bytes) == 0)) (not (bytes_eq (b ∷ bytes) (codes ".")) && not (starts_with nat_eq (b ∷ bytes) (codes "/*"))) e in
    let all = (and_parts (list_all is_symbol (b ∷ bytes)) _ p.0).0 in
    let q = and_parts (not (bytes_eq (b ∷ bytes) (codes "."))) _ p.1 in
    let stop = not-true (bytes_eq (b ∷ bytes) (codes ".")) q.0 in
    let comment = not-true (starts_with nat_eq (b ∷ bytes) (codes "/*")) q.1 in
    one_read (itself kinds.Name (b ∷ bytes)) (symbol_front b bytes all stop)
    (λ rest h. symbolic_token b bytes rest all stop comment few (no_symbols rest (and_gives (is_symbol (last_byte (b ∷ bytes))) _ h.symbol (last_byte_all is_symbol b bytes all))))

bare_read : (s : List ℕ) → is_bare s ≡ true → is_empty_brackets s ≡ false → length s ≤ 65535 → Bare s
bare_read s e f few = elim (or_cases (is_solo s) _ e) [
  | inl h ↦ solo_read s h f
  | inr h ↦ elim (or_cases (is_small s) (is_symbolic s) h) [ inl i ↦ small_read s i few | inr i ↦ symbolic_read s i few ]
]

-- ---- names

quoted_read : (s : List ℕ) → IsName s → IsRead (quoted s) (quoted_part s ∷ [])
quoted_read s n = one_read (quoted_part s) (front_by 39 _ refl)
    (λ rest h. quoted_token s rest n (no_quote rest (and_gives (is_letter (last_byte (quoted s)) || (last_byte (quoted s) == 39)) _ h.quote (ap (λ b. is_letter b || (b == 39)) (last_byte-quoted s)))))

named_read : (s : List ℕ) (b : Bool) → IsName s → (b ≡ true → (is_bare s ≡ true) × (is_empty_brackets s ≡ false)) → IsRead (quoted_unless b s) (cond b (itself kinds.Name s) (quoted_part s) ∷ [])
named_read s true n f = bare_read s (f refl).0 (f refl).1 n.few
named_read s false n f = quoted_read s n

two_signs : (a b : Sign) (x y : ℕ) → sign_text a ≡ x ∷ [] → sign_text b ≡ y ∷ [] → (x == 46) ≡ false → IsRead (x ∷ y ∷ []) (itself (sign_kind a) (sign_text a) ∷ itself (sign_kind b) (sign_text b) ∷ [])
two_signs a b x y e f g = record {
  front = front_by x (y ∷ []) g;
  is = sym (ap (λ l. l ++ (sign_text b ++ [])) e ∙ ap (λ l. x ∷ (l ++ [])) f);
  some = omega arith;
  tokens = λ rest h. (sign_token a _, (sign_token b _, tt));
}

named_as : (s t : List ℕ) (ps : List Part) → s ≡ t → IsRead (quoted_unless (is_bare t) t) ps → IsRead (quoted_unless (is_bare s) s) ps
named_as s t ps e h = subst (λ z. IsRead (quoted_unless (is_bare z) z) ps) (sym e) h

name_read : (s : List ℕ) → IsName s → IsRead (quoted_unless (is_bare s) s) (name_parts s)
name_read s n =
    let P : List Part → Type 0 = λ ps. IsRead (quoted_unless (is_bare s) s) ps in
    cond_both (bytes_eq s (codes "[]")) _ _ P
    (λ t. named_as s (codes "[]") _ (named_itself s (codes "[]") t) (two_signs signs.OpenSquare signs.CloseSquare 91 93 refl refl refl))
    (λ f. cond_both (bytes_eq s (codes "{}")) _ _ P
    (λ t. named_as s (codes "{}") _ (named_itself s (codes "{}") t) (two_signs signs.OpenCurly signs.CloseCurly 123 125 refl refl refl))
    (λ g. named_read s (is_bare s) n (λ e. (e, or_from (bytes_eq s (codes "[]")) (bytes_eq s (codes "{}")) f g))))

functor_read : (s : List ℕ) → IsName s → IsRead (quoted_unless (is_bare s && not (is_empty_brackets s)) s) (functor_part s ∷ [])
functor_read s n = named_read s (is_bare s && not (is_empty_brackets s)) n (λ e. let p = and_parts (is_bare s) (not (is_empty_brackets s)) e in (p.0, not-true (is_empty_brackets s) p.1))

operator_read : (s : List ℕ) → IsName s → IsRead (cond (bytes_eq s (codes ",")) (codes ",") (quoted_unless (is_bare s) s)) (operator_parts s)
operator_read s n = both (bytes_eq s (codes ",")) (sign_read signs.Comma) (name_read s n) where
  both : {a b : List ℕ} {x y : List Part} (t : Bool) → IsRead a x → IsRead b y → IsRead (cond t a b) (cond t x y)
  both true f g = f
  both false f g = g

-- ---- numbers and variables

digit_alphanumeric : (b : ℕ) → is_digit Decimal b ≡ true → (is_alphanumeric b ≡ true) × ((b == 46) ≡ false) × (is_symbol b ≡ false)
digit_alphanumeric b e = (grind (arith, nat_tests), grind (arith, nat_tests), grind (arith, nat_tests))

digits_alphanumeric : (bytes : List ℕ) → list_all (is_digit Decimal) bytes ≡ true → list_all is_alphanumeric bytes ≡ true
digits_alphanumeric [] e = refl
digits_alphanumeric (b ∷ bytes) e = let p = and_parts (is_digit Decimal b) _ e in and_from (is_alphanumeric b) _ (digit_alphanumeric b p.0).0 (digits_alphanumeric bytes p.1)

-- the decimal text of a number begins with a digit and ends with one
record Decimals (n : ℕ) : Type 0 where
  first : ℕ
  others : List ℕ
  is : decimal n ≡ first ∷ others
  digit : is_digit Decimal first ≡ true
  all : list_all is_alphanumeric (first ∷ others) ≡ true
  few : length (decimal n) ≤ 20

decimals : (n : ℕ) → n < 2 ^ 64 → Decimals n
decimals n h =
    let d = decimal_digits n h in
    let are : list_all (is_digit Decimal) (d.first ∷ d.others) ≡ true = ap (list_all (is_digit Decimal)) (sym d.is) ∙ d.are in
    record {
      first = d.first;
      others = d.others;
      is = d.is;
      digit = (and_parts (is_digit Decimal d.first) _ are).0;
      all = digits_alphanumeric (d.first ∷ d.others) are;
      few = length-decimal-le 20 n (omega arith) (omega arith) h;
    }

-- behind a text that ends with the digits of a number
behind_number : (n : ℕ) (rest : List ℕ) → n < 2 ^ 64 → Behind (last_byte (decimal n)) rest → EndsNumber rest
behind_number n rest h b =
    let d = decimals n h in
    behind_letter (last_byte (decimal n)) rest b (ap (λ l. is_alphanumeric (last_byte l)) d.is ∙ last_byte_all is_alphanumeric d.first d.others d.all)

digits_front : (n : ℕ) → n < 2 ^ 64 → Front (decimal n)
digits_front n h = let d = decimals n h in subst Front (sym d.is) (front_by d.first d.others (digit_alphanumeric d.first d.digit).1)

number_read : (n : ℕ) → n ≤ 2 ^ 63 → IsRead (decimal n) (itself (kinds.Integer n) (decimal n) ∷ [])
number_read n h = one_read (itself (kinds.Integer n) (decimal n)) (digits_front n (omega arith)) (λ rest b. number_token n rest h (behind_number n rest (omega arith) b))

-- the sign of a negative integer is a name before its digits
minus_token : (n : ℕ) (rest : List ℕ) → n < 2 ^ 64 → IsToken (itself kinds.Name (codes "-")) ((decimal n ++ []) ++ rest)
minus_token n rest h =
    let d = decimals n h in
    let digits : (decimal n ++ []) ++ rest ≡ d.first ∷ (d.others ++ rest) = ap (λ l. l ++ rest) (append-nil (decimal n) ∙ d.is) in
    subst (IsToken (itself kinds.Name (codes "-"))) (sym digits) (symbolic_token 45 [] (d.first ∷ (d.others ++ rest)) refl refl refl (omega arith) (digit_alphanumeric d.first d.digit).2)

last_byte-minus : (n : ℕ) → n < 2 ^ 64 → last_byte (45 ∷ decimal n) ≡ last_byte (decimal n)
last_byte-minus n h = let d = decimals n h in ap (λ l. last_byte (45 ∷ l)) d.is ∙ last_byte-cons 45 d.first d.others ∙ ap last_byte (sym d.is)

negative_read : (n : ℕ) → n ≤ 2 ^ 63 → IsRead (45 ∷ decimal n) (itself kinds.Name (codes "-") ∷ itself (kinds.Integer n) (decimal n) ∷ [])
negative_read n h = record {
  front = front_by 45 (decimal n) refl;
  is = ap (λ l. 45 ∷ l) (sym (append-nil (decimal n)));
  some = omega arith;
  tokens = λ rest b. (minus_token n rest (omega arith), (number_token n rest h (behind_number n rest (omega arith) (subst (λ k. Behind k rest) (last_byte-minus n (omega arith)) b)), tt));
}

integer_read : (i : ℤ) → Fits (Integer i) → IsRead (signed_decimal i) (integer_parts i)
integer_read (pos n) h = number_read n h
integer_read (negsuc n) h = negative_read (suc n) (omega arith)

capital_read : (b : ℕ) (bytes : List ℕ) → (is_ascii_uppercase b || (b == 95)) ≡ true → list_all is_alphanumeric bytes ≡ true → length (b ∷ bytes) ≤ 65535 → IsRead (b ∷ bytes) (itself kinds.Variable (b ∷ bytes) ∷ [])
capital_read b bytes e all few =
    one_read (itself kinds.Variable (b ∷ bytes)) (front_by b bytes (upper_is b e).1)
    (λ rest h. capital_token b bytes rest e all few (behind_letter (last_byte (b ∷ bytes)) rest h (last_byte_all is_alphanumeric b bytes (and_from (is_alphanumeric b) _ (upper_is b e).0 all))).alphanumeric)
  where
    upper_is : (b : ℕ) → (is_ascii_uppercase b || (b == 95)) ≡ true → (is_alphanumeric b ≡ true) × ((b == 46) ≡ false)
    upper_is b e = (grind (arith, nat_tests), grind (arith, nat_tests))

variable_read : (n : ℕ) → n < 2 ^ 64 → IsRead (95 ∷ decimal n) (itself kinds.Variable (95 ∷ decimal n) ∷ [])
variable_read n h =
    let d = decimals n h in
    capital_read 95 (decimal n) refl (ap (list_all is_alphanumeric) d.is ∙ d.all) (omega (arith, d.few))

digits_after_letter : (n : ℕ) → n < 2 ^ 64 → (list_all is_alphanumeric (digits_unless_zero n) ≡ true) × (length (digits_unless_zero n) ≤ 20)
digits_after_letter n h =
    let d = decimals n h in
    cond_both (n == 0) [] (decimal n) (λ l. (list_all is_alphanumeric l ≡ true) × (length l ≤ 20)) (λ t. (refl, omega arith)) (λ f. (ap (list_all is_alphanumeric) d.is ∙ d.all, d.few))

letter_is : (n : ℕ) → n < 26 → (is_ascii_uppercase (65 + n) || ((65 + n) == 95)) ≡ true
letter_is n h = grind (arith, nat_tests)

letter_read : (n : ℕ) → n < 2 ^ 64 → IsRead (letter_text n) (itself kinds.Variable (letter_text n) ∷ [])
letter_read n h =
    let d = digits_after_letter (n / 26) (omega arith) in
    capital_read (65 + n % 26) (digits_unless_zero (n / 26)) (letter_is (n % 26) (omega arith)) d.0 (omega (arith, d.1))

-- ---- words

named_style : (style : Style) → QuotesNames style → (s : List ℕ) → quoted_unless (is_bare s) s ≡ name_text style s
named_style styles.Plain h s = absurd h
named_style styles.Quoted h s = refl
named_style styles.Canonical h s = refl
named_style styles.Listed h s = refl

functor_style : (style : Style) → QuotesNames style → (s : List ℕ) → quoted_unless (is_bare s && not (is_empty_brackets s)) s ≡ functor_text style s
functor_style styles.Plain h s = absurd h
functor_style styles.Quoted h s = refl
functor_style styles.Canonical h s = refl
functor_style styles.Listed h s = refl

-- A word is read as its parts, whatever stands behind it apart from it.
pub word_read : (style : Style) → QuotesNames style → (p : Piece) → Fits p → IsRead (word style p).text (parts p)
word_read style q (Variable n) h = variable_read n h
word_read style q (Letter n) h = letter_read n h
word_read style q (Integer i) h = integer_read i h
word_read style q (Name s) h = subst (λ l. IsRead l (name_parts s)) (named_style style q s) (name_read s h)
word_read style q (Functor s) h = subst (λ l. IsRead l (functor_part s ∷ [])) (functor_style style q s) (functor_read s h)
word_read style q (Prefix s) h = subst (λ l. IsRead l (name_parts s)) (named_style style q s) (name_read s h)
word_read style q (Operator s) h = subst (λ l. IsRead (cond (bytes_eq s (codes ",")) (codes ",") l) (operator_parts s)) (named_style style q s) (operator_read s h)
word_read style q (Punctuation s) h = sign_read s
