-- Each part of a word is read as its token, whatever stands behind the word apart from it.
use Rattle.std.proofs.Common.{◌≡◌, ℕ, suc, ◌<◌, ◌≤◌, ◌+◌, ◌-◌, ◌^◌, Bool, true, false, ◌&&◌, ◌||◌, ◌==◌, List, [], ◌∷◌, ◌++◌, None, length, drop, inl, inr, refl, sym, ap, ◌∙◌, arith, append_assoc, length-append}
use Rattle.std.specs.Prelude.{nat_eq, decimal, codes, slice_get, unwrap_or}
use Rattle.std.specs.List.{list_all, starts_with, flat_map}
use Rattle.std.specs.Str.{bytes_eq}
use Rattle.std.specs.Char.{is_ascii_lowercase, is_ascii_uppercase}
use Rattle.std.proofs.lemmas.Bool.{cond-true, cond-false, and_parts, and_left, and_right, and_cases, or_parts, or_from, or_left, ne_eqb, eqb-false}
use Rattle.std.proofs.lemmas.Bool.Decides.{nat_tests}
use Rattle.plterm.specs.Characters.{is_alphanumeric, is_symbol}
use Rattle.pllex.specs.declared.token.Base.TheVariants.{Decimal}
use Rattle.pllex.specs.declared.token.Class.TheVariants.{Alphanumeric, Symbol}
use Rattle.pllex.specs.declared.token.Kind.{Kind}
use Rattle.pllex.specs.declared.token.Kind.TheVariants as kinds
use Rattle.pllex.specs.declared.token.Token.{Token}
use Rattle.pllex.specs.declared.token.Scanned.TheVariants as items
use Rattle.pllex.specs.declared.quoted.Quote.TheVariants.{Single}
use Rattle.pllex.specs.declared.layout.After.TheVariants.{Ends}
use Rattle.pllex.specs.declared.quoted.Within.TheVariants.{Inside}
use Rattle.pllex.specs.Quoted as lex
use Rattle.pllex.specs.Characters.{begins_with}
use Rattle.pllex.specs.Classes.{is_digit, is_layout}
use Rattle.pllex.specs.Named.{bytes_of, value_as, value_of}
use Rattle.pllex.specs.Tokens.{run_end, begins_in, between, is_fraction, ends_here, punctuation, marked, named, symbols, token, of_quoted, item_of, next_item, is_end}
use Rattle.plwrite.specs.declared.text.Edge.{Edge}
use Rattle.plwrite.specs.declared.text.Sign.{Sign}
use Rattle.plwrite.specs.declared.text.Sign.TheVariants as signs
use Rattle.plwrite.specs.Names.{escaped, quoted}
use Rattle.plwrite.specs.Words.{first_byte, last_byte, is_letter, sign_text}
use Rattle.pllaws.specs.Pieces.{Part, itself, quoted_part, sign_kind, IsName}
use Rattle.pllaws.specs.Read.{Clear}
use Rattle.pllaws.proofs.Quoted.{quoted_closes, quoted_tells}
use Rattle.pllaws.proofs.Items.{run_token, next_here, bytes_at, past}
use Rattle.pllaws.proofs.Integers.{EndsNumber, decimal_token}

-- ---- tokens before the bytes that stand behind them

abbrev pub placed : Part → ℕ → Token
placed part place = record { kind = part.kind; start = place; end = place + length part.text }

-- wherever a part stands before these bytes, it is the next token
pub record IsToken (part : Part) (rest : List ℕ) : Type 0 where
  pub next : (whole : List ℕ) (place : ℕ) → drop place whole ≡ part.text ++ rest → next_item whole place ≡ items.Token (placed part place)
  pub tells : (whole : List ℕ) (place : ℕ) → drop place whole ≡ part.text ++ rest → value_of whole (placed part place) ≡ part.value
  pub inner : is_end part.kind ≡ false

abbrev pub text_of_parts : List Part → List ℕ
text_of_parts ps = flat_map (λ part. part.text) ps

abbrev pub AreTokens : List Part → List ℕ → Type 0
AreTokens [] rest = Unit {0}
AreTokens (part ∷ ps) rest = IsToken part (text_of_parts ps ++ rest) × AreTokens ps rest

-- a kind whose tokens are their own values
abbrev pub IsItself : Kind → Type 0
IsItself kind = (whole : List ℕ) (t : Token) → value_as kind whole t ≡ bytes_of whole t

pub own : (kind : Kind) (text rest : List ℕ) → is_end kind ≡ false → IsItself kind → ((whole : List ℕ) (place : ℕ) → drop place whole ≡ text ++ rest → next_item whole place ≡ token kind place (place + length text)) → IsToken (itself kind text) rest
own kind text rest inner f next = record {
  next = next;
  tells = λ whole place e. f whole (placed (itself kind text) place) ∙ bytes_at whole place text rest e;
  inner = inner;
}

-- ---- punctuation, the cut and the semicolon

mark : (kind : Kind) (b : ℕ) (rest : List ℕ) → is_end kind ≡ false → IsItself kind → b < 128 → ((place : ℕ) → between place b rest ≡ Ends) → ((whole : List ℕ) (place : ℕ) → item_of whole place b rest ≡ token kind place (place + 1)) → IsToken (itself kind (b ∷ [])) rest
mark kind b rest inner f small free item = own kind (b ∷ []) rest inner f (λ whole place e. next_here whole place b rest e small (free place) ∙ item whole place)

pub sign_token : (s : Sign) (rest : List ℕ) → IsToken (itself (sign_kind s) (sign_text s)) rest
unfolding item_of
sign_token signs.Open rest = mark kinds.Open 40 rest refl (λ w t. refl) (omega arith) (λ p. refl) (λ w p. refl)
sign_token signs.Close rest = mark kinds.Close 41 rest refl (λ w t. refl) (omega arith) (λ p. refl) (λ w p. refl)
sign_token signs.OpenSquare rest = mark kinds.OpenSquare 91 rest refl (λ w t. refl) (omega arith) (λ p. refl) (λ w p. refl)
sign_token signs.CloseSquare rest = mark kinds.CloseSquare 93 rest refl (λ w t. refl) (omega arith) (λ p. refl) (λ w p. refl)
sign_token signs.OpenCurly rest = mark kinds.OpenCurly 123 rest refl (λ w t. refl) (omega arith) (λ p. refl) (λ w p. refl)
sign_token signs.CloseCurly rest = mark kinds.CloseCurly 125 rest refl (λ w t. refl) (omega arith) (λ p. refl) (λ w p. refl)
sign_token signs.Comma rest = mark kinds.Comma 44 rest refl (λ w t. refl) (omega arith) (λ p. refl) (λ w p. refl)
sign_token signs.Bar rest = mark kinds.Bar 124 rest refl (λ w t. refl) (omega arith) (λ p. refl) (λ w p. refl)

pub cut_token : (rest : List ℕ) → IsToken (itself kinds.Name (codes "!")) rest
unfolding item_of
cut_token rest = mark kinds.Name 33 rest refl (λ w t. refl) (omega arith) (λ p. refl) (λ w p. refl)

pub semicolon_token : (rest : List ℕ) → IsToken (itself kinds.Name (codes ";")) rest
unfolding item_of
semicolon_token rest = mark kinds.Name 59 rest refl (λ w t. refl) (omega arith) (λ p. refl) (λ w p. refl)

-- ---- letters

lower_no_gap : (place b : ℕ) (bytes : List ℕ) → is_ascii_lowercase b ≡ true → (between place b bytes ≡ Ends) × (b < 128)
lower_no_gap place b bytes e = (grind (arith, nat_tests), grind (arith, nat_tests))

item_lower : (whole : List ℕ) (place b : ℕ) (bytes : List ℕ) → is_ascii_lowercase b ≡ true → item_of whole place b bytes ≡ named kinds.Name place (run_end Alphanumeric (place + 1) bytes)
unfolding item_of
item_lower whole place b bytes e = cond-true _ _ _ e

pub small_token : (b : ℕ) (bytes rest : List ℕ) → is_ascii_lowercase b ≡ true → list_all is_alphanumeric bytes ≡ true → length (b ∷ bytes) ≤ 65535 → begins_in Alphanumeric rest ≡ false → IsToken (itself kinds.Name (b ∷ bytes)) rest
small_token b bytes rest e all few apart = own kinds.Name (b ∷ bytes) rest refl (λ w t. refl) (λ whole place here.
    next_here whole place b (bytes ++ rest) here (lower_no_gap place b (bytes ++ rest) e).1 (lower_no_gap place b (bytes ++ rest) e).0 ∙ item_lower whole place b (bytes ++ rest) e ∙ run_token kinds.Name Alphanumeric place b bytes rest all few apart)

upper_no_gap : (place b : ℕ) (bytes : List ℕ) → (is_ascii_uppercase b || (b == 95)) ≡ true → (between place b bytes ≡ Ends) × (b < 128) × (is_ascii_lowercase b ≡ false)
upper_no_gap place b bytes e = (grind (arith, nat_tests), grind (arith, nat_tests), grind (arith, nat_tests))

item_upper : (whole : List ℕ) (place b : ℕ) (bytes : List ℕ) → (is_ascii_uppercase b || (b == 95)) ≡ true → item_of whole place b bytes ≡ named kinds.Variable place (run_end Alphanumeric (place + 1) bytes)
unfolding item_of
item_upper whole place b bytes e = cond-false _ _ _ (upper_no_gap place b bytes e).2 ∙ cond-true _ _ _ e

pub capital_token : (b : ℕ) (bytes rest : List ℕ) → (is_ascii_uppercase b || (b == 95)) ≡ true → list_all is_alphanumeric bytes ≡ true → length (b ∷ bytes) ≤ 65535 → begins_in Alphanumeric rest ≡ false → IsToken (itself kinds.Variable (b ∷ bytes)) rest
capital_token b bytes rest e all few apart = own kinds.Variable (b ∷ bytes) rest refl (λ w t. refl) (λ whole place here.
    next_here whole place b (bytes ++ rest) here (upper_no_gap place b (bytes ++ rest) e).1 (upper_no_gap place b (bytes ++ rest) e).0 ∙ item_upper whole place b (bytes ++ rest) e ∙ run_token kinds.Variable Alphanumeric place b bytes rest all few apart)

-- ---- symbol characters

pub symbol_is : (b : ℕ) → is_symbol b ≡ true → (is_ascii_lowercase b ≡ false) × ((is_ascii_uppercase b || (b == 95)) ≡ false) × (is_digit Decimal b ≡ false) × (b < 128) × (is_layout b ≡ false) × ((b == 37) ≡ false)
symbol_is b e = (grind (arith, nat_tests), grind (arith, nat_tests), grind (arith, nat_tests), grind (arith, nat_tests), grind (arith, nat_tests), grind (arith, nat_tests))

symbol_no_gap : (place b : ℕ) (bytes : List ℕ) → is_symbol b ≡ true → ((b == 47) && begins_with 42 bytes) ≡ false → between place b bytes ≡ Ends
symbol_no_gap place b bytes e f = let n = symbol_is b e in cond-false _ _ _ n.4 ∙ cond-false _ _ _ n.5 ∙ cond-false _ _ _ f

pub no_symbol : (b n : ℕ) → is_symbol b ≡ true → is_symbol n ≡ false → (b == n) ≡ false
no_symbol b n e f = ne_eqb b n (λ same. let wrong : true ≡ false = sym e ∙ ap is_symbol same ∙ f in cc)

no_punctuation : (b : ℕ) → is_symbol b ≡ true → punctuation b ≡ None
no_punctuation b e =
    cond-false _ _ _ (no_symbol b 40 e refl) ∙ cond-false _ _ _ (no_symbol b 41 e refl) ∙ cond-false _ _ _ (no_symbol b 91 e refl) ∙ cond-false _ _ _ (no_symbol b 93 e refl)
    ∙ cond-false _ _ _ (no_symbol b 123 e refl) ∙ cond-false _ _ _ (no_symbol b 125 e refl) ∙ cond-false _ _ _ (no_symbol b 44 e refl) ∙ cond-false _ _ _ (no_symbol b 124 e refl)

item_symbol : (whole : List ℕ) (place b : ℕ) (bytes : List ℕ) → is_symbol b ≡ true → item_of whole place b bytes ≡ symbols b place (run_end Symbol (place + 1) bytes) bytes
unfolding item_of
item_symbol whole place b bytes e =
    let n = symbol_is b e in
    cond-false _ _ _ n.0 ∙ cond-false _ _ _ n.1 ∙ cond-false _ _ _ n.2 ∙ cond-false _ _ _ (no_symbol b 39 e refl) ∙ cond-false _ _ _ (no_symbol b 34 e refl)
    ∙ cond-false _ _ _ (or_from (b == 33) (b == 59) (no_symbol b 33 e refl) (no_symbol b 59 e refl)) ∙ ap (marked place b bytes) (no_punctuation b e) ∙ cond-true _ _ _ e

symbol_no_layout : (b : ℕ) → is_symbol b ≡ true → (is_layout b || (b == 37)) ≡ false
symbol_no_layout b e = let n = symbol_is b e in or_from (is_layout b) (b == 37) n.4 n.5

-- a full stop alone would be an end
no_end : (b : ℕ) (bytes rest : List ℕ) → list_all is_symbol bytes ≡ true → bytes_eq (b ∷ bytes) (codes ".") ≡ false → ((b == 46) && ends_here (bytes ++ rest)) ≡ false
no_end b [] rest all e = and_left (b == 46) _ (elim (and_cases (b == 46) true e) [ inl f ↦ f | inr f ↦ absurd (cc) ])
no_end b (c ∷ bytes) rest all e = and_right (b == 46) _ (symbol_no_layout c (and_parts (is_symbol c) _ all).0)

other : (a b : ℕ) → (a == b) ≡ false → (b == a) ≡ false
other a b e = ne_eqb b a (λ same. eqb-false a b e (sym same))

-- and a solidus and an asterisk a comment
no_comment : (b : ℕ) (bytes rest : List ℕ) → starts_with nat_eq (b ∷ bytes) (codes "/*") ≡ false → begins_in Symbol rest ≡ false → ((b == 47) && begins_with 42 (bytes ++ rest)) ≡ false
no_comment b [] [] e f = and_right (b == 47) _ refl
no_comment b [] (c ∷ rest) e f = and_right (b == 47) _ (ne_eqb c 42 (λ same. let wrong : false ≡ true = sym f ∙ ap is_symbol same in cc))
no_comment b (c ∷ bytes) rest e f = elim (and_cases (47 == b) ((42 == c) && true) e) [
  | inl h ↦ and_left (b == 47) _ (other 47 b h)
  | inr h ↦ elim (and_cases (42 == c) true h) [ inl k ↦ and_right (b == 47) _ (other 42 c k) | inr k ↦ absurd cc ]
]

pub symbolic_token : (b : ℕ) (bytes rest : List ℕ) → list_all is_symbol (b ∷ bytes) ≡ true → bytes_eq (b ∷ bytes) (codes ".") ≡ false → starts_with nat_eq (b ∷ bytes) (codes "/*") ≡ false → length (b ∷ bytes) ≤ 65535 → begins_in Symbol rest ≡ false →
    IsToken (itself kinds.Name (b ∷ bytes)) rest
symbolic_token b bytes rest all stop comment few apart = let p = and_parts (is_symbol b) (list_all is_symbol bytes) all in own kinds.Name (b ∷ bytes) rest refl (λ w t. refl) (λ whole place here.
    next_here whole place b (bytes ++ rest) here (symbol_is b p.0).3 (symbol_no_gap place b (bytes ++ rest) p.0 (no_comment b bytes rest comment apart))
    ∙ item_symbol whole place b (bytes ++ rest) p.0 ∙ cond-false _ _ _ (no_end b bytes rest p.1 stop) ∙ run_token kinds.Name Symbol place b bytes rest p.1 few apart)

-- ---- quoted names

item_quote : (whole : List ℕ) (place : ℕ) (bytes : List ℕ) → item_of whole place 39 bytes ≡ of_quoted kinds.QuotedName place (lex.quoted Single place (Inside 0) 0 (place + 1) bytes)
unfolding item_of
item_quote whole place bytes = refl

pub quoted_token : (s rest : List ℕ) → IsName s → begins_with 39 rest ≡ false → IsToken (quoted_part s) rest
quoted_token s rest h apart =
    let body = flat_map escaped s in
    record {
      next = λ whole place e.
          next_here whole place 39 ((body ++ 39 ∷ []) ++ rest) e (omega arith) refl ∙ item_quote whole place ((body ++ 39 ∷ []) ++ rest)
          ∙ ap (λ l. of_quoted kinds.QuotedName place (lex.quoted Single place (Inside 0) 0 (place + 1) l)) (append_assoc body (39 ∷ []) rest)
          ∙ ap (of_quoted kinds.QuotedName place) (quoted_closes s rest place h.is_text h.few apart) ∙ ap (token kinds.QuotedName place) (omega (arith, length-append body (39 ∷ [])));
      tells = λ whole place e.
          ap (lex.quoted_value Single place (Inside 0) (place + 1)) (past whole place (39 ∷ []) ((body ++ 39 ∷ []) ++ rest) e ∙ append_assoc body (39 ∷ []) rest) ∙ quoted_tells s rest place h.is_text h.few apart;
      inner = refl;
    }

-- ---- numbers

pub number_token : (n : ℕ) (rest : List ℕ) → n ≤ 2 ^ 63 → EndsNumber rest → IsToken (itself (kinds.Integer n) (decimal n)) rest
number_token n rest h apart = own (kinds.Integer n) (decimal n) rest refl (λ w t. refl) (λ whole place e. decimal_token whole place n rest h e apart)

-- ---- what stands behind a word

-- the bytes behind a word are apart from its last byte
pub record Behind (last : ℕ) (rest : List ℕ) : Type 0 where
  pub letter : (is_letter last && is_letter (first_byte rest)) ≡ false
  pub symbol : (is_symbol last && is_symbol (first_byte rest)) ≡ false
  pub quote : ((is_letter last || (last == 39)) && (first_byte rest == 39)) ≡ false
  pub fraction : is_fraction rest ≡ false

pub behind : (edge : Edge) (rest : List ℕ) → Clear edge rest → Behind edge.last rest
behind edge rest c =
    let p = or_parts (is_letter edge.last && is_letter (first_byte rest)) _ c.apart in
    let q = or_parts (is_symbol edge.last && is_symbol (first_byte rest)) _ p.1 in
    let r = or_parts ((is_letter edge.last || (edge.last == 39)) && (first_byte rest == 39)) _ q.1 in
    record { letter = p.0; symbol = q.0; quote = r.0; fraction = c.fraction }

pub and_gives : (a b : Bool) → (a && b) ≡ false → a ≡ true → b ≡ false
and_gives a b e t = ap (λ x. x && b) (sym t) ∙ e

no_alphanumeric : (rest : List ℕ) → is_letter (first_byte rest) ≡ false → begins_in Alphanumeric rest ≡ false
no_alphanumeric [] e = refl
no_alphanumeric (b ∷ rest) e = (or_parts (is_alphanumeric b) _ e).0

pub no_symbols : (rest : List ℕ) → is_symbol (first_byte rest) ≡ false → begins_in Symbol rest ≡ false
no_symbols [] e = refl
no_symbols (b ∷ rest) e = e

pub no_quote : (rest : List ℕ) → (first_byte rest == 39) ≡ false → begins_with 39 rest ≡ false
no_quote [] e = refl
no_quote (b ∷ rest) e = e

pub behind_letter : (last : ℕ) (rest : List ℕ) → Behind last rest → is_alphanumeric last ≡ true → EndsNumber rest
behind_letter last rest h e =
    let l : is_letter last ≡ true = or_left (is_alphanumeric last) _ e in
    record {
      alphanumeric = no_alphanumeric rest (and_gives (is_letter last) _ h.letter l);
      quote = no_quote rest (and_gives (is_letter last || (last == 39)) _ h.quote (or_left (is_letter last) _ l));
      fraction = h.fraction;
    }

-- ---- the last byte of a word

unfoldable pub last_or : ℕ → List ℕ → ℕ
last_or d [] = d
last_or d (b ∷ bytes) = last_or b bytes

pub last_is : (d b : ℕ) (bytes : List ℕ) → unwrap_or (slice_get (b ∷ bytes) (length (b ∷ bytes) - 1)) d ≡ last_or b bytes
unfolding last_or
last_is d b [] = refl
last_is d b (c ∷ bytes) =
    let n : length (b ∷ c ∷ bytes) - 1 ≡ suc (length bytes) = omega arith in
    let m : length (c ∷ bytes) - 1 ≡ length bytes = omega arith in
    ap (λ k. unwrap_or (slice_get (b ∷ c ∷ bytes) k) d) n ∙ ap (λ k. unwrap_or (slice_get (c ∷ bytes) k) d) (sym m) ∙ last_is d c bytes

pub last_byte-cons : (b c : ℕ) (bytes : List ℕ) → last_byte (b ∷ c ∷ bytes) ≡ last_byte (c ∷ bytes)
unfolding last_or
last_byte-cons b c bytes = last_is 32 b (c ∷ bytes) ∙ sym (last_is 32 c bytes)

last_all : (p : ℕ → Bool) (b : ℕ) (bytes : List ℕ) → list_all p (b ∷ bytes) ≡ true → p (last_or b bytes) ≡ true
unfolding last_or
last_all p b [] e = (and_parts (p b) _ e).0
last_all p b (c ∷ bytes) e = last_all p c bytes (and_parts (p b) _ e).1

pub last_byte_all : (p : ℕ → Bool) (b : ℕ) (bytes : List ℕ) → list_all p (b ∷ bytes) ≡ true → p (last_byte (b ∷ bytes)) ≡ true
last_byte_all p b bytes e = ap p (last_is 32 b bytes) ∙ last_all p b bytes e

pub last_or-append : (d : ℕ) (xs ys : List ℕ) → last_or d (xs ++ ys) ≡ last_or (last_or d xs) ys
unfolding last_or
last_or-append d [] ys = refl
last_or-append d (b ∷ xs) ys = last_or-append b xs ys

pub last_byte-quoted : (s : List ℕ) → last_byte (quoted s) ≡ 39
unfolding last_or
last_byte-quoted s = last_is 32 39 (flat_map escaped s ++ 39 ∷ []) ∙ last_or-append 39 (flat_map escaped s) (39 ∷ [])
