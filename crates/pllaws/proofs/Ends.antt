-- A token ends behind the place from which it is read, so there are no more tokens than bytes.
use Rattle.std.proofs.Common.{◌≡◌, ◌==◌, ◌<◌, ◌≤◌, ◌+◌, ◌-◌, ℕ, Bool, true, false, ◌&&◌, ◌||◌, leb, ltb, List, [], ◌∷◌, length, drop, Option, Some, None, refl, subst, arith, drop_of_length-le}
use Rattle.std.specs.Char.{is_ascii_lowercase, is_ascii_uppercase}
use Rattle.std.proofs.lemmas.Bool.{cond_both, cond-true, eqb-true, ltb-true, ltb-false, and_parts}
use Rattle.plterm.specs.Characters.{is_symbol}
use Rattle.pllex.specs.declared.token.Class.{Class}
use Rattle.pllex.specs.declared.token.Class.TheVariants.{Alphanumeric, Symbol, Digit}
use Rattle.pllex.specs.declared.token.Base.{Base}
use Rattle.pllex.specs.declared.token.Base.TheVariants.{Decimal}
use Rattle.pllex.specs.declared.escape.Escape.{Escape}
use Rattle.pllex.specs.declared.escape.Escape.TheVariants.{Begins}
use Rattle.pllex.specs.declared.escape.AfterEscape.{AfterEscape}
use Rattle.pllex.specs.declared.escape.AfterEscape.TheVariants as turns
use Rattle.pllex.specs.declared.escape.Coded.{Coded}
use Rattle.pllex.specs.declared.escape.Coded.TheVariants as coded
use Rattle.pllex.specs.declared.quoted.Quote.{Quote}
use Rattle.pllex.specs.declared.quoted.Quote.TheVariants.{Single, Double}
use Rattle.pllex.specs.declared.quoted.Within.TheVariants.{Inside}
use Rattle.pllex.specs.declared.quoted.Quoted.{Quoted}
use Rattle.pllex.specs.declared.quoted.Quoted.TheVariants as ends
use Rattle.pllex.specs.declared.token.Kind.{Kind}
use Rattle.pllex.specs.declared.token.Kind.TheVariants as kinds
use Rattle.pllex.specs.declared.token.Token.{Token}
use Rattle.pllex.specs.declared.token.Scanned.{Scanned}
use Rattle.pllex.specs.declared.token.Scanned.TheVariants as items
use Rattle.pllex.specs.declared.token.Fault.TheVariants as faults
use Rattle.pllex.specs.declared.layout.Mode.{Mode}
use Rattle.pllex.specs.declared.layout.Mode.TheVariants as modes
use Rattle.pllex.specs.declared.layout.After.{After}
use Rattle.pllex.specs.declared.layout.After.TheVariants as afters
use Rattle.pllex.specs.declared.layout.Gap.{Gap}
use Rattle.pllex.specs.declared.layout.Gap.TheVariants as gaps
use Rattle.pllex.specs.Characters.{begins_with, rest_of_character, after_mark}
use Rattle.pllex.specs.Classes.{is_digit, is_control}
use Rattle.pllex.specs.Escapes.{escape_turn, code_goes_on, escape_code}
use Rattle.pllex.specs.Quoted.{quoted}
use Rattle.pllex.specs.Tokens.{run_end, token, named, symbols, number, value, stray, gap, gap_end, goes_on, turn, item_of, item_at, after_gap, item_behind, next_item, is_end, TokensBetween, IsClause}
use Rattle.pllex.specs.Tokens as lex
use Rattle.pllex.proofs.RunEnds.{run_behind}
use Rattle.pllex.proofs.Items.{shut}
use Rattle.pllaws.proofs.Places.{nothing_left}

-- a token that stands there ends behind this place
abbrev Behind : ℕ → Scanned → Type 0
Behind place (items.Token t) = place < t.end
Behind place (items.Fault fault at) = Unit {0}
Behind place items.Nothing = Unit {0}

named_behind : (kind : Kind) (start end : ℕ) → start < end → Behind start (named kind start end)
named_behind kind start end h = cond_both (leb (end - start) 65535) (token kind start end) (items.Fault faults.NameTooLong start) (Behind start) (λ _. h) (λ _. tt)

run_on : (kind : Kind) (class : Class) (place : ℕ) (bytes : List ℕ) → Behind place (named kind place (run_end class (place + 1) bytes))
run_on kind class place bytes = let h = run_behind class (place + 1) bytes in named_behind kind place (run_end class (place + 1) bytes) (omega arith)

-- ---- numbers

digits_behind : (base : Base) (place b : ℕ) (bytes : List ℕ) → is_digit base b ≡ true → place < run_end (Digit base) place (b ∷ bytes)
unfolding run_end
digits_behind base place b bytes e =
    let h = run_behind (Digit base) (place + 1) bytes in
    let same : run_end (Digit base) place (b ∷ bytes) ≡ run_end (Digit base) (place + 1) bytes = cond-true (is_digit base b) (run_end (Digit base) (place + 1) bytes) place e in
    omega arith

integer_behind : (o : Option ℕ) (start end : ℕ) → start < end → Behind start (lex.integer o start end)
integer_behind (Some n) start end h = h
integer_behind None start end h = tt

decimal_behind : (text : List ℕ) (start b : ℕ) (bytes : List ℕ) → is_digit Decimal b ≡ true → Behind start (lex.decimal text start (b ∷ bytes))
decimal_behind text start b bytes e =
    let end = run_end (Digit Decimal) start (b ∷ bytes) in
    cond_both (lex.is_fraction (drop end text)) (items.Fault faults.FloatLiteral start) (lex.integer (lex.in_range (value Decimal 0 (b ∷ bytes))) start end) (Behind start) (λ _. tt)
    (λ _. integer_behind (lex.in_range (value Decimal 0 (b ∷ bytes))) start end (digits_behind Decimal start b bytes e))

letter_behind : (text : List ℕ) (start b : ℕ) (more bytes : List ℕ) (o : Option Base) → is_digit Decimal b ≡ true → Behind start (lex.after_letter text start (b ∷ more) bytes o)
letter_behind text start b more bytes None e = decimal_behind text start b more e
letter_behind text start b more bytes (Some base) e =
    cond_both (lex.begins_in (Digit base) bytes) (lex.based base start bytes) (lex.decimal text start (b ∷ more)) (Behind start)
    (λ _. let h = run_behind (Digit base) (start + 2) bytes in integer_behind (lex.in_range (value base 0 bytes)) start (run_end (Digit base) (start + 2) bytes) (omega arith))
    (λ _. decimal_behind text start b more e)

abbrev CodedBehind : ℕ → Coded → Type 0
CodedBehind place (coded.Character c end) = place < end
CodedBehind place coded.NoCharacter = Unit {0}

later : (place : ℕ) (o : Coded) → CodedBehind (place + 1) o → CodedBehind place o
later place (coded.Character c end) h = omega arith
later place coded.NoCharacter h = tt

code_on : (rest : Escape → Coded) (place : ℕ) (o : AfterEscape) → ((next : Escape) → CodedBehind (place + 1) (rest next)) → CodedBehind place (code_goes_on rest place o)
code_on rest place (turns.Goes next) f = later place (rest next) (f next)
code_on rest place (turns.Is c) f = omega arith
code_on rest place turns.Bad f = tt

escape_behind : (escape : Escape) (place : ℕ) (bytes : List ℕ) → CodedBehind place (escape_code escape place bytes)
unfolding escape_code
escape_behind escape place [] = tt
escape_behind escape place (b ∷ bytes) = code_on (λ next. escape_code next (place + 1) bytes) place (escape_turn escape b) (λ next. escape_behind next (place + 1) bytes)

coded_behind : (start at : ℕ) (o : Coded) → CodedBehind (start + 3) o → Behind start (lex.of_coded start at o)
coded_behind start at (coded.Character c end) h = omega arith
coded_behind start at coded.NoCharacter h = tt

bare_behind : (start b : ℕ) (bytes : List ℕ) (o : Option ℕ) → Behind start (lex.bare_code start b bytes o)
bare_behind start b bytes (Some rest) = omega arith
bare_behind start b bytes None = tt

character_behind : (start : ℕ) (bytes : List ℕ) → Behind start (lex.character_code start bytes)
character_behind start [] = omega arith
character_behind start (b ∷ bytes) =
    cond_both (b == 39) _ _ (Behind start) (λ _. cond_both (begins_with 39 bytes) (start + 4) (start + 3) (λ n. start < n) (λ _. omega arith) (λ _. omega arith))
    (λ _. cond_both (b == 92) _ _ (Behind start) (λ _. coded_behind start (start + 2) (escape_code Begins (start + 3) bytes) (escape_behind Begins (start + 3) bytes))
    (λ _. cond_both ((b == 10) || is_control b) _ _ (Behind start) (λ _. tt) (λ _. bare_behind start b bytes (rest_of_character b bytes))))

zero_behind : (text : List ℕ) (start : ℕ) (bytes : List ℕ) → Behind start (lex.zero_number text start bytes)
zero_behind text start [] = decimal_behind text start 48 [] refl
zero_behind text start (b ∷ bytes) =
    cond_both (b == 39) (lex.character_code start bytes) (lex.after_letter text start (48 ∷ b ∷ bytes) bytes (lex.base_of b)) (Behind start) (λ _. character_behind start bytes)
    (λ _. letter_behind text start 48 (b ∷ bytes) bytes (lex.base_of b) refl)

number_behind : (text : List ℕ) (start b : ℕ) (bytes : List ℕ) → is_digit Decimal b ≡ true → Behind start (number text start b bytes)
number_behind text start b bytes e =
    cond_both (b == 48) (lex.zero_number text start bytes) (lex.decimal text start (b ∷ bytes)) (Behind start) (λ _. zero_behind text start bytes) (λ _. decimal_behind text start b bytes e)

-- ---- other tokens

quoted_behind : (quote : Quote) (kind : Kind) (start : ℕ) (bytes : List ℕ) (o : Quoted) → quoted quote start (Inside 0) 0 (start + 1) bytes ≡ o → Behind start (lex.of_quoted kind start o)
quoted_behind quote kind start bytes (ends.Closed end) e = let s = shut quote start (Inside 0) 0 (start + 1) bytes end e in omega (arith, s.behind)
quoted_behind quote kind start bytes (ends.Bad fault at) e = tt

marked_behind : (place b : ℕ) (bytes : List ℕ) (o : Option Kind) → Behind place (lex.marked place b bytes o)
marked_behind place b bytes (Some kind) = omega arith
marked_behind place b bytes None =
    cond_both (is_symbol b) (symbols b place (run_end Symbol (place + 1) bytes) bytes) (items.Fault (stray b bytes) place) (Behind place)
    (λ _. cond_both ((b == 46) && lex.ends_here bytes) (token kinds.End place (place + 1)) (named kinds.Name place (run_end Symbol (place + 1) bytes)) (Behind place) (λ _. omega arith) (λ _. run_on kinds.Name Symbol place bytes))
    (λ _. tt)

of_behind : (text : List ℕ) (place b : ℕ) (bytes : List ℕ) → Behind place (item_of text place b bytes)
unfolding item_of
of_behind text place b bytes =
    cond_both (is_ascii_lowercase b) _ _ (Behind place) (λ _. run_on kinds.Name Alphanumeric place bytes)
    (λ _. cond_both (is_ascii_uppercase b || (b == 95)) _ _ (Behind place) (λ _. run_on kinds.Variable Alphanumeric place bytes)
    (λ _. cond_both (is_digit Decimal b) _ _ (Behind place) (λ e. number_behind text place b bytes e)
    (λ _. cond_both (b == 39) _ _ (Behind place) (λ _. quoted_behind Single kinds.QuotedName place bytes (quoted Single place (Inside 0) 0 (place + 1) bytes) refl)
    (λ _. cond_both (b == 34) _ _ (Behind place) (λ _. quoted_behind Double kinds.DoubleQuoted place bytes (quoted Double place (Inside 0) 0 (place + 1) bytes) refl)
    (λ _. cond_both ((b == 33) || (b == 59)) _ _ (Behind place) (λ _. omega arith) (λ _. marked_behind place b bytes (lex.punctuation b)))))))

-- ---- layout

abbrev GapBehind : ℕ → Gap → Type 0
GapBehind from (gaps.Before place) = from ≤ place
GapBehind from (gaps.Unclosed start) = Unit {0}
GapBehind from (gaps.Bad place) = Unit {0}

end_behind : (mode : Mode) (place : ℕ) → GapBehind place (gap_end mode place)
end_behind modes.Between place = omega arith
end_behind (modes.Line rest) place = omega arith
end_behind (modes.Enters start) place = tt
end_behind (modes.Inside start rest) place = tt
end_behind modes.Leaves place = omega arith

gap_later : (place : ℕ) (g : Gap) → GapBehind (place + 1) g → GapBehind place g
gap_later place (gaps.Before at) h = omega arith
gap_later place (gaps.Unclosed start) h = tt
gap_later place (gaps.Bad at) h = tt

gap_on : (rest : Mode → Gap) (place : ℕ) (o : After) → ((next : Mode) → GapBehind (place + 1) (rest next)) → GapBehind place (goes_on rest place o)
gap_on rest place (afters.Goes next) f = gap_later place (rest next) (f next)
gap_on rest place afters.Ends f = omega arith
gap_on rest place afters.Bad f = tt

gap_behind : (mode : Mode) (place : ℕ) (bytes : List ℕ) → GapBehind place (gap mode place bytes)
unfolding gap
gap_behind mode place [] = end_behind mode place
gap_behind mode place (b ∷ bytes) = gap_on (λ next. gap next (place + 1) bytes) place (turn mode place b bytes) (λ next. gap_behind next (place + 1) bytes)

-- ---- the next token

at_behind : (text : List ℕ) (place : ℕ) (bytes : List ℕ) → Behind place (item_at text place bytes)
at_behind text place [] = tt
at_behind text place (b ∷ bytes) = of_behind text place b bytes

farther : (from place : ℕ) (item : Scanned) → from ≤ place → Behind place item → Behind from item
farther from place (items.Token t) h k = omega arith
farther from place (items.Fault fault at) h k = tt
farther from place items.Nothing h k = tt

after_behind : (text : List ℕ) (from : ℕ) (g : Gap) → GapBehind from g → Behind from (after_gap text g)
after_behind text from (gaps.Before place) h = farther from place (item_at text place (drop place text)) h (at_behind text place (drop place text))
after_behind text from (gaps.Unclosed start) h = tt
after_behind text from (gaps.Bad place) h = tt

mark_behind : (text : List ℕ) (from : ℕ) → from ≤ after_mark text from
mark_behind text from =
    cond_both ((from == 0) && _) 3 from (λ n. from ≤ n) (λ b. let first = eqb-true from 0 (and_parts (from == 0) _ b).0 in omega arith) (λ _. omega arith)

next_behind : (text : List ℕ) (from : ℕ) → Behind from (next_item text from)
unfolding next_item
next_behind text from =
    let place = after_mark text from in
    farther from place (item_behind text place) (mark_behind text from) (after_behind text place (gap modes.Between place (drop place text)) (gap_behind modes.Between place (drop place text)))

token_behind : (text : List ℕ) (from : ℕ) (t : Token) → next_item text from ≡ items.Token t → from < t.end
token_behind text from t e = subst (Behind from) e (next_behind text from)

none_past : (text : List ℕ) (place : ℕ) → length text ≤ place → next_item text place ≡ items.Nothing
unfolding next_item
none_past text place h =
    let far = mark_behind text place in nothing_left text (after_mark text place) (drop_of_length-le text (omega arith))

token_within : (text : List ℕ) (place : ℕ) (t : Token) → next_item text place ≡ items.Token t → place < length text
token_within text place t e = by (ltb place (length text)) refl where
  by : (b : Bool) → ltb place (length text) ≡ b → place < length text
  by true k = ltb-true place (length text) k
  by false k = let past = none_past text place (omega (arith, ltb-false place (length text) k)) in absurd cc

run_few : (text : List ℕ) (from : ℕ) (ts : List Token) (place : ℕ) → TokensBetween text from ts place → from + length ts ≤ place
run_few text from [] place r = let here : from ≡ place = r in omega arith
run_few text from (t ∷ ts) place r = omega (arith, token_behind text from t r.0, run_few text t.end ts place r.2)

-- the tokens of a clause, without the last, and the place of the last
pub few_tokens : (text : List ℕ) (from : ℕ) (front : List Token) (end : Token) (place : ℕ) → TokensBetween text from front place → next_item text place ≡ items.Token end → length front + 1 ≤ length text
few_tokens text from front end place r e = omega (arith, run_few text from front place r, token_within text place end e)
