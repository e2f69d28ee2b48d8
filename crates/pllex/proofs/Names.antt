-- The names and variables of a clause are words.
use Rattle.std.proofs.Common.{◌≡◌, ℕ, zero, suc, ◌<◌, ◌≤◌, ◌+◌, ◌-◌, true, false, cond, ◌&&◌, ◌||◌, ◌==◌, List, [], ◌∷◌, ◌++◌, Bool, Option, Some, None, length, take, drop, get_or, refl, sym, ap, subst, ◌∙◌, arith, leb, length-take, length-drop}
use Rattle.std.specs.Str.{IsAscii}
use Rattle.std.specs.Char.{is_ascii_lowercase, is_ascii_uppercase}
use Rattle.std.proofs.lemmas.Bool.{leb-true, cond_both}
use Rattle.std.proofs.lemmas.Bool.Decides.{nat_tests}
use Rattle.std.proofs.lemmas.Str.{IsUtf8-from_ascii, is_utf8-from_IsUtf8}
use Rattle.std.proofs.lemmas.Str.Ascii.{IsAscii-cons, IsAscii-nil}
use Rattle.plterm.specs.Characters.{is_symbol}
use Rattle.pllex.specs.declared.token.Token.{Token}
use Rattle.pllex.specs.declared.token.Class.{Class}
use Rattle.pllex.specs.declared.token.Class.TheVariants.{Alphanumeric, Symbol, Digit}
use Rattle.pllex.specs.declared.token.Base.{Base}
use Rattle.pllex.specs.declared.token.Base.TheVariants.{Binary, Octal, Decimal, Hexadecimal}
use Rattle.pllex.specs.declared.escape.Coded.{Coded}
use Rattle.pllex.specs.declared.escape.Coded.TheVariants as coded
use Rattle.pllex.specs.declared.quoted.Quote.{Quote}
use Rattle.pllex.specs.declared.quoted.Quote.TheVariants.{Single, Double}
use Rattle.pllex.specs.declared.quoted.Within.TheVariants.{Inside}
use Rattle.pllex.specs.declared.quoted.Quoted.{Quoted}
use Rattle.pllex.specs.declared.quoted.Quoted.TheVariants as ends
use Rattle.pllex.specs.declared.token.Kind.{Kind}
use Rattle.pllex.specs.declared.token.Kind.TheVariants as kinds
use Rattle.pllex.specs.declared.token.Scanned.{Scanned}
use Rattle.pllex.specs.declared.token.Scanned.TheVariants as items
use Rattle.pllex.specs.declared.token.Fault.{Fault}
use Rattle.pllex.specs.declared.token.Fault.TheVariants as faults
use Rattle.pllex.specs.declared.layout.Gap.{Gap}
use Rattle.pllex.specs.declared.layout.Gap.TheVariants as gaps
use Rattle.pllex.specs.Classes.{in_class, is_digit, is_control}
use Rattle.pllex.specs.Quoted.{quoted, quoted_value}
use Rattle.pllex.specs.Tokens.{run_end, token, named, symbols, number, value, stray, item_of, item_at, after_gap, item_behind, next_item, TokensBetween, IsClause, is_end}
use Rattle.pllex.specs.Tokens as lex
use Rattle.pllex.specs.Named.{IsWord, IsQuoted, IsNamedAs, AreNamed, value_within}
use Rattle.pllex.proofs.RunEnds.{run_behind, drop_here}
use Rattle.pllex.proofs.Items.{shut, few, value_utf8}

class_ascii : (class : Class) (b : ℕ) → in_class class b ≡ true → b < 128
class_ascii Alphanumeric b e = grind (arith, nat_tests)
class_ascii Symbol b e = grind (arith, nat_tests)
class_ascii (Digit Binary) b e = grind (arith, nat_tests)
class_ascii (Digit Octal) b e = grind (arith, nat_tests)
class_ascii (Digit Decimal) b e = grind (arith, nat_tests)
class_ascii (Digit Hexadecimal) b e = grind (arith, nat_tests)

-- a run does not go past the bytes
run_within : (class : Class) (place : ℕ) (bytes : List ℕ) → run_end class place bytes ≤ place + length bytes
unfolding run_end
run_within class place [] = omega arith
run_within class place (b ∷ bytes) =
    cond_both (in_class class b) (run_end class (place + 1) bytes) place (λ e. e ≤ place + length (b ∷ bytes)) (λ t. omega (arith, run_within class (place + 1) bytes)) (λ f. omega arith)

ascii_more : (b place end : ℕ) (bytes : List ℕ) → b < 128 → place + 1 ≤ end → IsAscii (take (end - (place + 1)) bytes) → IsAscii (take (end - place) (b ∷ bytes))
ascii_more b place end bytes h le all =
    let n : end - place ≡ suc (end - (place + 1)) = omega arith in
    subst (λ k. IsAscii (take k (b ∷ bytes))) (sym n) (IsAscii-cons b (take (end - (place + 1)) bytes) h all)

none_taken : (place : ℕ) (bytes : List ℕ) → IsAscii (take (place - place) bytes)
none_taken place bytes = let n : place - place ≡ 0 = omega arith in subst (λ k. IsAscii (take k bytes)) (sym n) IsAscii-nil

nil_taken : (n : ℕ) → IsAscii (take n [])
nil_taken zero = IsAscii-nil
nil_taken (suc n) = IsAscii-nil

-- the bytes of a run are of its class
run_ascii : (class : Class) (place : ℕ) (bytes : List ℕ) → IsAscii (take (run_end class place bytes - place) bytes)
unfolding run_end
run_ascii class place [] = nil_taken (place - place)
run_ascii class place (b ∷ bytes) =
    cond_both (in_class class b) (run_end class (place + 1) bytes) place (λ e. IsAscii (take (e - place) (b ∷ bytes)))
    (λ t. ascii_more b place (run_end class (place + 1) bytes) bytes (class_ascii class b t) (run_behind class (place + 1) bytes) (run_ascii class (place + 1) bytes))
    (λ f. none_taken place (b ∷ bytes))

-- if a token stands there, it is named
record IsNamedItem (text : List ℕ) (item : Scanned) : Type 0 where
  named_as : (t : Token) → item ≡ items.Token t → IsNamedAs t.kind text t

of_token : (text : List ℕ) (t : Token) → IsNamedAs t.kind text t → IsNamedItem text (items.Token t)
of_token text t h = record { named_as = λ u e. let same : t ≡ u = cc in subst (λ v. IsNamedAs v.kind text v) same h }

of_fault : (text : List ℕ) (fault : Fault) (place : ℕ) → IsNamedItem text (items.Fault fault place)
of_fault text fault place = record { named_as = λ u e. absurd cc }

of_nothing : (text : List ℕ) → IsNamedItem text items.Nothing
of_nothing text = record { named_as = λ u e. absurd cc }

-- a kind whose tokens are words
abbrev IsWordKind : Kind → Type 0
IsWordKind kind = (text : List ℕ) (t : Token) → IsWord text t → IsNamedAs kind text t

name_kind : IsWordKind kinds.Name
name_kind text t h = h

variable_kind : IsWordKind kinds.Variable
variable_kind text t h = h

word : (kind : Kind) → IsWordKind kind → (text : List ℕ) (place end : ℕ) → place ≤ end → end ≤ length text → end - place ≤ 65535 → IsAscii (take (end - place) (drop place text)) → IsNamedItem text (token kind place end)
word kind wordy text place end le in_text few all =
    of_token text (record { kind = kind; start = place; end = end }) (wordy text (record { kind = kind; start = place; end = end }) (record {
      ordered = le;
      within = in_text;
      few = omega (arith, length-take (end - place) (drop place text));
      is_text = is_utf8-from_IsUtf8 (take (end - place) (drop place text)) (IsUtf8-from_ascii (take (end - place) (drop place text)) all);
    }))

named_word : (kind : Kind) → IsWordKind kind → (text : List ℕ) (place end : ℕ) → place ≤ end → end ≤ length text → IsAscii (take (end - place) (drop place text)) → IsNamedItem text (named kind place end)
named_word kind wordy text place end le in_text all =
    cond_both (leb (end - place) 65535) (token kind place end) (items.Fault faults.NameTooLong place) (IsNamedItem text)
    (λ t. word kind wordy text place end le in_text (leb-true (end - place) 65535 t) all)
    (λ f. of_fault text faults.NameTooLong place)

-- a byte of a class, and the run behind it
run_word : (kind : Kind) → IsWordKind kind → (class : Class) (text : List ℕ) (place b : ℕ) (bytes : List ℕ) → drop place text ≡ b ∷ bytes → b < 128 → IsNamedItem text (named kind place (run_end class (place + 1) bytes))
run_word kind wordy class text place b bytes e h =
    let end = run_end class (place + 1) bytes in
    let size : length text - place ≡ suc (length bytes) = sym (length-drop place text) ∙ ap length e in
    named_word kind wordy text place end
    (omega (arith, run_behind class (place + 1) bytes))
    (omega (arith, run_within class (place + 1) bytes))
    (subst (λ l. IsAscii (take (end - place) l)) (sym e) (ascii_more b place end bytes h (run_behind class (place + 1) bytes) (run_ascii class (place + 1) bytes)))

single_word : (text : List ℕ) (place b : ℕ) (bytes : List ℕ) → drop place text ≡ b ∷ bytes → b < 128 → IsNamedItem text (token kinds.Name place (place + 1))
single_word text place b bytes e h =
    let size : length text - place ≡ suc (length bytes) = sym (length-drop place text) ∙ ap length e in
    let one : (place + 1) - place ≡ 1 = omega arith in
    word kinds.Name name_kind text place (place + 1) (omega arith) (omega arith) (omega arith)
    (subst (λ l. IsAscii (take ((place + 1) - place) l)) (sym e) (subst (λ n. IsAscii (take n (b ∷ bytes))) (sym one) (IsAscii-cons b [] h IsAscii-nil)))

integer_token : (text : List ℕ) (n start end : ℕ) → IsNamedItem text (token (kinds.Integer n) start end)
integer_token text n start end = of_token text (record { kind = kinds.Integer n; start = start; end = end }) tt

integer_named : (text : List ℕ) (o : Option ℕ) (start end : ℕ) → IsNamedItem text (lex.integer o start end)
integer_named text (Some n) start end = integer_token text n start end
integer_named text None start end = of_fault text faults.IntTooBig start

decimal_named : (text : List ℕ) (start : ℕ) (digits : List ℕ) → IsNamedItem text (lex.decimal text start digits)
decimal_named text start digits =
    let end = run_end (Digit Decimal) start digits in
    cond_both (lex.is_fraction (drop end text)) (items.Fault faults.FloatLiteral start) (lex.integer (lex.in_range (value Decimal 0 digits)) start end) (IsNamedItem text) (λ t. of_fault text faults.FloatLiteral start)
    (λ f. integer_named text (lex.in_range (value Decimal 0 digits)) start end)

letter_named : (text : List ℕ) (start : ℕ) (digits bytes : List ℕ) (o : Option Base) → IsNamedItem text (lex.after_letter text start digits bytes o)
letter_named text start digits bytes None = decimal_named text start digits
letter_named text start digits bytes (Some base) =
    cond_both (lex.begins_in (Digit base) bytes) (lex.based base start bytes) (lex.decimal text start digits) (IsNamedItem text)
    (λ t. integer_named text (lex.in_range (value base 0 bytes)) start (run_end (Digit base) (start + 2) bytes))
    (λ f. decimal_named text start digits)

coded_named : (text : List ℕ) (start at : ℕ) (o : Coded) → IsNamedItem text (lex.of_coded start at o)
coded_named text start at (coded.Character c end) = integer_token text c start end
coded_named text start at coded.NoCharacter = of_fault text faults.BadEscape at

bare_named : (text : List ℕ) (start b : ℕ) (bytes : List ℕ) (o : Option ℕ) → IsNamedItem text (lex.bare_code start b bytes o)
bare_named text start b bytes (Some rest) = integer_token text _ start (start + 3 + rest)
bare_named text start b bytes None = of_fault text faults.BadUtf8 (start + 2)

character_named : (text : List ℕ) (start : ℕ) (bytes : List ℕ) → IsNamedItem text (lex.character_code start bytes)
character_named text start [] = integer_token text 0 start (start + 1)
character_named text start (b ∷ bytes) =
    cond_both (b == 39) _ _ (IsNamedItem text) (λ t. integer_token text 39 start _)
    (λ _. cond_both (b == 92) _ _ (IsNamedItem text) (λ t. coded_named text start (start + 2) _)
    (λ _. cond_both ((b == 10) || is_control b) _ _ (IsNamedItem text) (λ t. of_fault text faults.BadCharacter (start + 2))
    (λ _. bare_named text start b bytes _)))

zero_named : (text : List ℕ) (start : ℕ) (bytes : List ℕ) → IsNamedItem text (lex.zero_number text start bytes)
zero_named text start [] = decimal_named text start (48 ∷ [])
zero_named text start (b ∷ bytes) =
    cond_both (b == 39) (lex.character_code start bytes) (lex.after_letter text start (48 ∷ b ∷ bytes) bytes (lex.base_of b)) (IsNamedItem text) (λ t. character_named text start bytes)
    (λ f. letter_named text start (48 ∷ b ∷ bytes) bytes (lex.base_of b))

number_named : (text : List ℕ) (start b : ℕ) (bytes : List ℕ) → IsNamedItem text (number text start b bytes)
number_named text start b bytes = cond_both (b == 48) (lex.zero_number text start bytes) (lex.decimal text start (b ∷ bytes)) (IsNamedItem text) (λ t. zero_named text start bytes) (λ f. decimal_named text start (b ∷ bytes))

-- ---- quoted items

pub rest_is : (text : List ℕ) (place b : ℕ) (bytes : List ℕ) → drop place text ≡ b ∷ bytes → drop (place + 1) text ≡ bytes
rest_is text place b bytes e =
    let size : length text - place ≡ suc (length bytes) = sym (length-drop place text) ∙ ap length e in
    let same : get_or text place 0 ∷ drop (place + 1) text ≡ b ∷ bytes = sym (drop_here text place (omega arith)) ∙ e in
    cc

is_quoted : (quote : Quote) (text : List ℕ) (kind : Kind) (place b : ℕ) (bytes : List ℕ) (end : ℕ) → drop place text ≡ b ∷ bytes → quoted quote place (Inside 0) 0 (place + 1) bytes ≡ ends.Closed end → IsQuoted quote text (record { kind = kind; start = place; end = end })
is_quoted quote text kind place b bytes end e h =
    let size : length text - place ≡ suc (length bytes) = sym (length-drop place text) ∙ ap length e in
    let s = shut quote place (Inside 0) 0 (place + 1) bytes end h in
    record {
      ordered = omega (arith, s.behind);
      within = omega (arith, s.within);
      is_text = is_utf8-from_IsUtf8 (value_within quote text place) (value_utf8 quote place (Inside 0) (place + 1) (drop (place + 1) text));
    }

single_named : (text : List ℕ) (place b : ℕ) (bytes : List ℕ) → drop place text ≡ b ∷ bytes → (o : Quoted) → quoted Single place (Inside 0) 0 (place + 1) bytes ≡ o → IsNamedItem text (lex.of_quoted kinds.QuotedName place o)
single_named text place b bytes e (ends.Closed end) h =
    of_token text (record { kind = kinds.QuotedName; start = place; end = end })
    (record {
      item = is_quoted Single text kinds.QuotedName place b bytes end e h;
      few = subst (λ l. length (quoted_value Single place (Inside 0) (place + 1) l) ≤ 65535) (sym (rest_is text place b bytes e)) (omega (arith, few place (Inside 0) 0 (place + 1) bytes end (omega arith) h));
    })
single_named text place b bytes e (ends.Bad fault at) h = of_fault text fault at

double_named : (text : List ℕ) (place b : ℕ) (bytes : List ℕ) → drop place text ≡ b ∷ bytes → (o : Quoted) → quoted Double place (Inside 0) 0 (place + 1) bytes ≡ o → IsNamedItem text (lex.of_quoted kinds.DoubleQuoted place o)
double_named text place b bytes e (ends.Closed end) h =
    of_token text (record { kind = kinds.DoubleQuoted; start = place; end = end }) (is_quoted Double text kinds.DoubleQuoted place b bytes end e h)
double_named text place b bytes e (ends.Bad fault at) h = of_fault text fault at

-- ---- punctuation

-- a kind whose tokens have no bytes that count
abbrev IsFree : Option Kind → Type 0
IsFree None = Unit {0}
IsFree (Some kind) = (text : List ℕ) (t : Token) → IsNamedAs kind text t

free : (b : ℕ) → IsFree (lex.punctuation b)
free b =
    one (b == 40) kinds.Open _ (λ text t. tt) (one (b == 41) kinds.Close _ (λ text t. tt) (one (b == 91) kinds.OpenSquare _ (λ text t. tt) (one (b == 93) kinds.CloseSquare _ (λ text t. tt)
    (one (b == 123) kinds.OpenCurly _ (λ text t. tt) (one (b == 125) kinds.CloseCurly _ (λ text t. tt) (one (b == 44) kinds.Comma _ (λ text t. tt) (one (b == 124) kinds.Bar None (λ text t. tt) tt)))))))
  where
    one : (test : Bool) (kind : Kind) (o : Option Kind) → ((text : List ℕ) (t : Token) → IsNamedAs kind text t) → IsFree o → IsFree (cond test (Some kind) o)
    one true kind o f g = f
    one false kind o f g = g

symbols_named : (text : List ℕ) (place b end : ℕ) (bytes : List ℕ) → IsNamedItem text (named kinds.Name place end) → IsNamedItem text (symbols b place end bytes)
symbols_named text place b end bytes h = cond_both ((b == 46) && lex.ends_here bytes) (token kinds.End place (place + 1)) (named kinds.Name place end) (IsNamedItem text) (λ t. of_token text (record { kind = kinds.End; start = place; end = place + 1 }) tt) (λ f. h)

lower_ascii : (b : ℕ) → is_ascii_lowercase b ≡ true → b < 128
lower_ascii b e = grind (arith, nat_tests)

upper_ascii : (b : ℕ) → (is_ascii_uppercase b || (b == 95)) ≡ true → b < 128
upper_ascii b e = grind (arith, nat_tests)

solo_ascii : (b : ℕ) → ((b == 33) || (b == 59)) ≡ true → b < 128
solo_ascii b e = grind (arith, nat_tests)

marked_named : (text : List ℕ) (place b : ℕ) (bytes : List ℕ) → drop place text ≡ b ∷ bytes → (o : Option Kind) → IsFree o → IsNamedItem text (lex.marked place b bytes o)
marked_named text place b bytes e (Some kind) f = of_token text (record { kind = kind; start = place; end = place + 1 }) (f text (record { kind = kind; start = place; end = place + 1 }))
marked_named text place b bytes e None f =
    cond_both (is_symbol b) (symbols b place (run_end Symbol (place + 1) bytes) bytes) (items.Fault (stray b bytes) place) (IsNamedItem text)
    (λ t. symbols_named text place b (run_end Symbol (place + 1) bytes) bytes (run_word kinds.Name name_kind Symbol text place b bytes e (class_ascii Symbol b t)))
    (λ _. of_fault text (stray b bytes) place)

item_named : (text : List ℕ) (place b : ℕ) (bytes : List ℕ) → drop place text ≡ b ∷ bytes → IsNamedItem text (item_of text place b bytes)
unfolding item_of
item_named text place b bytes e =
    cond_both (is_ascii_lowercase b) _ _ (IsNamedItem text) (λ t. run_word kinds.Name name_kind Alphanumeric text place b bytes e (lower_ascii b t))
    (λ _. cond_both (is_ascii_uppercase b || (b == 95)) _ _ (IsNamedItem text) (λ t. run_word kinds.Variable variable_kind Alphanumeric text place b bytes e (upper_ascii b t))
    (λ _. cond_both (is_digit Decimal b) _ _ (IsNamedItem text) (λ t. number_named text place b bytes)
    (λ _. cond_both (b == 39) _ _ (IsNamedItem text) (λ t. single_named text place b bytes e (quoted Single place (Inside 0) 0 (place + 1) bytes) refl)
    (λ _. cond_both (b == 34) _ _ (IsNamedItem text) (λ t. double_named text place b bytes e (quoted Double place (Inside 0) 0 (place + 1) bytes) refl)
    (λ _. cond_both ((b == 33) || (b == 59)) _ _ (IsNamedItem text) (λ t. single_word text place b bytes e (solo_ascii b t))
    (λ _. marked_named text place b bytes e (lex.punctuation b) (free b)))))))

at_named : (text : List ℕ) (place : ℕ) (bytes : List ℕ) → drop place text ≡ bytes → IsNamedItem text (item_at text place bytes)
at_named text place [] e = of_nothing text
at_named text place (b ∷ bytes) e = item_named text place b bytes e

gap_named : (text : List ℕ) (gap : Gap) → IsNamedItem text (after_gap text gap)
gap_named text (gaps.Before place) = at_named text place (drop place text) refl
gap_named text (gaps.Unclosed start) = of_fault text faults.OpenComment start
gap_named text (gaps.Bad place) = of_fault text faults.BadUtf8 place

next_named : (text : List ℕ) (from : ℕ) → IsNamedItem text (next_item text from)
unfolding next_item
next_named text from = gap_named text _

named_next : (text : List ℕ) (from : ℕ) (t : Token) → next_item text from ≡ items.Token t → IsNamedAs t.kind text t
named_next text from t e = (next_named text from).named_as t e

run_named : (text : List ℕ) (from : ℕ) (ts : List Token) (place : ℕ) (e : Token) → TokensBetween text from ts place → next_item text place ≡ items.Token e → AreNamed text (ts ++ e ∷ [])
run_named text from [] place e r h = (named_next text place e h, tt)
run_named text from (t ∷ ts) place e r h = (named_next text from t r.0, run_named text t.end ts place e r.2 h)

-- the tokens of a run, and one behind them
pub all_named : (text : List ℕ) (from : ℕ) (all ts : List Token) (place : ℕ) (e : Token) → TokensBetween text from ts place → next_item text place ≡ items.Token e → all ≡ ts ++ e ∷ [] → AreNamed text all
all_named text from all ts place e r h same = subst (AreNamed text) (sym same) (run_named text from ts place e r h)
