-- A quoted name is read as one token whose value is the name.
use Rattle.std.proofs.Common.{◌≡◌, ℕ, zero, suc, ◌<◌, ◌≤◌, ◌+◌, ◌-◌, ◌/◌, Bool, true, false, cond, ◌&&◌, not, ◌==◌, leb, ltb, List, [], ◌∷◌, ◌++◌, length, take, get_or, Some, inl, inr, refl, sym, ap, subst, ◌∙◌, arith, append_assoc, append-nil, take_at, length-append}
use Rattle.std.specs.Prelude.{encode_utf8}
use Rattle.std.specs.List.{flat_map}
use Rattle.std.specs.Char.{len_utf8}
use Rattle.std.specs.Str.{is_utf8}
use Rattle.std.proofs.lemmas.Bool.{cond-true, cond-false, le-leb, lt-ltb, le-ltb, and_parts, and_from, cond_both, ltb-true, agree_below_at, cases_lt, eqb-true}
use Rattle.std.proofs.lemmas.Grind.{flat_map-append}
use Rattle.std.proofs.lemmas.Bool.Decides.{nat_tests}
use Rattle.std.proofs.lemmas.Str.{IsUtf8-from_is_utf8, is_utf8-from_IsUtf8, IsUtf8-encode, encode_ascii, len_utf8_ascii, inside_one}
use lib.Utf8.{scalar, scalars, encode, encodes}
use Rattle.pllex.specs.declared.escape.Escape.{Escape}
use Rattle.pllex.specs.declared.escape.Escape.TheVariants.{Begins}
use Rattle.pllex.specs.declared.escape.AfterEscape.{AfterEscape}
use Rattle.pllex.specs.declared.escape.AfterEscape.TheVariants as afters
use Rattle.pllex.specs.declared.quoted.Quote.TheVariants.{Single}
use Rattle.pllex.specs.declared.quoted.Within.{Within}
use Rattle.pllex.specs.declared.quoted.Within.TheVariants.{Inside, Escaped}
use Rattle.pllex.specs.declared.quoted.QuotedStep.{QuotedStep}
use Rattle.pllex.specs.declared.quoted.QuotedStep.TheVariants as turns
use Rattle.pllex.specs.declared.quoted.Onward.TheVariants as onwards
use Rattle.pllex.specs.declared.quoted.Quoted.TheVariants as ends
use Rattle.pllex.specs.Characters.{begins_with, width, is_character, rest_of_character}
use Rattle.pllex.specs.Classes.{is_control}
use Rattle.pllex.specs.Escapes.{escape_turn}
use Rattle.pllex.specs.Quoted.{bare, plain_turn, of_escape, quoted_turn, counted_turn, quoted_goes_on, value_step, next_mode, value_goes_on, quoted_value}
use Rattle.pllex.specs.Quoted as lex
use Rattle.plwrite.specs.Names.{escaped}

-- ---- the scan, byte by byte

-- the scan of a quoted name goes on behind some of its bytes, which add to its value
pub record Goes (start : ℕ) (mode next : Within) (count more place end : ℕ) (bytes rest value : List ℕ) : Type 0 where
  pub scan : lex.quoted Single start mode count place bytes ≡ lex.quoted Single start next more end rest
  pub tells : quoted_value Single start mode place bytes ≡ value ++ quoted_value Single start next end rest

scan-cons : (start : ℕ) (mode : Within) (count place b : ℕ) (bytes : List ℕ) (t : QuotedStep) → quoted_turn Single start mode place b bytes ≡ t →
    lex.quoted Single start mode count place (b ∷ bytes) ≡ quoted_goes_on (λ next more. lex.quoted Single start next more (place + 1) bytes) (counted_turn Single start count place t)
unfolding lex.quoted
scan-cons start mode count place b bytes t e = ap (λ u. quoted_goes_on (λ next more. lex.quoted Single start next more (place + 1) bytes) (counted_turn Single start count place u)) e

value-cons : (start : ℕ) (mode : Within) (place b : ℕ) (bytes : List ℕ) (t : QuotedStep) → quoted_turn Single start mode place b bytes ≡ t →
    quoted_value Single start mode place (b ∷ bytes) ≡ value_step (b ∷ bytes) t ++ value_goes_on (λ next. quoted_value Single start next (place + 1) bytes) (next_mode t)
unfolding quoted_value
value-cons start mode place b bytes t e = ap (λ u. value_step (b ∷ bytes) u ++ value_goes_on (λ next. quoted_value Single start next (place + 1) bytes) (next_mode u)) e

few : (start count more : ℕ) (next : Within) → count + more ≤ 65535 → lex.bounded Single start count more next ≡ onwards.Goes next (count + more)
few start count more next h = cond-true (leb (count + more) 65535) _ _ (le-leb (count + more) 65535 h)

goes : (start : ℕ) (mode next : Within) (count place b : ℕ) (bytes : List ℕ) → quoted_turn Single start mode place b bytes ≡ turns.Goes next → Goes start mode next count count place (place + 1) (b ∷ bytes) bytes []
goes start mode next count place b bytes e = record { scan = scan-cons start mode count place b bytes _ e; tells = value-cons start mode place b bytes _ e }

adds : (start : ℕ) (mode next : Within) (c count place b : ℕ) (bytes : List ℕ) → quoted_turn Single start mode place b bytes ≡ turns.Adds next c → count + len_utf8 c ≤ 65535 → Goes start mode next count (count + len_utf8 c) place (place + 1) (b ∷ bytes) bytes (encode_utf8 c)
adds start mode next c count place b bytes e h = record {
  scan = scan-cons start mode count place b bytes _ e ∙ ap (quoted_goes_on (λ n m. lex.quoted Single start n m (place + 1) bytes)) (few start count (len_utf8 c) next h);
  tells = value-cons start mode place b bytes _ e;
}

keeps : (start : ℕ) (mode : Within) (n count place b : ℕ) (bytes : List ℕ) → quoted_turn Single start mode place b bytes ≡ turns.Keeps n → count + suc n ≤ 65535 → Goes start mode (Inside n) count (count + suc n) place (place + 1) (b ∷ bytes) bytes (take (n + 1) (b ∷ bytes))
keeps start mode n count place b bytes e h = record {
  scan = scan-cons start mode count place b bytes _ e ∙ ap (quoted_goes_on (λ n m. lex.quoted Single start n m (place + 1) bytes)) (few start count (suc n) (Inside n) h);
  tells = value-cons start mode place b bytes _ e;
}

then : {start : ℕ} {a b c : Within} {k l m p q r : ℕ} {x y z v w : List ℕ} → Goes start a b k l p q x y v → Goes start b c l m q r y z w → Goes start a c k m p r x z (v ++ w)
then {v = v} {w = w} s t = record { scan = s.scan ∙ t.scan; tells = s.tells ∙ ap (λ u. v ++ u) t.tells ∙ sym (append_assoc v w _) }

-- the same at another end, count or value
moved : {start : ℕ} {a b : Within} {k l m p q r : ℕ} {x y v w : List ℕ} → Goes start a b k l p q x y v → l ≡ m → q ≡ r → v ≡ w → Goes start a b k m p r x y w
moved {start} {a} {b} {k} {l} {m} {p} {q} {r} {x} {y} {v} {w} s e f g =
    subst (λ n. Goes start a b k n p r x y w) e (subst (λ n. Goes start a b k l p n x y w) f (subst (Goes start a b k l p q x y) g s))

-- ---- the bytes of a character past ASCII

inside : (start n count place : ℕ) (bytes rest : List ℕ) → length bytes ≡ n → Goes start (Inside n) (Inside 0) count count place (place + n) (bytes ++ rest) rest []
inside start zero count place [] rest e = record { scan = ap (λ p. lex.quoted Single start (Inside 0) count p rest) (omega arith); tells = ap (λ p. quoted_value Single start (Inside 0) p rest) (omega arith) }
inside start (suc n) count place [] rest e = absurd (omega arith)
inside start zero count place (b ∷ bytes) rest e = absurd (omega arith)
inside start (suc n) count place (b ∷ bytes) rest e =
    moved (then (goes start (Inside (suc n)) (Inside n) count place b (bytes ++ rest) refl) (inside start n count (place + 1) bytes rest (omega arith))) refl (omega arith) refl

-- ---- an escape sequence

abbrev is_empty : List ℕ → Bool
is_empty [] = true
is_empty (b ∷ bytes) = false

abbrev spells_on : (Escape → Bool) → ℕ → List ℕ → AfterEscape → Bool
spells_on rest c bytes (afters.Goes next) = rest next
spells_on rest c bytes (afters.Is d) = (d == c) && is_empty bytes
spells_on rest c bytes afters.Bad = false

-- the bytes end an escape sequence of a character
abbrev spells : Escape → ℕ → List ℕ → Bool
spells escape c [] = false
spells escape c (b ∷ bytes) = not (b == 10) && spells_on (λ next. spells next c bytes) c bytes (escape_turn escape b)

not_line : (b : Bool) (x y : QuotedStep) → not b ≡ true → cond b x y ≡ y
not_line true x y e = absurd cc
not_line false x y e = refl

spelled_on : (start at : ℕ) (escape : Escape) (c count place b : ℕ) (bytes rest : List ℕ) → count + len_utf8 c ≤ 65535 → (t : AfterEscape) → quoted_turn Single start (Escaped at escape) place b (bytes ++ rest) ≡ of_escape at t →
    ((next : Escape) → spells next c bytes ≡ true → Goes start (Escaped at next) (Inside 0) count (count + len_utf8 c) (place + 1) (place + 1 + length bytes) (bytes ++ rest) rest (encode_utf8 c)) →
    spells_on (λ next. spells next c bytes) c bytes t ≡ true → Goes start (Escaped at escape) (Inside 0) count (count + len_utf8 c) place (place + suc (length bytes)) (b ∷ (bytes ++ rest)) rest (encode_utf8 c)
spelled_on start at escape c count place b bytes rest h (afters.Goes next) e f s =
    moved (then (goes start (Escaped at escape) (Escaped at next) count place b (bytes ++ rest) e) (f next s)) refl (omega arith) refl
spelled_on start at escape c count place b [] rest h (afters.Is d) e f s =
    let same : d ≡ c = eqb-true d c (and_parts (d == c) true s).0 in
    adds start (Escaped at escape) (Inside 0) c count place b rest (e ∙ ap (λ x. of_escape at (afters.Is x)) same) h
spelled_on start at escape c count place b (x ∷ bytes) rest h (afters.Is d) e f s = absurd (let wrong : false ≡ true = (and_parts (d == c) false s).1 in cc)
spelled_on start at escape c count place b bytes rest h afters.Bad e f s = absurd cc

spelled : (start at : ℕ) (escape : Escape) (c count place : ℕ) (bytes rest : List ℕ) → count + len_utf8 c ≤ 65535 → spells escape c bytes ≡ true → Goes start (Escaped at escape) (Inside 0) count (count + len_utf8 c) place (place + length bytes) (bytes ++ rest) rest (encode_utf8 c)
spelled start at escape c count place [] rest h s = absurd cc
spelled start at escape c count place (b ∷ bytes) rest h s =
    let p = and_parts (not (b == 10)) _ s in
    spelled_on start at escape c count place b bytes rest h (escape_turn escape b) (not_line (b == 10) _ _ p.0) (λ next e. spelled start at next c count (place + 1) bytes rest h e) p.1

-- ---- a byte below 128

-- a byte that stands for itself
abbrev is_plain : ℕ → Bool
is_plain b = not (b == 39) && (not (b == 92) && (not (b == 10) && not (is_control b)))

abbrev is_spelled : ℕ → List ℕ → Bool
is_spelled b [] = false
is_spelled b (x ∷ []) = (x == b) && is_plain x
is_spelled b (x ∷ y ∷ bytes) = (x == 92) && spells Begins b (y ∷ bytes)

low_spelled : (b : ℕ) → b < 128 → is_spelled b (escaped b) ≡ true
low_spelled b h = agree_below_at (λ c. is_spelled c (escaped c)) (λ c. true) 128 b refl h

not_false : (b : Bool) → not b ≡ true → b ≡ false
not_false true e = absurd cc
not_false false e = refl

plain_keeps : (start place b : ℕ) (bytes : List ℕ) (n : ℕ) → is_plain b ≡ true → rest_of_character b bytes ≡ Some n → plain_turn Single start place b bytes ≡ turns.Keeps n
plain_keeps start place b bytes n e r =
    let p = and_parts (not (b == 39)) _ e in
    let q = and_parts (not (b == 92)) _ p.1 in
    let s = and_parts (not (b == 10)) _ q.1 in
    cond-false (b == 39) _ _ (not_false (b == 39) p.0) ∙ cond-false (b == 92) _ _ (not_false (b == 92) q.0) ∙ cond-false (b == 10) _ _ (not_false (b == 10) s.0)
    ∙ cond-false (is_control b) _ _ (not_false (is_control b) s.1) ∙ ap (bare place) r

-- the bytes of a name's part are written so that they are read back, whatever stands behind them
pub record Reads (bytes text : List ℕ) : Type 0 where
  pub again : (start count place : ℕ) (rest : List ℕ) → count + length bytes ≤ 65535 → Goes start (Inside 0) (Inside 0) count (count + length bytes) place (place + length text) (text ++ rest) rest bytes

pub low_reads : (b : ℕ) (text : List ℕ) → b < 128 → is_spelled b text ≡ true → Reads (b ∷ []) text
low_reads b [] h e = absurd cc
low_reads b (x ∷ []) h e =
    let p = and_parts (x == b) _ e in
    let same : x ≡ b = eqb-true x b p.0 in
    let small : x < 128 = omega arith in
    record {
      again = λ start count place rest few.
          moved (keeps start (Inside 0) 0 count place x rest (plain_keeps start place x rest 0 p.1 (cond-true (ltb x 128) _ _ (lt-ltb x 128 small))) few) refl refl (ap (λ c. c ∷ []) same);
    }
low_reads b (x ∷ y ∷ bytes) h e =
    let p = and_parts (x == 92) _ e in
    let same : 92 ≡ x = sym (eqb-true x 92 p.0) in
    let one : len_utf8 b ≡ 1 = len_utf8_ascii b h in
    record {
      again = λ start count place rest few.
          subst (λ c. Goes start (Inside 0) (Inside 0) count (count + 1) place (place + suc (suc (length bytes))) (c ∷ y ∷ (bytes ++ rest)) rest (b ∷ [])) same
          (moved (then (goes start (Inside 0) (Escaped place Begins) count place 92 (y ∷ (bytes ++ rest)) refl) (spelled start place Begins b count (place + 1) (y ∷ bytes) rest (omega arith) p.1)) (omega arith) (omega arith) (encode_ascii b h));
    }

-- ---- the characters of a name

-- bytes past ASCII
abbrev AreHigh : List ℕ → Type 0
AreHigh [] = Unit {0}
AreHigh (b ∷ bytes) = (128 ≤ b) × AreHigh bytes

are_high : (bytes : List ℕ) → ((k : ℕ) → k < length bytes → 128 ≤ get_or bytes k 0) → AreHigh bytes
are_high [] h = tt
are_high (b ∷ bytes) h = (h 0 (omega arith), are_high bytes (λ k below. h (suc k) (omega arith)))

high_itself : (b : ℕ) → 128 ≤ b → escaped b ≡ b ∷ []
high_itself b h = grind (arith, nat_tests)

high_escaped : (bytes : List ℕ) → AreHigh bytes → flat_map escaped bytes ≡ bytes
high_escaped [] h = refl
high_escaped (b ∷ bytes) h = ap (λ l. l ++ flat_map escaped bytes) (high_itself b h.0) ∙ ap (λ l. b ∷ l) (high_escaped bytes h.1)

encode_high : (c : ℕ) → 128 ≤ c → AreHigh (encode c)
encode_high c big = are_high (encode c) (λ k below. elim (cases_lt (get_or (encode c) k 0) 128) [
  | inl low ↦ absurd (omega (arith, inside_one c [] (encode c) k (sym (append-nil _)) below low))
  | inr h ↦ h
])

-- the first byte of a character past ASCII tells how many others there are
record Wide (bytes : List ℕ) : Type 0 where
  first : ℕ
  tail : List ℕ
  is : bytes ≡ first ∷ tail
  wide : width first ≡ suc (length tail)

two : (b : ℕ) → b < 224 → width b ≡ 2
two b h = cond-true (ltb b 224) _ _ (lt-ltb b 224 h)

three : (b : ℕ) → 224 ≤ b → b < 240 → width b ≡ 3
three b low high = cond-false (ltb b 224) _ _ (le-ltb b 224 low) ∙ cond-true (ltb b 240) _ _ (lt-ltb b 240 high)

four : (b : ℕ) → 240 ≤ b → width b ≡ 4
four b low = cond-false (ltb b 224) _ _ (le-ltb b 224 (omega arith)) ∙ cond-false (ltb b 240) _ _ (le-ltb b 240 low)

wide_of : (c : ℕ) → 128 ≤ c → Wide (encode c)
unfolding encode
wide_of c big =
    cond_both (ltb c 128) _ _ Wide (λ t. let small = ltb-true c 128 t in absurd (omega arith))
    (λ _. cond_both (ltb c 2048) _ _ Wide (λ t. let h = ltb-true c 2048 t in record { first = 192 + c / 64; tail = _; is = refl; wide = two (192 + c / 64) (omega arith) })
    (λ _. cond_both (ltb c 65536) _ _ Wide (λ t. let h = ltb-true c 65536 t in record { first = 224 + c / 4096; tail = _; is = refl; wide = three (224 + c / 4096) (omega arith) (omega arith) })
    (λ _. record { first = 240 + c / 262144; tail = _; is = refl; wide = four (240 + c / 262144) (omega arith) })))

high_plain : (b : ℕ) → 128 ≤ b → is_plain b ≡ true
high_plain b h = grind (arith, nat_tests)

taken : (bytes rest : List ℕ) (n : ℕ) → length bytes ≡ n → take n (bytes ++ rest) ≡ bytes
taken bytes rest n e = take_at bytes rest n e

-- the others are kept with it
high_character : (b : ℕ) (tail rest : List ℕ) → 128 ≤ b → width b ≡ suc (length tail) → is_utf8 (b ∷ tail) ≡ true → rest_of_character b (tail ++ rest) ≡ Some (length tail)
high_character b tail rest high wide utf8 =
    let all : leb (width b) (length (b ∷ (tail ++ rest))) ≡ true = le-leb (width b) (length (b ∷ (tail ++ rest))) (omega (arith, length-append tail rest)) in
    let same : take (width b) (b ∷ (tail ++ rest)) ≡ b ∷ tail = taken (b ∷ tail) rest (width b) (sym wide) in
    let less : width b - 1 ≡ length tail = omega arith in
    cond-false (ltb b 128) _ _ (le-ltb b 128 high) ∙ cond-true (is_character b (tail ++ rest)) _ _ (and_from _ _ all (ap is_utf8 same ∙ utf8)) ∙ ap Some less

high_reads : (c : ℕ) → 128 ≤ c → scalar c ≡ true → Reads (encode c) (flat_map escaped (encode c))
high_reads c big s =
    let w = wide_of c big in
    let high = encode_high c big in
    let text = high_escaped (encode c) high in
    subst (Reads (encode c)) (sym text) (subst (λ l. Reads l l) (sym w.is) (whole w.first w.tail (subst AreHigh w.is high).0 w.wide (subst (λ l. is_utf8 l ≡ true) w.is (is_utf8-from_IsUtf8 (encode c) (IsUtf8-encode c s)))))
  where
    whole : (b : ℕ) (tail : List ℕ) → 128 ≤ b → width b ≡ suc (length tail) → is_utf8 (b ∷ tail) ≡ true → Reads (b ∷ tail) (b ∷ tail)
    whole b tail high wide utf8 = record {
      again = λ start count place rest few.
          moved (then (keeps start (Inside 0) (length tail) count place b (tail ++ rest) (plain_keeps start place b (tail ++ rest) (length tail) (high_plain b high) (high_character b tail rest high wide utf8)) few)
          (inside start (length tail) (count + suc (length tail)) (place + 1) tail rest refl)) refl (omega arith) (append-nil _ ∙ taken (b ∷ tail) rest (length tail + 1) (omega arith));
    }

low_reads_escaped : (c : ℕ) → c < 128 → Reads (encode c) (flat_map escaped (encode c))
low_reads_escaped c h =
    subst (λ l. Reads l (flat_map escaped l)) (sym (encode_ascii c h)) (subst (Reads (c ∷ [])) (sym (append-nil (escaped c))) (low_reads c (escaped c) h (low_spelled c h)))

character_reads : (c : ℕ) → scalar c ≡ true → Reads (encode c) (flat_map escaped (encode c))
character_reads c s = elim (cases_lt c 128) [ inl h ↦ low_reads_escaped c h | inr h ↦ high_reads c h s ]

nothing : (start count place : ℕ) (rest : List ℕ) → Goes start (Inside 0) (Inside 0) count count place place rest rest []
nothing start count place rest = record { scan = refl; tells = refl }

no_bytes : Reads [] []
no_bytes = record { again = λ start count place rest few. moved (nothing start count place rest) (omega arith) (omega arith) refl }

both : {a b x y : List ℕ} → Reads a x → Reads b y → Reads (a ++ b) (x ++ y)
both {a} {b} {x} {y} f g = record {
  again = λ start count place rest few.
      let more = length-append a b in
      subst (λ l. Goes start (Inside 0) (Inside 0) count (count + length (a ++ b)) place (place + length (x ++ y)) l rest (a ++ b)) (sym (append_assoc x y rest))
      (moved (then (f.again start count place (y ++ rest) (omega arith)) (g.again start (count + length a) (place + length x) rest (omega arith))) (omega arith) (omega (arith, length-append x y)) refl);
}

characters_read : (cs : List ℕ) → scalars cs ≡ true → Reads (encodes cs) (flat_map escaped (encodes cs))
characters_read [] s = no_bytes
characters_read (c ∷ cs) s =
    let p = and_parts (scalar c) (scalars cs) s in
    subst (Reads (encode c ++ encodes cs)) (sym (flat_map-append escaped (encode c) (encodes cs))) (both (character_reads c p.0) (characters_read cs p.1))

name_reads : (s : List ℕ) → is_utf8 s ≡ true → Reads s (flat_map escaped s)
name_reads s u = let t = IsUtf8-from_is_utf8 s u in subst (λ l. Reads l (flat_map escaped l)) t.1.1 (characters_read t.0 t.1.0)

-- ---- the closing quote

closes : (start count place : ℕ) (rest : List ℕ) → begins_with 39 rest ≡ false → lex.quoted Single start (Inside 0) count place (39 ∷ rest) ≡ ends.Closed (place + 1)
closes start count place rest e = scan-cons start (Inside 0) count place 39 rest turns.Closes (cond-false (begins_with 39 rest) _ _ e)

adds_nothing : (start place : ℕ) (rest : List ℕ) → begins_with 39 rest ≡ false → quoted_value Single start (Inside 0) place (39 ∷ rest) ≡ []
adds_nothing start place rest e = value-cons start (Inside 0) place 39 rest turns.Closes (cond-false (begins_with 39 rest) _ _ e)

-- A name within quotes is scanned to its closing quote, and its value is the name.
pub quoted_closes : (s rest : List ℕ) (start : ℕ) → is_utf8 s ≡ true → length s ≤ 65535 → begins_with 39 rest ≡ false → lex.quoted Single start (Inside 0) 0 (start + 1) (flat_map escaped s ++ 39 ∷ rest) ≡ ends.Closed (start + 1 + length (flat_map escaped s) + 1)
quoted_closes s rest start u few e = ((name_reads s u).again start 0 (start + 1) (39 ∷ rest) (omega arith)).scan ∙ closes start (0 + length s) (start + 1 + length (flat_map escaped s)) rest e

pub quoted_tells : (s rest : List ℕ) (start : ℕ) → is_utf8 s ≡ true → length s ≤ 65535 → begins_with 39 rest ≡ false → quoted_value Single start (Inside 0) (start + 1) (flat_map escaped s ++ 39 ∷ rest) ≡ s
quoted_tells s rest start u few e =
    ((name_reads s u).again start 0 (start + 1) (39 ∷ rest) (omega arith)).tells ∙ ap (λ l. s ++ l) (adds_nothing start (start + 1 + length (flat_map escaped s)) rest e) ∙ append-nil s
