-- A quoted item that closes: where it ends, and its value.
use Rattle.std.proofs.Common.{◌≡◌, ℕ, zero, suc, ◌<◌, ◌≤◌, ◌+◌, ◌*◌, Bool, true, false, cond, ◌||◌, ◌==◌, leb, List, [], ◌∷◌, ◌++◌, length, take, Option, Some, None, refl, sym, subst, arith, add-one, length-append, length-take}
use Rattle.std.specs.Str.{IsUtf8}
use Rattle.std.specs.Char.{len_utf8, digit_value}
use Rattle.std.specs.Prelude.{encode_utf8}
use Rattle.std.proofs.lemmas.Bool.{leb-true, eqb-true, cond_both}
use Rattle.std.proofs.lemmas.Bool.Decides.{nat_tests}
use Rattle.std.proofs.lemmas.Str.{IsUtf8-append, IsUtf8-nil, IsUtf8-encode, length-encode}
use Rattle.pllex.specs.declared.token.Base.{Base}
use Rattle.pllex.specs.declared.token.Base.TheVariants.{Octal, Hexadecimal}
use Rattle.pllex.specs.declared.token.Fault.TheVariants as faults
use Rattle.pllex.specs.declared.escape.Escape.{Escape}
use Rattle.pllex.specs.declared.escape.Escape.TheVariants as escapes
use Rattle.pllex.specs.declared.escape.AfterEscape.{AfterEscape}
use Rattle.pllex.specs.declared.escape.AfterEscape.TheVariants as afters
use Rattle.pllex.specs.declared.quoted.Quote.{Quote}
use Rattle.pllex.specs.declared.quoted.Quote.TheVariants.{Single, Double}
use Rattle.pllex.specs.declared.quoted.Within.{Within}
use Rattle.pllex.specs.declared.quoted.Within.TheVariants as modes
use Rattle.pllex.specs.declared.quoted.QuotedStep.{QuotedStep}
use Rattle.pllex.specs.declared.quoted.QuotedStep.TheVariants as turns
use Rattle.pllex.specs.declared.quoted.Onward.{Onward}
use Rattle.pllex.specs.declared.quoted.Onward.TheVariants as onwards
use Rattle.pllex.specs.declared.quoted.Quoted.{Quoted}
use Rattle.pllex.specs.declared.quoted.Quoted.TheVariants as ends
use Rattle.pllex.specs.Characters.{begins_with, rest_of_character}
use Rattle.pllex.specs.Classes.{is_control, is_digit, radix}
use Rattle.pllex.specs.Escapes.{escaped, is_scalar, in_code, of_code, of_letter, escape_turn}
use Rattle.pllex.specs.Quoted.{mark, bare, plain_turn, of_escape, newline_turn, quoted_turn, counted, bounded, counted_turn, quoted_goes_on, quoted, value_step, next_mode, value_goes_on, quoted_value}
use Rattle.pllex.specs.Places.{EndsAt}
use Rattle.pllex.proofs.Decoded.{kept_text}

-- ---- where it ends

pub record Shut (place len end : ℕ) : Type 0 where
  pub behind : place < end
  pub within : end ≤ place + len

bounded_at : (quote : Quote) (start count more place : ℕ) (next : Within) → EndsAt place (bounded quote start count more next)
bounded_at quote start count more place next =
    cond_both (leb (counted quote count more) 65535) (onwards.Goes next (counted quote count more)) (onwards.Ends (ends.Bad faults.NameTooLong start)) (EndsAt place) (λ _. tt) (λ _. tt)

ends_at : (quote : Quote) (start count place : ℕ) (t : QuotedStep) → EndsAt place (counted_turn quote start count place t)
ends_at quote start count place (turns.Goes next) = tt
ends_at quote start count place (turns.Adds next c) = bounded_at quote start count (len_utf8 c) place next
ends_at quote start count place (turns.Keeps rest) = bounded_at quote start count (suc rest) place (modes.Inside rest)
ends_at quote start count place turns.Closes = refl
ends_at quote start count place (turns.Bad fault at) = tt

shut_by : (o : Onward) (rest : Within → ℕ → Quoted) (place len end : ℕ) → EndsAt place o → ((next : Within) (more : ℕ) → rest next more ≡ ends.Closed end → Shut (place + 1) len end) → quoted_goes_on rest o ≡ ends.Closed end → Shut place (suc len) end
shut_by (onwards.Goes next more) rest place len end a f h = let s = f next more h in record { behind = omega (arith, s.behind); within = omega (arith, s.within) }
shut_by (onwards.Ends (ends.Closed e)) rest place len end a f h = let same : e ≡ end = cc in record { behind = omega arith; within = omega arith }
shut_by (onwards.Ends (ends.Bad fault at)) rest place len end a f h = absurd cc

pub shut : (quote : Quote) (start : ℕ) (mode : Within) (count place : ℕ) (bytes : List ℕ) (end : ℕ) → quoted quote start mode count place bytes ≡ ends.Closed end → Shut place (length bytes) end
unfolding quoted
shut quote start mode count place [] end h = absurd cc
shut quote start mode count place (b ∷ bytes) end h =
    shut_by (counted_turn quote start count place (quoted_turn quote start mode place b bytes)) (λ next more. quoted quote start next more (place + 1) bytes) place (length bytes) end
    (ends_at quote start count place (quoted_turn quote start mode place b bytes))
    (λ next more e. shut quote start next more (place + 1) bytes end e) h

-- ---- how long its value is

few_bounded : (start count more len place end : ℕ) (next : Within) (rest : Within → ℕ → Quoted) (value : List ℕ) → ((n : ℕ) → n ≤ 65535 → rest next n ≡ ends.Closed end → n + length value ≤ 65535) → len ≤ more →
    quoted_goes_on rest (bounded Single start count more next) ≡ ends.Closed end → count + (len + length value) ≤ 65535
few_bounded start count more len place end next rest value f le =
    cond_both (leb (count + more) 65535) (onwards.Goes next (count + more)) (onwards.Ends (ends.Bad faults.NameTooLong start)) (λ o. quoted_goes_on rest o ≡ ends.Closed end → count + (len + length value) ≤ 65535)
    (λ t h. omega (arith, f (count + more) (leb-true (count + more) 65535 t) h))
    (λ _ h. absurd cc)

few_by : (start count place end : ℕ) (bytes : List ℕ) (t : QuotedStep) (rest : Within → ℕ → Quoted) (value : Within → List ℕ) → ((next : Within) (n : ℕ) → n ≤ 65535 → rest next n ≡ ends.Closed end → n + length (value next) ≤ 65535) → count ≤ 65535 →
    quoted_goes_on rest (counted_turn Single start count place t) ≡ ends.Closed end → count + length (value_step bytes t ++ value_goes_on value (next_mode t)) ≤ 65535
few_by start count place end bytes (turns.Goes next) rest value f le h = f next count le h
few_by start count place end bytes (turns.Adds next c) rest value f le h =
    let n = few_bounded start count (len_utf8 c) (length (encode_utf8 c)) place end next rest (value next) (f next) (omega (arith, length-encode c)) h in
    omega (arith, length-append (encode_utf8 c) (value next))
few_by start count place end bytes (turns.Keeps more) rest value f le h =
    let n = few_bounded start count (suc more) (length (take (more + 1) bytes)) place end (modes.Inside more) rest (value (modes.Inside more)) (f (modes.Inside more)) (omega (arith, length-take (more + 1) bytes)) h in
    omega (arith, length-append (take (more + 1) bytes) (value (modes.Inside more)))
few_by start count place end bytes turns.Closes rest value f le h = omega arith
few_by start count place end bytes (turns.Bad fault at) rest value f le h = absurd cc

pub few : (start : ℕ) (mode : Within) (count place : ℕ) (bytes : List ℕ) (end : ℕ) → count ≤ 65535 → quoted Single start mode count place bytes ≡ ends.Closed end → count + length (quoted_value Single start mode place bytes) ≤ 65535
unfolding quoted quoted_value
few start mode count place [] end le h = absurd cc
few start mode count place (b ∷ bytes) end le h =
    few_by start count place end (b ∷ bytes) (quoted_turn Single start mode place b bytes) (λ next more. quoted Single start next more (place + 1) bytes) (λ next. quoted_value Single start next (place + 1) bytes)
    (λ next n l e. few start next n (place + 1) bytes end l e) le h

-- ---- its value is text

escaped_scalar : (b c : ℕ) → escaped b ≡ Some c → is_scalar c ≡ true
escaped_scalar b c =
    cond_both ((b == 92) || (b == 39) || (b == 34) || (b == 96)) _ _ (λ o. o ≡ Some c → is_scalar c ≡ true) (λ t e. let same : b ≡ c = cc in subst (λ x. is_scalar x ≡ true) same (itself b t))
    (λ _. one 7 (b == 97) _ refl
    (one 8 (b == 98) _ refl
    (one 12 (b == 102) _ refl
    (one 10 (b == 110) _ refl
    (one 13 (b == 114) _ refl
    (one 9 (b == 116) _ refl
    (one 11 (b == 118) None refl (λ e. absurd cc))))))))
  where
    itself : (b : ℕ) → ((b == 92) || (b == 39) || (b == 34) || (b == 96)) ≡ true → is_scalar b ≡ true
    itself b t = grind (arith, nat_tests)

    one : (n : ℕ) (test : Bool) (o : Option ℕ) → is_scalar n ≡ true → (o ≡ Some c → is_scalar c ≡ true) → cond test (Some n) o ≡ Some c → is_scalar c ≡ true
    one n true o h f e = let same : n ≡ c = cc in subst (λ x. is_scalar x ≡ true) same h
    one n false o h f e = f e

in_code_scalar : (base : Base) (code b c : ℕ) → in_code base code b ≡ afters.Is c → is_scalar c ≡ true
in_code_scalar base code b c = cond_both (leb (radix base * code + digit_value b) 0x10FFFF) (afters.Goes (escapes.Digits base (radix base * code + digit_value b))) afters.Bad (λ o. o ≡ afters.Is c → is_scalar c ≡ true) (λ _ e. absurd cc) (λ _ e. absurd cc)

of_code_scalar : (code c : ℕ) → of_code code ≡ afters.Is c → is_scalar c ≡ true
of_code_scalar code c = cond_both (is_scalar code) (afters.Is code) afters.Bad (λ o. o ≡ afters.Is c → is_scalar c ≡ true) (λ t e. let same : code ≡ c = cc in subst (λ x. is_scalar x ≡ true) same t) (λ _ e. absurd cc)

of_letter_scalar : (o : Option ℕ) (c : ℕ) → ((d : ℕ) → o ≡ Some d → is_scalar d ≡ true) → of_letter o ≡ afters.Is c → is_scalar c ≡ true
of_letter_scalar None c f e = absurd cc
of_letter_scalar (Some d) c f e = let same : d ≡ c = cc in subst (λ x. is_scalar x ≡ true) same (f d refl)

escape_scalar : (escape : Escape) (b c : ℕ) → escape_turn escape b ≡ afters.Is c → is_scalar c ≡ true
escape_scalar escapes.Begins b c =
    cond_both (b == 120) (afters.Goes escapes.BeforeDigits) (cond (is_digit Octal b) (in_code Octal 0 b) (of_letter (escaped b))) (λ o. o ≡ afters.Is c → is_scalar c ≡ true) (λ _ e. absurd cc)
    (λ _. cond_both (is_digit Octal b) (in_code Octal 0 b) (of_letter (escaped b)) (λ o. o ≡ afters.Is c → is_scalar c ≡ true) (λ _ e. in_code_scalar Octal 0 b c e)
    (λ _ e. of_letter_scalar (escaped b) c (λ d f. escaped_scalar b d f) e))
escape_scalar escapes.BeforeDigits b c = cond_both (is_digit Hexadecimal b) (in_code Hexadecimal 0 b) afters.Bad (λ o. o ≡ afters.Is c → is_scalar c ≡ true) (λ _ e. in_code_scalar Hexadecimal 0 b c e) (λ _ e. absurd cc)
escape_scalar (escapes.Digits base code) b c =
    cond_both (is_digit base b) (in_code base code b) (cond (b == 92) (of_code code) afters.Bad) (λ o. o ≡ afters.Is c → is_scalar c ≡ true) (λ _ e. in_code_scalar base code b c e)
    (λ _. cond_both (b == 92) (of_code code) afters.Bad (λ o. o ≡ afters.Is c → is_scalar c ≡ true) (λ _ e. of_code_scalar code c e) (λ _ e. absurd cc))

mark_scalar : (quote : Quote) → is_scalar (mark quote) ≡ true
mark_scalar Single = refl
mark_scalar Double = refl

escape_step : (at : ℕ) (bytes : List ℕ) (o : AfterEscape) → ((c : ℕ) → o ≡ afters.Is c → is_scalar c ≡ true) → IsUtf8 (value_step bytes (of_escape at o))
escape_step at bytes (afters.Goes next) f = IsUtf8-nil
escape_step at bytes (afters.Is c) f = IsUtf8-encode c (f c refl)
escape_step at bytes afters.Bad f = IsUtf8-nil

newline_step : (start : ℕ) (bytes : List ℕ) (escape : Escape) → IsUtf8 (value_step bytes (newline_turn start escape))
newline_step start bytes escapes.Begins = IsUtf8-nil
newline_step start bytes escapes.BeforeDigits = IsUtf8-nil
newline_step start bytes (escapes.Digits base code) = IsUtf8-nil

bare_step : (place b : ℕ) (bytes : List ℕ) (o : Option ℕ) → ((rest : ℕ) → o ≡ Some rest → IsUtf8 (take (suc rest) (b ∷ bytes))) → IsUtf8 (value_step (b ∷ bytes) (bare place o))
bare_step place b bytes None f = IsUtf8-nil
bare_step place b bytes (Some rest) f = subst (λ n. IsUtf8 (take n (b ∷ bytes))) (sym (add-one rest)) (f rest refl)

plain_step : (quote : Quote) (start place b : ℕ) (bytes : List ℕ) → IsUtf8 (value_step (b ∷ bytes) (plain_turn quote start place b bytes))
plain_step quote start place b bytes =
    let P : QuotedStep → Type 0 = λ t. IsUtf8 (value_step (b ∷ bytes) t) in
    cond_both (b == mark quote) _ _ P
    (λ t. cond_both (begins_with (mark quote) bytes) (turns.Adds modes.Twin b) turns.Closes P (λ _. IsUtf8-encode b (subst (λ x. is_scalar x ≡ true) (sym (eqb-true b (mark quote) t)) (mark_scalar quote))) (λ _. IsUtf8-nil))
    (λ _. cond_both (b == 92) _ _ P (λ _. IsUtf8-nil)
    (λ _. cond_both (b == 10) _ _ P (λ _. IsUtf8-nil)
    (λ _. cond_both (is_control b) (turns.Bad faults.BadCharacter place) (bare place (rest_of_character b bytes)) P (λ _. IsUtf8-nil)
    (λ _. bare_step place b bytes (rest_of_character b bytes) (λ rest e. kept_text b bytes rest e)))))

step_utf8 : (quote : Quote) (start : ℕ) (mode : Within) (place b : ℕ) (bytes : List ℕ) → IsUtf8 (value_step (b ∷ bytes) (quoted_turn quote start mode place b bytes))
step_utf8 quote start (modes.Inside zero) place b bytes = plain_step quote start place b bytes
step_utf8 quote start (modes.Inside (suc rest)) place b bytes = IsUtf8-nil
step_utf8 quote start modes.Twin place b bytes = IsUtf8-nil
step_utf8 quote start (modes.Escaped at escape) place b bytes =
    cond_both (b == 10) (newline_turn start escape) (of_escape at (escape_turn escape b)) (λ t. IsUtf8 (value_step (b ∷ bytes) t)) (λ _. newline_step start (b ∷ bytes) escape)
    (λ _. escape_step at (b ∷ bytes) (escape_turn escape b) (λ c e. escape_scalar escape b c e))

goes_utf8 : (value : Within → List ℕ) (o : Option Within) → ((next : Within) → IsUtf8 (value next)) → IsUtf8 (value_goes_on value o)
goes_utf8 value None f = IsUtf8-nil
goes_utf8 value (Some next) f = f next

pub value_utf8 : (quote : Quote) (start : ℕ) (mode : Within) (place : ℕ) (bytes : List ℕ) → IsUtf8 (quoted_value quote start mode place bytes)
unfolding quoted_value
value_utf8 quote start mode place [] = IsUtf8-nil
value_utf8 quote start mode place (b ∷ bytes) =
    IsUtf8-append (value_step (b ∷ bytes) (quoted_turn quote start mode place b bytes)) _ (step_utf8 quote start mode place b bytes)
    (goes_utf8 (λ next. quoted_value quote start next (place + 1) bytes) (next_mode (quoted_turn quote start mode place b bytes)) (λ next. value_utf8 quote start next (place + 1) bytes))
