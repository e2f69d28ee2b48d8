-- Escape sequences, byte by byte.
use Rattle.std.proofs.Common.{◌≡◌, ◌≤◌, ◌<◌, ◌+◌, ℕ, List, [], ◌∷◌, length, drop, get_or, refl, sym, ap, ◌∙◌, drop_of_length-le}
use Rattle.pllex.specs.declared.escape.Escape.{Escape}
use Rattle.pllex.specs.declared.escape.AfterEscape.TheVariants as turns
use Rattle.pllex.specs.declared.escape.Coded.TheVariants as coded
use Rattle.pllex.specs.Escapes.{escape_turn, code_goes_on, escape_code}
use Rattle.pllex.proofs.RunEnds.{drop_here}

code-cons : (escape : Escape) (place b : ℕ) (bytes : List ℕ) → escape_code escape place (b ∷ bytes) ≡ code_goes_on (λ next. escape_code next (place + 1) bytes) place (escape_turn escape b)
unfolding escape_code
code-cons escape place b bytes = refl

code-nil : (escape : Escape) (place : ℕ) → escape_code escape place [] ≡ coded.NoCharacter
unfolding escape_code
code-nil escape place = refl

code_here : (escape : Escape) (place : ℕ) (text : List ℕ) → place < length text → escape_code escape place (drop place text) ≡ code_goes_on (λ next. escape_code next (place + 1) (drop (place + 1) text)) place (escape_turn escape (get_or text place 0))
code_here escape place text h = ap (escape_code escape place) (drop_here text place h) ∙ code-cons escape place (get_or text place 0) (drop (place + 1) text)

pub code_goes : (escape next : Escape) (place : ℕ) (text : List ℕ) → place < length text → escape_turn escape (get_or text place 0) ≡ turns.Goes next → escape_code next (place + 1) (drop (place + 1) text) ≡ escape_code escape place (drop place text)
code_goes escape next place text h e = sym (code_here escape place text h ∙ ap (code_goes_on (λ next. escape_code next (place + 1) (drop (place + 1) text)) place) e)

pub code_is : (escape : Escape) (c place : ℕ) (text : List ℕ) → place < length text → escape_turn escape (get_or text place 0) ≡ turns.Is c → escape_code escape place (drop place text) ≡ coded.Character c (place + 1)
code_is escape c place text h e = code_here escape place text h ∙ ap (code_goes_on (λ next. escape_code next (place + 1) (drop (place + 1) text)) place) e

pub code_bad : (escape : Escape) (place : ℕ) (text : List ℕ) → place < length text → escape_turn escape (get_or text place 0) ≡ turns.Bad → escape_code escape place (drop place text) ≡ coded.NoCharacter
code_bad escape place text h e = code_here escape place text h ∙ ap (code_goes_on (λ next. escape_code next (place + 1) (drop (place + 1) text)) place) e

pub code_over : (escape : Escape) (place : ℕ) (text : List ℕ) → length text ≤ place → escape_code escape place (drop place text) ≡ coded.NoCharacter
code_over escape place text h = ap (escape_code escape place) (drop_of_length-le text h) ∙ code-nil escape place
