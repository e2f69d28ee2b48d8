-- A run, byte by byte.
use Rattle.std.proofs.Common.{◌≡◌, ◌≤◌, ◌<◌, ◌+◌, ℕ, List, [], ◌∷◌, length, drop, get_or, true, false, cond, refl, sym, ap, ◌∙◌, arith, add-one, drop-cons, drop_of_length-le}
use Rattle.std.proofs.lemmas.Bool.{cond_both}
use Rattle.pllex.specs.declared.token.Class.{Class}
use Rattle.pllex.specs.Classes.{in_class}
use Rattle.pllex.specs.declared.layout.Mode.{Mode}
use Rattle.pllex.specs.declared.layout.After.TheVariants as afters
use Rattle.pllex.specs.declared.layout.Gap.TheVariants as gaps
use Rattle.pllex.specs.Tokens.{run_end, turn, goes_on, gap, gap_end}

-- the bytes from a place on
pub drop_here : (text : List ℕ) (place : ℕ) → place < length text → drop place text ≡ get_or text place 0 ∷ drop (place + 1) text
drop_here text place h = rw add-one (drop-cons text place 0 h)

pub run_end-cons : (class : Class) (place b : ℕ) (bytes : List ℕ) → run_end class place (b ∷ bytes) ≡ cond (in_class class b) (run_end class (place + 1) bytes) place
unfolding run_end
run_end-cons class place b bytes = refl

run_end-nil : (class : Class) (place : ℕ) → run_end class place [] ≡ place
unfolding run_end
run_end-nil class place = refl

pub run_goes : (class : Class) (place : ℕ) (text : List ℕ) → place < length text → in_class class (get_or text place 0) ≡ true → run_end class (place + 1) (drop (place + 1) text) ≡ run_end class place (drop place text)
run_goes class place text h e =
    sym (ap (run_end class place) (drop_here text place h) ∙ run_end-cons class place (get_or text place 0) (drop (place + 1) text) ∙ ap (λ b. cond b (run_end class (place + 1) (drop (place + 1) text)) place) e)

pub run_stops : (class : Class) (place : ℕ) (text : List ℕ) → place < length text → in_class class (get_or text place 0) ≡ false → run_end class place (drop place text) ≡ place
run_stops class place text h e =
    ap (run_end class place) (drop_here text place h) ∙ run_end-cons class place (get_or text place 0) (drop (place + 1) text) ∙ ap (λ b. cond b (run_end class (place + 1) (drop (place + 1) text)) place) e

pub run_over : (class : Class) (place : ℕ) (text : List ℕ) → length text ≤ place → run_end class place (drop place text) ≡ place
run_over class place text h = ap (run_end class place) (drop_of_length-le text h) ∙ run_end-nil class place

pub drop_over : (text : List ℕ) (place : ℕ) → length text ≤ place → drop place text ≡ []
drop_over text place h = drop_of_length-le text h

gap-cons : (mode : Mode) (place b : ℕ) (bytes : List ℕ) → gap mode place (b ∷ bytes) ≡ goes_on (λ next. gap next (place + 1) bytes) place (turn mode place b bytes)
unfolding gap
gap-cons mode place b bytes = refl

gap-nil : (mode : Mode) (place : ℕ) → gap mode place [] ≡ gap_end mode place
unfolding gap
gap-nil mode place = refl

pub gap_goes : (mode next : Mode) (place : ℕ) (text : List ℕ) → place < length text → turn mode place (get_or text place 0) (drop (place + 1) text) ≡ afters.Goes next → gap next (place + 1) (drop (place + 1) text) ≡ gap mode place (drop place text)
gap_goes mode next place text h e =
    sym (ap (gap mode place) (drop_here text place h) ∙ gap-cons mode place (get_or text place 0) (drop (place + 1) text) ∙ ap (λ o. goes_on (λ m. gap m (place + 1) (drop (place + 1) text)) place o) e)

pub gap_stops : (mode : Mode) (place : ℕ) (text : List ℕ) → place < length text → turn mode place (get_or text place 0) (drop (place + 1) text) ≡ afters.Ends → gap mode place (drop place text) ≡ gaps.Before place
gap_stops mode place text h e =
    ap (gap mode place) (drop_here text place h) ∙ gap-cons mode place (get_or text place 0) (drop (place + 1) text) ∙ ap (λ o. goes_on (λ m. gap m (place + 1) (drop (place + 1) text)) place o) e

pub gap_fails : (mode : Mode) (place : ℕ) (text : List ℕ) → place < length text → turn mode place (get_or text place 0) (drop (place + 1) text) ≡ afters.Bad → gap mode place (drop place text) ≡ gaps.Bad place
gap_fails mode place text h e =
    ap (gap mode place) (drop_here text place h) ∙ gap-cons mode place (get_or text place 0) (drop (place + 1) text) ∙ ap (λ o. goes_on (λ m. gap m (place + 1) (drop (place + 1) text)) place o) e

pub gap_over : (mode : Mode) (place : ℕ) (text : List ℕ) → length text ≤ place → gap mode place (drop place text) ≡ gap_end mode place
gap_over mode place text h = ap (gap mode place) (drop_of_length-le text h) ∙ gap-nil mode place

-- a run goes on from where it begins
pub run_behind : (class : Class) (place : ℕ) (bytes : List ℕ) → place ≤ run_end class place bytes
unfolding run_end
run_behind class place [] = omega arith
run_behind class place (b ∷ bytes) = cond_both (in_class class b) (run_end class (place + 1) bytes) place (λ e. place ≤ e) (λ t. omega (arith, run_behind class (place + 1) bytes)) (λ f. omega arith)

-- one that has a byte ends behind it
pub run_some : (class : Class) (place : ℕ) (text : List ℕ) → place < length text → in_class class (get_or text place 0) ≡ true → place < run_end class place (drop place text)
run_some class place text h e = let same = run_goes class place text h e in let more = run_behind class (place + 1) (drop (place + 1) text) in omega arith
