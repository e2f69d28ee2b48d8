-- What stands at a place of a text, by its first byte.
use Rattle.std.proofs.Common.{◌≡◌, ℕ, zero, suc, ◌<◌, ◌≤◌, ◌+◌, ◌-◌, true, false, ◌==◌, leb, List, [], ◌∷◌, ◌++◌, length, take, drop, refl, sym, ap, ◌∙◌, arith, drop-drop, drop_at, take_at}
use Rattle.std.specs.Prelude.{nat_eq}
use Rattle.std.specs.List.{list_all, starts_with}
use Rattle.std.proofs.lemmas.Bool.{cond-true, cond-false, le-leb, and_parts, and_left, ne_eqb}
use Rattle.pllex.specs.declared.token.Class.{Class}
use Rattle.pllex.specs.declared.token.Kind.{Kind}
use Rattle.pllex.specs.declared.layout.After.TheVariants.{Ends}
use Rattle.pllex.specs.declared.layout.Mode.TheVariants as modes
use Rattle.pllex.specs.declared.layout.Gap.TheVariants as gaps
use Rattle.pllex.specs.Characters.{after_mark}
use Rattle.pllex.specs.Classes.{in_class}
use Rattle.pllex.proofs.RunEnds.{run_end-cons}
use Rattle.pllex.specs.Tokens.{run_end, begins_in, between, gap, goes_on, token, named, item_of, item_at, after_gap, item_behind, next_item}

-- ---- runs

run_stays : (class : Class) (place : ℕ) (rest : List ℕ) → begins_in class rest ≡ false → run_end class place rest ≡ place
unfolding run_end
run_stays class place [] e = refl
run_stays class place (b ∷ rest) e = cond-false (in_class class b) _ _ e

-- a run goes over all bytes of its class, and no further
pub run_over : (class : Class) (place : ℕ) (bytes rest : List ℕ) → list_all (in_class class) bytes ≡ true → begins_in class rest ≡ false → run_end class place (bytes ++ rest) ≡ place + length bytes
run_over class place [] rest all e = run_stays class place rest e ∙ omega arith
run_over class place (b ∷ bytes) rest all e =
    let p = and_parts (in_class class b) (list_all (in_class class) bytes) all in
    run_end-cons class place b (bytes ++ rest) ∙ cond-true (in_class class b) _ _ p.0 ∙ run_over class (place + 1) bytes rest p.1 e ∙ omega arith

short : (kind : Kind) (place n : ℕ) → n ≤ 65535 → named kind place (place + n) ≡ token kind place (place + n)
short kind place n h = let e : (place + n) - place ≤ 65535 = omega arith in cond-true (leb ((place + n) - place) 65535) _ _ (le-leb ((place + n) - place) 65535 e)

-- a run behind a first byte is a token where it is no longer than a name
pub run_token : (kind : Kind) (class : Class) (place b : ℕ) (bytes rest : List ℕ) → list_all (in_class class) bytes ≡ true → length (b ∷ bytes) ≤ 65535 → begins_in class rest ≡ false →
    named kind place (run_end class (place + 1) (bytes ++ rest)) ≡ token kind place (place + length (b ∷ bytes))
run_token kind class place b bytes rest all few apart =
    let goes : run_end class (place + 1) (bytes ++ rest) ≡ place + length (b ∷ bytes) = run_over class (place + 1) bytes rest all apart ∙ omega arith in
    ap (named kind place) goes ∙ short kind place (length (b ∷ bytes)) few

-- ---- no layout before a token

gap_here : (place b : ℕ) (bytes : List ℕ) → between place b bytes ≡ Ends → gap modes.Between place (b ∷ bytes) ≡ gaps.Before place
unfolding gap
gap_here place b bytes e = ap (λ o. goes_on (λ next. gap next (place + 1) bytes) place o) e

gap_space : (place : ℕ) (bytes : List ℕ) → gap modes.Between place (32 ∷ bytes) ≡ gap modes.Between (place + 1) bytes
unfolding gap
gap_space place bytes = refl

-- the text does not begin with a byte order mark where it begins with an ASCII character
not_marked : (b : ℕ) (bytes : List ℕ) → b < 128 → starts_with nat_eq (b ∷ bytes) (0xEF ∷ 0xBB ∷ 0xBF ∷ []) ≡ false
not_marked b bytes h = and_left (nat_eq 239 b) _ (ne_eqb 239 b (λ e. omega arith))

no_mark : (whole : List ℕ) (place b : ℕ) (bytes : List ℕ) → drop place whole ≡ b ∷ bytes → b < 128 → after_mark whole place ≡ place
no_mark whole zero b bytes e h = cond-false _ _ _ (ap (λ l. starts_with nat_eq l (0xEF ∷ 0xBB ∷ 0xBF ∷ [])) e ∙ not_marked b bytes h)
no_mark whole (suc place) b bytes e h = cond-false _ _ _ (and_left (suc place == 0) _ (ne_eqb (suc place) 0 (λ e. omega arith)))

next-is : (whole : List ℕ) (place : ℕ) → next_item whole place ≡ item_behind whole (after_mark whole place)
unfolding next_item
next-is whole place = refl

-- the next token where it stands at once
pub next_here : (whole : List ℕ) (place b : ℕ) (bytes : List ℕ) → drop place whole ≡ b ∷ bytes → b < 128 → between place b bytes ≡ Ends → next_item whole place ≡ item_of whole place b bytes
next_here whole place b bytes e h n =
    next-is whole place ∙ ap (item_behind whole) (no_mark whole place b bytes e h)
    ∙ ap (λ l. after_gap whole (gap modes.Between place l)) e ∙ ap (after_gap whole) (gap_here place b bytes n) ∙ ap (item_at whole place) e

-- the next token behind a space
pub next_behind_space : (whole : List ℕ) (place : ℕ) (bytes : List ℕ) → drop place whole ≡ 32 ∷ bytes → drop (place + 1) whole ≡ bytes → next_item whole place ≡ next_item whole (place + 1)
next_behind_space whole place bytes e f =
    let behind : after_mark whole (place + 1) ≡ place + 1 = cond-false _ _ _ (and_left ((place + 1) == 0) _ (ne_eqb (place + 1) 0 (λ n. omega arith))) in
    next-is whole place ∙ ap (item_behind whole) (no_mark whole place 32 bytes e (omega arith))
    ∙ ap (after_gap whole) (ap (gap modes.Between place) e ∙ gap_space place bytes ∙ ap (gap modes.Between (place + 1)) (sym f))
    ∙ sym (next-is whole (place + 1) ∙ ap (item_behind whole) behind)

-- ---- the bytes of a token, and those behind it

pub past : (whole : List ℕ) (place : ℕ) (bytes rest : List ℕ) → drop place whole ≡ bytes ++ rest → drop (place + length bytes) whole ≡ rest
past whole place bytes rest e = sym (drop-drop (length bytes) place whole) ∙ ap (drop (length bytes)) e ∙ drop_at bytes rest (length bytes) refl

pub bytes_at : (whole : List ℕ) (place : ℕ) (bytes rest : List ℕ) → drop place whole ≡ bytes ++ rest → take ((place + length bytes) - place) (drop place whole) ≡ bytes
bytes_at whole place bytes rest e =
    let n : (place + length bytes) - place ≡ length bytes = omega arith in
    ap (λ k. take k (drop place whole)) n ∙ ap (take (length bytes)) e ∙ take_at bytes rest (length bytes) refl
