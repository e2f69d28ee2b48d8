use Rattle.std.proofs.Common.{◌≡◌, ℕ, List, refl, slice_get, ◌++◌, ◌∷◌, [], length, sym, ap, ◌∙◌, arith}
use Rattle.std.specs.Char.{encode_utf8}
use Rattle.std.specs.Str.{chars}
use Rattle.std.specs.Str.Iter.{chars_rest}
use Rattle.std.proofs.lemmas.Str.{chars_past_char, chars-nil}
use Rattle.planswers.proofs.text.one_character.Goals as goal

no_items : (xs : List ℕ) → length xs ≡ 0 → xs ≡ []
no_items [] e = refl
no_items (x ∷ xs) e = absurd (omega (arith, e))

pub returns-in-None-clause-some : goal.returns-in-None-clause-some
returns-in-None-clause-some c =
    let text = c.args.text.now in
    let rest = chars_rest c.next.new.self in
    let spelled : text ≡ encode_utf8 c.in_ok-first.first ++ rest = sym c.chars-characters.ensures.rest ∙ c.in_ok-first.ensures.steps.0 in
    let nothing : rest ≡ [] = no_items rest c.in-None.ensures.steps.0.0 in
    chars_past_char text rest c.in_ok-first.first c.utf8.text spelled ∙ ap (λ cs. c.in_ok-first.first ∷ cs) (ap chars nothing ∙ chars-nil)

pub returns-in-Some-clause-none : goal.returns-in-Some-clause-none
returns-in-Some-clause-none c = λ d one.
    let text = c.args.text.now in
    let rest = chars_rest c.next.new.self in
    let spelled : text ≡ encode_utf8 c.in_ok-first.first ++ rest = sym c.chars-characters.ensures.rest ∙ c.in_ok-first.ensures.steps.0 in
    let all = chars_past_char text rest c.in_ok-first.first c.utf8.text spelled in
    let nothing : chars rest ≡ [] = cc (sym all ∙ one) in
    absurd (cc (c.in-Some.ensures.steps.2 ∙ ap (λ cs. slice_get cs 0) nothing))
