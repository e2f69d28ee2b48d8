-- The next clause behind a line's end is that of the next line.
use Rattle.std.proofs.Common.{◌≡◌, ◌+◌, ℕ, zero, suc, List, [], ◌∷◌, drop, ◌&&◌, refl, sym, ap, subst, ◌∙◌, arith}
use Rattle.std.specs.Prelude.{if◌then◌else◌, nat_eq}
use Rattle.std.specs.List.{starts_with}
use Rattle.std.proofs.lemmas.Bool.{ne_eqb}
use Rattle.pllex.specs.declared.token.Token.{Token}
use Rattle.pllex.specs.declared.token.Scanned.TheVariants as items
use Rattle.pllex.specs.declared.layout.Mode.TheVariants as modes
use Rattle.pllex.specs.Tokens.{gap, item_at, after_gap, item_behind, next_item, IsClause, IsOver}
use Rattle.pllex.proofs.Names.{rest_is}

-- behind a place that is not the first no mark is looked for
next_behind : (text : List ℕ) (from : ℕ) → next_item text (suc from) ≡ item_behind text (suc from)
unfolding next_item
next_behind text from =
    ap (λ b. item_behind text (if b && starts_with nat_eq text (0xEF ∷ 0xBB ∷ 0xBF ∷ []) then 3 else suc from)) (ne_eqb (suc from) 0 (λ n. omega arith))

newline_gap : (place : ℕ) (bytes : List ℕ) → gap modes.Between place (10 ∷ bytes) ≡ gap modes.Between (place + 1) bytes
unfolding gap
newline_gap place bytes = refl

newline_behind : (text : List ℕ) (place : ℕ) (bytes : List ℕ) → drop place text ≡ 10 ∷ bytes → item_behind text place ≡ item_behind text (place + 1)
newline_behind text place bytes e =
    ap (λ l. after_gap text (gap modes.Between place l)) e ∙ ap (after_gap text) (newline_gap place bytes) ∙ ap (λ l. after_gap text (gap modes.Between (place + 1) l)) (sym (rest_is text place 10 bytes e))

pub newline_next : (text : List ℕ) (from : ℕ) (bytes : List ℕ) → drop (suc from) text ≡ 10 ∷ bytes → next_item text (suc from) ≡ next_item text (suc from + 1)
newline_next text from bytes e =
    let next : suc from + 1 ≡ suc (suc from) = omega arith in
    next_behind text from ∙ newline_behind text (suc from) bytes e ∙ ap (item_behind text) next ∙ sym (next_behind text (suc from)) ∙ ap (next_item text) (sym next)

-- a clause that is read from one place is read from another with the same first token
pub clause_from : (text : List ℕ) (from other : ℕ) (ts : List Token) (after : ℕ) → next_item text other ≡ next_item text from → IsClause text from ts after → IsClause text other ts after
clause_from text from other ts after e ([], end, place, r, h, k, all, last) = ([], end, other, refl, e ∙ ap (next_item text) r ∙ h, k, all, last)
clause_from text from other ts after e (x ∷ xs, end, place, r, h, k, all, last) = (x ∷ xs, end, place, (e ∙ r.0, r.1, r.2), h, k, all, last)

pub nothing_left : (text : List ℕ) (place : ℕ) → drop place text ≡ [] → item_behind text place ≡ items.Nothing
unfolding gap
nothing_left text place e = ap (λ l. after_gap text (gap modes.Between place l)) e ∙ ap (λ l. item_at text place l) e

empty_over : IsOver [] 0
unfolding next_item gap
empty_over = refl

pub over_at_end : (text : List ℕ) (from : ℕ) → drop from text ≡ [] → IsOver text from
over_at_end text zero e = subst (λ l. IsOver l 0) (sym e) empty_over
over_at_end text (suc from) e = next_behind text from ∙ nothing_left text (suc from) e
