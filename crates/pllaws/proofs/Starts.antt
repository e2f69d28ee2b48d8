-- Where the first token of a written term's text starts.
use Rattle.std.proofs.Common.{◌≡◌, ◌+◌, ℕ, pos, negsuc, List, [], ◌∷◌, ◌++◌, length, Bool, true, false, cond, codes, append_assoc, refl, ap, ◌∙◌, arith}
use Rattle.std.specs.Str.{bytes_eq}
use Rattle.plterm.specs.Tree.{Tree}
use Rattle.plops.specs.declared.table.OpTable.{OpTable}
use Rattle.pllex.specs.declared.token.Token.{Token}
use Rattle.plread.specs.Signs as tok
use Rattle.plread.specs.Reading.{start_of, reads, Spells}
use Rattle.plread.specs.Refusals as places
use Rattle.plwrite.specs.declared.style.Style.{Style}
use Rattle.plwrite.specs.Words.{edge_of, first_byte, touches, start}
use Rattle.pllaws.specs.Pieces.{Piece, Part, Variable, Letter, Integer, Name, Functor, Prefix, Operator, Punctuation, word, parts}
use Rattle.pllaws.specs.Tokens.{tokens_at, tokens_behind, tokens, spaces}

module _ (place : ℕ) (ts : List Token) where
  abbrev Starts : List Part → Type 0
  Starts ps = places.start_of (tokens_at place ps ++ ts) ≡ place

  of_two : (b : Bool) (x y : Part) (xs ys : List Part) → Starts (cond b (x ∷ xs) (y ∷ ys))
  of_two true x y xs ys = refl
  of_two false x y xs ys = refl

  of_three : (b c : Bool) (x y z : Part) (xs ys zs : List Part) → Starts (cond b (x ∷ xs) (cond c (y ∷ ys) (z ∷ zs)))
  of_three true c x y z xs ys zs = refl
  of_three false c x y z xs ys zs = of_two c y z ys zs

  of_four : (b c d : Bool) (x y z w : Part) (xs ys zs ws : List Part) → Starts (cond b (x ∷ xs) (cond c (y ∷ ys) (cond d (z ∷ zs) (w ∷ ws))))
  of_four true c d x y z w xs ys zs ws = refl
  of_four false c d x y z w xs ys zs ws = of_three c d y z w ys zs ws

  first_part : (p : Piece) → Starts (parts p)
  first_part (Variable n) = refl
  first_part (Letter n) = refl
  first_part (Integer (pos n)) = refl
  first_part (Integer (negsuc n)) = refl
  first_part (Name s) = of_three (bytes_eq s (codes "[]")) (bytes_eq s (codes "{}")) _ _ _ _ _ _
  first_part (Functor s) = refl
  first_part (Prefix s) = of_three (bytes_eq s (codes "[]")) (bytes_eq s (codes "{}")) _ _ _ _ _ _
  first_part (Operator s) = of_four (bytes_eq s (codes ",")) (bytes_eq s (codes "[]")) (bytes_eq s (codes "{}")) _ _ _ _ _ _ _ _
  first_part (Punctuation s) = refl

-- the first word of a text has no space before it
pub tokens_start : (style : Style) (p : Piece) (ps : List Piece) (place : ℕ) (rest : List Token) → places.start_of (tokens style place (p ∷ ps) ++ rest) ≡ place
tokens_start style p ps place rest =
    let begin : ℕ = place + spaces (touches start (first_byte (word style p).text)) in
    let others : List Token = tokens_behind style (edge_of (word style p)) (begin + length (word style p).text) ps in
    let at_begin : begin ≡ place = omega arith in
    ap places.start_of (append_assoc (tokens_at begin (parts p)) others rest) ∙ first_part begin (others ++ rest) p ∙ at_begin

-- the end alone spells no term
pub end_alone : (ops : OpTable) (levels : ℕ) (t : Tree) → Spells ops levels (tok.End ∷ []) t → ⊥
unfolding start_of
end_alone ops levels t (p, reads b x) = elim b [ ]
