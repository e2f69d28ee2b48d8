-- What signs words tell.
use Rattle.std.specs.Prelude.{◌≡◌, ℕ, ℤ, List, [], ◌∷◌, ◌++◌, false, Option, Some}
use Rattle.plops.specs.Sane.{is_reserved}
use Rattle.plread.specs.Signs.{Sign}
use Rattle.plread.specs.Signs as tok
use Rattle.plwrite.specs.declared.style.Style.{Style}
use Rattle.plwrite.specs.declared.text.Sign.TheVariants as marks
use Rattle.plwrite.specs.Words.{Word}
use Rattle.pllaws.specs.Pieces.{Piece, Variable, Integer, Name, Functor, Prefix, Operator, Punctuation, word, Fits}
use Rattle.pllaws.specs.Written.{opening, name_sign, functor_sign, operator_sign, integer_signs, atom_signs}

-- the signs that a word is, behind the word before it, if there is one
pub data Tells (before : Option Word) : Piece → List Sign → Type 0 where
  tells_variable : (n : ℕ) → Tells before (Variable n) (tok.Variable n ∷ [])
  tells_integer : (i : ℤ) → Tells before (Integer i) (integer_signs i before [])
  tells_atom : (s : List ℕ) → Tells before (Name s) (atom_signs s [])
  tells_functor : (s : List ℕ) → Tells before (Functor s) (functor_sign s ∷ [])
  tells_prefix : (s : List ℕ) → is_reserved s ≡ false → Tells before (Prefix s) (name_sign s ∷ [])
  tells_operator : (s : List ℕ) → is_reserved s ≡ false → Tells before (Operator s) (operator_sign s ∷ [])
  tells_open : Tells before (Punctuation marks.Open) (opening before ∷ [])
  tells_close : Tells before (Punctuation marks.Close) (tok.Close ∷ [])
  tells_open_square : Tells before (Punctuation marks.OpenSquare) (tok.OpenSquare ∷ [])
  tells_close_square : Tells before (Punctuation marks.CloseSquare) (tok.CloseSquare ∷ [])
  tells_open_curly : Tells before (Punctuation marks.OpenCurly) (tok.OpenCurly ∷ [])
  tells_close_curly : Tells before (Punctuation marks.CloseCurly) (tok.CloseCurly ∷ [])
  tells_comma : Tells before (Punctuation marks.Comma) (tok.Comma ∷ [])
  tells_bar : Tells before (Punctuation marks.Bar) (tok.Bar ∷ [])

-- the words of a clause within their limits, and the signs that they are, one after another, before the end
pub data Tell (style : Style) : Option Word → List Word → List Sign → Type 0 where
  no_word : {before : Option Word} → Tell style before [] (tok.End ∷ [])
  one_word : {before : Option Word} {p : Piece} {ws : List Word} {front rest : List Sign} →
      Fits p → Tells before p front → Tell style (Some (word style p)) ws rest → Tell style before (word style p ∷ ws) (front ++ rest)
