-- How words stand in a text, and what they are read as.
use Rattle.std.specs.Prelude.{◌≡◌, ℕ, List, [], ◌∷◌, ◌++◌, drop, map, Bool, true, false}
use Rattle.plterm.specs.Characters.{is_symbol}
use Rattle.pllex.specs.declared.token.Token.{Token}
use Rattle.pllex.specs.Named.{value_of}
use Rattle.pllex.specs.Tokens.{is_fraction, ends_here, TokensBetween, IsClause}
use Rattle.plwrite.specs.declared.style.Style.{Style}
use Rattle.plwrite.specs.declared.text.Edge.{Edge}
use Rattle.plwrite.specs.Words.{first_byte, last_byte, edge_of, touches}
use Rattle.pllaws.specs.Pieces.{Piece, word}
use Rattle.pllaws.specs.Tokens.{text, ending}

-- bytes that may stand directly behind a word with this edge: they do not touch it, and are no fraction of a number
pub record Clear (edge : Edge) (rest : List ℕ) : Type 0 where
  pub apart : touches edge (first_byte rest) ≡ false
  pub fraction : is_fraction rest ≡ false

-- a word stands at a place of a text
pub record StandsWord (style : Style) (p : Piece) (whole : List ℕ) (from : ℕ) (rest : List ℕ) : Type 0 where
  pub here : drop from whole ≡ (word style p).text ++ rest
  pub clear : Clear (edge_of (word style p)) rest

-- The text of words stands at a place, with a full stop: it is apart from a symbol character, and layout, a comment or
-- nothing stands behind it.
pub record Stands (style : Style) (ps : List Piece) (whole : List ℕ) (from : ℕ) (is_apart : Bool) (rest : List ℕ) : Type 0 where
  pub here : drop from whole ≡ text style ps ++ ending is_apart rest
  pub apart : is_symbol (last_byte (text style ps)) ≡ true → is_apart ≡ true
  pub over : ends_here rest ≡ true

-- tokens stand one behind the other from a place to another, and their values
pub record Told (whole : List ℕ) (from : ℕ) (ts : List Token) (stop : ℕ) (vs : List (List ℕ)) : Type 0 where
  pub run : TokensBetween whole from ts stop
  pub are : map (value_of whole) ts ≡ vs

-- the tokens of a clause of a text, and their values but for that of its end
pub record Reads (whole : List ℕ) (from : ℕ) (front : List Token) (end : Token) (vs : List (List ℕ)) : Type 0 where
  pub clause : IsClause whole from (front ++ end ∷ []) end.end
  pub are : map (value_of whole) front ≡ vs
