-- The text of a term is read as a clause.
use Rattle.std.specs.Prelude.{◌≡◌, ℕ, ◌+◌, List, [], ◌++◌, length, drop, Bool, true}
use Rattle.plterm.specs.Tree.{Tree, var, int, atom, compound, Trees, none, more}
use Rattle.plterm.specs.Characters.{is_symbol}
use Rattle.plops.specs.declared.table.Entry.{Entry}
use Rattle.pllex.specs.Tokens.{ends_here}
use Rattle.plwrite.specs.declared.style.Style.{Style}
use Rattle.plwrite.specs.declared.place.Position.TheVariants.{At}
use Rattle.plwrite.specs.Places.{whole}
use Rattle.plwrite.specs.Words.{Word, last_byte, text_of}
use Rattle.plwrite.specs.Writing.{words}
use Rattle.pllaws.specs.Pieces.{Piece, Integer, AllFit, Fits, IsName}
use Rattle.pllaws.specs.Tokens.{words_of, tokens, values, ending, end_at}
use Rattle.pllaws.specs.Read.{Reads}

-- the names and integers of a term fit
unfoldable mutual
  pub IsFit : Tree → Type 0
  IsFit (var n) = Unit {0}
  IsFit (int i) = Fits (Integer i)
  IsFit (atom s) = IsName s
  IsFit (compound s args) = IsName s × AreFit args

  pub AreFit : Trees → Type 0
  AreFit none = Unit {0}
  AreFit (more t args) = IsFit t × AreFit args

-- words are those of pieces that fit
pub record ArePieces (style : Style) (ws : List Word) (ps : List Piece) : Type 0 where
  pub fit : AllFit ps
  pub are : ws ≡ words_of style ps

-- the words of a whole term
abbrev pub term_words : List Entry → Style → Tree → List Word
term_words ops style t = words ops style (At whole) t []

-- the text of a term stands at a place, with a full stop as behind any words
pub record StandsTerm (ops : List Entry) (style : Style) (t : Tree) (all : List ℕ) (from : ℕ) (is_apart : Bool) (rest : List ℕ) : Type 0 where
  pub here : drop from all ≡ text_of (term_words ops style t) ++ ending is_apart rest
  pub apart : is_symbol (last_byte (text_of (term_words ops style t))) ≡ true → is_apart ≡ true
  pub over : ends_here rest ≡ true

-- it is a clause of the tokens of its words
pub record ReadsTerm (ops : List Entry) (style : Style) (t : Tree) (all : List ℕ) (from : ℕ) (is_apart : Bool) : Type 0 where
  pub pieces : List Piece
  pub are_pieces : ArePieces style (term_words ops style t) pieces
  pub reads : Reads all from (tokens style from pieces) (end_at is_apart (from + length (text_of (term_words ops style t)))) (values pieces)
