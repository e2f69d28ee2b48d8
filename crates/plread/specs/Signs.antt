-- What a token says to the reader.
use Rattle.std.specs.Prelude.{ℕ, List, Bool, Option}
use Rattle.plterm.specs.Tree.{Tree}

pub data Sign : Type 0 where
  -- a name, and whether it stands without quotes
  Name : List ℕ → Bool → Sign
  Variable : ℕ → Sign
  -- an integer, and whether it stands directly behind the token before it
  Integer : ℕ → Bool → Sign
  -- a double-quoted item: the term that it is, if it is one
  Text : Option Tree → Sign
  -- an opening bracket behind layout, or at the start
  Open : Sign
  -- an opening bracket directly behind the token before it
  OpenCall : Sign
  Close : Sign
  OpenSquare : Sign
  CloseSquare : Sign
  OpenCurly : Sign
  CloseCurly : Sign
  Comma : Sign
  Bar : Sign
  End : Sign
