-- What is left of the answers of a call.
use Rattle.std.specs.Prelude.{◌≡◌, ℕ, zero, suc, ◌+◌, ◌≤◌, List, [], ◌++◌, length, take, Option, Some, None}
use Rattle.std.specs.Str.{encode_utf8_all}
use Rattle.plterm.specs.Tree.{Tree}
use Rattle.plbuiltin.specs.Solution.{Solution}
use Rattle.plbuiltin.specs.Pieces.{parts_at, parts_from, splits_from}
use Rattle.plgenerator.specs.declared.turn.Offset.{Offset}
use Rattle.plgenerator.specs.declared.turn.Part.{Part}
use Rattle.plgenerator.specs.declared.turn.Split.{Split}

-- a place in a text of these characters
pub record IsOffset (cs : List ℕ) (o : Offset) : Type 0 where
  pub within : o.characters ≤ length cs
  pub bytes : length (encode_utf8_all (take o.characters cs)) ≡ o.bytes

pub record IsPart (cs : List ℕ) (p : Part) : Type 0 where
  pub offset : IsOffset cs p.offset
  pub all : p.offset.characters + (p.length + p.after) ≡ length cs

pub record IsSplit (cs : List ℕ) (s : Split) : Type 0 where
  pub offset : IsOffset cs s.offset
  pub all : s.offset.characters + s.after ≡ length cs

-- the parts that begin behind a place, at which so many characters stand
abbrev pub parts_behind : List ℕ → List Tree → ℕ → ℕ → List Solution
parts_behind cs us b zero = []
parts_behind cs us b (suc k) = parts_from cs us (suc b) k

-- the parts that begin where a part does, from it on
abbrev pub beside : List ℕ → List Tree → Part → List Solution
beside cs us p = parts_at cs us p.offset.characters p.length p.after

-- and those that begin behind it
abbrev pub others : List ℕ → List Tree → Part → List Solution
others cs us p = parts_behind cs us p.offset.characters (p.length + p.after)

-- the parts from one on
abbrev pub parts_left : List ℕ → List Tree → Part → List Solution
parts_left cs us p = beside cs us p ++ others cs us p

abbrev pub parts_if : List ℕ → List Tree → Option Part → List Solution
parts_if cs us None = []
parts_if cs us (Some p) = parts_left cs us p

abbrev pub splits_left : List ℕ → List Tree → Split → List Solution
splits_left cs us s = splits_from cs us s.offset.characters s.after

abbrev pub splits_if : List ℕ → List Tree → Option Split → List Solution
splits_if cs us None = []
splits_if cs us (Some s) = splits_left cs us s
