-- The terms of values as lists.
use Rattle.std.specs.Prelude.{◌≡◌, ◌<◌, map, codes, if◌then◌else◌}
use Rattle.std.specs.Bool.{⊤}
use Rattle.std.specs.Str.{bytes_eq}
use Rattle.plterm.specs.Tree.{Tree, var, int, atom, compound}
use Rattle.plcells.specs.declared.cell.Cell.{Cell}
use Rattle.plcells.specs.Store.{Store, value, IsValue, AreValues}
use Rattle.plcells.specs.Walking.{weight}
use Rattle.plbuiltin.specs.Lists.{Tail, Empty, Unbound, Other, Checked, Whole, Amiss, elements_of, before}
use Rattle.planswers.specs.declared.list.Tail.{Tail as Seen}
use Rattle.planswers.specs.declared.list.Tail.TheVariants as tails
use Rattle.planswers.specs.declared.list.Checked.{Checked as Looked}
use Rattle.planswers.specs.declared.list.Checked.TheVariants as looks

abbrev pub tail_as : Seen → Tail
tail_as tails.Empty = Empty
tail_as tails.Unbound = Unbound
tail_as tails.Other = Other

-- what a term is that has no element
abbrev pub tail_at : Tree → Tail
tail_at (var x) = Unbound
tail_at (int i) = Other
tail_at (atom name) = if bytes_eq name (codes "[]") then Empty else Other
tail_at (compound name ts) = Other

-- the first element, and what stands behind it
pub record IsCell (h : Store) (t : Tree) (first rest : Cell) : Type 0 where
  pub first_fits : IsValue h first
  pub fits : IsValue h rest
  pub is : elements_of t ≡ before (value h first) (elements_of (value h rest))
  pub lighter : weight (value h rest) < weight t

abbrev pub checked_as : Store → Looked → Checked
checked_as h (looks.Whole vs) = Whole (map (value h) vs.items)
checked_as h (looks.Amiss e) = Amiss e

abbrev pub AreThere : Store → Looked → Type 0
AreThere h (looks.Whole vs) = AreValues h vs.items
AreThere h (looks.Amiss e) = ⊤
