-- The first argument of a term.
use Rattle.std.specs.Prelude.{◌≡◌, ℕ, List}
use Rattle.plterm.specs.Tree.{Tree, Trees, compound, more}
use Rattle.plcells.specs.declared.cell.Cell.{Cell}
use Rattle.plcells.specs.Store.{Store, IsValue, value}
use Rattle.plevent.specs.declared.key.Key.TheVariants.{Any}
use Rattle.plevent.specs.Keys.{first_key}
use Rattle.plstack.specs.Places.{head_told}

-- the first argument of the term of a value is that of another
pub record HasFirst (h : Store) (v a : Cell) : Type 0 where
  pub fits : IsValue h a
  pub name : List ℕ
  pub rest : Trees
  pub is : value h v ≡ compound name (more (value h a) rest)

-- a term has no first argument
pub record HasNone (t : Tree) : Type 0 where
  pub head : head_told t ≡ t
  pub key : first_key t ≡ Any
