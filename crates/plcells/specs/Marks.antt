-- The order of marks.
use Rattle.std.specs.Prelude.{◌≤◌}
use Rattle.plcells.specs.declared.cell.Mark.{Mark}

-- a mark that is not newer than another
pub record IsOlder (m n : Mark) : Type 0 where
  pub cells : m.cells ≤ n.cells
  pub trail : m.trail ≤ n.trail
  pub numbers : m.numbers ≤ n.numbers
  pub wide : m.wide ≤ n.wide
