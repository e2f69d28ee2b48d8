-- The order of marks.
use Rattle.std.specs.Prelude.{◌≤◌}
use Rattle.plcells.specs.Marks.{IsOlder as IsHeapOlder}
use Rattle.plenv.specs.declared.slot.Mark.{Mark}

-- a mark that is not newer than another
pub record IsOlder (m n : Mark) : Type 0 where
  pub heap : IsHeapOlder m.heap n.heap
  pub slots : m.slots ≤ n.slots
  pub noted : m.noted ≤ n.noted
