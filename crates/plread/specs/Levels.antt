-- The open levels of a reading.
use Rattle.std.specs.Prelude.{ℕ, List}
use Rattle.plops.specs.declared.operator.Prefix.{Prefix}
use Rattle.plops.specs.declared.operator.Infix.{Infix}

-- a bracket, braces, a list of which so many elements are complete, the tail of a list behind so many elements, the
-- arguments of a name of which so many are complete, or an operator that waits for its right operand
pub data Level : Type 0 where
  Bracket : Level
  Curly : Level
  Elements : ℕ → Level
  Tail : ℕ → Level
  Call : List ℕ → ℕ → Level
  Before : List ℕ → Prefix → Level
  Between : List ℕ → Infix → Level
