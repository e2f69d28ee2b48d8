-- The evaluable functors by their names.
use Rattle.std.specs.Prelude.{ℕ, zero, suc, List, [], ◌∷◌, Option, Some, None, option_map, codes, if◌then◌else◌}
use Rattle.std.specs.Str.{bytes_eq}
use Rattle.platoms.specs.declared.evaluable.Unary.{Unary}
use Rattle.platoms.specs.declared.evaluable.Unary.TheVariants.{Negate, Keep, Absolute, Sign, Complement}
use Rattle.platoms.specs.declared.evaluable.Binary.{Binary}
use Rattle.platoms.specs.declared.evaluable.Binary.TheVariants.{Add, Subtract, Multiply, Quotient, Divide, Remainder, Modulo, Power, ShiftLeft, ShiftRight, And, Or, Maximum, Minimum}
use Rattle.platoms.specs.declared.evaluable.Operation.{Operation}
use Rattle.platoms.specs.declared.evaluable.Operation.TheVariants.{One, Two}

-- what the first row of the name gives, if there is one
abbrev pub kind_in : {K : Type 0} → List (List ℕ × K) → List ℕ → Option K
kind_in [] name = None
kind_in (row ∷ rest) name = if bytes_eq name row.0 then Some row.1 else kind_in rest name

-- the functor of one argument with a name, if it is evaluable
abbrev pub unary_named : List ℕ → Option Unary
unary_named name = kind_in (
    (codes "-", Negate)
    ∷ (codes "+", Keep)
    ∷ (codes "abs", Absolute)
    ∷ (codes "sign", Sign)
    ∷ (codes "\\", Complement)
    ∷ []) name

unfoldable pub unary_of : List ℕ → Option Unary
unary_of name = unary_named name

-- the functor of two arguments with a name, if it is evaluable
abbrev pub binary_named : List ℕ → Option Binary
binary_named name = kind_in (
    (codes "+", Add)
    ∷ (codes "-", Subtract)
    ∷ (codes "*", Multiply)
    ∷ (codes "//", Quotient)
    ∷ (codes "mod", Modulo)
    ∷ (codes "rem", Remainder)
    ∷ (codes "/", Divide)
    ∷ (codes "max", Maximum)
    ∷ (codes "min", Minimum)
    ∷ (codes "<<", ShiftLeft)
    ∷ (codes ">>", ShiftRight)
    ∷ (codes "/\\", And)
    ∷ (codes "\\/", Or)
    ∷ (codes "**", Power)
    ∷ (codes "^", Power)
    ∷ []) name

unfoldable pub binary_of : List ℕ → Option Binary
binary_of name = binary_named name

-- the operation of a functor with a name and so many arguments, if it is evaluable
abbrev pub operation_of : List ℕ → ℕ → Option Operation
operation_of name zero = None
operation_of name (suc zero) = option_map One (unary_of name)
operation_of name (suc (suc zero)) = option_map Two (binary_of name)
operation_of name (suc (suc (suc k))) = None
