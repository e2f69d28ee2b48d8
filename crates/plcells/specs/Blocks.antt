-- The arguments of new blocks.
use Rattle.std.specs.Prelude.{ℕ, suc, List, [], ◌∷◌}
use Rattle.std.specs.Bool.{⊤}
use Rattle.plterm.specs.Tree.{Tree, var}
use Rattle.plcells.specs.declared.cell.Cell.{Cell}
use Rattle.plcells.specs.declared.cell.Cell.TheVariants.{Free}
use Rattle.plcells.specs.declared.cell.Argument.{Argument}
use Rattle.plcells.specs.declared.cell.Argument.TheVariants.{Value, Variable}
use Rattle.plcells.specs.Store.{Store, IsValue, IsSolid, IsFresh, value}

-- the cells of arguments, where the numbers of new variables stand from the place n on
abbrev pub cells_of : ℕ → List Argument → List Cell
cells_of n [] = []
cells_of n (Value v ∷ xs) = v ∷ cells_of n xs
cells_of n (Variable x ∷ xs) = Free n ∷ cells_of (suc n) xs

-- the numbers of new variables
abbrev pub numbers_of : List Argument → List ℕ
numbers_of [] = []
numbers_of (Value v ∷ xs) = numbers_of xs
numbers_of (Variable x ∷ xs) = x ∷ numbers_of xs

-- what an argument stands for
abbrev pub stands_for : Store → Argument → Tree
stands_for h (Value v) = value h v
stands_for h (Variable x) = var x

-- values, and variables of numbers that no variable of the heap has
abbrev pub AreParts : Store → List Argument → Type 0
AreParts h [] = ⊤
AreParts h (Value v ∷ xs) = IsValue h v × AreParts h xs
AreParts h (Variable x ∷ xs) = IsFresh h x × AreParts h xs

-- values in which no variable can stand
abbrev pub AreSolid : Store → List Argument → Type 0
AreSolid h [] = ⊤
AreSolid h (Value v ∷ xs) = IsSolid h.cells v × AreSolid h xs
AreSolid h (Variable x ∷ xs) = ⊥
