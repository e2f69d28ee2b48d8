-- Goals whose keys tell nothing of them.
use Rattle.std.specs.Prelude.{◌≡◌, ℕ, List, [], ◌∷◌}
use Rattle.plterm.specs.Tree.{Tree, var}

abbrev pub IsVariable : Tree → Type 0
IsVariable t = (n : ℕ) × (t ≡ var n)

-- there is no first argument, or it is a variable
abbrev pub MayBeAny : List Tree → Type 0
MayBeAny [] = Unit {0}
MayBeAny (t ∷ ts) = IsVariable t
