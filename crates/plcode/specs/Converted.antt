-- Terms that are goals as they stand.
use Rattle.std.specs.Prelude.{◌≡◌, List, [], ◌∷◌, Some}
use Rattle.plterm.specs.Tree.{Tree}
use Rattle.plclause.specs.Conversion.{converted}

-- a term is its own conversion: no variable and no integer is a goal in it, at any depth of `,`, `;` and `->`
abbrev pub IsConverted : Tree → Type 0
IsConverted g = converted g ≡ Some g

abbrev pub AreConverted : List Tree → Type 0
AreConverted [] = Unit {0}
AreConverted (g ∷ gs) = IsConverted g × AreConverted gs
