-- Terms that are no integers.
use Rattle.std.specs.Bool.{⊤}
use Rattle.plterm.specs.Tree.{Tree, var, int, atom, compound}

abbrev pub IsNoInteger : Tree → Type 0
IsNoInteger (var x) = ⊤
IsNoInteger (int i) = ⊥
IsNoInteger (atom f) = ⊤
IsNoInteger (compound f ts) = ⊤
