-- The procedure of a head.
use Rattle.std.specs.Prelude.{[], length}
use Rattle.plterm.specs.declared.indicator.Indicator.{Indicator}
use Rattle.plterm.specs.Tree.{Tree, var, int, atom, compound, list_of}

-- the indicator of an atom or a compound; no other term has one
abbrev pub indicator : Tree → Indicator
indicator (var v) = record { name = []; arity = 0 }
indicator (int i) = record { name = []; arity = 0 }
indicator (atom s) = record { name = s; arity = 0 }
indicator (compound s ts) = record { name = s; arity = length (list_of ts) }
