-- Equations of a value with a term.
use Rattle.std.specs.Prelude.{ℕ, suc, ◌+◌, [], ◌∷◌, List, length}
use Rattle.plterm.specs.Tree.{Tree}
use Rattle.plsubst.specs.Subst.{bind}
use Rattle.plcells.specs.declared.cell.Cell.{Cell}
use Rattle.plcells.specs.Store.{Store, value}
use Rattle.plcells.specs.Equations.{filled}
use Rattle.plprogram.specs.declared.settings.Settings.{Settings}
use Rattle.plbuiltin.specs.Solution.{Solved, Gives}

-- the term of a value is unified with one over it and others and new variables
abbrev pub solved_by : Store → Settings → ℕ → Cell → List Cell → Tree → ℕ → Solved
solved_by h s n v vs t new = Gives (record { left = value h v; right = bind (filled h (v ∷ vs) n) t; new = new } ∷ []) [] s

-- how many variables such a term may have
abbrev pub width : List Cell → ℕ → ℕ
width vs new = suc (length vs) + new
