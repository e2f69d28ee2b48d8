-- How many entries stand before a name.
use Rattle.std.specs.Prelude.{ℕ, suc, List, [], ◌∷◌, if◌then◌else◌}
use Rattle.plops.specs.declared.table.Entry.{Entry}
use Rattle.plops.specs.Changes.{is_before}

abbrev pub rank : List ℕ → List Entry → ℕ
rank name [] = 0
rank name (e ∷ entries) = if is_before e.name name then suc (rank name entries) else 0
