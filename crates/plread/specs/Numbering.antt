-- A table of the numbers of variables.
use Rattle.std.specs.Prelude.{◌≡◌, ℕ, List, map, false}
use Rattle.std.specs.List.{position}
use Rattle.std.specs.HashMap.{get_by}
use Rattle.std.specs.Str.{bytes_eq}
use Rattle.plread.specs.declared.variables.Variables.TheInside.{Inside}
use Rattle.plread.specs.Spelling.{anonymous}

abbrev pub names : Inside → List (List ℕ)
names a = map (λ name. name.now) a.order.items

-- the table says where each name first stands
abbrev pub IsTable : Inside → Type 0
IsTable a = (q : List ℕ) → bytes_eq q anonymous ≡ false → get_by (λ name. bytes_eq q name.now) a.places ≡ position (bytes_eq q) (names a)
