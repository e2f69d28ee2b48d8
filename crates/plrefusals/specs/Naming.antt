-- What dynamic/1 makes of the terms that are to name procedures.
use Rattle.std.specs.Prelude.{◌≡◌, List, map, filter_map, find, not, is_some, option_map, Some, None}
use Rattle.plterm.specs.Tree.{Tree}
use Rattle.plterm.specs.declared.indicator.Indicator.{Indicator}
use Rattle.plclause.specs.Named.{indicator_of}
use Rattle.plevent.specs.declared.update.Update.TheVariants.{Declare}
use Rattle.plprogram.specs.Program.{Program}
use Rattle.plerror.specs.Errors.{static_error}
use Rattle.plsearch.specs.Rows.{is_static, undeclarable}
use Rattle.plrefusals.specs.declared.naming.Names.{Names}
use Rattle.plrefusals.specs.declared.naming.Names.TheVariants.{All, Lacks}
use Rattle.plrefusals.specs.declared.naming.Declaration.{Declaration}
use Rattle.plrefusals.specs.declared.naming.Declaration.TheVariants.{Updates, Refused}

-- each term is an indicator, or this is the first that is none
abbrev pub IsNaming : List Tree → Names → Type 0
IsNaming ts (All ps) = (find (λ t. not (is_some (indicator_of t))) ts ≡ None) × (ps.items ≡ filter_map indicator_of ts)
IsNaming ts (Lacks t) = find (λ t. not (is_some (indicator_of t))) ts ≡ Some t

-- none of the procedures is static, or the first that is is told
abbrev pub AreDeclared : Program → List Indicator → Declaration → Type 0
AreDeclared P ps (Updates us) = (option_map static_error (find (is_static P) ps) ≡ None) × (us.items ≡ map Declare ps)
AreDeclared P ps (Refused e) = option_map static_error (find (is_static P) ps) ≡ Some e

abbrev pub IsDeclared : Program → List Tree → Declaration → Type 0
IsDeclared P ts (Updates us) = (undeclarable P ts ≡ None) × (us.items ≡ map Declare (filter_map indicator_of ts))
IsDeclared P ts (Refused e) = undeclarable P ts ≡ Some e
