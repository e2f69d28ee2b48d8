-- What op/3 asks for, as the code holds it.
use Rattle.std.specs.Prelude.{ℕ, List, Vec, Result, Ok, Err}
use Rattle.std.specs.Global.{Global}
use Rattle.plterm.specs.Tree.{Tree}
use Rattle.plbuiltin.specs.Flags.{Declaration}
use Rattle.plbuiltin.specs.Texts.{Found}
use Rattle.pltexts.specs.declared.flags.Declaration.{Declaration as Held}

abbrev pub asked_as : Result Held Tree → Found Declaration
asked_as (Ok a) = Ok (record { priority = a.priority; kind = a.kind; names = a.names.items })
asked_as (Err e) = Err e

abbrev pub names_as : Result (Vec (List ℕ) Global) Tree → Found (List (List ℕ))
names_as (Ok names) = Ok names.items
names_as (Err e) = Err e
