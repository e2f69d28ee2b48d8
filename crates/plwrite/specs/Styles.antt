-- What a style writes with operators, and as variables.
use Rattle.std.specs.Prelude.{Bool, true, false, Option, None}
use Rattle.plwrite.specs.declared.style.Style.{Style}
use Rattle.plwrite.specs.declared.style.Style.TheVariants.{Plain, Quoted, Canonical, Listed}

-- an operator that a name is, where the style uses operators
abbrev pub used : {A : Type 0} → Style → Option A → Option A
used Plain op = op
used Quoted op = op
used Canonical op = None
used Listed op = op

-- '$VAR'(N) is written as a variable
abbrev pub has_letters : Style → Bool
has_letters Plain = true
has_letters Quoted = true
has_letters Canonical = false
has_letters Listed = false
