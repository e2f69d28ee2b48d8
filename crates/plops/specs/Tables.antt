-- What a table of operators says of a name.
use Rattle.std.specs.Prelude.{ℕ, List, Bool, Option, Some, None, option_and_then}
use Rattle.std.specs.List as lists
use Rattle.std.specs.Str.{bytes_eq}
use Rattle.plops.specs.declared.operator.Prefix.{Prefix}
use Rattle.plops.specs.declared.operator.Infix.{Infix}
use Rattle.plops.specs.declared.operator.Postfix.{Postfix}
use Rattle.plops.specs.declared.operator.Operator.{Operator}
use Rattle.plops.specs.declared.operator.Operator.TheVariants.{Before, Between, Behind}
use Rattle.plops.specs.declared.table.Entry.{Entry}

-- a name that is no operator
abbrev pub plain : List ℕ → Entry
plain name = record { name = name; as_prefix = None; as_infix = None; as_postfix = None }

abbrev pub with_operator : Entry → Operator → Entry
with_operator e (Before op) = record e { as_prefix = Some op }
with_operator e (Between op) = record e { as_infix = Some op }
with_operator e (Behind op) = record e { as_postfix = Some op }

abbrev pub is_named : List ℕ → Entry → Bool
is_named name e = bytes_eq e.name name

-- the first entry of a name
abbrev pub find : List Entry → List ℕ → Option Entry
find entries name = lists.find (is_named name) entries

-- the operators that a name is
unfoldable pub prefix_of : List Entry → List ℕ → Option Prefix
prefix_of entries name = option_and_then (λ e. e.as_prefix) (find entries name)

unfoldable pub infix_of : List Entry → List ℕ → Option Infix
infix_of entries name = option_and_then (λ e. e.as_infix) (find entries name)

unfoldable pub postfix_of : List Entry → List ℕ → Option Postfix
postfix_of entries name = option_and_then (λ e. e.as_postfix) (find entries name)
