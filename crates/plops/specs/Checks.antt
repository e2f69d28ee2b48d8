-- What every table of operators keeps, as tests of its entries.
use Rattle.std.specs.Prelude.{◌≡◌, ℕ, List, Bool, true, ◌&&◌, nat_lt, nat_le, Option, Some, None, is_none}
use Rattle.std.specs.List.{list_all}
use Rattle.plops.specs.declared.operator.Prefix.{Prefix}
use Rattle.plops.specs.declared.operator.Infix.{Infix}
use Rattle.plops.specs.declared.operator.Postfix.{Postfix}
use Rattle.plops.specs.declared.table.Entry.{Entry}
use Rattle.plops.specs.Tables.{find, infix_of}
use Rattle.plops.specs.Sane.{comma, comma_op, is_reserved}
use Rattle.plops.specs.Changes.{is_rising}

-- an operator's numbers
abbrev pub good_prefix : Option Prefix → Bool
good_prefix None = true
good_prefix (Some op) = nat_lt 0 op.priority && (nat_le op.priority 1200 && nat_le op.right op.priority)

abbrev pub good_infix : Option Infix → Bool
good_infix None = true
good_infix (Some op) = nat_lt 0 op.priority && (nat_le op.priority 1200 && (nat_le op.left op.priority && nat_le op.right op.priority))

abbrev pub good_postfix : Option Postfix → Bool
good_postfix None = true
good_postfix (Some op) = nat_lt 0 op.priority && (nat_le op.priority 1200 && nat_le op.left op.priority)

abbrev pub alone : Option Infix → Option Postfix → Bool
alone None o = true
alone (Some op) o = is_none o

abbrev pub is_good : Entry → Bool
is_good e = good_prefix e.as_prefix && (good_infix e.as_infix && (good_postfix e.as_postfix && alone e.as_infix e.as_postfix))

-- the entries rise by name, each passes the tests, the comma is its operator, and no reserved name stands there
pub record IsTable (entries : List Entry) : Type 0 where
  pub rising : is_rising entries ≡ true
  pub good : list_all is_good entries ≡ true
  pub comma_stands : infix_of entries comma ≡ Some comma_op
  pub none_reserved : (n : List ℕ) → is_reserved n ≡ true → find entries n ≡ None
