-- What every table of operators keeps.
use Rattle.std.specs.Prelude.{◌≡◌, ◌<◌, ◌≤◌, ◌||◌, ℕ, List, Bool, true, Some, None, codes}
use Rattle.std.specs.Str.{bytes_eq}
use Rattle.plops.specs.declared.operator.Prefix.{Prefix}
use Rattle.plops.specs.declared.operator.Infix.{Infix}
use Rattle.plops.specs.declared.operator.Postfix.{Postfix}
use Rattle.plops.specs.declared.table.Entry.{Entry}
use Rattle.plops.specs.Tables.{prefix_of, infix_of, postfix_of}

-- the comma as a name, and as an operator: xfy of priority 1000
abbrev pub comma : List ℕ
comma = codes ","

abbrev pub comma_op : Infix
comma_op = record { priority = 1000; left = 999; right = 1000 }

-- names that are never operators
abbrev pub is_reserved : List ℕ → Bool
is_reserved name = bytes_eq name (codes "|") || (bytes_eq name (codes "[]") || bytes_eq name (codes "{}"))

-- Priorities are from 1 to 1200, an operand's greatest priority is at most the operator's, no name is both
-- infix and postfix, the comma is its operator, and no reserved name is one.
pub record IsSane (ops : List Entry) : Type 0 where
  pub pre_some : (n : List ℕ) (op : Prefix) → prefix_of ops n ≡ Some op → 0 < op.priority
  pub pre_top : (n : List ℕ) (op : Prefix) → prefix_of ops n ≡ Some op → op.priority ≤ 1200
  pub pre_right : (n : List ℕ) (op : Prefix) → prefix_of ops n ≡ Some op → op.right ≤ op.priority
  pub in_some : (n : List ℕ) (op : Infix) → infix_of ops n ≡ Some op → 0 < op.priority
  pub in_top : (n : List ℕ) (op : Infix) → infix_of ops n ≡ Some op → op.priority ≤ 1200
  pub in_left : (n : List ℕ) (op : Infix) → infix_of ops n ≡ Some op → op.left ≤ op.priority
  pub in_right : (n : List ℕ) (op : Infix) → infix_of ops n ≡ Some op → op.right ≤ op.priority
  pub in_alone : (n : List ℕ) (op : Infix) → infix_of ops n ≡ Some op → postfix_of ops n ≡ None
  pub post_some : (n : List ℕ) (op : Postfix) → postfix_of ops n ≡ Some op → 0 < op.priority
  pub post_top : (n : List ℕ) (op : Postfix) → postfix_of ops n ≡ Some op → op.priority ≤ 1200
  pub post_left : (n : List ℕ) (op : Postfix) → postfix_of ops n ≡ Some op → op.left ≤ op.priority
  pub in_comma : infix_of ops comma ≡ Some comma_op
  pub pre_reserved : (n : List ℕ) → is_reserved n ≡ true → prefix_of ops n ≡ None
  pub in_reserved : (n : List ℕ) → is_reserved n ≡ true → infix_of ops n ≡ None
  pub post_reserved : (n : List ℕ) → is_reserved n ≡ true → postfix_of ops n ≡ None
