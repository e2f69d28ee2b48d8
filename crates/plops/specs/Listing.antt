-- The operators of a table, as current_op/3 tells them.
use Rattle.std.specs.Prelude.{List, [], ◌∷◌, ◌++◌, ℕ, Option, Some, None, flat_map}
use Rattle.plops.specs.declared.operator.Kind.{Kind}
use Rattle.plops.specs.declared.operator.Prefix.{Prefix}
use Rattle.plops.specs.declared.operator.Infix.{Infix}
use Rattle.plops.specs.declared.operator.Postfix.{Postfix}
use Rattle.plops.specs.declared.table.Entry.{Entry}
use Rattle.plops.specs.declared.table.CurrentOp.{CurrentOp}
use Rattle.plops.specs.Operators.{prefix_kind, infix_kind, postfix_kind}

abbrev pub told : ℕ → Kind → List ℕ → CurrentOp
told priority kind name = record { priority = priority; kind = kind; name = name }

abbrev pub told_prefix : List ℕ → Option Prefix → List CurrentOp
told_prefix name None = []
told_prefix name (Some op) = told op.priority (prefix_kind op) name ∷ []

abbrev pub told_infix : List ℕ → Option Infix → List CurrentOp
told_infix name None = []
told_infix name (Some op) = told op.priority (infix_kind op) name ∷ []

abbrev pub told_postfix : List ℕ → Option Postfix → List CurrentOp
told_postfix name None = []
told_postfix name (Some op) = told op.priority (postfix_kind op) name ∷ []

-- what a name is: prefix, infix, postfix
abbrev pub told_by : Entry → List CurrentOp
told_by e = told_prefix e.name e.as_prefix ++ told_infix e.name e.as_infix ++ told_postfix e.name e.as_postfix

-- by name, since the entries rise
abbrev pub current_ops : List Entry → List CurrentOp
current_ops entries = flat_map told_by entries
