-- Operators by priority and kind.
use Rattle.std.specs.Prelude.{ℕ, ◌-◌, ◌==◌, if◌then◌else◌}
use Rattle.plops.specs.declared.operator.Kind.{Kind}
use Rattle.plops.specs.declared.operator.Kind.TheVariants as kinds
use Rattle.plops.specs.declared.operator.Prefix.{Prefix}
use Rattle.plops.specs.declared.operator.Infix.{Infix}
use Rattle.plops.specs.declared.operator.Postfix.{Postfix}
use Rattle.plops.specs.declared.operator.Operator.{Operator}
use Rattle.plops.specs.declared.operator.Operator.TheVariants as operators

-- an operand x has a lesser priority than the operator, and an operand y at most the operator's
abbrev pub operator_of : ℕ → Kind → Operator
operator_of p kinds.Xfx = operators.Between (record { priority = p; left = p - 1; right = p - 1 })
operator_of p kinds.Xfy = operators.Between (record { priority = p; left = p - 1; right = p })
operator_of p kinds.Yfx = operators.Between (record { priority = p; left = p; right = p - 1 })
operator_of p kinds.Fx = operators.Before (record { priority = p; right = p - 1 })
operator_of p kinds.Fy = operators.Before (record { priority = p; right = p })
operator_of p kinds.Xf = operators.Behind (record { priority = p; left = p - 1 })
operator_of p kinds.Yf = operators.Behind (record { priority = p; left = p })

-- the kind of an operator
abbrev pub prefix_kind : Prefix → Kind
prefix_kind op = if op.right == op.priority then kinds.Fy else kinds.Fx

abbrev pub infix_kind : Infix → Kind
infix_kind op = if op.left == op.priority then kinds.Yfx else (if op.right == op.priority then kinds.Xfy else kinds.Xfx)

abbrev pub postfix_kind : Postfix → Kind
postfix_kind op = if op.left == op.priority then kinds.Yf else kinds.Xf
