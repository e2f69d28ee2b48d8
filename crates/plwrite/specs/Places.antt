-- Where a term stands, and when it stands in brackets there.
use Rattle.std.specs.Prelude.{ℕ, List, Bool, true, false, ◌||◌, ◌&&◌, ◌==◌, nat_lt, is_some}
use Rattle.plops.specs.declared.operator.Prefix.{Prefix}
use Rattle.plops.specs.declared.operator.Infix.{Infix}
use Rattle.plops.specs.declared.operator.Postfix.{Postfix}
use Rattle.plops.specs.declared.operator.Operator.{Operator}
use Rattle.plops.specs.declared.operator.Operator.TheVariants.{Before, Between, Behind}
use Rattle.plops.specs.declared.table.Entry.{Entry}
use Rattle.plops.specs.Tables.{prefix_of, infix_of, postfix_of}
use Rattle.plwrite.specs.declared.style.Style.{Style}
use Rattle.plwrite.specs.Styles.{used}
use Rattle.plwrite.specs.declared.place.TermPlace.{TermPlace}
use Rattle.plwrite.specs.declared.place.Position.{Position}
use Rattle.plwrite.specs.declared.place.Position.TheVariants.{At, Tail}

-- a whole term, an argument or element, and the operands of operators
abbrev pub whole : TermPlace
whole = record { most = 1200; is_operand = false; is_strict = false }

abbrev pub argument : TermPlace
argument = record { most = 999; is_operand = false; is_strict = false }

abbrev pub right_of_prefix : Prefix → TermPlace
right_of_prefix op = record { most = op.right; is_operand = true; is_strict = false }

abbrev pub left_of : Infix → TermPlace
left_of op = record { most = op.left; is_operand = true; is_strict = op.left == op.priority }

abbrev pub right_of : Infix → TermPlace
right_of op = record { most = op.right; is_operand = true; is_strict = false }

abbrev pub left_of_postfix : Postfix → TermPlace
left_of_postfix op = record { most = op.left; is_operand = true; is_strict = op.left == op.priority }

abbrev pub priority : Operator → ℕ
priority (Before op) = op.priority
priority (Between op) = op.priority
priority (Behind op) = op.priority

-- its right operand may have its own priority
abbrev pub is_right_open : Operator → Bool
is_right_open (Before op) = op.right == op.priority
is_right_open (Between op) = op.right == op.priority
is_right_open (Behind op) = false

-- An operator's term is in brackets where its priority exceeds its place's, and where both are equal, it is the
-- left operand of yfx or yf, and its own operator is fy or xfy.
abbrev pub needs_brackets : TermPlace → Operator → Bool
needs_brackets place op = nat_lt place.most (priority op) || (place.is_strict && (is_right_open op && (priority op == place.most)))

abbrev pub is_operator : List Entry → Style → List ℕ → Bool
is_operator ops style s = is_some (used style (prefix_of ops s)) || (is_some (used style (infix_of ops s)) || is_some (used style (postfix_of ops s)))

-- an atom that is an operator is in brackets as an operand
abbrev pub is_bracketed_atom : List Entry → Style → TermPlace → List ℕ → Bool
is_bracketed_atom ops style place s = place.is_operand && is_operator ops style s

abbrev pub place_of : Position → TermPlace
place_of (At place) = place
place_of Tail = argument
