-- The table looked up and changed, on names that it holds and on ones that it does not.
use Rattle.std.proofs.Common.{◌≡◌, [], ◌∷◌, Some, None, refl, length, take}
use Rattle.std.specs.Prelude.{codes}
use Rattle.plops.specs.declared.operator.Kind.TheVariants.{Xfx, Xfy, Yfx, Fx, Fy, Xf, Yf}
use Rattle.plops.specs.declared.operator.Operator.TheVariants.{Before, Between, Behind}
use Rattle.plops.specs.declared.error.OpError.TheVariants.{Priority, Comma, Reserved, InfixPostfix}
use Rattle.plops.specs.Operators.{operator_of}
use Rattle.plops.specs.Tables.{prefix_of, infix_of, postfix_of}
use Rattle.plops.specs.Changes.{added, refusal}
use Rattle.plops.specs.Listing.{told, current_ops}
use Rattle.plops.specs.Given.{iso_table}

-- an operand x has a lesser priority, an operand y may have the operator's own
not_associative : operator_of 700 Xfx ≡ Between (record { priority = 700; left = 699; right = 699 })
not_associative = refl

to_the_right : operator_of 200 Xfy ≡ Between (record { priority = 200; left = 199; right = 200 })
to_the_right = refl

to_the_left : operator_of 500 Yfx ≡ Between (record { priority = 500; left = 500; right = 499 })
to_the_left = refl

once_before : operator_of 1150 Fx ≡ Before (record { priority = 1150; right = 1149 })
once_before = refl

often_before : operator_of 900 Fy ≡ Before (record { priority = 900; right = 900 })
often_before = refl

once_behind : operator_of 100 Xf ≡ Behind (record { priority = 100; left = 99 })
once_behind = refl

often_behind : operator_of 100 Yf ≡ Behind (record { priority = 100; left = 100 })
often_behind = refl

-- a rule is infix, and a directive prefix
rule : infix_of iso_table (codes ":-") ≡ Some (record { priority = 1200; left = 1199; right = 1199 })
unfolding infix_of iso_table
rule = refl

directive : prefix_of iso_table (codes ":-") ≡ Some (record { priority = 1200; right = 1199 })
unfolding prefix_of iso_table
directive = refl

comma_is_infix : infix_of iso_table (codes ",") ≡ Some (record { priority = 1000; left = 999; right = 1000 })
unfolding infix_of iso_table
comma_is_infix = refl

comma_is_no_prefix : prefix_of iso_table (codes ",") ≡ None
unfolding prefix_of iso_table
comma_is_no_prefix = refl

minus_before : prefix_of iso_table (codes "-") ≡ Some (record { priority = 200; right = 200 })
unfolding prefix_of iso_table
minus_before = refl

minus_between : infix_of iso_table (codes "-") ≡ Some (record { priority = 500; left = 500; right = 499 })
unfolding infix_of iso_table
minus_between = refl

power : infix_of iso_table (codes "**") ≡ Some (record { priority = 200; left = 199; right = 199 })
unfolding infix_of iso_table
power = refl

other_name : infix_of iso_table (codes "a") ≡ None
unfolding infix_of iso_table
other_name = refl

no_postfix : postfix_of iso_table (codes ":-") ≡ None
unfolding postfix_of iso_table
no_postfix = refl

-- 44 operators, the first by name of them `*`
how_many : length (current_ops iso_table) ≡ 44
unfolding iso_table
how_many = refl

first_five : take 5 (current_ops iso_table) ≡ told 400 Yfx (codes "*") ∷ told 200 Xfx (codes "**") ∷ told 500 Yfx (codes "+") ∷ told 1000 Xfy (codes ",") ∷ told 200 Fy (codes "-") ∷ []
unfolding iso_table
first_five = refl

-- ---- changes

new_one : infix_of (added 1150 Xfy (codes "===>") iso_table) (codes "===>") ≡ Some (record { priority = 1150; left = 1149; right = 1150 })
unfolding infix_of iso_table
new_one = refl

-- added and removed: the table as it was
removed : added 0 Xfx (codes "===>") (added 1150 Xfy (codes "===>") (added 500 Yfx (codes "+") [])) ≡ added 500 Yfx (codes "+") []
removed = refl

-- a removal of a kind that the name is not
nothing_removed : added 0 Xf (codes "+") (added 500 Yfx (codes "+") []) ≡ added 500 Yfx (codes "+") []
nothing_removed = refl

-- one kind of a name is removed, and the other stays
one_kind : added 0 Fx (codes "-") (added 500 Yfx (codes "-") (added 200 Fy (codes "-") [])) ≡ added 500 Yfx (codes "-") []
one_kind = refl

told_in_order : current_ops (added 100 Yf (codes "b") (added 200 Fy (codes "b") (added 300 Xfx (codes "a") []))) ≡ told 300 Xfx (codes "a") ∷ told 200 Fy (codes "b") ∷ told 100 Yf (codes "b") ∷ []
told_in_order = refl

-- ---- refusals

comma : refusal 700 Xfx (codes ",") iso_table ≡ Some Comma
comma = refl

too_high : refusal 1201 Xfx (codes ",") iso_table ≡ Some Priority
too_high = refl

list_name : refusal 200 Xfx (codes "[]") iso_table ≡ Some Reserved
list_name = refl

beside_infix : refusal 200 Xf (codes "+") iso_table ≡ Some InfixPostfix
unfolding iso_table
beside_infix = refl

beside_prefix : refusal 200 Xf (codes "\\+") iso_table ≡ None
unfolding iso_table
beside_prefix = refl

removing_none : refusal 0 Xf (codes "+") iso_table ≡ None
unfolding iso_table
removing_none = refl
