-- The levels of small clauses.
use Rattle.std.proofs.Common.{◌≡◌, ℕ, List, codes, refl}
use Rattle.plterm.specs.Tree.{Tree, var, atom, compound, none, more}
use Rattle.plops.specs.Tables.{prefix_of, infix_of, postfix_of}
use Rattle.plops.specs.Given.{iso_table}
use Rattle.pllaws.specs.Levels.{levels_of}
use Rattle.plprogram.specs.Settings.{iso_settings}
use Rattle.pllaws.specs.Needs.{with_levels}

abbrev a : Tree
a = atom (codes "a")

abbrev one : List ℕ → Tree → Tree
one name t = compound name (more t none)

abbrev two : List ℕ → Tree → Tree → Tree
two name t u = compound name (more t (more u none))

-- `a.`
fact : with_levels 0 iso_settings a ≡ 0
unfolding levels_of prefix_of infix_of postfix_of iso_table
fact = refl

-- `a:-b,c.`: two right operands
rule : with_levels 0 iso_settings (two (codes ":-") a (two (codes ",") (atom (codes "b")) (atom (codes "c")))) ≡ 2
unfolding levels_of prefix_of infix_of postfix_of iso_table
rule = refl

-- `a-(a-a).` has a bracket more than `a-a-a.`
bracket : with_levels 0 iso_settings (two (codes "-") a (two (codes "-") a a)) ≡ 3
unfolding levels_of prefix_of infix_of postfix_of iso_table
bracket = refl

no_bracket : with_levels 0 iso_settings (two (codes "-") (two (codes "-") a a) a) ≡ 1
unfolding levels_of prefix_of infix_of postfix_of iso_table
no_bracket = refl

-- `[a,a].` stands in one level, and `f(f(a)).` in two
list : with_levels 0 iso_settings (two (codes ".") a (two (codes ".") a (atom (codes "[]")))) ≡ 1
unfolding levels_of prefix_of infix_of postfix_of iso_table
list = refl

-- the most of those so far
nested : with_levels 1 iso_settings (one (codes "f") (one (codes "f") a)) ≡ 2
unfolding levels_of prefix_of infix_of postfix_of iso_table
nested = refl

-- `_1.` and `f(_1,_2).`: a variable needs none
variable : with_levels 0 iso_settings (var 0) ≡ 0
unfolding levels_of
variable = refl

call_of_variables : with_levels 0 iso_settings (two (codes "f") (var 0) (var 1)) ≡ 1
unfolding levels_of prefix_of infix_of postfix_of iso_table
call_of_variables = refl

-- `:-initialization(_1).`, `\+ \+_1.`: a prefix operator waits for its operand
directive : with_levels 0 iso_settings (one (codes ":-") (one (codes "initialization") (var 0))) ≡ 2
unfolding levels_of prefix_of infix_of postfix_of iso_table
directive = refl

not_not : with_levels 0 iso_settings (one (codes "\\+") (one (codes "\\+") (var 0))) ≡ 2
unfolding levels_of prefix_of infix_of postfix_of iso_table
not_not = refl

-- `{_1,_2}.`, `[{_1}|_2].`
braces : with_levels 0 iso_settings (one (codes "{}") (two (codes ",") (var 0) (var 1))) ≡ 2
unfolding levels_of prefix_of infix_of postfix_of iso_table
braces = refl

braces_in_list : with_levels 0 iso_settings (two (codes ".") (one (codes "{}") (var 0)) (var 1)) ≡ 2
unfolding levels_of prefix_of infix_of postfix_of iso_table
braces_in_list = refl
