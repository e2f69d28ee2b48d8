-- The signs of small terms, and their levels, worked.
use Rattle.std.proofs.Common.{◌≡◌, ℕ, pos, negsuc, [], ◌∷◌, codes, refl, true, false}
use Prim.Native.String.{String}
use Rattle.std.specs.Fmt.{digits}
use Rattle.plterm.specs.Tree.{Tree, var, int, atom, compound, none, more}
use Rattle.plops.specs.declared.operator.Kind.TheVariants.{Xfx, Yfx, Fy}
use Rattle.plops.specs.declared.table.OpTable.{OpTable}
use Rattle.plops.specs.Operators.{operator_of}
use Rattle.plops.specs.Tables.{plain, with_operator, prefix_of, infix_of, postfix_of}
use Rattle.plops.specs.Given.{iso_table}
use Rattle.plwrite.specs.declared.style.Style.TheVariants.{Canonical, Listed}
use Rattle.plwrite.specs.declared.place.Position.TheVariants.{At}
use Rattle.plwrite.specs.Places.{whole}
use Rattle.plread.specs.Signs.{Sign, Name, Variable, Integer, Open, OpenCall, Close, OpenSquare, CloseSquare, OpenCurly, CloseCurly, Comma, Bar, End}
use Rattle.pllaws.specs.Levels.{levels_of, other_levels}
use Rattle.pllaws.specs.Written.{signs, other_signs, clause_signs}
use Rattle.pllaws.specs.Numbered.{all_numbered}

abbrev table : OpTable
table =
    with_operator (with_operator (plain (codes "-")) (operator_of 500 Yfx)) (operator_of 200 Fy)
    ∷ with_operator (plain (codes "=")) (operator_of 700 Xfx)
    ∷ iso_table

abbrev a : Tree
a = atom (codes "a")

abbrev one : String → Tree → Tree
one s t = compound (codes s) (more t none)

abbrev two : String → Tree → Tree → Tree
two s t u = compound (codes s) (more t (more u none))

abbrev named : String → Sign
named s = Name (codes s) true

-- `a:-_,[].`
rule : clause_signs table Listed (two ":-" a (two "," (var 0) (atom (codes "[]")))) ≡ named "a" ∷ named ":-" ∷ Variable 0 ∷ Comma ∷ OpenSquare ∷ CloseSquare ∷ End ∷ []
unfolding signs prefix_of infix_of postfix_of iso_table digits
rule = refl

-- `[a,-1|{a}].`
list : clause_signs table Listed (two "." a (two "." (int (negsuc 0)) (one "{}" a))) ≡ OpenSquare ∷ named "a" ∷ Comma ∷ named "-" ∷ Integer 1 true ∷ Bar ∷ OpenCurly ∷ named "a" ∷ CloseCurly ∷ CloseSquare ∷ End ∷ []
unfolding signs prefix_of infix_of postfix_of iso_table digits
list = refl

-- `-(1).`, and `- (a=a).`, where the bracket is not directly behind the operator
minus_of_one : clause_signs table Listed (one "-" (int (pos 1))) ≡ named "-" ∷ OpenCall ∷ Integer 1 true ∷ Close ∷ End ∷ []
unfolding signs prefix_of infix_of postfix_of iso_table digits
minus_of_one = refl

minus_of_equation : clause_signs table Listed (one "-" (two "=" a a)) ≡ named "-" ∷ Open ∷ named "a" ∷ named "=" ∷ named "a" ∷ Close ∷ End ∷ []
unfolding signs prefix_of infix_of postfix_of iso_table digits
minus_of_equation = refl

-- `(-)-a.`, `f(-,'[]'(a)).`
operator_as_operand : clause_signs table Listed (two "-" (atom (codes "-")) a) ≡ Open ∷ named "-" ∷ Close ∷ named "-" ∷ named "a" ∷ End ∷ []
unfolding signs prefix_of infix_of postfix_of iso_table digits
operator_as_operand = refl

functional : clause_signs table Listed (two "f" (atom (codes "-")) (one "[]" a)) ≡ named "f" ∷ OpenCall ∷ named "-" ∷ Comma ∷ Name (codes "[]") false ∷ OpenCall ∷ named "a" ∷ Close ∷ Close ∷ End ∷ []
unfolding signs prefix_of infix_of postfix_of iso_table digits
functional = refl

-- `1-2.`, `a is 2.`: an integer stands directly behind what it does not have to be held apart from
difference : clause_signs table Listed (two "-" (int (pos 1)) (int (pos 2))) ≡ Integer 1 false ∷ named "-" ∷ Integer 2 true ∷ End ∷ []
unfolding signs prefix_of infix_of postfix_of iso_table digits
difference = refl

is_two : clause_signs table Listed (two "is" a (int (pos 2))) ≡ named "a" ∷ named "is" ∷ Integer 2 false ∷ End ∷ []
unfolding signs prefix_of infix_of postfix_of iso_table digits
is_two = refl

-- `-(1,{a}).`
without_operators : clause_signs table Canonical (two "-" (int (pos 1)) (one "{}" a)) ≡ named "-" ∷ OpenCall ∷ Integer 1 true ∷ Comma ∷ OpenCurly ∷ named "a" ∷ CloseCurly ∷ Close ∷ End ∷ []
unfolding signs prefix_of infix_of postfix_of iso_table digits
without_operators = refl

-- `f(_1,_2,_1).` is read as `f(A,B,A).`
abbrev call_of : Tree → Tree → Tree
call_of t u = compound (codes "f") (more t (more u (more t none)))

variables_again : all_numbered [] (clause_signs table Listed (call_of (var 1) (var 2))) ≡ clause_signs table Listed (call_of (var 0) (var 1))
unfolding signs other_signs digits
variables_again = refl

-- ---- levels

abbrev needed : Tree → ℕ
needed t = levels_of table Listed (At whole) t

-- `_1.`, `a.`
variable_alone : needed (var 0) ≡ 0
unfolding levels_of
variable_alone = refl

atom_alone : needed a ≡ 0
unfolding levels_of prefix_of infix_of postfix_of iso_table
atom_alone = refl

-- `f(_1,_2,_1).`
call_with_variables : needed (call_of (var 0) (var 1)) ≡ 1
unfolding levels_of other_levels
call_with_variables = refl

-- `_1:-_2.`: the right operand alone stands behind an open operator
rule_of_variables : needed (two ":-" (var 0) (var 1)) ≡ 1
unfolding levels_of prefix_of infix_of postfix_of iso_table
rule_of_variables = refl

-- `_1-_2-_3.`, and `_1-(_2-_3).` with a bracket inside the outer operand
to_the_left : needed (two "-" (two "-" (var 0) (var 1)) (var 2)) ≡ 1
unfolding levels_of prefix_of infix_of postfix_of iso_table
to_the_left = refl

to_the_right : needed (two "-" (var 0) (two "-" (var 1) (var 2))) ≡ 3
unfolding levels_of prefix_of infix_of postfix_of iso_table
to_the_right = refl

-- `(-)-a.`: a bracket around the left operand, which is closed before the operator opens its level
bracketed_atom : needed (two "-" (atom (codes "-")) a) ≡ 1
unfolding levels_of prefix_of infix_of postfix_of iso_table
bracketed_atom = refl

-- `- _1.`, `- - _1.`, `- (_1=_2).`: each prefix operator waits for its operand
prefix_of_variable : needed (one "-" (var 0)) ≡ 1
unfolding levels_of prefix_of infix_of postfix_of iso_table
prefix_of_variable = refl

prefix_twice : needed (one "-" (one "-" (var 0))) ≡ 2
unfolding levels_of prefix_of infix_of postfix_of iso_table
prefix_twice = refl

prefix_of_bracket : needed (one "-" (two "=" (var 0) (var 1))) ≡ 3
unfolding levels_of prefix_of infix_of postfix_of iso_table
prefix_of_bracket = refl

-- `[_1,_2|_3].`, `[a,[_1]].`
list_with_tail : needed (two "." (var 0) (two "." (var 1) (var 2))) ≡ 1
unfolding levels_of
list_with_tail = refl

list_in_list : needed (two "." a (two "." (two "." (var 0) (atom (codes "[]"))) (atom (codes "[]")))) ≡ 2
unfolding levels_of prefix_of infix_of postfix_of iso_table
list_in_list = refl

-- `{_1}.`, `{_1:-_2}.`
braces_of_variable : needed (one "{}" (var 0)) ≡ 1
unfolding levels_of
braces_of_variable = refl

braces_of_rule : needed (one "{}" (two ":-" (var 0) (var 1))) ≡ 2
unfolding levels_of prefix_of infix_of postfix_of iso_table
braces_of_rule = refl
