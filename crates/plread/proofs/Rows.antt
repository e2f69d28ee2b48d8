-- What clauses spell and what spells none, by the machine's steps: the laws below say that it takes those of the grammar.
use Rattle.std.proofs.Common.{◌≡◌, ℕ, zero, suc, pos, negsuc, List, [], ◌∷◌, codes, refl, true, false}
use Prim.Native.String.{String}
use Rattle.plterm.specs.Tree.{Tree, var, int, atom, compound, none, more}
use Rattle.plops.specs.declared.operator.Kind.TheVariants.{Xfx, Xfy, Yfx, Fx, Fy, Yf}
use Rattle.plops.specs.declared.table.OpTable.{OpTable}
use Rattle.plops.specs.Operators.{operator_of}
use Rattle.plops.specs.Tables.{plain, with_operator, prefix_of, infix_of, postfix_of}
use Rattle.plread.specs.Signs.{Sign, Name, Variable, Integer, Open, OpenCall, Close, OpenSquare, CloseSquare, OpenCurly, CloseCurly, Comma, Bar, End}
use Rattle.plread.specs.Reading.{start_of, next_of, Spells}
use Rattle.plread.specs.Answers.{IsSpelled}
use Rattle.plread.specs.Machine.{State, After, Goes, Done, Fails, step}
use Rattle.plread.proofs.Runs.{Reading, first, at_first, at_next, at_done, none_fails}

-- some operators of the standard, and a postfix one
abbrev table : OpTable
table =
    with_operator (with_operator (plain (codes ":-")) (operator_of 1200 Xfx)) (operator_of 1200 Fx)
    ∷ with_operator (plain (codes ",")) (operator_of 1000 Xfy)
    ∷ with_operator (plain (codes "\\+")) (operator_of 900 Fy)
    ∷ with_operator (plain (codes "=")) (operator_of 700 Xfx)
    ∷ with_operator (with_operator (plain (codes "-")) (operator_of 500 Yfx)) (operator_of 200 Fy)
    ∷ with_operator (plain (codes "^")) (operator_of 200 Xfy)
    ∷ with_operator (plain (codes "!")) (operator_of 100 Yf)
    ∷ []

-- the steps from a state on, this many at most
abbrev run : ℕ → After → After
run n (Done trees) = Done trees
run n Fails = Fails
run zero (Goes s) = Goes s
run (suc n) (Goes s) = run n (step table s)

abbrev Reads_as : ℕ → List Sign → Tree → Type 0
Reads_as levels signs t = run 60 (Goes (first levels signs)) ≡ Done (t ∷ [])

abbrev Refused : ℕ → List Sign → Type 0
Refused levels signs = run 60 (Goes (first levels signs)) ≡ Fails

-- what is read so is what the grammar spells, and what is refused so is nothing that it spells
module _ (levels : ℕ) (signs : List Sign) where
  read_after : (n : ℕ) (s : State) (t : Tree) (after : After) → Reading table levels signs s → step table s ≡ after → ((m : State) → Reading table levels signs m → run n (Goes m) ≡ Done (t ∷ []) → IsSpelled table levels signs t) → run n after ≡ Done (t ∷ []) → IsSpelled table levels signs t
  read_after n s t (Goes m) r e next h = next m (at_next table levels signs s m r e) h
  read_after n s t (Done trees) r e next h = at_done table levels signs s trees t r e (let same : trees ≡ t ∷ [] = cc in same)
  read_after n s t Fails r e next h = absurd cc

  read_from : (n : ℕ) (s : State) (t : Tree) → Reading table levels signs s → run n (Goes s) ≡ Done (t ∷ []) → IsSpelled table levels signs t
  read_from zero s t r h = absurd cc
  read_from (suc n) s t r h = read_after n s t (step table s) r refl (λ m. read_from n m t) h

  pub spelled : (t : Tree) → Reads_as levels signs t → IsSpelled table levels signs t
  spelled t h = read_from 60 (first levels signs) t (at_first table levels signs) h

  refused_after : (n : ℕ) (s : State) (after : After) → Reading table levels signs s → step table s ≡ after → ((m : State) → Reading table levels signs m → run n (Goes m) ≡ Fails → (t : Tree) → Spells table levels signs t → ⊥) → run n after ≡ Fails → (t : Tree) → Spells table levels signs t → ⊥
  refused_after n s (Goes m) r e next h = next m (at_next table levels signs s m r e) h
  refused_after n s (Done trees) r e next h = absurd cc
  refused_after n s Fails r e next h = none_fails table levels signs s r e

  refused_from : (n : ℕ) (s : State) → Reading table levels signs s → run n (Goes s) ≡ Fails → (t : Tree) → Spells table levels signs t → ⊥
  refused_from zero s r h = absurd cc
  refused_from (suc n) s r h = refused_after n s (step table s) r refl (λ m. refused_from n m) h

  pub unspelled : Refused levels signs → (t : Tree) → Spells table levels signs t → ⊥
  unspelled h = refused_from 60 (first levels signs) (at_first table levels signs) h

abbrev named : String → Sign
named s = Name (codes s) true

abbrev quoted : String → Sign
quoted s = Name (codes s) false

abbrev at : String → Tree
at s = atom (codes s)

abbrev one : String → Tree → Tree
one s t = compound (codes s) (more t none)

abbrev two : String → Tree → Tree → Tree
two s t u = compound (codes s) (more t (more u none))

-- ---- what the signs spell

-- `- (1).`
minus_before_bracket : Reads_as 2 (named "-" ∷ Open ∷ Integer 1 true ∷ Close ∷ End ∷ []) ((one "-" (int (pos 1))))
unfolding start_of next_of prefix_of infix_of postfix_of
minus_before_bracket = refl

-- `- 1.`
minus_before_integer : Reads_as 1 (named "-" ∷ Integer 1 false ∷ End ∷ []) ((one "-" (int (pos 1))))
unfolding start_of next_of prefix_of infix_of postfix_of
minus_before_integer = refl

-- `-(1).`
minus_called : Reads_as 1 (named "-" ∷ OpenCall ∷ Integer 1 true ∷ Close ∷ End ∷ []) ((one "-" (int (pos 1))))
unfolding start_of next_of prefix_of infix_of postfix_of
minus_called = refl

-- `-1.`
negative_integer : Reads_as 0 (named "-" ∷ Integer 1 true ∷ End ∷ []) (int (negsuc 0))
unfolding start_of next_of prefix_of infix_of postfix_of
negative_integer = refl

-- `-0.`
negative_zero : Reads_as 0 (named "-" ∷ Integer 0 true ∷ End ∷ []) (int (pos 0))
unfolding start_of next_of prefix_of infix_of postfix_of
negative_zero = refl

-- `a - 1.`
minus_spaced : Reads_as 1 (named "a" ∷ named "-" ∷ Integer 1 false ∷ End ∷ []) ((two "-" (at "a") (int (pos 1))))
unfolding start_of next_of prefix_of infix_of postfix_of
minus_spaced = refl

-- `a -1.`
minus_before_joined : Reads_as 1 (named "a" ∷ named "-" ∷ Integer 1 true ∷ End ∷ []) ((two "-" (at "a") (int (pos 1))))
unfolding start_of next_of prefix_of infix_of postfix_of
minus_before_joined = refl

-- `a-1.`
minus_joined : Reads_as 1 (named "a" ∷ named "-" ∷ Integer 1 true ∷ End ∷ []) ((two "-" (at "a") (int (pos 1))))
unfolding start_of next_of prefix_of infix_of postfix_of
minus_joined = refl

-- `x('-'1).`
quoted_minus : Reads_as 2 (named "x" ∷ OpenCall ∷ quoted "-" ∷ Integer 1 true ∷ Close ∷ End ∷ []) ((one "x" ((one "-" (int (pos 1))))))
unfolding start_of next_of prefix_of infix_of postfix_of
quoted_minus = refl

-- `a '-' 1.`
quoted_infix : Reads_as 1 (named "a" ∷ quoted "-" ∷ Integer 1 false ∷ End ∷ []) ((two "-" (at "a") (int (pos 1))))
unfolding start_of next_of prefix_of infix_of postfix_of
quoted_infix = refl

-- `- = 1.`
minus_before_infix : Reads_as 1 (named "-" ∷ named "=" ∷ Integer 1 false ∷ End ∷ []) ((two "=" (at "-") (int (pos 1))))
unfolding start_of next_of prefix_of infix_of postfix_of
minus_before_infix = refl

-- `[-|-].`
operators_as_elements : Reads_as 1 (OpenSquare ∷ named "-" ∷ Bar ∷ named "-" ∷ CloseSquare ∷ End ∷ []) ((two "." (at "-") (at "-")))
unfolding start_of next_of prefix_of infix_of postfix_of
operators_as_elements = refl

-- `\+ (-).`
operator_in_bracket : Reads_as 2 (named "\\+" ∷ Open ∷ named "-" ∷ Close ∷ End ∷ []) ((one "\\+" (at "-")))
unfolding start_of next_of prefix_of infix_of postfix_of
operator_in_bracket = refl

-- `f(:-, (a:-b)).`
operator_before_comma : Reads_as 3 (named "f" ∷ OpenCall ∷ named ":-" ∷ Comma ∷ Open ∷ named "a" ∷ named ":-" ∷ named "b" ∷ Close ∷ Close ∷ End ∷ []) ((two "f" (at ":-") ((two ":-" (at "a") (at "b")))))
unfolding start_of next_of prefix_of infix_of postfix_of
operator_before_comma = refl

-- `[a|b].`
list_with_tail : Reads_as 1 (OpenSquare ∷ named "a" ∷ Bar ∷ named "b" ∷ CloseSquare ∷ End ∷ []) ((two "." (at "a") (at "b")))
unfolding start_of next_of prefix_of infix_of postfix_of
list_with_tail = refl

-- `[a,B,3].`
list_of_three : Reads_as 1 (OpenSquare ∷ named "a" ∷ Comma ∷ Variable 0 ∷ Comma ∷ Integer 3 true ∷ CloseSquare ∷ End ∷ []) ((two "." (at "a") ((two "." (var 0) ((two "." (int (pos 3)) (at "[]")))))))
unfolding start_of next_of prefix_of infix_of postfix_of
list_of_three = refl

-- `[[],[a]|[b]].`
lists_inside : Reads_as 2 (OpenSquare ∷ OpenSquare ∷ CloseSquare ∷ Comma ∷ OpenSquare ∷ named "a" ∷ CloseSquare ∷ Bar ∷ OpenSquare ∷ named "b" ∷ CloseSquare ∷ CloseSquare ∷ End ∷ []) ((two "." (at "[]") ((two "." ((two "." (at "a") (at "[]"))) ((two "." (at "b") (at "[]")))))))
unfolding start_of next_of prefix_of infix_of postfix_of
lists_inside = refl

-- `{a,b}.`
in_braces : Reads_as 2 (OpenCurly ∷ named "a" ∷ Comma ∷ named "b" ∷ CloseCurly ∷ End ∷ []) ((one "{}" ((two "," (at "a") (at "b")))))
unfolding start_of next_of prefix_of infix_of postfix_of
in_braces = refl

-- `{}.`
empty_braces : Reads_as 0 (OpenCurly ∷ CloseCurly ∷ End ∷ []) (at "{}")
unfolding start_of next_of prefix_of infix_of postfix_of
empty_braces = refl

-- `- - a.`
minus_twice : Reads_as 2 (named "-" ∷ named "-" ∷ named "a" ∷ End ∷ []) ((one "-" ((one "-" (at "a")))))
unfolding start_of next_of prefix_of infix_of postfix_of
minus_twice = refl

-- `1 - -1.`
minus_of_negative : Reads_as 1 (Integer 1 false ∷ named "-" ∷ named "-" ∷ Integer 1 true ∷ End ∷ []) ((two "-" (int (pos 1)) (int (negsuc 0))))
unfolding start_of next_of prefix_of infix_of postfix_of
minus_of_negative = refl

-- `-(-(1)).`
minus_called_twice : Reads_as 2 (named "-" ∷ OpenCall ∷ named "-" ∷ OpenCall ∷ Integer 1 true ∷ Close ∷ Close ∷ End ∷ []) ((one "-" ((one "-" (int (pos 1))))))
unfolding start_of next_of prefix_of infix_of postfix_of
minus_called_twice = refl

-- `- -1.`
minus_of_minus_one : Reads_as 1 (named "-" ∷ named "-" ∷ Integer 1 true ∷ End ∷ []) ((one "-" (int (negsuc 0))))
unfolding start_of next_of prefix_of infix_of postfix_of
minus_of_minus_one = refl

-- `-9223372036854775808.`
least_integer : Reads_as 0 (named "-" ∷ Integer 9223372036854775808 true ∷ End ∷ []) (int (negsuc 9223372036854775807))
unfolding start_of next_of prefix_of infix_of postfix_of
least_integer = refl

-- `9223372036854775807.`
greatest_integer : Reads_as 0 (Integer 9223372036854775807 false ∷ End ∷ []) (int (pos 9223372036854775807))
unfolding start_of next_of prefix_of infix_of postfix_of
greatest_integer = refl

-- `[].`
empty_list : Reads_as 0 (OpenSquare ∷ CloseSquare ∷ End ∷ []) (at "[]")
unfolding start_of next_of prefix_of infix_of postfix_of
empty_list = refl

-- `[ ].`
empty_list_spaced : Reads_as 0 (OpenSquare ∷ CloseSquare ∷ End ∷ []) (at "[]")
unfolding start_of next_of prefix_of infix_of postfix_of
empty_list_spaced = refl

-- `'[]'(x).`
empty_list_as_functor : Reads_as 1 (quoted "[]" ∷ OpenCall ∷ named "x" ∷ Close ∷ End ∷ []) ((one "[]" (at "x")))
unfolding start_of next_of prefix_of infix_of postfix_of
empty_list_as_functor = refl

-- `'f'(x).`
quoted_functor : Reads_as 1 (quoted "f" ∷ OpenCall ∷ named "x" ∷ Close ∷ End ∷ []) ((one "f" (at "x")))
unfolding start_of next_of prefix_of infix_of postfix_of
quoted_functor = refl

-- `:- a.`
directive : Reads_as 1 (named ":-" ∷ named "a" ∷ End ∷ []) ((one ":-" (at "a")))
unfolding start_of next_of prefix_of infix_of postfix_of
directive = refl

-- `(a , b).`
comma_in_bracket : Reads_as 2 (Open ∷ named "a" ∷ Comma ∷ named "b" ∷ Close ∷ End ∷ []) ((two "," (at "a") (at "b")))
unfolding start_of next_of prefix_of infix_of postfix_of
comma_in_bracket = refl

-- `x((a ',' b)).`
quoted_comma : Reads_as 3 (named "x" ∷ OpenCall ∷ OpenCall ∷ named "a" ∷ quoted "," ∷ named "b" ∷ Close ∷ Close ∷ End ∷ []) ((one "x" ((two "," (at "a") (at "b")))))
unfolding start_of next_of prefix_of infix_of postfix_of
quoted_comma = refl

-- `x(',').`
comma_as_atom : Reads_as 1 (named "x" ∷ OpenCall ∷ quoted "," ∷ Close ∷ End ∷ []) ((one "x" (at ",")))
unfolding start_of next_of prefix_of infix_of postfix_of
comma_as_atom = refl

-- `a-b-c.`
to_the_left : Reads_as 1 (named "a" ∷ named "-" ∷ named "b" ∷ named "-" ∷ named "c" ∷ End ∷ []) ((two "-" ((two "-" (at "a") (at "b"))) (at "c")))
unfolding start_of next_of prefix_of infix_of postfix_of
to_the_left = refl

-- `a^b^c.`
to_the_right : Reads_as 2 (named "a" ∷ named "^" ∷ named "b" ∷ named "^" ∷ named "c" ∷ End ∷ []) ((two "^" (at "a") ((two "^" (at "b") (at "c")))))
unfolding start_of next_of prefix_of infix_of postfix_of
to_the_right = refl

-- `- a^b.`
minus_of_power : Reads_as 2 (named "-" ∷ named "a" ∷ named "^" ∷ named "b" ∷ End ∷ []) ((one "-" ((two "^" (at "a") (at "b")))))
unfolding start_of next_of prefix_of infix_of postfix_of
minus_of_power = refl

-- `-1^2.`
minus_of_negative_power : Reads_as 1 (named "-" ∷ Integer 1 true ∷ named "^" ∷ Integer 2 true ∷ End ∷ []) ((two "^" (int (negsuc 0)) (int (pos 2))))
unfolding start_of next_of prefix_of infix_of postfix_of
minus_of_negative_power = refl

-- `\+ \+ a.`
not_not : Reads_as 2 (named "\\+" ∷ named "\\+" ∷ named "a" ∷ End ∷ []) ((one "\\+" ((one "\\+" (at "a")))))
unfolding start_of next_of prefix_of infix_of postfix_of
not_not = refl

-- `a =(b).`
infix_called : Reads_as 2 (named "a" ∷ named "=" ∷ OpenCall ∷ named "b" ∷ Close ∷ End ∷ []) ((two "=" (at "a") (at "b")))
unfolding start_of next_of prefix_of infix_of postfix_of
infix_called = refl

-- `=(a,b).`
infix_as_functor : Reads_as 1 (named "=" ∷ OpenCall ∷ named "a" ∷ Comma ∷ named "b" ∷ Close ∷ End ∷ []) ((two "=" (at "a") (at "b")))
unfolding start_of next_of prefix_of infix_of postfix_of
infix_as_functor = refl

-- `a ! ! .`
postfix : Reads_as 0 (named "a" ∷ named "!" ∷ named "!" ∷ End ∷ []) ((one "!" ((one "!" (at "a")))))
unfolding start_of next_of prefix_of infix_of postfix_of
postfix = refl

-- `f(-).`
minus_as_argument : Reads_as 1 (named "f" ∷ OpenCall ∷ named "-" ∷ Close ∷ End ∷ []) ((one "f" (at "-")))
unfolding start_of next_of prefix_of infix_of postfix_of
minus_as_argument = refl

-- `- - 1 - 2.`
minus_as_left : Reads_as 2 (named "-" ∷ named "-" ∷ Integer 1 false ∷ named "-" ∷ Integer 2 false ∷ End ∷ []) ((two "-" ((one "-" ((one "-" (int (pos 1)))))) (int (pos 2))))
unfolding start_of next_of prefix_of infix_of postfix_of
minus_as_left = refl

-- `f(X,_,X,_).`
variables : Reads_as 1 (named "f" ∷ OpenCall ∷ Variable 0 ∷ Comma ∷ Variable 1 ∷ Comma ∷ Variable 0 ∷ Comma ∷ Variable 2 ∷ Close ∷ End ∷ []) (compound (codes "f") (more (var 0) (more (var 1) (more (var 0) (more (var 2) none)))))
unfolding start_of next_of prefix_of infix_of postfix_of
variables = refl

-- ---- what spells no term

-- `-9223372036854775809.`
sign_of_too_great : Refused 5 (named "-" ∷ Integer 9223372036854775809 true ∷ End ∷ [])
unfolding start_of next_of prefix_of infix_of postfix_of
sign_of_too_great = refl

-- `9223372036854775808.`
too_great : Refused 5 (Integer 9223372036854775808 false ∷ End ∷ [])
unfolding start_of next_of prefix_of infix_of postfix_of
too_great = refl

-- `x(- 9223372036854775808).`
minus_before_too_great : Refused 5 (named "x" ∷ OpenCall ∷ named "-" ∷ Integer 9223372036854775808 false ∷ Close ∷ End ∷ [])
unfolding start_of next_of prefix_of infix_of postfix_of
minus_before_too_great = refl

-- `x('-'9223372036854775808).`
quoted_minus_before_too_great : Refused 5 (named "x" ∷ OpenCall ∷ quoted "-" ∷ Integer 9223372036854775808 true ∷ Close ∷ End ∷ [])
unfolding start_of next_of prefix_of infix_of postfix_of
quoted_minus_before_too_great = refl

-- `- = .`
no_operand : Refused 5 (named "-" ∷ named "=" ∷ End ∷ [])
unfolding start_of next_of prefix_of infix_of postfix_of
no_operand = refl

-- `= a.`
infix_first : Refused 5 (named "=" ∷ named "a" ∷ End ∷ [])
unfolding start_of next_of prefix_of infix_of postfix_of
infix_first = refl

-- `a:-b:-c.`
rules_in_a_row : Refused 5 (named "a" ∷ named ":-" ∷ named "b" ∷ named ":-" ∷ named "c" ∷ End ∷ [])
unfolding start_of next_of prefix_of infix_of postfix_of
rules_in_a_row = refl

-- `f(a:-b).`
rule_as_argument : Refused 5 (named "f" ∷ OpenCall ∷ named "a" ∷ named ":-" ∷ named "b" ∷ Close ∷ End ∷ [])
unfolding start_of next_of prefix_of infix_of postfix_of
rule_as_argument = refl

-- `f(:-a).`
directive_as_argument : Refused 5 (named "f" ∷ OpenCall ∷ named ":-" ∷ named "a" ∷ Close ∷ End ∷ [])
unfolding start_of next_of prefix_of infix_of postfix_of
directive_as_argument = refl

-- `[:-a].`
directive_as_element : Refused 5 (OpenSquare ∷ named ":-" ∷ named "a" ∷ CloseSquare ∷ End ∷ [])
unfolding start_of next_of prefix_of infix_of postfix_of
directive_as_element = refl

-- `x(a ',' b).`
quoted_comma_as_argument : Refused 5 (named "x" ∷ OpenCall ∷ named "a" ∷ quoted "," ∷ named "b" ∷ Close ∷ End ∷ [])
unfolding start_of next_of prefix_of infix_of postfix_of
quoted_comma_as_argument = refl

-- `a = b = c.`
equals_twice : Refused 5 (named "a" ∷ named "=" ∷ named "b" ∷ named "=" ∷ named "c" ∷ End ∷ [])
unfolding start_of next_of prefix_of infix_of postfix_of
equals_twice = refl

-- `a = \+ b.`
not_below_equals : Refused 5 (named "a" ∷ named "=" ∷ named "\\+" ∷ named "b" ∷ End ∷ [])
unfolding start_of next_of prefix_of infix_of postfix_of
not_below_equals = refl

-- `(a|b).`
bar_as_infix : Refused 5 (Open ∷ named "a" ∷ Bar ∷ named "b" ∷ Close ∷ End ∷ [])
unfolding start_of next_of prefix_of infix_of postfix_of
bar_as_infix = refl

-- `[|a].`
bar_first : Refused 5 (OpenSquare ∷ Bar ∷ named "a" ∷ CloseSquare ∷ End ∷ [])
unfolding start_of next_of prefix_of infix_of postfix_of
bar_first = refl

-- `[a|b|c].`
tail_twice : Refused 5 (OpenSquare ∷ named "a" ∷ Bar ∷ named "b" ∷ Bar ∷ named "c" ∷ CloseSquare ∷ End ∷ [])
unfolding start_of next_of prefix_of infix_of postfix_of
tail_twice = refl

-- `[a|b,c].`
tail_with_comma : Refused 5 (OpenSquare ∷ named "a" ∷ Bar ∷ named "b" ∷ Comma ∷ named "c" ∷ CloseSquare ∷ End ∷ [])
unfolding start_of next_of prefix_of infix_of postfix_of
tail_with_comma = refl

-- `[a,].`
no_element : Refused 5 (OpenSquare ∷ named "a" ∷ Comma ∷ CloseSquare ∷ End ∷ [])
unfolding start_of next_of prefix_of infix_of postfix_of
no_element = refl

-- `[a.`
list_left_open : Refused 5 (OpenSquare ∷ named "a" ∷ End ∷ [])
unfolding start_of next_of prefix_of infix_of postfix_of
list_left_open = refl

-- `(a].`
closed_otherwise : Refused 5 (Open ∷ named "a" ∷ CloseSquare ∷ End ∷ [])
unfolding start_of next_of prefix_of infix_of postfix_of
closed_otherwise = refl

-- `{a.`
braces_left_open : Refused 5 (OpenCurly ∷ named "a" ∷ End ∷ [])
unfolding start_of next_of prefix_of infix_of postfix_of
braces_left_open = refl

-- `[](x).`
called_empty_list : Refused 5 (OpenSquare ∷ CloseSquare ∷ OpenCall ∷ named "x" ∷ Close ∷ End ∷ [])
unfolding start_of next_of prefix_of infix_of postfix_of
called_empty_list = refl

-- `X(a).`
called_variable : Refused 5 (Variable 0 ∷ OpenCall ∷ named "a" ∷ Close ∷ End ∷ [])
unfolding start_of next_of prefix_of infix_of postfix_of
called_variable = refl

-- `f (a).`
called_spaced : Refused 5 (named "f" ∷ Open ∷ named "a" ∷ Close ∷ End ∷ [])
unfolding start_of next_of prefix_of infix_of postfix_of
called_spaced = refl

-- `f().`
no_argument : Refused 5 (named "f" ∷ OpenCall ∷ Close ∷ End ∷ [])
unfolding start_of next_of prefix_of infix_of postfix_of
no_argument = refl

-- `a b.`
two_operands : Refused 5 (named "a" ∷ named "b" ∷ End ∷ [])
unfolding start_of next_of prefix_of infix_of postfix_of
two_operands = refl

-- `.`
end_first : Refused 5 (End ∷ [])
unfolding start_of next_of prefix_of infix_of postfix_of
end_first = refl

-- `[a].`
no_level_for_list : Refused 0 (OpenSquare ∷ named "a" ∷ CloseSquare ∷ End ∷ [])
unfolding start_of next_of prefix_of infix_of postfix_of
no_level_for_list = refl

-- `{a}.`
no_level_for_braces : Refused 0 (OpenCurly ∷ named "a" ∷ CloseCurly ∷ End ∷ [])
unfolding start_of next_of prefix_of infix_of postfix_of
no_level_for_braces = refl

-- `(a).`
no_level_for_bracket : Refused 0 (Open ∷ named "a" ∷ Close ∷ End ∷ [])
unfolding start_of next_of prefix_of infix_of postfix_of
no_level_for_bracket = refl

-- `f(a).`
no_level_for_call : Refused 0 (named "f" ∷ OpenCall ∷ named "a" ∷ Close ∷ End ∷ [])
unfolding start_of next_of prefix_of infix_of postfix_of
no_level_for_call = refl

-- `- a.`
no_level_for_prefix : Refused 0 (named "-" ∷ named "a" ∷ End ∷ [])
unfolding start_of next_of prefix_of infix_of postfix_of
no_level_for_prefix = refl

-- `a - b.`
no_level_for_infix : Refused 0 (named "a" ∷ named "-" ∷ named "b" ∷ End ∷ [])
unfolding start_of next_of prefix_of infix_of postfix_of
no_level_for_infix = refl

-- `[a|[b]].`
no_level_for_tail : Refused 1 (OpenSquare ∷ named "a" ∷ Bar ∷ OpenSquare ∷ named "b" ∷ CloseSquare ∷ CloseSquare ∷ End ∷ [])
unfolding start_of next_of prefix_of infix_of postfix_of
no_level_for_tail = refl
