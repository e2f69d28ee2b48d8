-- The text of small terms, worked.
use Rattle.std.proofs.Common.{◌≡◌, ℕ, pos, negsuc, List, [], ◌∷◌, codes, refl}
use Prim.Native.String.{String}
use Rattle.std.specs.Fmt.{digits}
use Rattle.plterm.specs.Tree.{Tree, var, int, atom, compound, none, more, trees}
use Rattle.plops.specs.declared.operator.Kind.{Kind}
use Rattle.plops.specs.declared.operator.Kind.TheVariants.{Xfx, Xfy, Yfx, Fx, Fy, Xf, Yf}
use Rattle.plops.specs.declared.table.Entry.{Entry}
use Rattle.plops.specs.Operators.{operator_of}
use Rattle.plops.specs.Tables.{plain, with_operator, prefix_of, infix_of, postfix_of}
use Rattle.plwrite.specs.declared.style.Style.TheVariants.{Plain, Quoted, Canonical, Listed}
use Rattle.plwrite.specs.Writing.{words, others, written}

abbrev op : String → ℕ → Kind → Entry
op s priority kind = with_operator (plain (codes s)) (operator_of priority kind)

-- a few of the operators of program text, and more
abbrev few : List Entry
few = with_operator (op ":-" 1200 Xfx) (operator_of 1200 Fx) ∷ op "," 1000 Xfy ∷ op "/" 400 Yfx ∷ []

abbrev some_table : List Entry
some_table =
    with_operator (op "-" 500 Yfx) (operator_of 200 Fy) ∷ op "+" 500 Yfx ∷ op "^" 200 Xfy ∷ op "\\" 200 Fy ∷ op "is" 700 Xfx ∷ op "=" 700 Xfx
    ∷ op "!!" 300 Xf ∷ op "yf" 200 Yf ∷ op "A" 700 Xfx ∷ few

abbrev a : Tree
a = atom (codes "a")

abbrev b : Tree
b = atom (codes "b")

abbrev c : Tree
c = atom (codes "c")

abbrev of1 : String → Tree → Tree
of1 s x = compound (codes s) (more x none)

abbrev of2 : String → Tree → Tree → Tree
of2 s x y = compound (codes s) (more x (more y none))

abbrev cons : Tree → Tree → Tree
cons x y = of2 "." x y

abbrev nil : Tree
nil = atom (codes "[]")

abbrev rule : Tree → Tree → Tree
rule x y = of2 ":-" x y

abbrev both : Tree → Tree → Tree
both x y = of2 "," x y

clause_of_two : written few Plain (rule a (both b c)) ≡ codes "a:-b,c"
unfolding words others prefix_of infix_of postfix_of digits
clause_of_two = refl

rule_as_left : written few Plain (rule (rule a b) c) ≡ codes "(a:-b):-c"
unfolding words others prefix_of infix_of postfix_of digits
rule_as_left = refl

rule_as_right : written few Plain (rule a (rule b c)) ≡ codes "a:-(b:-c)"
unfolding words others prefix_of infix_of postfix_of digits
rule_as_right = refl

comma_as_left : written few Plain (both (both a b) c) ≡ codes "(a,b),c"
unfolding words others prefix_of infix_of postfix_of digits
comma_as_left = refl

comma_as_right : written few Plain (both a (both b c)) ≡ codes "a,b,c"
unfolding words others prefix_of infix_of postfix_of digits
comma_as_right = refl

rule_in_argument : written few Plain (of1 "f" (rule a b)) ≡ codes "f((a:-b))"
unfolding words others prefix_of infix_of postfix_of digits
rule_in_argument = refl

comma_in_argument : written few Plain (of1 "f" (both a b)) ≡ codes "f((a,b))"
unfolding words others prefix_of infix_of postfix_of digits
comma_in_argument = refl

operator_in_argument : written few Plain (of1 "f" (atom (codes ":-"))) ≡ codes "f(:-)"
unfolding words others prefix_of infix_of postfix_of digits
operator_in_argument = refl

operator_alone : written few Plain (atom (codes ":-")) ≡ codes ":-"
unfolding words others prefix_of infix_of postfix_of digits
operator_alone = refl

operator_as_operand : written few Plain (both (atom (codes ":-")) a) ≡ codes "(:-),a"
unfolding words others prefix_of infix_of postfix_of digits
operator_as_operand = refl

directive : written few Plain (of1 ":-" a) ≡ codes ":-a"
unfolding words others prefix_of infix_of postfix_of digits
directive = refl

directive_of_brackets : written few Plain (of1 ":-" (rule a b)) ≡ codes ":- (a:-b)"
unfolding words others prefix_of infix_of postfix_of digits
directive_of_brackets = refl

three_arguments : written few Quoted (compound (codes "f") (trees (a ∷ b ∷ c ∷ []))) ≡ codes "f(a,b,c)"
unfolding words others prefix_of infix_of postfix_of digits
three_arguments = refl

indicator : written few Plain (of2 "/" (atom (codes "q")) (int (pos 0))) ≡ codes "q/0"
unfolding words others prefix_of infix_of postfix_of digits
indicator = refl

slash_of_left : written few Plain (of2 "/" (of2 "/" a b) c) ≡ codes "a/b/c"
unfolding words others prefix_of infix_of postfix_of digits
slash_of_left = refl

slash_of_right : written few Plain (of2 "/" a (of2 "/" b c)) ≡ codes "a/(b/c)"
unfolding words others prefix_of infix_of postfix_of digits
slash_of_right = refl

variables_by_occurrence : written few Plain (compound (codes "f") (trees (var 7 ∷ var 3 ∷ var 7 ∷ []))) ≡ codes "f(_1,_2,_1)"
unfolding words others prefix_of infix_of postfix_of digits
variables_by_occurrence = refl

one_variable : written few Plain (var 5) ≡ codes "_1"
unfolding words others prefix_of infix_of postfix_of digits
one_variable = refl

list_of_one : written few Plain (cons a nil) ≡ codes "[a]"
unfolding words others prefix_of infix_of postfix_of digits
list_of_one = refl

list_of_two : written few Plain (cons a (cons b nil)) ≡ codes "[a,b]"
unfolding words others prefix_of infix_of postfix_of digits
list_of_two = refl

list_with_tail : written few Plain (cons a b) ≡ codes "[a|b]"
unfolding words others prefix_of infix_of postfix_of digits
list_with_tail = refl

list_of_two_with_tail : written few Plain (cons a (cons b c)) ≡ codes "[a,b|c]"
unfolding words others prefix_of infix_of postfix_of digits
list_of_two_with_tail = refl

list_with_variable : written few Plain (cons a (var 0)) ≡ codes "[a|_1]"
unfolding words others prefix_of infix_of postfix_of digits
list_with_variable = refl

list_in_list : written few Plain (cons (cons a nil) (cons nil nil)) ≡ codes "[[a],[]]"
unfolding words others prefix_of infix_of postfix_of digits
list_in_list = refl

rule_in_list : written few Plain (cons (rule a b) (rule b c)) ≡ codes "[(a:-b)|(b:-c)]"
unfolding words others prefix_of infix_of postfix_of digits
rule_in_list = refl

operator_in_list : written few Plain (cons (atom (codes ":-")) (atom (codes ":-"))) ≡ codes "[:-|:-]"
unfolding words others prefix_of infix_of postfix_of digits
operator_in_list = refl

curly : written few Plain (of1 "{}" (rule a b)) ≡ codes "{a:-b}"
unfolding words others prefix_of infix_of postfix_of digits
curly = refl

curly_of_two : written few Quoted (of2 "{}" a b) ≡ codes "'{}'(a,b)"
unfolding words others prefix_of infix_of postfix_of digits
curly_of_two = refl

nil_as_functor : written few Quoted (of1 "[]" a) ≡ codes "'[]'(a)"
unfolding words others prefix_of infix_of postfix_of digits
nil_as_functor = refl

nil_as_functor_plain : written few Plain (of1 "[]" a) ≡ codes "[](a)"
unfolding words others prefix_of infix_of postfix_of digits
nil_as_functor_plain = refl

dot_of_one : written few Quoted (of1 "." a) ≡ codes "'.'(a)"
unfolding words others prefix_of infix_of postfix_of digits
dot_of_one = refl

letter : written few Plain (of1 "$VAR" (int (pos 1))) ≡ codes "B"
unfolding words others prefix_of infix_of postfix_of digits
letter = refl

letter_with_number : written few Quoted (of1 "$VAR" (int (pos 53))) ≡ codes "B2"
unfolding words others prefix_of infix_of postfix_of digits
letter_with_number = refl

no_letter : written few Quoted (of1 "$VAR" (int (negsuc 0))) ≡ codes "'$VAR'(-1)"
unfolding words others prefix_of infix_of postfix_of digits
no_letter = refl

no_letter_of_atom : written few Plain (of1 "$VAR" a) ≡ codes "$VAR(a)"
unfolding words others prefix_of infix_of postfix_of digits
no_letter_of_atom = refl

letter_as_tail : written few Plain (cons a (of1 "$VAR" (int (pos 0)))) ≡ codes "[a|A]"
unfolding words others prefix_of infix_of postfix_of digits
letter_as_tail = refl

empty_name : written few Quoted (atom []) ≡ codes "''"
unfolding words others prefix_of infix_of postfix_of digits
empty_name = refl

comma_quoted : written few Quoted (atom (codes ",")) ≡ codes "','"
unfolding words others prefix_of infix_of postfix_of digits
comma_quoted = refl

comma_plain : written few Plain (atom (codes ",")) ≡ codes ","
unfolding words others prefix_of infix_of postfix_of digits
comma_plain = refl

comma_functor : written few Quoted (compound (codes ",") (trees (a ∷ b ∷ c ∷ []))) ≡ codes "','(a,b,c)"
unfolding words others prefix_of infix_of postfix_of digits
comma_functor = refl

dot_quoted : written few Quoted (atom (codes ".")) ≡ codes "'.'"
unfolding words others prefix_of infix_of postfix_of digits
dot_quoted = refl

two_dots : written few Quoted (atom (codes "..")) ≡ codes ".."
unfolding words others prefix_of infix_of postfix_of digits
two_dots = refl

comment_quoted : written few Quoted (atom (codes "/*")) ≡ codes "'/*'"
unfolding words others prefix_of infix_of postfix_of digits
comment_quoted = refl

cut : written few Quoted (atom (codes "!")) ≡ codes "!"
unfolding words others prefix_of infix_of postfix_of digits
cut = refl

capital_quoted : written few Quoted (atom (codes "Abc")) ≡ codes "'Abc'"
unfolding words others prefix_of infix_of postfix_of digits
capital_quoted = refl

space_quoted : written few Quoted (atom (codes "a b")) ≡ codes "'a b'"
unfolding words others prefix_of infix_of postfix_of digits
space_quoted = refl

small_bare : written few Quoted (atom (codes "aB_1")) ≡ codes "aB_1"
unfolding words others prefix_of infix_of postfix_of digits
small_bare = refl

capital_plain : written few Plain (atom (codes "Abc")) ≡ codes "Abc"
unfolding words others prefix_of infix_of postfix_of digits
capital_plain = refl

sign_of_integer : written some_table Plain (of1 "-" (int (pos 1))) ≡ codes "-(1)"
unfolding words others prefix_of infix_of postfix_of digits
sign_of_integer = refl

sign_of_negative : written some_table Plain (of1 "-" (int (negsuc 0))) ≡ codes "-(-1)"
unfolding words others prefix_of infix_of postfix_of digits
sign_of_negative = refl

sign_of_atom : written some_table Plain (of1 "-" a) ≡ codes "-a"
unfolding words others prefix_of infix_of postfix_of digits
sign_of_atom = refl

sign_of_sign : written some_table Plain (of1 "-" (of1 "-" a)) ≡ codes "- -a"
unfolding words others prefix_of infix_of postfix_of digits
sign_of_sign = refl

sign_of_operator : written some_table Plain (of1 "-" (atom (codes "-"))) ≡ codes "- (-)"
unfolding words others prefix_of infix_of postfix_of digits
sign_of_operator = refl

sign_of_power : written some_table Plain (of1 "-" (of2 "^" (int (pos 1)) (int (pos 2)))) ≡ codes "- 1^2"
unfolding words others prefix_of infix_of postfix_of digits
sign_of_power = refl

power_of_sign : written some_table Plain (of2 "^" (of1 "-" (int (pos 1))) (int (pos 2))) ≡ codes "-(1)^2"
unfolding words others prefix_of infix_of postfix_of digits
power_of_sign = refl

power_of_negative : written some_table Plain (of2 "^" (int (negsuc 0)) (int (pos 2))) ≡ codes "-1^2"
unfolding words others prefix_of infix_of postfix_of digits
power_of_negative = refl

power_of_sign_of_atom : written some_table Plain (of2 "^" (of1 "-" a) (int (pos 2))) ≡ codes "(-a)^2"
unfolding words others prefix_of infix_of postfix_of digits
power_of_sign_of_atom = refl

power_to_the_right : written some_table Plain (of2 "^" a (of2 "^" b c)) ≡ codes "a^b^c"
unfolding words others prefix_of infix_of postfix_of digits
power_to_the_right = refl

power_to_the_left : written some_table Plain (of2 "^" (of2 "^" a b) c) ≡ codes "(a^b)^c"
unfolding words others prefix_of infix_of postfix_of digits
power_to_the_left = refl

less_negative : written some_table Plain (of2 "-" (int (pos 1)) (int (negsuc 0))) ≡ codes "1- -1"
unfolding words others prefix_of infix_of postfix_of digits
less_negative = refl

less_to_the_left : written some_table Plain (of2 "-" (of2 "-" a b) c) ≡ codes "a-b-c"
unfolding words others prefix_of infix_of postfix_of digits
less_to_the_left = refl

less_to_the_right : written some_table Plain (of2 "-" a (of2 "-" b c)) ≡ codes "a-(b-c)"
unfolding words others prefix_of infix_of postfix_of digits
less_to_the_right = refl

words_apart : written some_table Plain (of2 "is" (var 0) (of2 "+" (int (pos 2)) (int (pos 3)))) ≡ codes "_1 is 2+3"
unfolding words others prefix_of infix_of postfix_of digits
words_apart = refl

symbols_apart : written some_table Plain (of2 "=" (of1 "\\" a) (of1 "\\" b)) ≡ codes "\\a= \\b"
unfolding words others prefix_of infix_of postfix_of digits
symbols_apart = refl

backslash_quoted_beside : written some_table Quoted (of2 "=" a (atom (codes "B"))) ≡ codes "a='B'"
unfolding words others prefix_of infix_of postfix_of digits
backslash_quoted_beside = refl

quote_behind_word : written some_table Quoted (of2 "is" (atom (codes "X")) (atom (codes "B"))) ≡ codes "'X'is 'B'"
unfolding words others prefix_of infix_of postfix_of digits
quote_behind_word = refl

quote_behind_quote : written some_table Quoted (of2 "A" (atom (codes "B")) (atom (codes "C"))) ≡ codes "'B' 'A' 'C'"
unfolding words others prefix_of infix_of postfix_of digits
quote_behind_quote = refl

postfix : written some_table Plain (of1 "!!" (of2 "^" a b)) ≡ codes "a^b!!"
unfolding words others prefix_of infix_of postfix_of digits
postfix = refl

postfix_of_postfix : written some_table Plain (of1 "!!" (of1 "!!" a)) ≡ codes "(a!!)!!"
unfolding words others prefix_of infix_of postfix_of digits
postfix_of_postfix = refl

yf_of_sign : written some_table Plain (of1 "yf" (of1 "-" a)) ≡ codes "(-a)yf"
unfolding words others prefix_of infix_of postfix_of digits
yf_of_sign = refl

yf_of_yf : written some_table Plain (of1 "yf" (of1 "yf" a)) ≡ codes "a yf yf"
unfolding words others prefix_of infix_of postfix_of digits
yf_of_yf = refl

quote_escaped : written few Quoted (atom (codes "it's")) ≡ codes "'it\\'s'"
unfolding words others prefix_of infix_of postfix_of digits
quote_escaped = refl

backslash_escaped : written few Quoted (atom (codes "a\\ b")) ≡ codes "'a\\\\ b'"
unfolding words others prefix_of infix_of postfix_of digits
backslash_escaped = refl

newline_escaped : written few Quoted (atom (97 ∷ 10 ∷ [])) ≡ codes "'a\\n'"
unfolding words others prefix_of infix_of postfix_of digits
newline_escaped = refl

control_escaped : written few Quoted (atom (1 ∷ 31 ∷ 127 ∷ [])) ≡ codes "'\\x1\\\\x1f\\\\x7f\\'"
unfolding words others prefix_of infix_of postfix_of digits
control_escaped = refl

past_ascii_quoted : written few Quoted (atom (195 ∷ 169 ∷ [])) ≡ 39 ∷ 195 ∷ 169 ∷ 39 ∷ []
unfolding words others prefix_of infix_of postfix_of digits
past_ascii_quoted = refl

past_ascii_apart : written some_table Plain (of2 "is" (atom (195 ∷ 169 ∷ [])) a) ≡ 195 ∷ 169 ∷ codes " is a"
unfolding words others prefix_of infix_of postfix_of digits
past_ascii_apart = refl

canonical_functional : written some_table Canonical (of2 "+" (int (pos 1)) (of2 "." (atom (codes "x")) (var 3))) ≡ codes "+(1,[x|_1])"
unfolding words others prefix_of infix_of postfix_of digits
canonical_functional = refl

canonical_clause : written few Canonical (of2 ":-" a (of2 "," b c)) ≡ codes ":-(a,','(b,c))"
unfolding words others prefix_of infix_of postfix_of digits
canonical_clause = refl

canonical_prefix : written some_table Canonical (of1 "-" a) ≡ codes "-(a)"
unfolding words others prefix_of infix_of postfix_of digits
canonical_prefix = refl

canonical_braces : written some_table Canonical (of1 "{}" (of2 "-" a b)) ≡ codes "{-(a,b)}"
unfolding words others prefix_of infix_of postfix_of digits
canonical_braces = refl

canonical_letter : written some_table Canonical (of1 "$VAR" (int (pos 1))) ≡ codes "'$VAR'(1)"
unfolding words others prefix_of infix_of postfix_of digits
canonical_letter = refl

listed_letter : written some_table Listed (of1 "$VAR" (int (pos 1))) ≡ codes "'$VAR'(1)"
unfolding words others prefix_of infix_of postfix_of digits
listed_letter = refl

listed_clause : written few Listed (of2 ":-" a (of2 "," b (atom (codes "X y")))) ≡ codes "a:-b,'X y'"
unfolding words others prefix_of infix_of postfix_of digits
listed_clause = refl

quoted_letter : written some_table Quoted (of1 "$VAR" (int (pos 27))) ≡ codes "B1"
unfolding words others prefix_of infix_of postfix_of digits
quoted_letter = refl
