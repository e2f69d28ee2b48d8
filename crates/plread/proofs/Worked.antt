-- What small clauses spell, derived form by form.
use Rattle.std.proofs.Common.{◌≡◌, pos, List, [], ◌∷◌, codes, refl, arith, true, false}
use Prim.Native.String.{String}
use Rattle.plterm.specs.Tree.{Tree, int, atom, compound, none, more}
use Rattle.pllex.specs.declared.token.Kind.TheVariants as kinds
use Rattle.pllex.specs.declared.token.Token.{Token}
use Rattle.plops.specs.declared.operator.Kind.TheVariants.{Xfx, Xfy, Fx}
use Rattle.plops.specs.declared.table.OpTable.{OpTable}
use Rattle.plops.specs.Operators.{operator_of}
use Rattle.plops.specs.Tables.{plain, with_operator, prefix_of, infix_of, postfix_of}
use Rattle.plops.specs.declared.flag.Quotes.TheVariants as quotes
use Rattle.plread.specs.Signs.{Sign, Name, Variable, Integer, Open, OpenCall, Close, Comma, End}
use Rattle.plread.specs.Spelling.{signs_of, variable_names}
use Rattle.plread.specs.Reading.{start_of, next_of, reads, leaf, bracket, call, before_op, stop, between_op, last, another, Spells, NoStart, Stop}

-- two of the operators of program text
abbrev few : OpTable
few =
    with_operator (with_operator (plain (codes ":-")) (operator_of 1200 Xfx)) (operator_of 1200 Fx)
    ∷ with_operator (plain (codes ",")) (operator_of 1000 Xfy)
    ∷ []

abbrev named : String → Sign
named s = Name (codes s) true

abbrev a : Tree
a = atom (codes "a")

abbrev b : Tree
b = atom (codes "b")

abbrev c : Tree
c = atom (codes "c")

-- the tokens of `f(X,_,X) (`
abbrev spelled : List Token
spelled =
    (record { kind = kinds.Name; start = 0; end = 1 }) ∷ (record { kind = kinds.Open; start = 1; end = 2 }) ∷ (record { kind = kinds.Variable; start = 2; end = 3 })
    ∷ (record { kind = kinds.Comma; start = 3; end = 4 }) ∷ (record { kind = kinds.Variable; start = 4; end = 5 }) ∷ (record { kind = kinds.Comma; start = 5; end = 6 })
    ∷ (record { kind = kinds.Variable; start = 6; end = 7 }) ∷ (record { kind = kinds.Close; start = 7; end = 8 }) ∷ (record { kind = kinds.Open; start = 9; end = 10 }) ∷ []

-- a bracket directly behind a token is a call's, a name has the number of its first occurrence, and `_` is always new
numbers : signs_of quotes.Codes (codes "f(X,_,X) (") spelled ≡ named "f" ∷ OpenCall ∷ Variable 0 ∷ Comma ∷ Variable 1 ∷ Comma ∷ Variable 0 ∷ Close ∷ Open ∷ []
numbers = refl

-- the names stand at their numbers
names : variable_names (codes "f(X,_,X) (") spelled ≡ codes "X" ∷ codes "_" ∷ []
names = refl

-- `a.`
fact : Spells few 0 (named "a" ∷ End ∷ []) a
unfolding start_of next_of prefix_of infix_of postfix_of
fact = (0, reads leaf stop)

-- `f(a, 1).`
functional : Spells few 1 (named "f" ∷ OpenCall ∷ named "a" ∷ Comma ∷ Integer 1 false ∷ Close ∷ End ∷ []) (compound (codes "f") (more a (more (int (pos 1)) none)))
unfolding start_of next_of prefix_of infix_of postfix_of
functional = (0, reads (call (another (reads leaf stop) (last (reads leaf stop))) (omega arith)) stop)

-- `a :- b, c.`
rule : Spells few 2 (named "a" ∷ named ":-" ∷ named "b" ∷ Comma ∷ named "c" ∷ End ∷ []) (compound (codes ":-") (more a (more (compound (codes ",") (more b (more c none))) none)))
unfolding start_of next_of prefix_of infix_of postfix_of
rule = (1200, reads leaf (between_op (reads leaf (between_op (reads leaf stop) stop)) stop))

-- `:- a.`
directive : Spells few 1 (named ":-" ∷ named "a" ∷ End ∷ []) (compound (codes ":-") (more a none))
unfolding start_of next_of prefix_of infix_of postfix_of
directive = (1200, reads (before_op (reads leaf stop)) stop)

-- `:- (a).` where the bracket is directly behind the operator: functional notation
called : Spells few 1 (named ":-" ∷ OpenCall ∷ named "a" ∷ Close ∷ End ∷ []) (compound (codes ":-") (more a none))
unfolding start_of next_of prefix_of infix_of postfix_of
called = (0, reads (call (last (reads leaf stop)) (omega arith)) stop)

-- `(:-).`: a prefix operator before what begins no term is an atom
operator_as_atom : Spells few 1 (Open ∷ named ":-" ∷ Close ∷ End ∷ []) (atom (codes ":-"))
unfolding start_of next_of prefix_of infix_of postfix_of
operator_as_atom = (0, reads (bracket (reads leaf stop)) stop)

-- ---- what spells no term

-- a level more than there is room for
no_room : (t : Tree) → Spells few 0 (Open ∷ named "a" ∷ Close ∷ End ∷ []) t → ⊥
unfolding start_of next_of prefix_of infix_of postfix_of
no_room t (p, reads b e) = elim b [ ]

-- an integer of 2^63 is a token, and no term
too_great : start_of few 1200 (Integer 9223372036854775808 false ∷ End ∷ []) ≡ NoStart
unfolding start_of
too_great = refl

-- a prefix operator whose priority exceeds what its place allows: no other reading is tried
directive_as_argument : start_of few 999 (named ":-" ∷ named "a" ∷ Close ∷ []) ≡ NoStart
unfolding start_of prefix_of infix_of postfix_of
directive_as_argument = refl

-- a second `:-` does not extend what the first has built
rules_do_not_nest : next_of few 1200 1200 (named ":-" ∷ named "a" ∷ End ∷ []) ≡ Stop
unfolding next_of infix_of postfix_of
rules_do_not_nest = refl

-- in an argument the comma is no operator
comma_in_argument : next_of few 999 0 (Comma ∷ named "b" ∷ Close ∷ []) ≡ Stop
unfolding next_of infix_of postfix_of
comma_in_argument = refl
