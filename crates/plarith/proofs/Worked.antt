-- The definitions on small expressions, and at both ends of 64 bits.
use Rattle.std.proofs.Common.{◌≡◌, ℕ, ℤ, pos, neg_ℤ, List, [], ◌∷◌, map, Ok, Err, refl}
use Rattle.std.specs.Prelude.{codes}
use Rattle.plterm.specs.Tree.{Tree, var, int, atom, compound, none, more}
use Rattle.plarith.specs.declared.error.ArithError.TheVariants.{Unbound, NotEvaluable, NotFloat, ZeroDivisor, Undefined, IntOverflow}
use Rattle.platoms.specs.Evaluable.{unary_of, binary_of}
use Rattle.plarith.specs.Errors.{Evaluated, error_of}
use Rattle.plerror.specs.Errors.{alone, pair}
use Rattle.plarith.specs.Evaluation.{eval}

abbrev minus : ℕ → ℤ
minus n = neg_ℤ (pos n)

abbrev largest : ℤ
largest = pos 9223372036854775807

abbrev smallest : ℤ
smallest = minus 9223372036854775808

-- f(x) and f(x, y) of integers
unfoldable on_one : List ℕ → List ℤ → List Evaluated
unfolding eval unary_of
on_one f xs = map (λ x. eval (alone f (int x))) xs

unfoldable on_two : List ℕ → List (ℤ × ℤ) → List Evaluated
unfolding eval binary_of
on_two f xs = map (λ x. eval (pair f (int x.0) (int x.1))) xs

sums : on_two (codes "+") ((pos 3, pos 4) ∷ (pos 3, minus 5) ∷ (largest, pos 0) ∷ (largest, pos 1) ∷ (smallest, largest) ∷ (smallest, minus 1) ∷ []) ≡
    Ok (pos 7) ∷ Ok (minus 2) ∷ Ok largest ∷ Err IntOverflow ∷ Ok (minus 1) ∷ Err IntOverflow ∷ []
unfolding on_two
sums = refl

differences : on_two (codes "-") ((pos 3, pos 5) ∷ (smallest, pos 1) ∷ (minus 1, smallest) ∷ (pos 0, smallest) ∷ []) ≡ Ok (minus 2) ∷ Err IntOverflow ∷ Ok largest ∷ Err IntOverflow ∷ []
unfolding on_two
differences = refl

products : on_two (codes "*") ((minus 7, pos 6) ∷ (pos 3037000500, pos 3037000500) ∷ (pos 4611686018427387904, pos 2) ∷ (minus 4611686018427387904, pos 2) ∷ (smallest, minus 1) ∷ []) ≡
    Ok (minus 42) ∷ Err IntOverflow ∷ Err IntOverflow ∷ Ok smallest ∷ Err IntOverflow ∷ []
unfolding on_two
products = refl

-- toward zero
quotients : on_two (codes "//") ((pos 7, pos 2) ∷ (minus 7, pos 2) ∷ (pos 7, minus 2) ∷ (minus 7, minus 2) ∷ (pos 7, pos 0) ∷ (smallest, minus 1) ∷ (smallest, pos 1) ∷ []) ≡
    Ok (pos 3) ∷ Ok (minus 3) ∷ Ok (minus 3) ∷ Ok (pos 3) ∷ Err ZeroDivisor ∷ Err IntOverflow ∷ Ok smallest ∷ []
unfolding on_two
quotients = refl

-- where it is exact
ratios : on_two (codes "/") ((pos 8, pos 2) ∷ (minus 8, pos 2) ∷ (pos 7, pos 2) ∷ (minus 7, pos 2) ∷ (pos 0, minus 3) ∷ (pos 7, pos 0) ∷ (smallest, minus 1) ∷ []) ≡
    Ok (pos 4) ∷ Ok (minus 4) ∷ Err Undefined ∷ Err Undefined ∷ Ok (pos 0) ∷ Err ZeroDivisor ∷ Err IntOverflow ∷ []
unfolding on_two
ratios = refl

-- with the sign of the dividend
remainders : on_two (codes "rem") ((pos 7, pos 2) ∷ (minus 7, pos 2) ∷ (pos 7, minus 2) ∷ (minus 7, minus 2) ∷ (minus 8, pos 2) ∷ (pos 7, pos 0) ∷ (smallest, minus 1) ∷ []) ≡
    Ok (pos 1) ∷ Ok (minus 1) ∷ Ok (pos 1) ∷ Ok (minus 1) ∷ Ok (pos 0) ∷ Err ZeroDivisor ∷ Ok (pos 0) ∷ []
unfolding on_two
remainders = refl

-- with the sign of the divisor
moduli : on_two (codes "mod") ((pos 7, pos 2) ∷ (minus 7, pos 2) ∷ (pos 7, minus 2) ∷ (minus 7, minus 2) ∷ (minus 7, pos 3) ∷ (pos 7, minus 3) ∷ (minus 8, pos 2) ∷ (pos 8, minus 2) ∷ (pos 7, pos 0) ∷ (smallest, minus 1) ∷ (smallest, largest) ∷ (largest, smallest) ∷ []) ≡
    Ok (pos 1) ∷ Ok (pos 1) ∷ Ok (minus 1) ∷ Ok (minus 1) ∷ Ok (pos 2) ∷ Ok (minus 2) ∷ Ok (pos 0) ∷ Ok (pos 0) ∷ Err ZeroDivisor ∷ Ok (pos 0) ∷ Ok (pos 9223372036854775806) ∷ Ok (minus 1) ∷ []
unfolding on_two
moduli = refl

powers : on_two (codes "^") ((pos 2, pos 10) ∷ (pos 2, pos 62) ∷ (pos 2, pos 63) ∷ (minus 2, pos 63) ∷ (minus 2, pos 64) ∷ (pos 3, pos 39) ∷ (pos 3, pos 40) ∷ (pos 0, pos 0) ∷ (pos 0, pos 5) ∷ (minus 1, pos 4) ∷ (minus 1, pos 5) ∷ (largest, pos 1) ∷ []) ≡
    Ok (pos 1024) ∷ Ok (pos 4611686018427387904) ∷ Err IntOverflow ∷ Ok smallest ∷ Err IntOverflow ∷ Ok (pos 4052555153018976267) ∷ Err IntOverflow ∷ Ok (pos 1) ∷ Ok (pos 0) ∷ Ok (pos 1) ∷ Ok (minus 1) ∷ Ok largest ∷ []
unfolding on_two
powers = refl

-- 1 and -1 have inverses that are integers
inverse_powers : on_two (codes "**") ((pos 7, pos 2) ∷ (pos 1, minus 3) ∷ (minus 1, minus 1) ∷ (minus 1, minus 2) ∷ (pos 2, minus 1) ∷ (minus 2, minus 1) ∷ (pos 0, minus 1) ∷ (smallest, smallest) ∷ (minus 1, smallest) ∷ []) ≡
    Ok (pos 49) ∷ Ok (pos 1) ∷ Ok (minus 1) ∷ Ok (pos 1) ∷ Err (NotFloat (pos 2)) ∷ Err (NotFloat (minus 2)) ∷ Err (NotFloat (pos 0)) ∷ Err (NotFloat smallest) ∷ Ok (pos 1) ∷ []
unfolding on_two
inverse_powers = refl

shifts_left : on_two (codes "<<") ((pos 5, pos 1) ∷ (pos 1, pos 62) ∷ (pos 1, pos 63) ∷ (minus 1, pos 63) ∷ (minus 1, pos 64) ∷ (minus 3, pos 62) ∷ (pos 0, pos 100) ∷ (pos 5, minus 1) ∷ []) ≡
    Ok (pos 10) ∷ Ok (pos 4611686018427387904) ∷ Err IntOverflow ∷ Ok smallest ∷ Err IntOverflow ∷ Err IntOverflow ∷ Ok (pos 0) ∷ Err Undefined ∷ []
unfolding on_two
shifts_left = refl

-- rounded down
shifts_right : on_two (codes ">>") ((pos 5, pos 1) ∷ (minus 5, pos 1) ∷ (largest, pos 62) ∷ (largest, pos 63) ∷ (smallest, pos 63) ∷ (pos 5, pos 64) ∷ (minus 5, pos 1000) ∷ (pos 5, minus 1) ∷ []) ≡
    Ok (pos 2) ∷ Ok (minus 3) ∷ Ok (pos 1) ∷ Ok (pos 0) ∷ Ok (minus 1) ∷ Ok (pos 0) ∷ Ok (minus 1) ∷ Err Undefined ∷ []
unfolding on_two
shifts_right = refl

conjunctions : on_two (codes "/\\") ((pos 12, pos 10) ∷ (minus 12, pos 10) ∷ (minus 12, minus 10) ∷ (smallest, minus 1) ∷ (smallest, largest) ∷ []) ≡ Ok (pos 8) ∷ Ok (pos 0) ∷ Ok (minus 12) ∷ Ok smallest ∷ Ok (pos 0) ∷ []
unfolding on_two
conjunctions = refl

disjunctions : on_two (codes "\\/") ((pos 12, pos 10) ∷ (minus 12, pos 10) ∷ (minus 12, minus 10) ∷ (smallest, largest) ∷ []) ≡ Ok (pos 14) ∷ Ok (minus 2) ∷ Ok (minus 10) ∷ Ok (minus 1) ∷ []
unfolding on_two
disjunctions = refl

maxima : on_two (codes "max") ((pos 3, pos 5) ∷ (minus 3, minus 5) ∷ (smallest, largest) ∷ []) ≡ Ok (pos 5) ∷ Ok (minus 3) ∷ Ok largest ∷ []
unfolding on_two
maxima = refl

minima : on_two (codes "min") ((pos 3, pos 5) ∷ (minus 3, minus 5) ∷ (smallest, largest) ∷ []) ≡ Ok (pos 3) ∷ Ok (minus 5) ∷ Ok smallest ∷ []
unfolding on_two
minima = refl

negations : on_one (codes "-") (pos 4 ∷ pos 0 ∷ minus 4 ∷ largest ∷ smallest ∷ []) ≡ Ok (minus 4) ∷ Ok (pos 0) ∷ Ok (pos 4) ∷ Ok (minus 9223372036854775807) ∷ Err IntOverflow ∷ []
unfolding on_one
negations = refl

kept : on_one (codes "+") (pos 4 ∷ minus 4 ∷ smallest ∷ []) ≡ Ok (pos 4) ∷ Ok (minus 4) ∷ Ok smallest ∷ []
unfolding on_one
kept = refl

absolutes : on_one (codes "abs") (pos 4 ∷ minus 4 ∷ largest ∷ smallest ∷ []) ≡ Ok (pos 4) ∷ Ok (pos 4) ∷ Ok largest ∷ Err IntOverflow ∷ []
unfolding on_one
absolutes = refl

signs : on_one (codes "sign") (pos 9 ∷ pos 0 ∷ minus 5 ∷ []) ≡ Ok (pos 1) ∷ Ok (pos 0) ∷ Ok (minus 1) ∷ []
unfolding on_one
signs = refl

complements : on_one (codes "\\") (pos 5 ∷ minus 1 ∷ largest ∷ smallest ∷ []) ≡ Ok (minus 6) ∷ Ok (pos 0) ∷ Ok smallest ∷ Ok largest ∷ []
unfolding on_one
complements = refl

abbrev not_evaluable : List ℕ → ℕ → Evaluated
not_evaluable name arity = Err (NotEvaluable (record { name = name; arity = arity }))

abbrev foo : Tree → Tree
foo t = alone (codes "foo") t

-- X, foo, [], "+"
leaves : map eval (var 0 ∷ int (pos 3) ∷ atom (codes "foo") ∷ atom (codes "[]") ∷ atom (codes "+") ∷ []) ≡
    Err Unbound ∷ Ok (pos 3) ∷ not_evaluable (codes "foo") 0 ∷ not_evaluable (codes "[]") 0 ∷ not_evaluable (codes "+") 0 ∷ []
unfolding eval
leaves = refl

-- foo(X), X + foo(1), foo(1) + X, foo + X, abs(1, 2), '.'(1, []), mod(7), +(1, 2, 3)
functors : map eval (foo (var 0) ∷ pair (codes "+") (var 0) (foo (int (pos 1))) ∷ pair (codes "+") (foo (int (pos 1))) (var 0) ∷ pair (codes "+") (atom (codes "foo")) (var 0) ∷
    pair (codes "abs") (int (pos 1)) (int (pos 2)) ∷ pair (codes ".") (int (pos 1)) (atom (codes "[]")) ∷ alone (codes "mod") (int (pos 7)) ∷
    compound (codes "+") (more (int (pos 1)) (more (int (pos 2)) (more (int (pos 3)) none))) ∷ []) ≡
    not_evaluable (codes "foo") 1 ∷ Err Unbound ∷ not_evaluable (codes "foo") 1 ∷ not_evaluable (codes "foo") 0 ∷
    not_evaluable (codes "abs") 2 ∷ not_evaluable (codes ".") 2 ∷ not_evaluable (codes "mod") 1 ∷ not_evaluable (codes "+") 3 ∷ []
unfolding eval unary_of binary_of
functors = refl

-- 1 + 2 / 0 + foo, 1 - (2 - 3 * 4), the first error from the left
nested : map eval (pair (codes "+") (pair (codes "+") (int (pos 1)) (pair (codes "/") (int (pos 2)) (int (pos 0)))) (atom (codes "foo")) ∷
    pair (codes "-") (int (pos 1)) (pair (codes "-") (int (pos 2)) (pair (codes "*") (int (pos 3)) (int (pos 4)))) ∷
    pair (codes "*") (alone (codes "-") (int smallest)) (var 0) ∷ pair (codes "*") (var 0) (alone (codes "-") (int smallest)) ∷ []) ≡
    Err ZeroDivisor ∷ Ok (pos 11) ∷ Err IntOverflow ∷ Err Unbound ∷ []
unfolding eval unary_of binary_of
nested = refl

-- the terms of the errors
terms : map error_of (Unbound ∷ NotEvaluable (record { name = codes "foo"; arity = 2 }) ∷ NotFloat (pos 2) ∷ ZeroDivisor ∷ Undefined ∷ IntOverflow ∷ []) ≡
    atom (codes "instantiation_error") ∷ pair (codes "type_error") (atom (codes "evaluable")) (pair (codes "/") (atom (codes "foo")) (int (pos 2))) ∷
    pair (codes "type_error") (atom (codes "float")) (int (pos 2)) ∷ alone (codes "evaluation_error") (atom (codes "zero_divisor")) ∷
    alone (codes "evaluation_error") (atom (codes "undefined")) ∷ alone (codes "evaluation_error") (atom (codes "int_overflow")) ∷ []
terms = refl
