-- The definitions on small clauses.
use Rattle.std.proofs.Common.{◌≡◌, ℕ, pos, List, Some, codes, refl}
use Rattle.plterm.specs.Tree.{Tree, var, int, atom, compound, none, more}
use Rattle.plclause.specs.declared.form.ClauseForm.TheVariants.{NoHead, BadHead, BadBody, IsClause}
use Rattle.plclause.specs.Conversion.{converted}
use Rattle.plclause.specs.Clausal.{clausal}
use Rattle.plclause.specs.Indicators.{indicator}

abbrev one : List ℕ → Tree → Tree
one name t = compound name (more t none)

abbrev two : List ℕ → Tree → Tree → Tree
two name t u = compound name (more t (more u none))

abbrev rule : Tree → Tree → Tree
rule head body = two (codes ":-") head body

-- p(X) :- X.
called_variable : clausal (rule (one (codes "p") (var 4)) (var 4)) ≡ IsClause (record { head = one (codes "p") (var 0); body = one (codes "call") (var 0); variables = 1 })
called_variable = refl

-- p(X, Y) :- q(Y, Z).
head_first : clausal (rule (two (codes "p") (var 5) (var 2)) (two (codes "q") (var 2) (var 9)))
    ≡ IsClause (record { head = two (codes "p") (var 0) (var 1); body = two (codes "q") (var 1) (var 2); variables = 3 })
head_first = refl

-- p :- q, 1.
number_body : clausal (rule (atom (codes "p")) (two (codes ",") (atom (codes "q")) (int (pos 1)))) ≡ BadBody (two (codes ",") (atom (codes "q")) (int (pos 1)))
number_body = refl

-- 1 :- a.
number_head : clausal (rule (int (pos 1)) (atom (codes "a"))) ≡ BadHead (int (pos 1))
number_head = refl

-- X :- a.
variable_head : clausal (rule (var 0) (atom (codes "a"))) ≡ NoHead
variable_head = refl

-- a fact
fact : clausal (one (codes "p") (int (pos 1))) ≡ IsClause (record { head = one (codes "p") (int (pos 1)); body = atom (codes "true"); variables = 0 })
fact = refl

-- X ; a -> b: goals at each level
nested : converted (two (codes ";") (var 0) (two (codes "->") (atom (codes "a")) (var 1))) ≡ Some (two (codes ";") (one (codes "call") (var 0)) (two (codes "->") (atom (codes "a")) (one (codes "call") (var 1))))
nested = refl

-- arguments of other compounds are no goals
argument : converted (two (codes "=") (var 0) (int (pos 1))) ≡ Some (two (codes "=") (var 0) (int (pos 1)))
argument = refl

head_indicator : indicator (two (codes "p") (var 0) (var 1)) ≡ record { name = codes "p"; arity = 2 }
head_indicator = refl
