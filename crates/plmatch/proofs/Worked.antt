-- Small patterns and messages.
use Rattle.std.specs.Prelude.{◌≡◌, [], ◌∷◌, true, false, refl, pos}
use Rattle.plterm.specs.Tree.{Tree, var, int, atom, compound, none, more}
use Rattle.plsubst.specs.Subst.{bind, bind_all, occurs, occurs_in}
use Rattle.plsubst.specs.Unify.{places, places_in, differ, differ_in, unify_in, unify}
use Rattle.plmatch.specs.Matching.{fits}

-- f(t, u)
abbrev pair : Tree → Tree → Tree
pair t u = compound (102 ∷ []) (more t (more u none))

-- g(t)
abbrev one : Tree → Tree
one t = compound (103 ∷ []) (more t none)

-- f(X, b) and f(a, Y)
apart_in_variables : fits (pair (var 0) (atom (98 ∷ []))) (pair (atom (97 ∷ [])) (var 0)) ≡ true
unfolding bind bind_all occurs occurs_in places places_in differ differ_in unify_in unify
apart_in_variables = refl

-- g(a) and g(b)
other_names : fits (one (atom (97 ∷ []))) (one (atom (98 ∷ []))) ≡ false
unfolding bind bind_all occurs occurs_in places places_in differ differ_in unify_in unify
other_names = refl

-- f(X, X) and f(Y, g(Y)): no term is an argument of itself
occurs_within : fits (pair (var 0) (var 0)) (pair (var 0) (one (var 0))) ≡ false
unfolding bind bind_all occurs occurs_in places places_in differ differ_in unify_in unify
occurs_within = refl

-- f(X, 1) and f(g(X), Y): the variable of the one is not the other's
own_variables : fits (pair (var 0) (int (pos 1))) (pair (one (var 0)) (var 1)) ≡ true
unfolding bind bind_all occurs occurs_in places places_in differ differ_in unify_in unify
own_variables = refl

-- a pattern that is one variable, and a message that is one
variable_pattern : fits (var 0) (pair (var 0) (var 1)) ≡ true
unfolding bind bind_all occurs occurs_in places places_in differ differ_in unify_in unify
variable_pattern = refl

variable_message : fits (pair (var 0) (var 1)) (var 0) ≡ true
unfolding bind bind_all occurs occurs_in places places_in differ differ_in unify_in unify
variable_message = refl
