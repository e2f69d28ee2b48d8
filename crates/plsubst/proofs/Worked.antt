-- The definitions on small terms.
use Rattle.std.specs.Prelude.{◌≡◌, ℕ, [], ◌∷◌, Option, Some, None, pos, refl}
use Rattle.plterm.specs.Tree.{Tree, var, int, atom, compound, none, more}
use Rattle.plsubst.specs.Subst.{bind, bind_all, shift, occurs, occurs_in}
use Rattle.plsubst.specs.Unify.{places, places_in, differ, differ_in, unify_in, unify}

-- f(t, u)
abbrev pair : Tree → Tree → Tree
pair t u = compound (102 ∷ []) (more t (more u none))

-- what unify makes of a term, or else the integer 0
abbrev with_unifier : Option (ℕ → Tree) → Tree → Tree
with_unifier None t = int (pos 0)
with_unifier (Some σ) t = bind σ t

-- f(X, b) and f(a, Y)
unifies : with_unifier (unify (pair (var 0) (atom (98 ∷ []))) (pair (atom (97 ∷ [])) (var 1))) (pair (var 0) (var 1)) ≡ pair (atom (97 ∷ [])) (atom (98 ∷ []))
unfolding bind bind_all occurs occurs_in places places_in differ differ_in unify_in unify
unifies = refl

-- of two variables the younger is bound
binds_younger : with_unifier (unify (var 3) (var 5)) (pair (var 3) (var 5)) ≡ pair (var 3) (var 3)
unfolding bind bind_all occurs occurs_in places places_in differ differ_in unify_in unify
binds_younger = refl

-- f(X, X) and f(Y, f(Y, Y))
is_cyclic : unify (pair (var 0) (var 0)) (pair (var 1) (pair (var 1) (var 1))) ≡ None
unfolding bind bind_all occurs occurs_in places places_in differ differ_in unify_in unify
is_cyclic = refl

-- an atom is no compound, and no integer
atom_compound : unify (atom (102 ∷ [])) (pair (var 0) (var 1)) ≡ None
unfolding bind bind_all occurs occurs_in places places_in differ differ_in unify_in unify
atom_compound = refl

atom_integer : unify (atom (49 ∷ [])) (int (pos 1)) ≡ None
unfolding bind bind_all occurs occurs_in places places_in differ differ_in unify_in unify
atom_integer = refl

integers : with_unifier (unify (pair (int (pos 1)) (var 0)) (pair (int (pos 1)) (int (pos 2)))) (var 0) ≡ int (pos 2)
unfolding bind bind_all occurs occurs_in places places_in differ differ_in unify_in unify
integers = refl

shifts : shift 4 (pair (var 0) (var 1)) ≡ pair (var 4) (var 5)
unfolding bind bind_all
shifts = refl
