-- Lists that fit, where a stack changes.
use Rattle.std.proofs.Common.{◌≡◌, List, [], ◌∷◌, ◌++◌, refl, sym, ap, ◌∙◌, subst, reverse}
use Rattle.plterm.specs.Tree.{Tree}
use Rattle.plsearch.specs.Types.{Case}
use Rattle.plcells.specs.declared.equation.Equation.{Equation}
use Rattle.pllinks.specs.declared.link.Continuation.{Continuation}
use Rattle.plstack.specs.Places.{Database}
use Rattle.plstack.specs.Levels.{case_sort, kinds, kinds_of, FitsIn}
use Rattle.plstack.specs.State.{State, goals_in, goals_of, kinds_in, cases_of, IsFit, IsList, Extends, Solves, UnifiesTerms}
use Rattle.plstack.proofs.Naming.{fits-bound, kinds-cases, no-database}

-- the kinds of a stack's cases
pub kinds-in : (db : Database) (s : State) → kinds (cases_of db s) ≡ kinds_in s
unfolding cases_of
kinds-in db s = kinds-cases db (goals_in s) s.env s.links s.saved (reverse s.frames)

kinds-append : (xs ys : List Case) → kinds (xs ++ ys) ≡ kinds xs ++ kinds ys
kinds-append [] ys = refl
kinds-append (x ∷ xs) ys = ap (λ ks. case_sort x ∷ ks) (kinds-append xs ys)

-- more cases are open
pub kinds-opened : (s t : State) (more : List Case) → ((db : Database) → cases_of db t ≡ more ++ cases_of db s) → kinds_in t ≡ kinds more ++ kinds_in s
kinds-opened s t more opens =
    sym (kinds-in no-database t) ∙ ap kinds (opens no-database) ∙ kinds-append more (cases_of no-database s) ∙ ap (λ ks. kinds more ++ ks) (kinds-in no-database s)

-- the same frames
fits-as : (s t : State) (l : Continuation) → t.frames ≡ s.frames → FitsIn (kinds_in s) (goals_of t l) → IsFit t l
fits-as s t l same f = subst (λ fs. FitsIn (kinds_of (reverse fs)) (goals_of t l)) (sym same) f

pub fits-extends : (s t : State) → Extends s t → (l : Continuation) → IsList s l → IsFit s l → IsFit t l
fits-extends s t x l i f = fits-as s t l x.frames (subst (FitsIn (kinds_in s)) (sym (x.lists l i).1) f)

pub fits-unified : (s t : State) (a b : Tree) → UnifiesTerms s t a b → (l : Continuation) → IsList s l → IsFit s l → IsFit t l
fits-unified s t a b u l i f =
    fits-as s t l u.frames (subst (FitsIn (kinds_in s)) (sym (u.lists l i).1) (fits-bound (kinds_in s) u.unifier (goals_of s l) f))

pub fits-solved : (s t : State) (e : Equation) → Solves s t e → (l : Continuation) → IsList s l → IsFit s l → IsFit t l
fits-solved s t e u l i f =
    fits-as s t l u.frames (subst (FitsIn (kinds_in s)) (sym (u.lists l i).1) (fits-bound (kinds_in s) u.unifier (goals_of s l) f))
