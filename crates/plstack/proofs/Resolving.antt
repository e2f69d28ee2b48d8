-- A goal that is resolved against a clause whose head and body were put.
use Rattle.std.proofs.Common.{◌≡◌, ◌⊎◌, inl, inr, true, ℕ, ◌+◌, ◌<◌, List, [], ◌∷◌, length, refl, sym, ap, ap₂, ◌∙◌, arith, subst, Option, None, Some}
use Rattle.plterm.specs.Tree.{Tree, var}
use Rattle.plterm.specs.Variables.{AllBelow}
use Rattle.plsubst.specs.Subst.{bind, shift}
use Rattle.plsubst.specs.Unify.{unify}
use Rattle.plsubst.proofs.Unify.{bind-bind}
use Rattle.platoms.specs.Names.{Table, IsTable, Extends as ExtendsNames}
use Rattle.plclause.specs.Clause.{Clause}
use Rattle.plcells.specs.declared.cell.Cell.{Cell}
use Rattle.plcells.specs.Store.{IsValue, AreValues, at, value, renamed as renamed_heap}
use Rattle.plcells.specs.Putting.{standing}
use Rattle.plcells.proofs.Pushing.{value-at-list}
use Rattle.plsearch.specs.Moves.{is_true}
use Rattle.plsearch.specs.Lookups.{as_fact, clause_term}
use Rattle.plenv.specs.Env.{Env, IsEnv, renamed, variable}
use Rattle.plenv.specs.Changes.{Extends, Puts, PutsVariables, Unifies}
use Rattle.plenv.proofs.Keeping.{Keeps-trans}
use Rattle.plenv.proofs.Putting.{Extends-trans}
use Rattle.pllinks.proofs.Changing.{bind-agree}
use Rattle.plstack.specs.declared.frame.Use.{Use}
use Rattle.plstack.specs.declared.frame.Use.TheVariants as uses
use Rattle.plstack.specs.Places.{clause_by}
use Rattle.plstack.specs.Trials.{PutsBody, PutsHead, Resolved}
use Rattle.plstack.proofs.Renaming.{stays, agrees-renamed}

-- values stay where the terms that they stand for change
pub values-bound : (old new : Env) (σ : ℕ → Tree) → ((v : Cell) → IsValue old.heap v → IsValue new.heap v × (value new.heap v ≡ bind σ (value old.heap v))) → (vs : List Cell) → AreValues old.heap vs → AreValues new.heap vs
values-bound old new σ made [] a = tt
values-bound old new σ made (v ∷ vs) a = ((made v a.0).0, values-bound old new σ made vs a.1)

values-stay : (old new : Env) → Extends old new → (vs : List Cell) → AreValues old.heap vs → AreValues new.heap vs
values-stay old new x [] a = tt
values-stay old new x (v ∷ vs) a = ((x.values v a.0).0, values-stay old new x vs a.1)

-- a head that is put over new variables
module _ (old mid new : Env) (x : Clause) (vs : List Cell) (head : Cell) (width : ℕ) (is : width ≡ x.variables) (made : PutsVariables old mid vs width) (below : AllBelow x.variables x.head) (put : Puts mid new head (bind (standing mid.heap vs) x.head)) where
  head-same : bind (standing mid.heap vs) x.head ≡ shift old.count x.head
  head-same = bind-agree (standing mid.heap vs) (λ n. var (old.count + n)) x.variables x.head (λ n lt. made.are n (omega (arith, lt, is))) below

  value-now : (n : ℕ) → n < x.variables → value new.heap (at vs n) ≡ var (old.count + n)
  value-now n lt = (put.extends.values (at vs n) (value-at-list mid.heap vs n made.fit (omega (arith, lt, is, made.many)))).1 ∙ made.are n (omega (arith, lt, is))

  head-extends : Extends old new
  head-extends = record {
    values = λ v f. let m = made.extends.values v f in let p = put.extends.values v m.0 in (p.0, p.1 ∙ m.1);
    slots = omega (arith, made.slots, put.slots);
    variables = λ i lt. put.extends.variables i (omega (arith, lt, made.slots)) ∙ made.extends.variables i lt;
    count = omega (arith, made.count, put.count);
    keeps = Keeps-trans old mid new made.extends.keeps put.extends.keeps;
  }

  pub puts-head : PutsHead old new x vs head
  puts-head = record {
    many = made.many ∙ is;
    fit = values-stay mid new put.extends vs made.fit;
    are = value-now;
    head_fits = put.fits;
    head_is = put.is ∙ head-same;
    extends = head-extends;
    slots = put.slots ∙ made.slots;
    count = put.count ∙ made.count ∙ ap (λ n. old.count + n) is;
  }

-- a clause as a fact has its variables
pub same-variables : (u : Use) (x : Clause) → (clause_by u x).variables ≡ x.variables
same-variables uses.Call x = refl
same-variables uses.Tell x = refl
same-variables uses.Erase x = refl

-- and its body is no goal
pub fact-true : (u : Use) (x : Clause) → (u ≡ uses.Tell) ⊎ (u ≡ uses.Erase) → is_true (clause_by u x).body ≡ true
fact-true uses.Call x (inl e) = cc
fact-true uses.Call x (inr e) = cc
fact-true uses.Tell x e = refl
fact-true uses.Erase x e = refl

-- a head and a body as one term, its variables behind others
neck-shifted : (n : ℕ) (h b : Tree) → clause_term (shift n h) (shift n b) ≡ shift n (clause_term h b)
unfolding bind
neck-shifted n h b = refl

-- a clause's head and body that are put as one term
module _ (old mid then new : Env) (x : Clause) (vs : List Cell) (head body v : Cell) (puts : PutsHead old mid x vs head) (below : AllBelow x.variables x.body)
    (put : Puts mid then body (bind (standing mid.heap vs) x.body)) (both : Puts then new v (clause_term (value then.heap head) (value then.heap body))) where
  body-put : value then.heap body ≡ shift old.count x.body
  body-put = put.is ∙ bind-agree (standing mid.heap vs) (λ n. var (old.count + n)) x.variables x.body puts.are below

  head-put : value then.heap head ≡ shift old.count x.head
  head-put = (put.extends.values head puts.head_fits).1 ∙ puts.head_is

  fact-extends : Extends old new
  fact-extends = Extends-trans old mid new puts.extends (Extends-trans mid then new put.extends both.extends)

  pub puts-fact : PutsHead old new (as_fact x) vs v
  puts-fact = record {
    many = puts.many;
    fit = values-stay then new both.extends vs (values-stay mid then put.extends vs puts.fit);
    are = λ n lt.
        let m = value-at-list mid.heap vs n puts.fit (omega (arith, lt, puts.many)) in
        let p = put.extends.values (at vs n) m in
        (both.extends.values (at vs n) p.0).1 ∙ p.1 ∙ puts.are n lt;
    head_fits = both.fits;
    head_is = both.is ∙ ap₂ clause_term head-put body-put ∙ neck-shifted old.count x.head x.body;
    extends = fact-extends;
    slots = both.slots ∙ put.slots ∙ puts.slots;
    count = both.count ∙ put.count ∙ puts.count;
  }

module _ (old mid : Env) (x : Clause) (vs : List Cell) (head : Cell) (puts : PutsHead old mid x vs head) (goal : Cell) (is : IsValue old.heap goal) where
  goal-same : value mid.heap goal ≡ value old.heap goal
  goal-same = (puts.extends.values goal is).1

  both-same : unify (value mid.heap goal) (value mid.heap head) ≡ unify (value old.heap goal) (shift old.count x.head)
  both-same = ap₂ unify goal-same puts.head_is

  pub unfit : unify (value mid.heap goal) (value mid.heap head) ≡ None → unify (value old.heap goal) (shift old.count x.head) ≡ None
  unfit u = sym both-same ∙ u

  -- the head was unified with the goal
  module _ (then : Env) (u : Unifies mid then (value mid.heap goal) (value mid.heap head)) where
    abbrev σ : ℕ → Tree
    σ = u.unifier

    variable-then : (n : ℕ) → n < x.variables → value then.heap (at vs n) ≡ bind σ (var (old.count + n))
    variable-then n lt =
        (u.made.values (at vs n) (value-at-list mid.heap vs n puts.fit (omega (arith, lt, puts.many)))).1
        ∙ ap (bind σ) (puts.are n lt)

    body-same : AllBelow x.variables x.body → bind (standing then.heap vs) x.body ≡ bind σ (shift old.count x.body)
    body-same below =
        bind-agree (standing then.heap vs) (λ n. bind σ (var (old.count + n))) x.variables x.body variable-then below
        ∙ sym (bind-bind σ (λ n. var (old.count + n)) x.body)

    values-then : (v : Cell) → IsValue old.heap v → IsValue then.heap v × (value then.heap v ≡ bind σ (value old.heap v))
    values-then v f =
        let p = puts.extends.values v f in
        let m = u.made.values v p.0 in
        (m.0, m.1 ∙ ap (bind σ) p.1)

    variables-then : (i : ℕ) → i < length old.slots → variable then i ≡ bind σ (variable old i)
    variables-then i lt = u.made.variables i (omega (arith, lt, puts.slots)) ∙ ap (bind σ) (puts.extends.variables i lt)

    -- and the body is put, if there is one
    pub resolved : (new : Env) (body : Option Cell) → PutsBody then new (standing then.heap vs) x body → Resolved old new (value old.heap goal) x body
    resolved new None p = subst (λ e. Resolved old e (value old.heap goal) x None) (sym p.1) (record {
      unifier = σ;
      is = sym both-same ∙ u.is;
      values = values-then;
      variables = variables-then;
      left = p.0;
      slots = u.made.slots ∙ puts.slots;
      count = u.made.count ∙ puts.count;
    })
    resolved new (Some body) p = let put = p.2 in record {
      unifier = σ;
      is = sym both-same ∙ u.is;
      values = λ v f.
          let m = values-then v f in
          let n = put.extends.values v m.0 in
          (n.0, n.1 ∙ m.1);
      variables = λ i lt. put.extends.variables i (omega (arith, lt, puts.slots, u.made.slots)) ∙ variables-then i lt;
      left = (p.0, put.fits, put.is ∙ body-same p.1);
      slots = put.slots ∙ u.made.slots ∙ puts.slots;
      count = put.count ∙ u.made.count ∙ puts.count;
    }

-- a goal in an environment whose table of names has grown
module _ (e : Env) (t : Table) (is : IsEnv e) (table : IsTable t) (more : ExtendsNames e.heap.names t) (goal : Cell) (fits : IsValue e.heap goal) where
  goal-renamed : value (renamed_heap e.heap t) goal ≡ value e.heap goal
  goal-renamed = ((stays e t is table more).values goal fits).1

  pub goal-there : IsValue (renamed_heap e.heap t) goal
  goal-there = ((stays e t is table more).values goal fits).0

  pub resolved-then : (new : Env) (x : Clause) (body : Option Cell) → Resolved (renamed e t) new (value (renamed_heap e.heap t) goal) x body → Resolved e new (value e.heap goal) x body
  resolved-then new x body r = record {
    unifier = r.unifier;
    is = ap (λ g. unify g (shift e.count x.head)) (sym goal-renamed) ∙ r.is;
    values = λ v f.
        let s = (stays e t is table more).values v f in
        let w = r.values v s.0 in
        (w.0, w.1 ∙ ap (bind r.unifier) s.1);
    variables = λ i lt. r.variables i lt ∙ ap (bind r.unifier) ((agrees-renamed e t is table more).variables i lt);
    left = r.left;
    slots = r.slots;
    count = r.count;
  }

  pub unfit-then : (x : Clause) → unify (value (renamed_heap e.heap t) goal) (shift e.count x.head) ≡ None → unify (value e.heap goal) (shift e.count x.head) ≡ None
  unfit-then x u = ap (λ g. unify g (shift e.count x.head)) (sym goal-renamed) ∙ u
