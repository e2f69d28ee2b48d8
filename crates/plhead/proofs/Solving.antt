-- How the solution of equations comes on.
use Rattle.std.proofs.Common.{◌≡◌, ℕ, ◌+◌, ◌<◌, ◌≤◌, List, [], ◌∷◌, ◌++◌, refl, sym, ap, ap₂, ◌∙◌, subst, arith, le_refl, le_trans, Some, None, Bool}
use Rattle.plterm.specs.Tree.{Tree, Trees, var, int, atom, compound, none, more}
use Rattle.plterm.specs.Variables.{AllBelow, EachBelow}
use Rattle.plsubst.specs.Subst.{bind, bind_all}
use Rattle.plsubst.specs.Unify.{unify, IsMostGeneral, BindsYounger}
use Rattle.plsubst.proofs.Unify.{bind-bind, bind-var, unify-general, IfUnified}
use Rattle.plsubst.proofs.UnifyFinds.{Found, unify-found}
use Rattle.plsubst.proofs.UnifyUnique.{unify-is, unify-none, unify-younger, var-variable, int≢var, atom≢var, compound≢var}
use Rattle.plcells.specs.declared.cell.Cell.{Cell}
use Rattle.plcode.specs.declared.node.Node.{Node}
use Rattle.plenv.specs.Env.{Env, Covers, over}
use Rattle.plenv.specs.Changes.{Substitutes, Unifies}
use Rattle.plhead.specs.Equations.{Terms, Solves, left, right, AreEquations}
use Rattle.plhead.specs.Fitting.{Answers, Stands}
use Rattle.plhead.specs.Progress.{Ends, Progress}
use Rattle.plhead.proofs.Listing.{solves-left, solves-right, solves-both, solves-swap}
use Rattle.plhead.proofs.Slots.{substitutes-none, substitutes-trans}

-- a unifier that a definition gives is most general, and binds the younger
pub unifier-general : (a b : Tree) (σ : ℕ → Tree) → unify a b ≡ Some σ → IsMostGeneral a b σ
unifier-general a b σ e = subst (λ r. IfUnified r (IsMostGeneral a b)) e (unify-general a b)

pub unifier-younger : (a b : Tree) (σ : ℕ → Tree) → unify a b ≡ Some σ → BindsYounger σ
unifier-younger a b σ e = subst (λ r. IfUnified r BindsYounger) e (unify-younger a b)

younger-var : BindsYounger var
younger-var w z e = subst (λ v. v ≤ w) (var-variable e) (le_refl w)

younger-after : (ρ : ℕ → Tree) → BindsYounger ρ → (t : Tree) (w z : ℕ) → ((v : ℕ) → t ≡ var v → v ≤ w) → bind ρ t ≡ var z → z ≤ w
unfolding bind
younger-after ρ y (var v) w z below e = le_trans (y v z e) (below v refl)
younger-after ρ y (int i) w z below e = int≢var e
younger-after ρ y (atom f) w z below e = atom≢var e
younger-after ρ y (compound f ts) w z below e = compound≢var e

-- what an instance of a substitution makes of its terms
absorbed : (τ ρ : ℕ → Tree) → ((y : ℕ) → bind τ (ρ y) ≡ τ y) → (t : Tree) → bind τ (bind ρ t) ≡ bind τ t
absorbed τ ρ h t = bind-bind τ ρ t ∙ ap (λ s. bind s t) (λ i y. h y i)

-- variables that stand for other terms
module _ (n : ℕ) (new old ρ : ℕ → Tree) (same : (x : ℕ) → x < n → new x ≡ bind ρ (old x)) where
  mutual
    unfolding bind

    bind-over : (t : Tree) → AllBelow n t → bind new t ≡ bind ρ (bind old t)
    bind-over (var x) b = same x b
    bind-over (int i) b = refl
    bind-over (atom f) b = refl
    bind-over (compound f ts) b = ap (compound f) (bind_all-over ts b)

    bind_all-over : (ts : Trees) → EachBelow n ts → bind_all new ts ≡ bind_all ρ (bind_all old ts)
    bind_all-over none b = refl
    bind_all-over (more t ts) b = ap₂ more (bind-over t b.0) (bind_all-over ts b.1)

-- ---- equations after something was put for variables

module _ (old new : Env) (ρ : ℕ → Tree) (made : Substitutes old new ρ) (base : ℕ) (w : Terms) (nodes : List Node) where
  left-after : (p : ℕ × Cell) → Covers old base (w p.0) → left new base w p ≡ bind ρ (left old base w p)
  left-after p c = bind-over c.width (over new base) (over old base) ρ (λ x lt. made.variables (base + x) (omega (arith, lt, c.within))) (w p.0) c.below

  pub equations-after : (ps : List (ℕ × Cell)) → AreEquations old base nodes w ps → AreEquations new base nodes w ps
  equations-after [] a = tt
  equations-after (p ∷ ps) a = (
    record {
      within = a.0.within;
      whole = a.0.whole;
      covers = record { width = a.0.covers.width; below = a.0.covers.below; within = omega (arith, a.0.covers.within, made.slots) };
      fits = (made.values p.1 a.0.fits).0;
    },
    equations-after ps a.1,
  )

  -- what solves them now solves them before, behind what was put
  solves-before : (τ : ℕ → Tree) (ps : List (ℕ × Cell)) → AreEquations old base nodes w ps → Solves τ new base w ps → Solves (λ y. bind τ (ρ y)) old base w ps
  solves-before τ [] a s = tt
  solves-before τ (p ∷ ps) a s = (
    sym (bind-bind τ ρ (left old base w p)) ∙ ap (bind τ) (sym (left-after p a.0.covers)) ∙ s.0 ∙ ap (bind τ) (made.values p.1 a.0.fits).1 ∙ bind-bind τ ρ (right old p),
    solves-before τ ps a.1 s.1,
  )

  -- an instance of what was put solves them as before
  solves-after : (τ : ℕ → Tree) → ((y : ℕ) → bind τ (ρ y) ≡ τ y) → (ps : List (ℕ × Cell)) → AreEquations old base nodes w ps → Solves τ old base w ps → Solves τ new base w ps
  solves-after τ h [] a s = tt
  solves-after τ h (p ∷ ps) a s = (
    ap (bind τ) (left-after p a.0.covers) ∙ absorbed τ ρ h (left old base w p) ∙ s.0 ∙ sym (absorbed τ ρ h (right old p)) ∙ ap (bind τ) (sym (made.values p.1 a.0.fits).1),
    solves-after τ h ps a.1 s.1,
  )

-- ---- progress

pub started : (e : Env) (base : ℕ) (w : Terms) (s t : Tree) (work : List (ℕ × Cell)) → Stands e base w work s t → Progress e e base w s t work
started e base w s t work stands = record {
  put_for = var;
  made = substitutes-none e;
  forced = λ τ q y. forced τ y;
  left = stands.to;
  enough = λ τ u. ap (bind τ) (bind-var s) ∙ stands.back τ u ∙ ap (bind τ) (sym (bind-var t));
  younger = younger-var;
}
  where
    forced : (τ : ℕ → Tree) (y : ℕ) → bind τ (var y) ≡ τ y
    forced τ y = unfold bind in refl

-- a unifier was put
pub unified : (old new : Env) (base : ℕ) (w : Terms) (s t : Tree) → Unifies old new s t → Progress old new base w s t []
unified old new base w s t u =
    let general = unifier-general s t u.unifier u.is in
    record {
      put_for = u.unifier;
      made = u.made;
      forced = λ τ e y. general.1 τ e y;
      left = λ τ e. tt;
      enough = λ τ v. ap (bind τ) general.0;
      younger = unifier-younger s t u.unifier u.is;
    }

-- the order of the equations does not matter
pub swapped : (old new : Env) (base : ℕ) (w : Terms) (s t : Tree) (ps qs rs : List (ℕ × Cell)) → Progress old new base w s t ((ps ++ qs) ++ rs) → Progress old new base w s t ((ps ++ rs) ++ qs)
swapped old new base w s t ps qs rs p = record {
  put_for = p.put_for;
  made = p.made;
  forced = p.forced;
  left = λ τ q. solves-swap τ new base w ps qs rs (p.left τ q);
  enough = λ τ u. p.enough τ (solves-swap τ new base w ps rs qs u);
  younger = p.younger;
}

-- an answer of each unification is that of the one that begins with these equations
pub ended : (old new : Env) (base : ℕ) (w : Terms) (work : List (ℕ × Cell)) (fits : Bool) → Ends old new base w work fits → (s t : Tree) → Stands old base w work s t → Answers old new s t fits
ended old new base w work fits ends s t stands = ends old s t (started old base w s t work stands)

module _ (old h new : Env) (base : ℕ) (w : Terms) (nodes : List Node) (s t : Tree) (work rest : List (ℕ × Cell)) (p : ℕ × Cell)
    (taken : work ≡ rest ++ p ∷ []) (all : AreEquations h base nodes w rest) (come : Progress old h base w s t work) where
  apart : (τ : ℕ → Tree) → Solves τ h base w work → Solves τ h base w rest × (bind τ (left h base w p) ≡ bind τ (right h p))
  apart τ u =
      let v = subst (Solves τ h base w) taken u in
      (solves-left τ h base w rest (p ∷ []) v, (solves-right τ h base w rest (p ∷ []) v).0)

  join : (τ : ℕ → Tree) → Solves τ h base w rest → bind τ (left h base w p) ≡ bind τ (right h p) → Solves τ h base w work
  join τ u q = subst (Solves τ h base w) (sym taken) (solves-both τ h base w rest (p ∷ []) u (q, tt))

  -- the equation on top gave way to others
  pub came-on : (added : List (ℕ × Cell)) → Progress h new base w (left h base w p) (right h p) added → Progress old new base w s t (rest ++ added)
  came-on added u = record {
    put_for = λ y. bind ρ (come.put_for y);
    made = substitutes-trans old h new come.put_for ρ come.made u.made;
    forced = λ τ e y. absorbed τ ρ (instance τ e) (come.put_for y) ∙ come.forced τ e y;
    left = λ τ e.
        let before = apart τ (come.left τ e) in
        solves-both τ new base w rest added (solves-after h new ρ u.made base w nodes τ (instance τ e) rest all before.0) (u.left τ before.1);
    enough = λ τ v.
        let behind = solves-before h new ρ u.made base w nodes τ rest all (solves-left τ new base w rest added v) in
        let before = join (λ y. bind τ (ρ y)) behind (both τ (solves-right τ new base w rest added v)) in
        side τ s ∙ come.enough (λ y. bind τ (ρ y)) before ∙ sym (side τ t);
    younger = λ x z e. younger-after ρ u.younger (come.put_for x) x z (come.younger x) e;
  }
    where
      ρ : ℕ → Tree
      ρ = u.put_for

      instance : (τ : ℕ → Tree) → bind τ s ≡ bind τ t → (y : ℕ) → bind τ (ρ y) ≡ τ y
      instance τ e = u.forced τ (apart τ (come.left τ e)).1

      both : (τ : ℕ → Tree) → Solves τ new base w added → bind (λ y. bind τ (ρ y)) (left h base w p) ≡ bind (λ y. bind τ (ρ y)) (right h p)
      both τ v = sym (bind-bind τ ρ (left h base w p)) ∙ u.enough τ v ∙ bind-bind τ ρ (right h p)

      side : (τ : ℕ → Tree) (q : Tree) → bind τ (bind (λ y. bind ρ (come.put_for y)) q) ≡ bind (λ y. bind τ (ρ y)) (bind come.put_for q)
      side τ q = ap (bind τ) (sym (bind-bind ρ come.put_for q)) ∙ bind-bind τ ρ (bind come.put_for q)

  -- the equation on top has no solution
  pub never-solved : unify (left h base w p) (right h p) ≡ None → unify s t ≡ None
  never-solved none_is = unify-none s t (λ τ e. subst Found none_is (unify-found (left h base w p) (right h p) τ (apart τ (come.left τ e)).1))

pub solved : (old h : Env) (base : ℕ) (w : Terms) (s t : Tree) (work : List (ℕ × Cell)) → Progress old h base w s t work → work ≡ [] → Unifies old h s t
solved old h base w s t work p done =
    let all : Solves var h base w work = subst (Solves var h base w) (sym done) tt in
    let equal : bind p.put_for s ≡ bind p.put_for t = sym (bind-var (bind p.put_for s)) ∙ p.enough var all ∙ bind-var (bind p.put_for t) in
    let general : IsMostGeneral s t p.put_for = (equal, p.forced) in
    record { unifier = p.put_for; is = unify-is s t p.put_for general p.younger; made = p.made }
