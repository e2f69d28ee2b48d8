-- What is left of a walk, once it is told what comes next behind its spot, or what the clause there is.
use Rattle.std.proofs.Common.{◌≡◌, ◌⊎◌, inl, inr, ℕ, List, [], ◌∷◌, ◌++◌, map, filter_map, Option, Some, None, refl, sym, ap, ap₂, ◌∙◌, subst}
use Rattle.std.specs.List.{cons_option}
use Rattle.plterm.specs.Tree.{Tree}
use Rattle.plterm.specs.declared.indicator.Indicator.{Indicator}
use Rattle.plclause.specs.Clause.{Clause}
use Rattle.plclause.specs.Indicators.{indicator}
use Rattle.plevent.specs.declared.update.ClauseName.{ClauseName}
use Rattle.plevent.specs.declared.update.Living.{Living}
use Rattle.plevent.specs.Alive.{lives_as}
use Rattle.plevent.specs.Keys.{first_key}
use Rattle.plrecords.specs.declared.record.Cursor.{Cursor}
use Rattle.plstore.specs.Looking.{clause_alive}
use Rattle.plviews.specs.declared.lookup.Reach.{Reach}
use Rattle.plviews.specs.declared.lookup.Reach.TheVariants as reaches
use Rattle.plviews.specs.declared.lookup.Step.{Step}
use Rattle.plviews.specs.declared.lookup.Step.TheVariants as steps
use Rattle.plviews.specs.declared.view.View.{View}
use Rattle.plviews.specs.Views.{whole, Sight}
use Rattle.plviews.specs.Lookups.{likely, rest_at, Begins, IsStepOf}
use Rattle.plsearch.specs.Types.{Element}
use Rattle.plstack.specs.declared.frame.Ahead.{Ahead}
use Rattle.plstack.specs.declared.frame.Use.{Use}
use Rattle.plstack.specs.declared.frame.Spot.{Spot}
use Rattle.plstack.specs.declared.frame.Spot.TheVariants as spots
use Rattle.plstack.specs.declared.frame.Walk.{Walk}
use Rattle.plstack.specs.declared.walk.Candidate.{Candidate}
use Rattle.plstack.specs.Places.{Database, alive_as, candidate_of, head_in, left_at, left_if, named_so, onward, onward_if, sight_at, tried}
use Rattle.plstack.specs.Walks.{Finds}
use Rattle.plsolver.specs.Fetching.{spot_ahead, spot_behind}
use Rattle.plsolver.specs.Going.{LooksBehind}
use Rattle.plsolver.proofs.Passing.{places, places-append, places-as, places-likely}

-- what holds of both kinds of spot that a walk looks from holds of one
pub looks-elim : (Is : Spot → Type 0) (g : View) (r : Reach) (spot : Spot) → LooksBehind spot g r → Is (spots.Seek g r) → ((x : ClauseName) → Is (spots.At g x r)) → Is spot
looks-elim Is g r spot (inl at) a f = subst Is (sym at) a
looks-elim Is g r spot (inr at) a f = subst Is (sym at.1) (f at.0)

-- a step to a clause, or that there is none
pub not-asks : (step : Step) → ((x : ClauseName) × (r : Reach) × (step ≡ steps.Next x r)) ⊎ (step ≡ steps.Nothing) → (c : Cursor) → step ≡ steps.Asks c → ⊥
not-asks step (inl next) c asks = let e : steps.Next next.0 next.1 ≡ steps.Asks c = sym next.2 ∙ asks in cc
not-asks step (inr none) c asks = let e : steps.Nothing ≡ steps.Asks c = sym none ∙ asks in cc

-- for a goal the same is left at a spot as at another, or nothing is
abbrev pub SameLeft : Database → Use → Tree → Spot → Option Spot → Type 0
SameLeft db u t old new = (d n : ℕ) (es : List Element) → filter_map (tried d n t es) (left_at db u t old) ≡ filter_map (tried d n t es) (left_if db u t new)

-- the clauses that are left where a step leads
abbrev pub step_left : Sight → Indicator → Step → List Living
step_left s p (steps.Next x r) = onward s p x r
step_left s p steps.Nothing = []
step_left s p (steps.Asks c) = rest_at s p (reaches.Base c)

-- a clause that is alive under its name
pub alive-is : (s : Sight) (x : ClauseName) (c : Clause) → clause_alive x (whole s) ≡ Some c → alive_as s x ≡ lives_as x c ∷ []
alive-is s x c e = ap (named_so x) e

module _ (u : Use) (t : Tree) (d n : ℕ) (es : List Element) (s : Sight) (p : Indicator) where
  -- the first of some clauses, and then others
  begins-places : (x : ClauseName) (xs ys : List Living) → Begins (whole s) x (likely (first_key (head_in u t)) xs) (likely (first_key (head_in u t)) ys) →
      places u t d n es xs ≡ places u t d n es (alive_as s x ++ ys)
  begins-places x xs ys b =
      places-likely u t d n es xs
      ∙ ap (places u t d n es) b.whole
      ∙ ap (cons_option (tried d n t es (candidate_of u (lives_as x b.clause)))) (sym (places-likely u t d n es ys))
      ∙ sym (ap (λ zs. places u t d n es (zs ++ ys)) (alive-is s x b.clause b.alive))

  pub step-places : (xs : List Living) (step : Step) → IsStepOf s p (first_key (head_in u t)) (likely (first_key (head_in u t)) xs) step → places u t d n es xs ≡ places u t d n es (step_left s p step)
  step-places xs (steps.Next x r) says = begins-places x xs (rest_at s p r) says
  step-places xs steps.Nothing says = places-likely u t d n es xs ∙ ap (places u t d n es) says
  step-places xs (steps.Asks c) says = places-as u t d n es xs (rest_at s p (reaches.Base c)) says

  -- behind a clause
  pub hand-places : (x : ClauseName) (xs : List Living) (step : Step) → IsStepOf s p (first_key (head_in u t)) (likely (first_key (head_in u t)) xs) step →
      places u t d n es (alive_as s x ++ xs) ≡ places u t d n es (alive_as s x ++ step_left s p step)
  hand-places x xs step says =
      places-append u t d n es (alive_as s x) xs
      ∙ ap (λ ps. places u t d n es (alive_as s x) ++ ps) (step-places xs step says)
      ∙ sym (places-append u t d n es (alive_as s x) (step_left s p step))

module _ (db : Database) (u : Use) (t : Tree) (g : View) where
  abbrev p : Indicator
  p = indicator (head_in u t)

  abbrev s : Sight
  s = sight_at db g

  -- at a spot
  pub behind-left : (spot : Spot) (r : Reach) (step : Step) → LooksBehind spot g r → IsStepOf s p (first_key (head_in u t)) (likely (first_key (head_in u t)) (rest_at s p r)) step → SameLeft db u t spot (spot_behind spot step)
  behind-left spot r step looks says = looks-elim (λ z. SameLeft db u t z (spot_behind z step)) g r spot looks (seeks step says) (λ x. at-clause x step says)
    where
      seeks : (step : Step) → IsStepOf s p (first_key (head_in u t)) (likely (first_key (head_in u t)) (rest_at s p r)) step → SameLeft db u t (spots.Seek g r) (spot_behind (spots.Seek g r) step)
      seeks (steps.Next x w) says d n es = step-places u t d n es s p (rest_at s p r) (steps.Next x w) says
      seeks steps.Nothing says d n es = step-places u t d n es s p (rest_at s p r) steps.Nothing says
      seeks (steps.Asks c) says d n es = step-places u t d n es s p (rest_at s p r) (steps.Asks c) says

      at-clause : (x : ClauseName) (step : Step) → IsStepOf s p (first_key (head_in u t)) (likely (first_key (head_in u t)) (rest_at s p r)) step → SameLeft db u t (spots.At g x r) (spot_behind (spots.At g x r) step)
      at-clause x (steps.Next y w) says d n es = hand-places u t d n es s p x (rest_at s p r) (steps.Next y w) says
      at-clause x steps.Nothing says d n es = hand-places u t d n es s p x (rest_at s p r) steps.Nothing says
      at-clause x (steps.Asks c) says d n es = hand-places u t d n es s p x (rest_at s p r) (steps.Asks c) says

  -- what is known to be next
  ahead-left : (y : Option Ahead) → map (candidate_of u) (onward_if s p y) ≡ left_if db u t (spot_ahead g y)
  ahead-left None = refl
  ahead-left (Some y) = refl

  -- the clause of a name is not alive
  pub gone-left : (spot : Spot) (x : ClauseName) (y : Option Ahead) → spot ≡ spots.Known g x y → clause_alive x (whole s) ≡ None → SameLeft db u t spot (spot_ahead g y)
  gone-left spot x y at e d n es =
      ap (λ z. filter_map (tried d n t es) (left_at db u t z)) at
      ∙ ap (λ o. places u t d n es (named_so x o ++ onward_if s p y)) e
      ∙ ap (filter_map (tried d n t es)) (ahead-left y)

-- or it is the next candidate
pub clause-found : (db : Database) (w : Walk) (t : Tree) (g : View) (x : ClauseName) (y : Option Ahead) (c : Clause) (next : Candidate) → w.spot ≡ spots.Known g x y → clause_alive x (whole (sight_at db g)) ≡ Some c →
    next ≡ candidate_of w.uses (lives_as x c) → Finds db w t next (spot_ahead g y)
clause-found db w t g x y c next at e is d n es =
    ap (λ z. filter_map (tried d n t es) (left_at db w.uses t z)) at
    ∙ ap (λ o. places w.uses t d n es (named_so x o ++ onward_if (sight_at db g) (indicator (head_in w.uses t)) y)) e
    ∙ ap₂ (λ z zs. filter_map (tried d n t es) (z ∷ zs)) (sym is) (ahead-left db w.uses t g y)
