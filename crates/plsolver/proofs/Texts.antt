-- Walks over the clauses of the program's text.
use Rattle.std.specs.Prelude.{slice_index_or}
use Rattle.std.proofs.Common.{zero, suc, length, ◌≡◌, ℕ, ◌+◌, ◌<◌, ◌≤◌, List, [], ◌∷◌, map, drop, Option, Some, None, refl, sym, ap, ap₂, ◌∙◌, arith}
use Rattle.std.specs.List.{filter_map}
use Rattle.plterm.specs.Tree.{Tree}
use Rattle.plcells.specs.Store.{value}
use Rattle.plclause.specs.Clause.{Clause}
use Rattle.plclause.specs.Indicators.{indicator}
use Rattle.plevent.specs.declared.update.Update.{Update}
use Rattle.plprogram.specs.Program.{Program, clauses_for}
use Rattle.plsearch.specs.Types.{Case, Choice}
use Rattle.plstore.specs.Looking.{Views}
use Rattle.plstack.specs.declared.frame.Point.{Point}
use Rattle.plstack.specs.declared.frame.Walk.{Walk}
use Rattle.plstack.specs.declared.frame.Spot.{Spot}
use Rattle.plstack.specs.declared.frame.Spot.TheVariants as spots
use Rattle.plstack.specs.declared.walk.Candidate.{Candidate}
use Rattle.plstack.specs.declared.walk.Walking.{Walking}
use Rattle.plstack.specs.Places.{head_in, left_at, left_if, text_candidate, tried}
use Rattle.plstack.specs.State.{State, cases_of, walks_in}
use Rattle.plstack.specs.StaticCalls.{database_of}
use Rattle.plstack.specs.Walks.{AtWalk, Finds, GoesOn}
use Rattle.plsolver.specs.declared.progress.Progress.{Progress}
use Rattle.plsolver.proofs.Behind.{SameLeft}
use Rattle.plsolver.proofs.Trying.{same-cases}

-- the clause at a number is the next candidate
pub text-found : (P : Program) (v : Views) (own : List Update) (w : Walk) (t : Tree) (k : ℕ) (c : Clause) (cs : List Clause) (rest : Option Spot) (next : Candidate) → w.spot ≡ spots.Text k → drop k (clauses_for P (indicator (head_in w.uses t))) ≡ c ∷ cs →
    next ≡ text_candidate w.uses c → left_if (database_of P v own) w.uses t rest ≡ map (text_candidate w.uses) cs → Finds (database_of P v own) w t next rest
text-found P v own w t k c cs rest next at e is left d n es =
    ap (λ s. filter_map (tried d n t es) (left_at (database_of P v own) w.uses t s)) at
    ∙ ap (λ l. filter_map (tried d n t es) (map (text_candidate w.uses) l)) e
    ∙ ap₂ (λ z zs. filter_map (tried d n t es) (z ∷ zs)) (sym is) (sym left)

-- nothing of the text is left
pub text-ends : (P : Program) (v : Views) (own : List Update) (s st : State) (p : Point) (w : Walk) (k : ℕ) → AtWalk s p w → GoesOn (database_of P v own) s st p w None → w.spot ≡ spots.Text k →
    drop k (clauses_for P (indicator (head_in w.uses (value s.env.heap w.goal)))) ≡ [] → (below : List Case) × (cases_of (database_of P v own) s ≡ Choice [] ∷ below) × (cases_of (database_of P v own) st ≡ Choice [] ∷ below)
text-ends P v own s st p w k at goes is none =
    let same : SameLeft (database_of P v own) w.uses (value s.env.heap w.goal) w.spot None = λ d n es.
    ap (λ x. filter_map (tried d n (value s.env.heap w.goal) es) (left_at (database_of P v own) w.uses (value s.env.heap w.goal) x)) is
    ∙ ap (λ l. filter_map (tried d n (value s.env.heap w.goal) es) (map (text_candidate w.uses) l)) none in
    (goes.below, sym (same-cases (database_of P v own) s st p w None at goes same) ∙ goes.cases, goes.cases)

pub drop-at : {A : Type 0} (xs : List A) (i : ℕ) (d : A) → i < length xs → drop i xs ≡ slice_index_or xs i d ∷ drop (suc i) xs
drop-at [] i d lt = absurd (omega (arith, lt))
drop-at (x ∷ xs) zero d lt = refl
drop-at (x ∷ xs) (suc i) d lt = drop-at xs i d (omega (arith, lt))

pub drop-none : {A : Type 0} (xs : List A) (i : ℕ) → length xs ≤ i → drop i xs ≡ []
drop-none [] zero le = refl
drop-none [] (suc i) le = refl
drop-none (x ∷ xs) zero le = absurd (omega (arith, le))
drop-none (x ∷ xs) (suc i) le = drop-none xs i (omega (arith, le))

-- ---- over the text

-- a walk over a procedure's clauses has come to a number, and what is left of it is what was
pub record AtText (old new : Progress) (from to : Walking) (k : ℕ) (cs : List Clause) : Type 0 where
  pub at : AtWalk new.machine.stack to.point to.walk
  pub text : to.walk.spot ≡ spots.Text k
  pub uses : to.walk.uses ≡ from.walk.uses
  pub goal : value new.machine.stack.env.heap to.walk.goal ≡ value old.machine.stack.env.heap from.walk.goal
  pub cases : (P : Program) (v : Views) (own : List Update) → cs ≡ clauses_for P (indicator (head_in from.walk.uses (value old.machine.stack.env.heap from.walk.goal))) → cases_of (database_of P v own) new.machine.stack ≡ cases_of (database_of P v own) old.machine.stack
  pub basis : new.machine.stack.basis ≡ old.machine.stack.basis
  pub walks : walks_in new.machine.stack ≡ walks_in old.machine.stack
  pub frame : new ≡ record old { machine = record old.machine { stack = new.machine.stack } }

-- they are still the procedure's
pub whole-now : (P : Program) (old new : Progress) (from to : Walking) (k : ℕ) (cs : List Clause) → AtText old new from to k cs →
    cs ≡ clauses_for P (indicator (head_in from.walk.uses (value old.machine.stack.env.heap from.walk.goal))) → cs ≡ clauses_for P (indicator (head_in to.walk.uses (value new.machine.stack.env.heap to.walk.goal)))
whole-now P old new from to k cs i whole = whole ∙ ap₂ (λ u t. clauses_for P (indicator (head_in u t))) (sym i.uses) (sym i.goal)

-- the clause at the number is the next candidate, and behind it there is the next number
pub text-next : (P : Program) (v : Views) (own : List Update) (w : Walk) (t : Tree) (k : ℕ) (cs : List Clause) (c : Clause) (next : Candidate) → w.spot ≡ spots.Text k → cs ≡ clauses_for P (indicator (head_in w.uses t)) → drop k cs ≡ c ∷ drop (suc k) cs →
    next ≡ text_candidate w.uses c → Finds (database_of P v own) w t next (Some (spots.Text (k + 1)))
text-next P v own w t k cs c next at whole e is =
    let one : k + 1 ≡ suc k = omega arith in
    text-found P v own w t k c (drop (suc k) cs) (Some (spots.Text (k + 1))) next at (ap (drop k) (sym whole) ∙ e) is
    (ap₂ (λ n l. map (text_candidate w.uses) (drop n l)) one (sym whole))
