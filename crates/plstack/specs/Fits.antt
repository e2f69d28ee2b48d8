-- The first clause of a procedure that fits a goal.
use Rattle.std.specs.Prelude.{◌≡◌, ℕ, ◌+◌, ◌<◌, List, [], ◌∷◌, length, drop, take, filter_map, Some}
use Rattle.plterm.specs.Tree.{Tree}
use Rattle.plsubst.specs.Subst.{bind, shift}
use Rattle.plsubst.specs.Unify.{unify}
use Rattle.plclause.specs.Clause.{Clause}
use Rattle.plclause.specs.Indicators.{indicator}
use Rattle.plcells.specs.declared.cell.Cell.{Cell}
use Rattle.plcells.specs.Store.{IsValue, value}
use Rattle.plsearch.specs.Types.{Element}
use Rattle.plsearch.specs.Moves.{resolve}
use Rattle.plcode.specs.declared.clause.ClauseCode.{ClauseCode}
use Rattle.plcode.specs.Steps.{Text}
use Rattle.plcode.specs.Clauses.{IsCodeOf}
use Rattle.plenv.specs.Env.{Env, variable}
use Rattle.plstack.specs.declared.fit.Found.{Found}

-- the code of a clause for a name
pub record IsOwn (c : Text) (name : List ℕ) (k : ClauseCode) (x : Clause) : Type 0 where
  pub code : IsCodeOf c k x
  pub named : (indicator x.head).name ≡ name

abbrev pub AreOwn : Text → List ℕ → List ClauseCode → List Clause → Type 0
AreOwn c name [] [] = Unit {0}
AreOwn c name [] (x ∷ xs) = ⊥
AreOwn c name (k ∷ ks) [] = ⊥
AreOwn c name (k ∷ ks) (x ∷ xs) = IsOwn c name k x × AreOwn c name ks xs

-- a clause's head was unified with a goal, its variables new and in slots of their own
pub record Fitted (old new : Env) (t : Tree) (base : ℕ) (x : Clause) : Type 0 where
  pub unifier : ℕ → Tree
  pub is : unify t (shift old.count x.head) ≡ Some unifier
  pub values : (v : Cell) → IsValue old.heap v → IsValue new.heap v × (value new.heap v ≡ bind unifier (value old.heap v))
  pub variables : (i : ℕ) → i < length old.slots → variable new i ≡ bind unifier (variable old i)
  pub own : (n : ℕ) → n < x.variables → variable new (base + n) ≡ unifier (old.count + n)
  pub place : base ≡ length old.slots
  pub slots : length new.slots ≡ base + x.variables
  pub count : new.count ≡ old.count + x.variables

-- of some clauses, from a place on, the first one that fits
pub record Finds (old new : Env) (t : Tree) (xs : List Clause) (from : ℕ) (found : Found) : Type 0 where
  pub clause : Clause
  pub is : take 1 (drop found.place xs) ≡ clause ∷ []
  pub within : found.place < length xs
  pub fitted : Fitted old new t found.base clause
  pub before : (d : ℕ) (es : List Element) → filter_map (resolve d old.count t es) (drop from xs) ≡ filter_map (resolve d old.count t es) (drop found.place xs)

-- no clause fits from a place on
abbrev pub FindsNone : Env → Tree → List Clause → ℕ → Type 0
FindsNone old t xs from = (d : ℕ) (es : List Element) → filter_map (resolve d old.count t es) (drop from xs) ≡ []
