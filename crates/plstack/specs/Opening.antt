-- Cases that are opened and closed.
use Rattle.std.specs.Prelude.{◌≡◌, ◌<◌, ℕ, List, [], ◌∷◌, ◌++◌}
use Rattle.plterm.specs.Tree.{Tree}
use Rattle.plcells.specs.declared.cell.Cell.{Cell}
use Rattle.plcells.specs.Store.{IsValue, value}
use Rattle.plsearch.specs.Types.{Resolvent, Handler, Catch, Gather, Undo, Case, Choice, Handle}
use Rattle.plsearch.specs.Rows.{branch}
use Rattle.plsearch.specs.Engine.{deeper}
use Rattle.pllinks.specs.declared.link.Continuation.{Continuation}
use Rattle.pllinks.specs.Links.{items_of}
use Rattle.plstack.specs.declared.frame.Handler.TheVariants as handlers
use Rattle.plstack.specs.declared.frame.Resume.{Resume}
use Rattle.plstack.specs.declared.frame.Resume.TheVariants as resumes
use Rattle.plstack.specs.declared.frame.Handling.{Handling}
use Rattle.plstack.specs.declared.frame.Around.{Around}
use Rattle.plstack.specs.declared.frame.Around.TheVariants as arounds
use Rattle.plstack.specs.declared.frame.Closed.{Closed}
use Rattle.plstack.specs.declared.frame.Closed.TheVariants as closings
use Rattle.plstack.specs.Places.{Database, handled, case_of, plain, walk_of}
use Rattle.plstack.specs.Frames.{IsHandled}
use Rattle.plstack.specs.State.{State, goals_in, goals_of, place_at, cases_of, walks_in, IsFit, IsList, Guards, HasClauses, HasWalk, HasBranch, HasAnswers, HasCatcher, HasGatherer, HasUndo}

-- values and lists stand for what they did, whatever cases are open
pub record KeepsValues (old new : State) : Type 0 where
  pub values : (v : Cell) → IsValue old.env.heap v → IsValue new.env.heap v × (value new.env.heap v ≡ value old.env.heap v)
  pub lists : (l : Continuation) → IsList old l → IsList new l × (goals_of new l ≡ goals_of old l)
  pub count : new.env.count ≡ old.env.count

-- and what the cases rest on stays
pub record Keeps (old new : State) : Type 0 where
  pub values : (v : Cell) → IsValue old.env.heap v → IsValue new.env.heap v × (value new.env.heap v ≡ value old.env.heap v)
  pub lists : (l : Continuation) → IsList old l → IsList new l × (goals_of new l ≡ goals_of old l)
  pub count : new.env.count ≡ old.env.count
  pub basis : new.basis ≡ old.basis

-- a choice of one list
abbrev pub branch_of : State → Continuation → Case
branch_of s l = branch (goals_of s l) s.env.count

-- where a transaction or a snapshot ends without success, and the list behind its goal
abbrev pub undo_of : State → Continuation → Case
undo_of s l = Handle Undo (place_at s l)

-- what a handler of a ball or of what was kept stands for
abbrev pub handler_of : State → Handling → Case
handler_of s h = Handle (handled s.env.heap h.handler) (place_at s h.list)

pub record IsHandling (s : State) (h : Handling) : Type 0 where
  pub guards : Guards h.handler
  pub handler : IsHandled s.env.heap h.handler
  pub list : IsList s h.list
  pub fits : IsFit s h.list

-- the cases that a goal with a cut level of its own runs in
abbrev pub around_cases : State → Around → List Case
around_cases s arounds.Nothing = []
around_cases s (arounds.Branch l) = branch_of s l ∷ []
around_cases s (arounds.Handle h) = handler_of s h ∷ []

abbrev pub IsAround : State → Around → Type 0
IsAround s arounds.Nothing = Unit {0}
IsAround s (arounds.Branch l) = IsList s l × IsFit s l
IsAround s (arounds.Handle h) = IsHandling s h

-- the case that comes back to a list, and all else as it was
pub record OpensFrame (old new : State) (l : Continuation) (r : Resume) : Type 0 where
  pub cases : (db : Database) → cases_of db new ≡ case_of db (goals_in new) (deeper (cases_of db old) 0) new.env (items_of new.links l) [] r ∷ cases_of db old
  pub keeps : Keeps old new
  pub walks : walks_in new ≡ walk_of r ++ walks_in old
  pub goals : new.goals ≡ old.goals

-- and in it a choice with nothing left
pub record OpensIn (old new : State) (l : Continuation) (r : Resume) : Type 0 where
  pub cases : (db : Database) → cases_of db new ≡ Choice [] ∷ case_of db (goals_in new) (deeper (cases_of db old) 0) new.env (items_of new.links l) [] r ∷ cases_of db old
  pub keeps : Keeps old new
  pub walks : walks_in new ≡ walk_of r ++ walks_in old
  pub goals : new.goals ≡ old.goals

-- what is closed with a case that does this
abbrev pub closing : Resume → Closed
closing (resumes.Clauses c) = closings.Choice
closing (resumes.Walk w) = closings.Choice
closing (resumes.Answers a) = closings.Choice
closing resumes.List = closings.Choice
closing (resumes.Handle (handlers.Catch c)) = closings.Handler
closing (resumes.Handle (handlers.Gather v)) = closings.Handler
closing (resumes.Handle handlers.Undo) = closings.Transaction

-- the innermost case was closed
abbrev pub ClosedAs : Database → State → State → Closed → Type 0
ClosedAs db old new closings.Choice = (ps : List Resolvent) × (cases_of db old ≡ Choice ps ∷ cases_of db new) × ((HasClauses old → ⊥) → (HasWalk old → ⊥) → (HasBranch old → ⊥) → (HasAnswers old → ⊥) → ps ≡ [])
ClosedAs db old new closings.Handler = (h : Handler) × (p : Resolvent) × (cases_of db old ≡ Handle h p ∷ cases_of db new) × ((c r : Tree) → h ≡ Catch c r → (HasCatcher old → ⊥) → ⊥) × ((l : Tree) → h ≡ Gather l → (HasGatherer old → ⊥) → ⊥) × (h ≡ Undo → ⊥)
ClosedAs db old new closings.Transaction = (p : Resolvent) × (cases_of db old ≡ Handle Undo p ∷ cases_of db new) × HasUndo old

-- so many choices with nothing left were closed, the innermost cases
pub record ClosesPlain (old new : State) : Type 0 where
  pub count : ℕ
  pub some : 0 < count
  pub was : (db : Database) → cases_of db old ≡ plain count (cases_of db new)
