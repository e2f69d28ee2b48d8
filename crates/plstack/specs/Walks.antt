-- A walk over the clauses of a procedure, and what becomes of it.
use Rattle.std.specs.Prelude.{◌≡◌, ℕ, List, [], ◌∷◌, ◌++◌, filter_map, Option, None, Some}
use Rattle.plterm.specs.Tree.{Tree}
use Rattle.plclause.specs.Clause.{Clause}
use Rattle.plcells.specs.declared.cell.Cell.{Cell}
use Rattle.plcells.specs.Store.{IsValue, value}
use Rattle.plsearch.specs.Types.{Element, Resolvent, Case, Choice}
use Rattle.plsearch.specs.Moves.{resolve}
use Rattle.plsearch.specs.Engine.{deeper}
use Rattle.plenv.specs.Env.{cut}
use Rattle.pllinks.specs.declared.link.Continuation.{Continuation}
use Rattle.pllinks.specs.Lists.{all_elements}
use Rattle.pllinks.specs.Links.{items_of}
use Rattle.plstack.specs.declared.walk.Candidate.{Candidate}
use Rattle.plstack.specs.declared.frame.Point.{Point}
use Rattle.plstack.specs.declared.frame.Walk.{Walk}
use Rattle.plstack.specs.declared.frame.Spot.{Spot}
use Rattle.plstack.specs.declared.frame.Resume.TheVariants as resumes
use Rattle.plstack.specs.declared.frame.Frame.{Frame}
use Rattle.plstack.specs.declared.frame.Frame.TheVariants.{Open}
use Rattle.plstack.specs.Places.{Database, tried, candidates_left, left_at, left_if, viewed}
use Rattle.plstack.specs.State.{State, goals_in, goals_of, place_of, cases_of, walks_in, IsList}
use Rattle.plstack.specs.Calls.{Goes}

-- the innermost case is this walk
pub record IsWalking (s : State) (p : Point) (w : Walk) : Type 0 where
  pub rest : List Frame
  pub top : s.frames ≡ rest ++ Open p (resumes.Walk w) ∷ []

-- and all is as it was at its opening
pub record AtWalk (s : State) (p : Point) (w : Walk) : Type 0 where
  pub walking : IsWalking s p w
  pub now : cut p.marks.env s.env ≡ s.env
  pub list : IsList s p.list
  pub goal : IsValue s.env.heap w.goal

-- a walk is opened before a list
pub record OpensWalk (old new : State) (w : Walk) (rest : Continuation) : Type 0 where
  pub cases : (db : Database) → cases_of db new ≡ Choice (candidates_left (deeper (cases_of db old) 0) old.env (value old.env.heap w.goal) (goals_of old rest) (left_at db w.uses (value old.env.heap w.goal) w.spot)) ∷ cases_of db old
  pub basis : new.basis ≡ old.basis
  pub walks : walks_in new ≡ viewed w w.spot ++ walks_in old

-- the goal of a walk, as it was at its opening
abbrev pub goal_at : State → Point → Walk → Tree
goal_at s p w = value (cut p.marks.env s.env).heap w.goal

-- what it has left by some candidates, as a case of the level d
abbrev pub walk_left : State → ℕ → Point → Walk → List Candidate → List Resolvent
walk_left s d p w xs = candidates_left d (cut p.marks.env s.env) (goal_at s p w) (all_elements (goals_in s) (cut p.marks.env s.env) (items_of s.links p.list)) xs

-- the innermost case, a walk, stands at another spot, or nothing is left of it
pub record GoesOn (db : Database) (old new : State) (p : Point) (w : Walk) (next : Option Spot) : Type 0 where
  pub below : List Case
  pub was : cases_of db old ≡ Choice (walk_left old (deeper below 0) p w (left_at db w.uses (goal_at old p w) w.spot)) ∷ below
  pub cases : cases_of db new ≡ Choice (walk_left old (deeper below 0) p w (left_if db w.uses (goal_at old p w) next)) ∷ below

-- a walk at another spot, if it goes on in a view there
abbrev pub walk_at : Walk → Option Spot → List Walk
walk_at w None = []
walk_at w (Some x) = viewed (record { goal = w.goal; uses = w.uses; spot = x }) x

-- the innermost walk stands at another spot, or has ended, and the others are as they were
pub record Moves (old new : State) (w : Walk) (next : Option Spot) : Type 0 where
  pub more : List Walk
  pub was : walks_in old ≡ viewed w w.spot ++ more
  pub walks : walks_in new ≡ walk_at w next ++ more

-- for the goal t the next candidate of a walk is x, and behind it there is what is left at a spot, or nothing
abbrev pub Finds : Database → Walk → Tree → Candidate → Option Spot → Type 0
Finds db w t x rest = (d n : ℕ) (es : List Element) → filter_map (tried d n t es) (left_at db w.uses t w.spot) ≡ filter_map (tried d n t es) (x ∷ left_if db w.uses t rest)

-- a goal before a list, at a level, fits a clause: its place is visited
pub record FitsCall (old new : State) (d : ℕ) (goal : Cell) (rest : Continuation) (x : Clause) : Type 0 where
  pub place : resolve d old.env.count (value old.env.heap goal) (goals_of old rest) x ≡ Some (place_of new)
  pub there : IsList new new.goals
  pub goes : Goes old new

-- the innermost case is still this walk, and what is left of it is what was
pub record LeftSame (old new : State) (p : Point) (w : Walk) : Type 0 where
  pub walking : IsWalking new p w
  pub left : (d : ℕ) (xs : Tree → List Candidate) → walk_left new d p w (xs (goal_at new p w)) ≡ walk_left old d p w (xs (goal_at old p w))

-- the innermost case is a choice with nothing left
pub record EndsPlain (db : Database) (s : State) : Type 0 where
  pub below : List Case
  pub cases : cases_of db s ≡ Choice [] ∷ below
