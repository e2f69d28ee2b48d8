-- What a call makes of a stack.
use Rattle.std.specs.Prelude.{◌≡◌, List, [], ◌∷◌, ◌++◌}
use Rattle.plterm.specs.Tree.{Tree}
use Rattle.plclause.specs.Clause.{Clause}
use Rattle.plsearch.specs.Types.{Resolvent, Choice}
use Rattle.plsearch.specs.Engine.{deeper}
use Rattle.plenv.specs.Env.{IsEnv}
use Rattle.plenv.specs.Changes.{Keeps as KeepsEnv}
use Rattle.pllinks.specs.declared.link.Link.{Link}
use Rattle.pllinks.specs.declared.link.Continuation.{Continuation}
use Rattle.pllinks.specs.Links.{IsChain}
use Rattle.plstack.specs.Places.{Database, places_left}
use Rattle.plstack.specs.State.{State, goals_of, place_of, cases_of}

-- more links, and an environment that keeps each mark
pub record Goes (old new : State) : Type 0 where
  pub keeps : KeepsEnv old.env new.env
  pub env : IsEnv new.env
  pub more : List Link
  pub links : new.links ≡ old.links ++ more
  pub chain : IsChain new.links

-- what a call of a goal has, before a list, by some clauses, as a case of the level of a new one
abbrev pub places_of : Database → State → Tree → Continuation → List Clause → List Resolvent
places_of db s t rest cs = places_left (deeper (cases_of db s) 0) s.env t (goals_of s rest) cs

-- a call visits its first place, in a choice of the others
pub record Calls (db : Database) (old new : State) (t : Tree) (rest : Continuation) (cs : List Clause) : Type 0 where
  pub others : List Resolvent
  pub places : places_of db old t rest cs ≡ place_of new ∷ others
  pub cases : cases_of db new ≡ Choice others ∷ cases_of db old

-- it has no place, and the cases are as they were
pub record CallsNone (db : Database) (old new : State) (t : Tree) (rest : Continuation) (cs : List Clause) : Type 0 where
  pub none : places_of db old t rest cs ≡ []
  pub cases : cases_of db new ≡ cases_of db old

-- the cases and the visited place stay
pub record StaysAt (old new : State) : Type 0 where
  pub cases : (db : Database) → cases_of db new ≡ cases_of db old
  pub place : place_of new ≡ place_of old
