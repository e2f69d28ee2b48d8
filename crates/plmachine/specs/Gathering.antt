-- The list of what was collected, over the stack.
use Rattle.std.specs.Prelude.{◌≡◌, ℕ, ◌+◌, List, Some}
use Rattle.plterm.specs.Tree.{Tree}
use Rattle.plsubst.specs.Unify.{unify}
use Rattle.plread.specs.Texts.{listed}
use Rattle.plsearch.specs.Lists.{bind_goals}
use Rattle.plsearch.specs.Collecting.{count_new, renumbered}
use Rattle.pllinks.specs.declared.link.Continuation.{Continuation}
use Rattle.plstack.specs.Places.{Database}
use Rattle.plstack.specs.State.{State, cases_of, goals_of, IsList}

-- the most general unifier of a term and the list of copies was put into all lists, and the copies' variables are in use
pub record Gathers (old new : State) (l : Tree) (ts : List Tree) : Type 0 where
  pub unifier : ℕ → Tree
  pub is : unify l (listed (renumbered old.env.count ts)) ≡ Some unifier
  pub lists : (c : Continuation) → IsList old c → IsList new c × (goals_of new c ≡ bind_goals unifier (goals_of old c))
  pub cases : (db : Database) → cases_of db new ≡ cases_of db old
  pub frames : new.frames ≡ old.frames
  pub count : new.env.count ≡ old.env.count + count_new ts
  pub basis : new.basis ≡ old.basis
