-- Calls of predicates of several answers, which are taken one at a time.
use Rattle.std.specs.Prelude.{◌≡◌, ℕ, List, [], ◌∷◌, ◌++◌, reverse, Option, Some, None, IfSome}
use Rattle.plcells.specs.declared.cell.Cell.{Cell}
use Rattle.plbuiltin.specs.Solution.{Solution}
use Rattle.plsearch.specs.Types.{Element, Resolvent, Choice}
use Rattle.plsearch.specs.Lists.{bind_goals}
use Rattle.plgenerator.specs.declared.turn.Remaining.{Remaining}
use Rattle.plgenerator.specs.Answers.{IsRemaining}
use Rattle.plenv.specs.Env.{Env, IsEnv}
use Rattle.plenv.specs.Changes.{Stays}
use Rattle.plenv.specs.Solving.{Solves}
use Rattle.pllinks.specs.declared.link.Continuation.{Continuation}
use Rattle.plstack.specs.declared.frame.Point.{Point}
use Rattle.plstack.specs.declared.frame.Resume.TheVariants as resumes
use Rattle.plstack.specs.declared.frame.Frame.{Frame}
use Rattle.plstack.specs.declared.frame.Frame.TheVariants.{Open}
use Rattle.plstack.specs.Places.{Database, answers_left}
use Rattle.plstack.specs.State.{State, goals_of, place_of, cases_of, CountsUp}

abbrev pub answers_if : Env → List Cell → List Element → Option Remaining → List Resolvent
answers_if e vs rest None = []
answers_if e vs rest (Some turn) = answers_left e vs rest turn

-- the most general unifier of a solution's sides was put into each value and slot, and its new variables are in use
abbrev pub IsSolved : Env → Env → Solution → Type 0
IsSolved old new s = Solves old new s.left s.right s.new

-- the first answer that is left and fits: what was put for variables is in each value and slot, and it is before the answers behind it
pub record TakesAnswer (old new : Env) (vs : List Cell) (turn : Remaining) (rest : Option Remaining) : Type 0 where
  pub before : Env
  pub solution : Solution
  pub stays : Stays old before
  pub env : IsEnv before
  pub solves : IsSolved before new solution
  pub turns : IfSome rest (IsRemaining old.heap vs)
  pub places : (es : List Element) → answers_left old vs es turn ≡ record { goals = bind_goals solves.unifier es; variables = new.count } ∷ answers_if old vs es rest

-- none of the answers that are left fits, and all stands for what it did
pub record TakesNone (old new : Env) (vs : List Cell) (turn : Remaining) : Type 0 where
  pub none : (es : List Element) → answers_left old vs es turn ≡ []
  pub stays : Stays old new

-- the case of the answers of a turn that are left, or one more choice with nothing left
abbrev pub PushesAnswers : Point → ℕ → Option Remaining → List Frame → List Frame → Type 0
PushesAnswers p count (Some turn) old new = new ≡ old ++ Open p (resumes.Answers (record { count = count; turn = turn })) ∷ []
PushesAnswers p count None old new = CountsUp 1 (reverse old) (reverse new)

-- a call visits the list of its first answer, in a choice of the others
pub record Answered (db : Database) (old new : State) (vs : List Cell) (list : Continuation) (turn : Remaining) : Type 0 where
  pub others : List Resolvent
  pub places : answers_left old.env vs (goals_of old list) turn ≡ place_of new ∷ others
  pub cases : cases_of db new ≡ Choice others ∷ cases_of db old

-- it has no answer that fits, and the cases are as they were
pub record Unanswered (db : Database) (old new : State) (vs : List Cell) (list : Continuation) (turn : Remaining) : Type 0 where
  pub none : answers_left old.env vs (goals_of old list) turn ≡ []
  pub cases : cases_of db new ≡ cases_of db old
