-- A stack's state, and what it stands for.
use Rattle.std.specs.Prelude.{◌≡◌, ℕ, ◌+◌, List, [], ◌∷◌, ◌++◌, drop, reverse, Option, Some}
use Rattle.plterm.specs.Tree.{Tree}
use Rattle.plsubst.specs.Subst.{bind}
use Rattle.plsubst.specs.Unify.{unify}
use Rattle.platoms.specs.Names.{Table, Extends as ExtendsNames}
use Rattle.plevent.specs.declared.update.ClauseName.{ClauseName}
use Rattle.plcells.specs.declared.cell.Cell.{Cell}
use Rattle.plcells.specs.declared.equation.Equation.{Equation}
use Rattle.plcells.specs.Store.{IsValue, value}
use Rattle.plcells.specs.Equations.{left_of, right_of}
use Rattle.plsearch.specs.Types.{Element, Resolvent, Case, Choice, Handle}
use Rattle.plsearch.specs.Lists.{bind_goals}
use Rattle.plcode.specs.Steps.{goals_from}
use Rattle.plviews.specs.declared.view.View.{View}
use Rattle.plenv.specs.Env.{Env, IsEnv, renamed as renamed_env}
use Rattle.pllinks.specs.declared.link.Link.{Link}
use Rattle.pllinks.specs.declared.link.Continuation.{Continuation}
use Rattle.pllinks.specs.Lists.{Goals}
use Rattle.pllinks.specs.Links.{alone, goals_of as list_goals, IsList as IsListIn, IsChain}
use Rattle.plstack.specs.Basis.{Basis, begun}
use Rattle.plstack.specs.declared.frame.Handler.{Handler}
use Rattle.plstack.specs.declared.frame.Handler.TheVariants as handlers
use Rattle.plstack.specs.declared.frame.Marks.{Marks}
use Rattle.plstack.specs.declared.frame.Walk.{Walk}
use Rattle.plstack.specs.declared.frame.Resume.TheVariants as resumes
use Rattle.plstack.specs.declared.frame.Frame.{Frame}
use Rattle.plstack.specs.declared.frame.Frame.TheVariants.{Open, Plain}
use Rattle.plstack.specs.Places.{Database, place_asked, handled, plain, cases, depth_of, walks_of}
use Rattle.plstack.specs.Levels.{Sort, choices, kinds_of, FitsIn, EmptyOrFits}
use Rattle.plstack.specs.Frames.{AreOlder, AreSeen, IsHandled, AreFrames}

-- what the cases rest on; the environment; the links; the values that open cases keep; the frames, the newest last; and the list that is
-- visited
pub record State : Type 0 where
  pub basis : Basis
  pub env : Env
  pub links : List Link
  pub saved : List Cell
  pub frames : List Frame
  pub goals : Continuation

-- the same, where a walk may go on in a view
abbrev pub seeing : View → State → State
seeing v s = record s { basis = record { code = s.basis.code; latest = v; starts = s.basis.starts } }

-- the same, where a transaction or a snapshot has begun in a view, and no goals are visited
abbrev pub beginning : View → State → State
beginning v s = record s { basis = begun v s.basis; goals = alone 0 }

-- the same, with other names
abbrev pub renamed : State → Table → State
renamed s t = record s { env = renamed_env s.env t }

-- the goals from a position of the code on
abbrev pub goals_in : State → Goals
goals_in s = goals_from s.basis.code.text

-- the goals of a list
abbrev pub goals_of : State → Continuation → List Element
goals_of s l = list_goals (goals_in s) s.env s.links l

-- a list as a place
abbrev pub place_at : State → Continuation → Resolvent
place_at s l = record { goals = goals_of s l; variables = s.env.count }

abbrev pub place_of : State → Resolvent
place_of s = place_at s s.goals

-- the open cases, the innermost first
unfoldable pub cases_of : Database → State → List Case
cases_of db s = cases db (goals_in s) s.env s.links s.saved (reverse s.frames)

-- how many there are
abbrev pub depth_in : State → ℕ
depth_in s = depth_of (reverse s.frames)

-- the walks that go on in a view, among the open cases, the innermost first
abbrev pub walks_in : State → List Walk
walks_in s = walks_of (reverse s.frames)

-- the innermost of them, so many or none, have ended
abbrev pub EndsWalks : State → State → Type 0
EndsWalks old new = (ended : List Walk) × (walks_in old ≡ ended ++ walks_in new)

-- a list that is there, with its slots and values
abbrev pub IsList : State → Continuation → Type 0
IsList s l = IsListIn (goals_in s) s.env s.links l

-- what the cases are, the innermost first
abbrev pub kinds_in : State → List Sort
kinds_in s = kinds_of (reverse s.frames)

-- a list that fits in the open cases
abbrev pub IsFit : State → Continuation → Type 0
IsFit s l = FitsIn (kinds_in s) (goals_of s l)

-- a list of no goals, or one that fits
abbrev pub IsEmptyOrFit : State → Continuation → Type 0
IsEmptyOrFit s l = EmptyOrFits (kinds_in s) (goals_of s l)

-- what the walks among the open cases see
abbrev pub WalksSee : Basis → List Frame → Type 0
WalksSee b frames = AreSeen (reverse b.starts) b.latest (reverse frames)

pub record IsState (s : State) : Type 0 where
  pub env : IsEnv s.env
  pub names : ExtendsNames s.basis.code.text.names s.env.heap.names
  pub none : goals_in s 0 0 ≡ []
  pub chain : IsChain s.links
  pub frames : AreFrames (goals_in s) s.env s.links s.saved (reverse s.frames)
  pub seen : WalksSee s.basis s.frames
  pub goals : IsList s s.goals
  pub fits : IsEmptyOrFit s s.goals

-- what a stack keeps, with how many cases are open
abbrev pub IsStack : State → ℕ → Type 0
IsStack s depth = IsState s × (depth ≡ depth_of (reverse s.frames))

-- the cases, the lists and the values stay, and there may be more of them
pub record Extends (old new : State) : Type 0 where
  pub basis : new.basis ≡ old.basis
  pub frames : new.frames ≡ old.frames
  pub goals : new.goals ≡ old.goals
  pub visited : goals_of new new.goals ≡ goals_of old old.goals
  pub cases : (db : Database) → cases_of db new ≡ cases_of db old
  pub lists : (l : Continuation) → IsList old l → IsList new l × (goals_of new l ≡ goals_of old l)
  pub values : (v : Cell) → IsValue old.env.heap v → IsValue new.env.heap v × (value new.env.heap v ≡ value old.env.heap v)

-- a list for these goals, and all else as it was
pub record AddsList (old new : State) (l : Continuation) (es : List Element) : Type 0 where
  pub there : IsList new l
  pub is : goals_of new l ≡ es
  pub stays : Extends old new
  pub env : new.env ≡ old.env
  pub saved : new.saved ≡ old.saved

-- more cases, and all else as it was
pub record Opens (old new : State) (more : List Case) : Type 0 where
  pub cases : (db : Database) → cases_of db new ≡ more ++ cases_of db old
  pub values : (v : Cell) → IsValue old.env.heap v → IsValue new.env.heap v × (value new.env.heap v ≡ value old.env.heap v)
  pub lists : (l : Continuation) → IsList old l → IsList new l × (goals_of new l ≡ goals_of old l)
  pub count : new.env.count ≡ old.env.count
  pub basis : new.basis ≡ old.basis
  pub walks : walks_in new ≡ walks_in old
  pub goals : new.goals ≡ old.goals

-- the most general unifier of two terms was put into all values and lists
pub record UnifiesTerms (old new : State) (t u : Tree) : Type 0 where
  pub unifier : ℕ → Tree
  pub is : unify t u ≡ Some unifier
  pub values : (v : Cell) → IsValue old.env.heap v → IsValue new.env.heap v × (value new.env.heap v ≡ bind unifier (value old.env.heap v))
  pub lists : (l : Continuation) → IsList old l → IsList new l × (goals_of new l ≡ bind_goals unifier (goals_of old l))
  pub cases : (db : Database) → cases_of db new ≡ cases_of db old
  pub frames : new.frames ≡ old.frames
  pub count : new.env.count ≡ old.env.count
  pub basis : new.basis ≡ old.basis
  pub goals : new.goals ≡ old.goals

-- that of two values was
abbrev pub Unifies : State → State → Cell → Cell → Type 0
Unifies old new a b = UnifiesTerms old new (value old.env.heap a) (value old.env.heap b)

-- the most general unifier of an equation's terms was put into all values and lists, and its new variables are in use
pub record Solves (old new : State) (e : Equation) : Type 0 where
  pub unifier : ℕ → Tree
  pub is : unify (left_of old.env.heap old.env.count e) (right_of old.env.heap old.env.count e) ≡ Some unifier
  pub lists : (l : Continuation) → IsList old l → IsList new l × (goals_of new l ≡ bind_goals unifier (goals_of old l))
  pub cases : (db : Database) → cases_of db new ≡ cases_of db old
  pub frames : new.frames ≡ old.frames
  pub count : new.env.count ≡ old.env.count + e.new
  pub basis : new.basis ≡ old.basis

-- so many more choices with nothing left, whatever the others are
pub record CountsUp (n : ℕ) (old new : List Frame) : Type 0 where
  pub cases : (db : Database) (code : Goals) (e : Env) (links : List Link) (saved : List Cell) → cases db code e links saved new ≡ plain n (cases db code e links saved old)
  pub frames : (code : Goals) (e : Env) (links : List Link) (saved : List Cell) → AreFrames code e links saved old → AreFrames code e links saved new
  pub older : (m : Marks) → AreOlder m old → AreOlder m new
  pub depth : depth_of new ≡ depth_of old + n
  pub kinds : kinds_of new ≡ choices n (kinds_of old)
  pub seen : (starts : List ℕ) (latest : View) → AreSeen starts latest old → AreSeen starts latest new
  pub walks : walks_of new ≡ walks_of old

-- what a handler is for: a ball; what was kept; one of the two; or the end of a transaction or a snapshot without success
abbrev pub Catches : Handler → Type 0
Catches (handlers.Catch c) = Unit {0}
Catches (handlers.Gather v) = ⊥
Catches handlers.Undo = ⊥

abbrev pub Gathers : Handler → Type 0
Gathers (handlers.Catch c) = ⊥
Gathers (handlers.Gather v) = Unit {0}
Gathers handlers.Undo = ⊥

abbrev pub Guards : Handler → Type 0
Guards (handlers.Catch c) = Unit {0}
Guards (handlers.Gather v) = Unit {0}
Guards handlers.Undo = ⊥

abbrev pub Undoes : Handler → Type 0
Undoes (handlers.Catch c) = ⊥
Undoes (handlers.Gather v) = ⊥
Undoes handlers.Undo = Unit {0}

-- what the innermost case is: a choice of the further clauses of a static procedure, of those of a walk, of the further answers of a
-- predicate, or of a list, a choice with nothing left, a handler, of a ball or of what was kept, or Undo
abbrev pub IsClauses : Frame → Type 0
IsClauses (Open p (resumes.Clauses c)) = Unit {0}
IsClauses f = ⊥

abbrev pub IsWalk : Frame → Type 0
IsWalk (Open p (resumes.Walk w)) = Unit {0}
IsWalk f = ⊥

abbrev pub IsAnswers : Frame → Type 0
IsAnswers (Open p (resumes.Answers a)) = Unit {0}
IsAnswers f = ⊥

abbrev pub IsBranch : Frame → Type 0
IsBranch (Open p resumes.List) = Unit {0}
IsBranch f = ⊥

abbrev pub IsPlain : Frame → Type 0
IsPlain (Plain n) = Unit {0}
IsPlain f = ⊥

abbrev pub IsHandler : Frame → Type 0
IsHandler (Open p (resumes.Handle x)) = Guards x
IsHandler f = ⊥

abbrev pub IsUndo : Frame → Type 0
IsUndo (Open p (resumes.Handle x)) = Undoes x
IsUndo f = ⊥

abbrev pub IsCatcher : Frame → Type 0
IsCatcher (Open p (resumes.Handle x)) = Catches x
IsCatcher f = ⊥

abbrev pub IsGatherer : Frame → Type 0
IsGatherer (Open p (resumes.Handle x)) = Gathers x
IsGatherer f = ⊥

abbrev pub BeginsWith : (Frame → Type 0) → List Frame → Type 0
BeginsWith Is [] = ⊥
BeginsWith Is (f ∷ fs) = Is f

abbrev pub HasClauses : State → Type 0
HasClauses s = BeginsWith IsClauses (reverse s.frames)

abbrev pub HasWalk : State → Type 0
HasWalk s = BeginsWith IsWalk (reverse s.frames)

abbrev pub HasAnswers : State → Type 0
HasAnswers s = BeginsWith IsAnswers (reverse s.frames)

abbrev pub HasBranch : State → Type 0
HasBranch s = BeginsWith IsBranch (reverse s.frames)

abbrev pub HasPlain : State → Type 0
HasPlain s = BeginsWith IsPlain (reverse s.frames)

abbrev pub HasHandler : State → Type 0
HasHandler s = BeginsWith IsHandler (reverse s.frames)

abbrev pub HasUndo : State → Type 0
HasUndo s = BeginsWith IsUndo (reverse s.frames)

abbrev pub HasCatcher : State → Type 0
HasCatcher s = BeginsWith IsCatcher (reverse s.frames)

abbrev pub HasGatherer : State → Type 0
HasGatherer s = BeginsWith IsGatherer (reverse s.frames)

-- the next place of the innermost choice is visited
pub record Retries (db : Database) (old new : State) : Type 0 where
  pub others : List Resolvent
  pub older : List Case
  pub was : cases_of db old ≡ Choice (place_of new ∷ others) ∷ older
  pub cases : cases_of db new ≡ Choice others ∷ older

-- the next place of the innermost choice is the visited list, before which this clause is to be erased
pub record RetriesBy (db : Database) (old new : State) (erased : Option ClauseName) : Type 0 where
  pub others : List Resolvent
  pub older : List Case
  pub was : cases_of db old ≡ Choice (place_asked erased (place_of new) ∷ others) ∷ older
  pub cases : cases_of db new ≡ Choice others ∷ older

-- the innermost case is this handler, of a ball or of what was kept, and all is as it was at its opening
pub record AtHandler (s : State) (x : Handler) (list : Continuation) : Type 0 where
  pub below : Database → List Case
  pub cases : (db : Database) → cases_of db s ≡ Handle (handled s.env.heap x) (place_at s list) ∷ below db
  pub guards : Guards x
  pub there : IsHandled s.env.heap x
  pub list_there : IsList s list
  pub list_fits : FitsIn (drop 1 (kinds_in s)) (goals_of s list)
  pub has : HasHandler s

-- the innermost case was a handler of a ball or of what was kept, and a list is visited in a choice with nothing left in its place
pub record Recovers (old new : State) (list : Continuation) : Type 0 where
  pub cases : (db : Database) (h : Case) (below : List Case) → cases_of db old ≡ h ∷ below → cases_of db new ≡ Choice [] ∷ below
  pub place : place_of new ≡ place_at old list

-- the innermost case was a handler of a ball or of what was kept, and is closed, and a list is visited
pub record Leaves (old new : State) (list : Continuation) : Type 0 where
  pub cases : (db : Database) (h : Case) (below : List Case) → cases_of db old ≡ h ∷ below → cases_of db new ≡ below
  pub place : place_of new ≡ place_at old list
