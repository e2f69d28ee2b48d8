-- What open cases stand for.
use Rattle.std.specs.Prelude.{◌≡◌, ℕ, zero, suc, ◌+◌, List, [], ◌∷◌, ◌++◌, map, take, drop, filter_map, Option, Some, None, option_map}
use Rattle.plterm.specs.Tree.{Tree, var, int, atom, compound, Trees, none, more, trees}
use Rattle.plterm.specs.declared.indicator.Indicator.{Indicator}
use Rattle.plclause.specs.Clause.{Clause}
use Rattle.plclause.specs.Indicators.{indicator}
use Rattle.plevent.specs.declared.update.ClauseName.{ClauseName}
use Rattle.plevent.specs.declared.update.Living.{Living}
use Rattle.plevent.specs.declared.update.Update.{Update}
use Rattle.plevent.specs.Alive.{lives_as}
use Rattle.plstore.specs.Looking.{Views, clause_alive}
use Rattle.plviews.specs.declared.view.View.{View}
use Rattle.plviews.specs.declared.lookup.Reach.{Reach}
use Rattle.plviews.specs.Views.{Sight, sight, whole}
use Rattle.plviews.specs.Lookups.{rest_at}
use Rattle.plcells.specs.declared.cell.Cell.{Cell}
use Rattle.plcells.specs.Store.{Store, value}
use Rattle.plsearch.specs.Types.{Asking, Element, Erase, Resolvent, Handler, Catch, Gather, Undo, Case, Choice, Handle}
use Rattle.plsearch.specs.Moves.{resolve}
use Rattle.plsearch.specs.Lookups.{as_fact}
use Rattle.plsearch.specs.Rows.{solved}
use Rattle.plgenerator.specs.declared.turn.Remaining.{Remaining}
use Rattle.plgenerator.specs.Answers.{left}
use Rattle.plsearch.specs.Engine.{deeper}
use Rattle.plenv.specs.Env.{Env, cut}
use Rattle.pllinks.specs.declared.item.Portion.{Portion}
use Rattle.pllinks.specs.declared.link.Link.{Link}
use Rattle.pllinks.specs.Lists.{Goals, all_elements}
use Rattle.pllinks.specs.Links.{items_of}
use Rattle.plstack.specs.declared.frame.Point.{Point}
use Rattle.plstack.specs.declared.walk.Candidate.{Candidate}
use Rattle.plstack.specs.declared.frame.Use.{Use}
use Rattle.plstack.specs.declared.frame.Use.TheVariants as uses
use Rattle.plstack.specs.declared.frame.Ahead.{Ahead}
use Rattle.plstack.specs.declared.frame.Spot.{Spot}
use Rattle.plstack.specs.declared.frame.Spot.TheVariants as spots
use Rattle.plstack.specs.declared.frame.Handler.{Handler as Handles}
use Rattle.plstack.specs.declared.frame.Handler.TheVariants as handlers
use Rattle.plstack.specs.declared.frame.Walk.{Walk}
use Rattle.plstack.specs.declared.frame.Resume.{Resume}
use Rattle.plstack.specs.declared.frame.Resume.TheVariants as resumes
use Rattle.plstack.specs.declared.frame.Frame.{Frame}
use Rattle.plstack.specs.declared.frame.Frame.TheVariants.{Plain, Open}

-- a procedure of the program's text: its name, and its clauses
pub record Static : Type 0 where
  pub name : List ℕ
  pub clauses : List Clause

-- where clauses are found: the procedures of the program's text, by their places and by their names; the views; and the own updates of open
-- transactions
pub record Database : Type 0 where
  pub statics : ℕ → Static
  pub text : Indicator → List Clause
  pub views : Views
  pub own : List Update

-- own updates that are the same as far as a view shows them
abbrev pub IsOwnSoFar : View → Database → List Update → Type 0
IsOwnSoFar v db own = take v.count own ≡ take v.count db.own

-- the place of a list, by its items
abbrev pub place_of_items : Goals → Env → List Portion → Resolvent
place_of_items code e xs = record { goals = all_elements code e xs; variables = e.count }

-- a goal by its name, and the values of its arguments
abbrev pub called : Store → List ℕ → List Cell → Tree
called h name [] = atom name
called h name (v ∷ vs) = compound name (trees (map (value h) (v ∷ vs)))

-- what is left of a call at the level d: of a goal, before a list, by some clauses
abbrev pub places_left : ℕ → Env → Tree → List Element → List Clause → List Resolvent
places_left d e t rest cs = filter_map (resolve d e.count t rest) cs

-- a list before which a clause is to be erased, if there is one
abbrev pub first_asked : Option ClauseName → List Element → List Element
first_asked None es = es
first_asked (Some x) es = Asking (Erase x) ∷ es

abbrev pub place_asked : Option ClauseName → Resolvent → Resolvent
place_asked x p = record { goals = first_asked x p.goals; variables = p.variables }

-- a clause, by what is done with it
abbrev pub clause_by : Use → Clause → Clause
clause_by uses.Call c = c
clause_by uses.Tell c = as_fact c
clause_by uses.Erase c = as_fact c

-- the goal t resolved against a candidate, at the level d, where n variables are in use
abbrev pub tried : ℕ → ℕ → Tree → List Element → Candidate → Option Resolvent
tried d n t rest x = option_map (place_asked x.erased) (resolve d n t rest (clause_by x.uses x.clause))

-- what is left of a call at the level d: of a goal, before a list, by some candidates
abbrev pub candidates_left : ℕ → Env → Tree → List Element → List Candidate → List Resolvent
candidates_left d e t rest xs = filter_map (tried d e.count t rest) xs

abbrev pub erased_by : Use → ClauseName → Option ClauseName
erased_by uses.Call x = None
erased_by uses.Tell x = None
erased_by uses.Erase x = Some x

-- a clause of the program's text, and one that is alive, as candidates
abbrev pub text_candidate : Use → Clause → Candidate
text_candidate u c = record { clause = c; uses = u; erased = None }

abbrev pub candidate_of : Use → Living → Candidate
candidate_of u x = record { clause = x.clause; uses = u; erased = erased_by u x.name }

-- the head for which clauses are looked up: the goal, or the head of the clause that is asked for
abbrev pub first_or : Tree → Trees → Tree
first_or t none = t
first_or t (more h ts) = h

abbrev pub head_told : Tree → Tree
head_told (var x) = var x
head_told (int i) = int i
head_told (atom f) = atom f
head_told (compound f ts) = first_or (compound f ts) ts

abbrev pub head_in : Use → Tree → Tree
head_in uses.Call t = t
head_in uses.Tell t = head_told t
head_in uses.Erase t = head_told t

-- the clause of a name, if it is alive
abbrev pub named_so : ClauseName → Option Clause → List Living
named_so x None = []
named_so x (Some c) = lives_as x c ∷ []

abbrev pub alive_as : Sight → ClauseName → List Living
alive_as s x = named_so x (clause_alive x (whole s))

-- it, and those of a procedure that are not yet looked through
abbrev pub onward : Sight → Indicator → ClauseName → Reach → List Living
onward s p x r = alive_as s x ++ rest_at s p r

abbrev pub onward_if : Sight → Indicator → Option Ahead → List Living
onward_if s p None = []
onward_if s p (Some y) = onward s p y.name y.reach

-- what is seen in a view
abbrev pub sight_at : Database → View → Sight
sight_at db v = sight (db.views v.place) v db.own

-- what is left of a walk of the goal t, as candidates
abbrev pub left_at : Database → Use → Tree → Spot → List Candidate
left_at db u t (spots.Text k) = map (text_candidate u) (drop k (db.text (indicator (head_in u t))))
left_at db u t (spots.Seek v r) = map (candidate_of u) (rest_at (sight_at db v) (indicator (head_in u t)) r)
left_at db u t (spots.At v x r) = map (candidate_of u) (onward (sight_at db v) (indicator (head_in u t)) x r)
left_at db u t (spots.Known v x y) = map (candidate_of u) (alive_as (sight_at db v) x ++ onward_if (sight_at db v) (indicator (head_in u t)) y)

abbrev pub left_if : Database → Use → Tree → Option Spot → List Candidate
left_if db u t None = []
left_if db u t (Some x) = left_at db u t x

-- what is left of a call of a predicate of several answers: over the values of its arguments, before a list, by a turn
abbrev pub answers_left : Env → List Cell → List Element → Remaining → List Resolvent
answers_left e vs rest turn = filter_map (solved rest e.count) (left e.heap vs turn)

-- what a handler over a heap stands for
abbrev pub handled : Store → Handles → Handler
handled h (handlers.Catch c) = Catch (value h c.catcher) (value h c.recovery)
handled h (handlers.Gather v) = Gather (value h v)
handled h handlers.Undo = Undo

-- how many values a case keeps
abbrev pub kept : Resume → ℕ
kept (resumes.Clauses c) = c.count
kept (resumes.Walk w) = 0
kept (resumes.Answers a) = a.count
kept resumes.List = 0
kept (resumes.Handle x) = 0

-- the values that a case keeps
abbrev pub kept_values : List Cell → Point → Resume → List Cell
kept_values saved p r = take (kept r) (drop p.marks.saved saved)

-- the case at the level d, of the environment that it comes back to, by the items of its list and the values that it keeps
abbrev pub case_of : Database → Goals → ℕ → Env → List Portion → List Cell → Resume → Case
case_of db code d e xs vs (resumes.Clauses c) = Choice (places_left d e (called e.heap (db.statics c.procedure).name vs) (all_elements code e xs) (drop c.next (db.statics c.procedure).clauses))
case_of db code d e xs vs (resumes.Walk w) = Choice (candidates_left d e (value e.heap w.goal) (all_elements code e xs) (left_at db w.uses (value e.heap w.goal) w.spot))
case_of db code d e xs vs (resumes.Answers a) = Choice (answers_left e vs (all_elements code e xs) a.turn)
case_of db code d e xs vs resumes.List = Choice (place_of_items code e xs ∷ [])
case_of db code d e xs vs (resumes.Handle x) = Handle (handled e.heap x) (place_of_items code e xs)

abbrev pub plain : ℕ → List Case → List Case
plain zero below = below
plain (suc n) below = Choice [] ∷ plain n below

-- the cases of a frame, over those below it
abbrev pub opened : Database → Goals → Env → List Link → List Cell → Frame → List Case → List Case
opened db code e links saved (Plain n) below = plain n below
opened db code e links saved (Open p r) below =
    case_of db code (deeper below 0) (cut p.marks.env e) (items_of links p.list) (kept_values saved p r) r ∷ below

-- of frames, the newest first
abbrev pub cases : Database → Goals → Env → List Link → List Cell → List Frame → List Case
cases db code e links saved [] = []
cases db code e links saved (f ∷ fs) = opened db code e links saved f (cases db code e links saved fs)

-- how many cases they are
abbrev pub size : Frame → ℕ
size (Plain n) = n
size (Open p r) = 1

abbrev pub depth_of : List Frame → ℕ
depth_of [] = 0
depth_of (f ∷ fs) = size f + depth_of fs

-- a walk, if it goes on in a view at a spot
abbrev pub viewed : Walk → Spot → List Walk
viewed w (spots.Text k) = []
viewed w (spots.Seek v r) = w ∷ []
viewed w (spots.At v x r) = w ∷ []
viewed w (spots.Known v x y) = w ∷ []

-- the walk that a case is, if it is one and goes on in a view
abbrev pub walk_of : Resume → List Walk
walk_of (resumes.Clauses c) = []
walk_of (resumes.Walk w) = viewed w w.spot
walk_of (resumes.Answers a) = []
walk_of resumes.List = []
walk_of (resumes.Handle x) = []

-- those of frames
abbrev pub walks_of : List Frame → List Walk
walks_of [] = []
walks_of (Plain n ∷ fs) = walks_of fs
walks_of (Open p r ∷ fs) = walk_of r ++ walks_of fs
