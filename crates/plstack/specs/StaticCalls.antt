-- Calls of static procedures.
use Rattle.std.specs.Prelude.{◌≡◌, ℕ, ◌+◌, ◌<◌, ◌≤◌, Option, Some, None, List, [], ◌∷◌, ◌++◌, length, map, drop, reverse, get_or, slice_index_or, if◌then◌else◌}
use Rattle.plterm.specs.Tree.{Tree}
use Rattle.plterm.specs.declared.indicator.Indicator.{Indicator}
use Rattle.plsubst.specs.Subst.{bind}
use Rattle.plclause.specs.Clause.{Clause}
use Rattle.plprogram.specs.Program.{Program, clauses_for}
use Rattle.plcells.specs.declared.cell.Cell.{Cell}
use Rattle.plcells.specs.Store.{value}
use Rattle.plsearch.specs.Types.{Resolvent, Case, Choice}
use Rattle.plsearch.specs.Lists.{bind_goals}
use Rattle.plsearch.specs.Moves.{before_rest, is_true}
use Rattle.plsearch.specs.Engine.{deeper}
use Rattle.plcode.specs.Callees.{Compiled}
use Rattle.plcode.specs.declared.key.Key.{Key}
use Rattle.plcode.specs.declared.clause.ClauseCode.{ClauseCode}
use Rattle.plcode.specs.Index.{IsNext}
use Rattle.plcode.specs.Keys.{IsFirstKey}
use Rattle.plcode.specs.Laying.{IsLaid}
use Rattle.plcode.specs.Clauses.{IsCodeOf}
use Rattle.plenv.specs.Env.{Env, cut, over}
use Rattle.pllinks.specs.declared.link.Continuation.{Continuation}
use Rattle.pllinks.specs.Lists.{all_elements}
use Rattle.pllinks.specs.Links.{alone, items_of}
use Rattle.plstack.specs.declared.frame.Point.{Point}
use Rattle.plstack.specs.declared.frame.Clauses.{Clauses}
use Rattle.plstack.specs.declared.frame.Resume.TheVariants as resumes
use Rattle.plstack.specs.declared.frame.Frame.{Frame}
use Rattle.plstack.specs.declared.frame.Frame.TheVariants.{Open}
use Rattle.plstack.specs.declared.fit.Found.{Found}
use Rattle.plstack.specs.declared.fit.Hit.{Hit}
use Rattle.plevent.specs.declared.update.Update.{Update}
use Rattle.plstore.specs.Looking.{Views}
use Rattle.plstack.specs.Places.{Static, Database, called, places_left, kept_values}
use Rattle.plstack.specs.Fits.{AreOwn, Finds}
use Rattle.plstack.specs.State.{State, goals_in, goals_of, place_of, cases_of, CountsUp, IsList, kinds_in}
use Rattle.plstack.specs.Levels.{FitsIn}

abbrev pub static_of : Indicator × List Clause → Static
static_of e = record { name = e.0.name; clauses = e.1 }

-- the procedures of a program, by their places
abbrev pub statics_of : Program → ℕ → Static
statics_of P i = static_of (get_or P.procedures i (record { name = []; arity = 0 }, []))

-- with views and own updates
abbrev pub database_of : Program → Views → List Update → Database
database_of P v us = record { statics = statics_of P; text = clauses_for P; views = v; own = us }

-- the procedures of a program's code, by their places
pub record AreStatics (m : Compiled) (db : Database) : Type 0 where
  pub own : (i : ℕ) → i < length m.procedures → AreOwn m.text (db.statics i).name (get_or m.procedures i []) (db.statics i).clauses
  pub none : (i : ℕ) → length m.procedures ≤ i → (db.statics i).clauses ≡ []

-- the innermost case is this call
pub record IsCalling (s : State) (p : Point) (c : Clauses) : Type 0 where
  pub rest : List Frame
  pub top : s.frames ≡ rest ++ Open p (resumes.Clauses c) ∷ []

-- and the environment is that at its opening
pub record AtCall (s : State) (p : Point) (c : Clauses) : Type 0 where
  pub calling : IsCalling s p c
  pub now : cut p.marks.env s.env ≡ s.env
  pub list : IsList s p.list
  pub fits : FitsIn (drop 1 (kinds_in s)) (goals_of s p.list)

-- the goal of a call, as things were at its opening
abbrev pub goal_at : Database → State → Point → Clauses → Tree
goal_at db s p c = called (cut p.marks.env s.env).heap (db.statics c.procedure).name (kept_values s.saved p (resumes.Clauses c))

-- what a call has left by some clauses, as a case of the level d
abbrev pub further : Database → State → ℕ → Point → Clauses → List Clause → List Resolvent
further db s d p c cs = places_left d (cut p.marks.env s.env) (goal_at db s p c) (all_elements (goals_in s) (cut p.marks.env s.env) (items_of s.links p.list)) cs

-- the clauses from a number on, if there is one
abbrev pub onward : Option ℕ → List Clause → List Clause
onward None cs = []
onward (Some i) cs = drop i cs

-- a clause of the innermost call fits, the first that is left: it has slots of its own, and the places left are that of its body and those
-- of the clauses behind it
pub record Hits (db : Database) (old new : State) (p : Point) (c : Clauses) (hit : Hit) : Type 0 where
  pub clause : Clause
  pub code : IsCodeOf old.basis.code.text hit.clause clause
  pub slots : hit.base + hit.clause.variables ≤ length new.env.slots
  pub left : (d : ℕ) → further db new d p c (drop c.next (db.statics c.procedure).clauses)
      ≡ record { goals = before_rest (is_true clause.body) d (bind (over new.env hit.base) clause.body) (goals_of new p.list); variables = new.env.count }
      ∷ further db new d p c (onward hit.next (db.statics c.procedure).clauses)

-- what was put for variables is in each list
pub record Binds (old new : State) : Type 0 where
  pub unifier : ℕ → Tree
  pub lists : (l : Continuation) → IsList old l → IsList new l × (goals_of new l ≡ bind_goals unifier (goals_of old l))

-- of the innermost case, a call, the clauses from a number on are left
pub record GoesOn (db : Database) (old new : State) (p : Point) (c : Clauses) (next : Option ℕ) : Type 0 where
  pub below : List Case
  pub was : cases_of db old ≡ Choice (further db old (deeper below 0) p c (drop c.next (db.statics c.procedure).clauses)) ∷ below
  pub cases : cases_of db new ≡ Choice (further db old (deeper below 0) p c (onward next (db.statics c.procedure).clauses)) ∷ below

-- the first clause that fits, with the next one that may
pub record FindsHit (old new : Env) (t : Tree) (key : Key) (ks : List ClauseCode) (xs : List Clause) (from : ℕ) (hit : Hit) : Type 0 where
  pub found : Found
  pub finds : Finds old new t xs from found
  pub base : hit.base ≡ found.base
  pub clause : (d : ClauseCode) → slice_index_or ks found.place d ≡ hit.clause
  pub next : IsNext key ks (found.place + 1) hit.next

-- a clause of the innermost call is entered: its body is visited before a list, and the clauses behind it are left
pub record Enters (db : Database) (old new : State) (p : Point) (c : Clauses) (hit : Hit) (behind : ℕ) : Type 0 where
  pub goes : GoesOn db old new p c hit.next
  pub place : (x : Clause) → IsCodeOf old.basis.code.text hit.clause x → place_of new ≡ record {
    goals = before_rest (is_true x.body) (deeper goes.below 0) (bind (over old.env hit.base) x.body) (goals_of old (alone behind));
    variables = old.env.count;
  }

-- the body of a clause at a level, before a list by its number; of a fact that list alone
abbrev pub body_at : Hit → ℕ → ℕ → Continuation
body_at hit behind level =
    if hit.clause.is_fact then alone behind
    else record { run = record { position = hit.clause.body; owed = 0; base = hit.base; «end» = hit.base + hit.clause.variables; level = level }; rest = behind }

-- the first clause of a procedure that fits a goal's values, by their key
pub record FitsFirst (m : Compiled) (db : Database) (procedure : ℕ) (vs : List Cell) (old new : Env) (hit : Hit) : Type 0 where
  pub key : Key
  pub key_is : IsFirstKey old.heap.names key (map (value old.heap) vs)
  pub within : procedure < length m.procedures
  pub laid : IsLaid m.text.names m.text.nodes
  pub finds : FindsHit old new (called old.heap (db.statics procedure).name vs) key (get_or m.procedures procedure []) (db.statics procedure).clauses 0 hit

-- the case of the clauses of a call from a number on, or one more choice with nothing left
abbrev pub PushesCall : Point → Clauses → Option ℕ → List Frame → List Frame → Type 0
PushesCall p c (Some next) old new = new ≡ old ++ Open p (resumes.Clauses (record { procedure = c.procedure; count = c.count; next = next })) ∷ []
PushesCall p c None old new = CountsUp 1 (reverse old) (reverse new)
