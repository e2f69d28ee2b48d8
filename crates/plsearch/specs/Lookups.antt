-- What clauses are looked up for, and what is made of those that are alive.
use Rattle.std.specs.Prelude.{Bool, List, Option, [], codes, filter, filter_map, if◌then◌else◌, is_some, map, ℕ, ◌++◌, ◌∷◌}
use Rattle.plterm.specs.Tree.{Tree, atom}
use Rattle.plsubst.specs.Subst.{shift}
use Rattle.plsubst.specs.Unify.{unify}
use Rattle.plclause.specs.Clause.{Clause}
use Rattle.plclause.specs.Indicators.{indicator}
use Rattle.plevent.specs.Alive.{Stamped, clauses_alive, exists, living, names_of, stamped}
use Rattle.plevent.specs.declared.update.Living.{Living}
use Rattle.plevent.specs.declared.update.Update.TheVariants.{Declare, Erase}
use Rattle.plevent.specs.declared.update.Update.{Update}
use Rattle.pltx.specs.Own.{State, any_open}
use Rattle.plprogram.specs.declared.settings.Unknown.TheVariants as unknown
use Rattle.plprogram.specs.declared.settings.Unknown.{Unknown}
use Rattle.plerror.specs.Errors.{pair, procedure_error}
use Rattle.plsearch.specs.Moves.{call, choose, go_on, publish, raised, resolve}
use Rattle.plsearch.specs.Types.{Asking, Element, Fail, Give, Local, Look, Lookup, Move, Resolvent, Question, ToCall, ToRetract, ToRetractAll, ToRetrieve}

-- a head and a body as one term
abbrev pub clause_term : Tree → Tree → Tree
clause_term h b = pair (codes ":-") h b

-- a clause as a fact: that there is a clause of this head and this body
abbrev pub as_fact : Clause → Clause
as_fact c = record { head = clause_term c.head c.body; body = atom (codes "true"); variables = c.variables }

-- the clauses that a head and a body unify with, in their order
abbrev pub retrieve : ℕ → ℕ → Tree → Tree → List Element → List Clause → Local → Move
retrieve d n h b rest cs w = call d n (clause_term h b) rest (map as_fact cs) w

-- a call of a procedure that does not exist is an error, or fails, by the flag unknown (7.7.7, 7.11.2.4)
abbrev pub missing : Unknown → Tree → List Element → Local → Move
missing unknown.Error t rest w = raised (procedure_error (indicator t)) (indicator t) rest w
missing unknown.Fail t rest w = Give Fail w

-- a clause that a head and a body, as one term, unify with is erased, and then the list goes on
abbrev pub retract : ℕ → ℕ → Tree → List Element → Living → Option Resolvent
retract d n t rest x = resolve d n t (Asking (Question.Erase x.name) ∷ rest) (as_fact x.clause)

-- whether a head unifies with that of a clause
abbrev pub has_head : ℕ → Tree → Living → Bool
has_head n h x = is_some (unify h (shift n x.clause.head))

-- the updates of retractall/1: all clauses of a head are erased, or a procedure that does not exist is declared (8.9.5)
abbrev pub all_erased : List Stamped → ℕ → Tree → List Update
all_erased us n h = if exists us (indicator h) then map Erase (names_of (filter (has_head n h) (living us (indicator h)))) else Declare (indicator h) ∷ []

-- what clauses are looked up for, in a view: those of a goal, if its procedure exists there
abbrev pub looked_up : List Stamped → Lookup → ℕ → List Element → ℕ → Local → Move
looked_up us (ToCall t) d rest n w = if exists us (indicator t) then call d n t rest (clauses_alive us (indicator t)) w else missing w.settings.unknown t rest w
looked_up us (ToRetrieve h b) d rest n w = retrieve d n h b rest (clauses_alive us (indicator h)) w
looked_up us (ToRetract h b) d rest n w = choose (filter_map (retract d n (clause_term h b) rest) (living us (indicator h))) w
looked_up us (ToRetractAll h) d rest n w = publish (all_erased us n h) rest n w

-- what is seen where something is open: what it began on, and the own updates so far
abbrev pub seen : List Stamped → State → List Stamped
seen below x = below ++ stamped x.base 0 x.updates

-- clauses are looked up in what is open, or else a view is asked for
abbrev pub seek : List Stamped → Lookup → ℕ → List Element → ℕ → Local → Move
seek below u d rest n w = if any_open w.own then looked_up (seen below w.own) u d rest n w else go_on (Asking (Look u) ∷ rest) n w
