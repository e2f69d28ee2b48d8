-- The moves that rows, look-ups and answers share.
use Rattle.std.specs.Prelude.{Bool, List, Option, [], bytes_eq, codes, false, filter_map, if◌then◌else◌, option_map, suc, true, ℕ, ◌+◌, ◌∷◌}
use Rattle.plterm.specs.Tree.{Tree, atom}
use Rattle.plterm.specs.Variables.{copied}
use Rattle.plterm.specs.declared.indicator.Indicator.{Indicator}
use Rattle.plsubst.specs.Subst.{bind, shift}
use Rattle.plsubst.specs.Unify.{unify}
use Rattle.plclause.specs.Clause.{Clause}
use Rattle.plevent.specs.declared.request.Request.TheVariants.{Publish}
use Rattle.plevent.specs.declared.update.Update.{Update}
use Rattle.pltx.specs.Own.{all_made, any_open, begun}
use Rattle.pltx.specs.declared.level.Isolation.TheVariants.{Snapshot, Transaction}
use Rattle.pltx.specs.declared.level.Isolation.{Isolation}
use Rattle.plerror.specs.Errors.{error_term}
use Rattle.plsearch.specs.Lists.{bind_goals, levels}
use Rattle.plsearch.specs.Running.{Raises, Runnable, Runs, runnable}
use Rattle.plsearch.specs.Types.{Asking, Await, Case, Choice, Element, Fail, Give, Go, Goal, GoesOn, Handle, Local, Marker, Move, Resolvent, Raise, Throw, Transact, Undo}

abbrev pub is_true : Tree → Bool
is_true (atom f) = bytes_eq f (codes "true")
is_true t = false

-- a clause's body before the rest, at the level d; a body that is the atom true is no goal
abbrev pub before_rest : Bool → ℕ → Tree → List Element → List Element
before_rest true d b rest = rest
before_rest false d b rest = Goal d b ∷ rest

-- the goal t resolved against a clause, at the level d, where n variables are in use
abbrev pub resolve : ℕ → ℕ → Tree → List Element → Clause → Option Resolvent
resolve d n t rest c =
    option_map
    (λ σ. record { goals = before_rest (is_true c.body) d (bind σ (shift n c.body)) (bind_goals σ rest); variables = n + c.variables })
    (unify t (shift n c.head))

-- each place in turn, at a level of its own
abbrev pub choose : List Resolvent → Local → Move
choose [] w = Give Fail w
choose (p ∷ ps) w = Go (Choice ps ∷ []) p w

-- the clauses that fit, in their order
abbrev pub call : ℕ → ℕ → Tree → List Element → List Clause → Local → Move
call d n t rest cs w = choose (filter_map (resolve d n t rest) cs) w

-- an error of a predicate is thrown: a copy, its variables numbered from 0, with the levels of the markers of a list
unfoldable pub raised : Tree → Indicator → List Element → Local → Move
raised e p es w = Give (Throw (copied 0 (error_term e p)) (levels es)) w

-- a list is visited, in no more cases
abbrev pub go_on : List Element → ℕ → Local → Move
go_on es n w = Go [] (record { goals = es; variables = n }) w

-- before a list, updates are published as one batch, of which there is none without an update
abbrev pub publishing : List Update → List Element → List Element
publishing [] rest = rest
publishing (u ∷ us) rest = Asking (Await (Publish (u ∷ us)) GoesOn) ∷ rest

-- updates are made: of what is open at once, or else they are published as one batch, of which there is none without an update
abbrev pub publish : List Update → List Element → ℕ → Local → Move
publish us rest n w = if any_open w.own then go_on rest n (record w { own = all_made us w.own }) else go_on (publishing us rest) n w

-- what stands for a term that is run by p: its goal, at the cut level k, or the error that p raises
abbrev pub first_of : Runnable → Indicator → ℕ → Element
first_of (Runs b) p k = Goal k b
first_of (Raises e) p k = Raise (copied 0 (error_term e p))

-- a term is run as a goal at the cut level k, in some cases, before a list; its errors are thrown from there
abbrev pub run : Runnable → Indicator → List Case → ℕ → List Element → ℕ → Local → Move
run r p cs k rest n w = Go (Choice [] ∷ cs) (record { goals = first_of r p k ∷ rest; variables = n }) w

abbrev pub transaction_1 : Indicator
transaction_1 = record { name = codes "transaction"; arity = 1 }

abbrev pub snapshot_1 : Indicator
snapshot_1 = record { name = codes "snapshot"; arity = 1 }

-- the predicate that begins it
abbrev pub beginner : Isolation → Indicator
beginner Transaction = transaction_1
beginner Snapshot = snapshot_1

-- where it ends without success, and the list behind it
abbrev pub undoing : List Element → ℕ → Case
undoing es n = Handle Undo (record { goals = es; variables = n })

-- A transaction or a snapshot begins on top of the place b, unless another is open, and runs its goal. The choice at the level d takes
-- what is given up as the marker is passed, and its handler stands in it.
abbrev pub opened : Isolation → ℕ → Tree → ℕ → List Element → ℕ → Local → Move
opened i b g d rest n w =
    run (runnable g) (beginner i) (undoing rest n ∷ Choice [] ∷ []) (suc (suc d)) (Marker (Transact d) (suc d) ∷ rest) n (record w { own = begun i b w.own })
