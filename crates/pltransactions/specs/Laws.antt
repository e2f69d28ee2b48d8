-- The laws of transactions and snapshots, over the turns of a search's machine.
use Rattle.std.specs.Prelude.{◌≡◌, ℕ, zero, suc, min, true, false, List, [], ◌∷◌, length, Option, Some, None}
use Rattle.plevent.specs.Search.{Item, View, Ask, Answer}
use Rattle.plevent.specs.declared.request.Request.TheVariants.{Publish, EraseOne}
use Rattle.plevent.specs.declared.update.Update.{Update}
use Rattle.pltx.specs.Own.{nothing, any_open, ended}
use Rattle.pltx.specs.declared.level.Isolation.{Isolation}
use Rattle.pltx.specs.declared.level.Isolation.TheVariants.{Transaction, Snapshot}
use Rattle.pltx.specs.declared.level.Level.{Level}
use Rattle.plprogram.specs.Program.{Program}
use Rattle.plsearch.specs.Types.{Result, Stop, Fail, CutTo, Throw, Awaits, Kind, Transact, Element, Goal, Marker, Raise, Asking, Resolvent, Case, Choice, Mark, Handle, Undo, Local, Meeting, Asks, Supply}
use Rattle.plsearch.specs.Moves.{publishing}
use Rattle.plsearch.specs.Rows.{meet}
use Rattle.plsearch.specs.Handlers.{has}
use Rattle.plsearch.specs.Engine.{deeper}
use Rattle.plsearch.specs.Search.{Start, start_of, from_start, ending_of, search_of}
use Rattle.plsearch.specs.Machines.Machine.{Mode, At, Back, Machine, turn}

-- after so many turns
abbrev pub turns : Program → ℕ → Machine → Machine
turns P zero m = m
turns P (suc k) m = turns P k (turn P m)

-- the machine of a search at its start, with so many steps and these answers
abbrev pub machine_of : Program → Start → ℕ → List Answer → Machine
machine_of P s steps answers = record { mode = At (start_of s); cases = Choice [] ∷ []; run = from_start P s steps answers }

-- the machine of some search comes to it
abbrev pub IsReached : Program → Machine → Type 0
IsReached P m = (s : Start) × (steps : ℕ) × (answers : List Answer) × (k : ℕ) × (m ≡ turns P k (machine_of P s steps answers))

-- the machine's turns end as the search does
abbrev pub SearchByTurns : Type 0
SearchByTurns = (P : Program) (s : Start) (limit n : ℕ) (answers : List Answer) → (k : ℕ) × (r : Result) × (run : Supply)
    × (turns P k (machine_of P s (min n limit) answers) ≡ record { mode = Back r; cases = []; run = run })
    × (search_of P s limit n answers ≡ ending_of (min n limit) (r, run))

-- what a machine asks for at its next turn
abbrev pub asked_by : Meeting → Option Item
asked_by (Asks q) = Some q
asked_by m = None

abbrev pub asked_first : List Element → Local → Option Item
asked_first [] w = None
asked_first (e ∷ es) w = asked_by (meet e es w)

abbrev pub asked_in : Mode → Local → Option Item
asked_in (At p) w = asked_first p.goals w
asked_in (Back r) w = None

abbrev pub wanted : Machine → Option Item
wanted m = asked_in m.mode m.run.local

-- the answers that are left behind a turn
abbrev pub left_of : Option Item → List Answer → List Answer
left_of None xs = xs
left_of (Some q) [] = []
left_of (Some q) (x ∷ xs) = xs

-- a turn takes one answer where it asks for one, and else none; without an answer it ends there
abbrev pub TakesWhatItAsks : Type 0
TakesWhatItAsks = (P : Program) (m : Machine) → (turn P m).run.answers ≡ left_of (wanted m) m.run.answers

abbrev pub WaitsForWhatItAsks : Type 0
WaitsForWhatItAsks = (P : Program) (m : Machine) (q : Item) → wanted m ≡ Some q → m.run.answers ≡ [] → turn P m ≡ record m { mode = Back (Awaits q) }

-- it is at the end of a transaction or a snapshot: at its marker, or where a result comes to its case Undo
abbrev pub IsAtMarker : List Element → Type 0
IsAtMarker (Marker (Transact d) l ∷ es) = Unit {0}
IsAtMarker es = ⊥

abbrev pub IsAtUndo : List Case → Type 0
IsAtUndo (Handle Undo p ∷ cases) = Unit {0}
IsAtUndo cases = ⊥

abbrev pub IsEnding : Mode → List Case → Type 0
IsEnding (At p) cases = IsAtMarker p.goals
IsEnding (Back r) cases = IsAtUndo cases

-- where none is open, one begins with a view alone; and the last that is open ends at its end
abbrev pub OpensWithView : Type 0
OpensWithView = (P : Program) (m : Machine) → any_open m.run.local.own ≡ false → any_open (turn P m).run.local.own ≡ true → wanted m ≡ Some View

abbrev pub ClosesAtItsEnd : Type 0
ClosesAtItsEnd = (P : Program) (m : Machine) → any_open m.run.local.own ≡ true → any_open (turn P m).run.local.own ≡ false → IsEnding m.mode m.cases

-- what asks for the clauses of the database, or changes them: a view, the publication of a batch, or the erasure of one clause
abbrev pub IsOfClauses : Item → Type 0
IsOfClauses View = Unit {0}
IsOfClauses (Ask (Publish us)) = Unit {0}
IsOfClauses (Ask (EraseOne x)) = Unit {0}
IsOfClauses (Ask q) = ⊥

-- where a transaction or a snapshot is open, no such thing is asked
abbrev pub OpenAsksNoClauses : Type 0
OpenAsksNoClauses = (P : Program) (m : Machine) (q : Item) → IsReached P m → any_open m.run.local.own ≡ true → wanted m ≡ Some q → IsOfClauses q → ⊥

-- and a turn that asks leaves what is open as it is, whatever it is answered: the own updates, and the batches on which it began
abbrev pub OpenAnswersStay : Type 0
OpenAnswersStay = (P : Program) (m : Machine) (q : Item) → IsReached P m → any_open m.run.local.own ≡ true → wanted m ≡ Some q →
    ((turn P m).run.local.own ≡ m.run.local.own) × ((turn P m).run.below ≡ m.run.below)

-- at its end with success
abbrev pub at_end : ℕ → ℕ → Resolvent → List Case → Supply → Machine
at_end d l p cases run = record { mode = At (record { goals = Marker (Transact d) l ∷ p.goals; variables = p.variables }); cases = cases; run = run }

-- the updates that are published there
abbrev pub its_updates : Isolation → List Update → List Update
its_updates Transaction us = us
its_updates Snapshot us = []

-- the end of the outermost one asks for its updates to be published, if it is a transaction and has any, and leaves nothing
abbrev pub OuterEndPublishes : Type 0
OuterEndPublishes = (P : Program) (d l : ℕ) (p : Resolvent) (cases : List Case) (run : Supply) (level : Level) → run.local.own.levels ≡ level ∷ [] →
    turn P (at_end d l p cases run) ≡ record {
      mode = At (record { goals = publishing (its_updates level.kind run.local.own.updates) p.goals; variables = p.variables });
      cases = Mark d ∷ cases;
      run = record run { local = record run.local { own = nothing } };
    }

-- that of an inner one asks nothing
abbrev pub InnerEndAsksNothing : Type 0
InnerEndAsksNothing = (P : Program) (d l : ℕ) (p : Resolvent) (cases : List Case) (run : Supply) (level outer : Level) (levels : List Level) → run.local.own.levels ≡ level ∷ outer ∷ levels →
    turn P (at_end d l p cases run) ≡ record { mode = At p; cases = Mark d ∷ cases; run = record run { local = record run.local { own = ended true run.local.own } } }

-- how many ends a list has before it
abbrev pub ends_with : Kind → ℕ → ℕ
ends_with (Transact d) n = suc n
ends_with m n = n

abbrev pub ends : List Element → ℕ
ends [] = 0
ends (Goal k t ∷ es) = ends es
ends (Marker m l ∷ es) = ends_with m (ends es)
ends (Raise b ∷ es) = ends es
ends (Asking q ∷ es) = ends es

-- as many are open as the list has ends
abbrev pub OpenHaveEnds : Type 0
OpenHaveEnds = (P : Program) (m : Machine) (p : Resolvent) → IsReached P m → m.mode ≡ At p → length m.run.local.own.levels ≡ ends p.goals

-- what is open at the level d ends without success
abbrev pub IsUndone : ℕ → Result → Type 0
IsUndone d Fail = Unit {0}
IsUndone d (Throw b ls) = has d ls ≡ true
IsUndone d r = ⊥

-- Undo ends what it began: as many are left open as the list behind its goal has ends
abbrev pub UndoEndsOne : Type 0
UndoEndsOne = (P : Program) (r : Result) (p : Resolvent) (cases : List Case) (run : Supply) →
    IsReached P (record { mode = Back r; cases = Handle Undo p ∷ cases; run = run }) → IsUndone (deeper cases 0) r →
    length (turn P (record { mode = Back r; cases = Handle Undo p ∷ cases; run = run })).run.local.own.levels ≡ ends p.goals

-- its goals are done, or have failed or thrown a ball
abbrev pub IsDone : Result → Type 0
IsDone Stop = Unit {0}
IsDone Fail = Unit {0}
IsDone (CutTo l) = Unit {0}
IsDone (Throw b ls) = Unit {0}
IsDone r = ⊥

-- nothing is left open then
abbrev pub NothingLeftOpen : Type 0
NothingLeftOpen = (P : Program) (r : Result) (run : Supply) → IsReached P (record { mode = Back r; cases = []; run = run }) → IsDone r → run.local.own ≡ nothing
