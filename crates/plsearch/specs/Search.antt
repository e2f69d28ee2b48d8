-- A thread's search, as its journal sees it.
use Rattle.std.specs.Prelude.{ℕ, ◌+◌, ◌-◌, List, [], ◌∷◌, length, codes, min, Option, Some, None}
use Rattle.plterm.specs.Tree.{Tree, compound, none, more}
use Rattle.plterm.specs.Variables.{copied, variables}
use Rattle.plevent.specs.Reading.{main}
use Rattle.plevent.specs.Search.{Answer, Next, Wants, Finishes, Ceases, Ending, Search}
use Rattle.plevent.specs.declared.request.ThreadEnd.TheVariants.{True, False, Exception, Budget, Halt}
use Rattle.plprogram.specs.Program.{Program}
use Rattle.pltx.specs.Own.{nothing}
use Rattle.plsearch.specs.Types.{Result, Stop, Fail, CutTo, Throw, Halted, Spent, Awaits, Stopped, Unfit, Goal, Resolvent, Choice, Who, Supply}
use Rattle.plsearch.specs.Engine.{Ended, out, Visit}

-- where a search starts: its thread, and its goals
pub record Start : Type 0 where
  pub who : Who
  pub goals : List Tree

-- a thread that was created starts with its goal; main has none of its own, and starts with the program's
abbrev pub goals_for : Program → Option Tree → List Tree
goals_for P None = P.goals
goals_for P (Some g) = g ∷ []

abbrev pub start_with : Program → Who → Option Tree → Start
start_with P who goal = record { who = who; goals = goals_for P goal }

-- main is thread 1
abbrev pub main_start : Program → Start
main_start P = start_with P (record { number = 1; alias = Some main }) None

abbrev pub once : Tree → Tree
once g = compound (codes "once") (more g none)

-- a goal, once, before a place, its variables numbered behind those of the place
abbrev pub started : Tree → Resolvent → Resolvent
started g p = record { goals = Goal 0 (once (copied p.variables g)) ∷ p.goals; variables = p.variables + length (variables g) }

-- the goals in order, each once, their variables apart
unfoldable pub start_from : List Tree → Resolvent
start_from [] = record { goals = []; variables = 0 }
start_from (g ∷ gs) = started g (start_from gs)

-- the place at which it starts
unfoldable pub start_of : Start → Resolvent
unfolding start_from
start_of s = start_from s.goals

-- at the very outside a cut gives up all choices, as failure does; a search whose run has stopped goes no further, nor does one after an
-- answer that does not fit what was asked
abbrev pub next_of : Result → Next
next_of Stop = Finishes True
next_of Fail = Finishes False
next_of (CutTo l) = Finishes False
next_of (Throw b ls) = Finishes (Exception b)
next_of (Halted n) = Finishes (Halt n)
next_of Spent = Finishes Budget
next_of (Awaits q) = Wants q
next_of Stopped = Ceases
next_of Unfit = Ceases

-- the end of a visit that began with so many steps
abbrev pub ending_of : ℕ → Ended → Ending
ending_of steps e = record { next = next_of e.0; used = steps - e.1.steps; out = e.1.local.out }

-- so many steps and these answers are left, nothing was written, nothing is kept, nothing is open, and the operators and flags are the program's
abbrev pub from_start : Program → Start → ℕ → List Answer → Supply
from_start P s steps answers = record { steps = steps; answers = answers; below = []; local = record { who = s.who; out = []; settings = P.settings; kept = []; own = nothing } }

-- the search from a start, which takes no more steps than the limit: its goals run in a choice with nothing left
unfoldable pub search_of : Program → Start → ℕ → Search
unfolding Visit out start_of
search_of P s limit n answers = ending_of (min n limit) (out (Visit P) 0 (Choice []) (Visit P 1 (start_of s) (from_start P s (min n limit) answers)))
