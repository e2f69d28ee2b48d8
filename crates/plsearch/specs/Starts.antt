-- Where the threads of a journal start, and their searches.
use Rattle.std.specs.Prelude.{ℕ, List, [], find, Option, Some, None}
use Rattle.plevent.specs.declared.act.Entry.{Entry}
use Rattle.plevent.specs.declared.standing.Thread.{Thread}
use Rattle.plevent.specs.Reading.{reading, is_thread}
use Rattle.plevent.specs.Search.{Search}
use Rattle.plprogram.specs.Program.{Program}
use Rattle.plsearch.specs.Search.{Start, start_with, search_of}

-- a thread's start, by what the journal says of it when it is created
abbrev pub start_by : Program → Thread → Start
start_by P x = start_with P (record { number = x.number; alias = x.alias }) x.goal

-- a thread that was not created has no goal
abbrev pub start_at : Program → ℕ → Option Thread → Start
start_at P t None = record { who = record { number = t; alias = None }; goals = [] }
start_at P t (Some x) = start_by P x

abbrev pub start_in : Program → List Entry → ℕ → Start
start_in P h t = start_at P t (find (is_thread t) (reading h).standing.threads)

-- the search of each thread of a journal, in which it takes no more steps than the limit
abbrev pub searches : Program → ℕ → List Entry → ℕ → Search
searches P limit h t = search_of P (start_in P h t) limit
