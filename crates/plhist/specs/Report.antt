-- The report of a run: for each thread a line that tells its end, and then its output.
use Rattle.std.specs.Prelude.{ℕ, ◌==◌, ◌-◌, List, [], ◌++◌, length, slice_get, unwrap_or, Option, Some, None, option_and_then, find, codes, decimal, if◌then◌else◌}
use Rattle.std.specs.List.{flat_map}
use Rattle.plops.specs.declared.table.Entry as operators
use Rattle.plwrite.specs.declared.style.Style.TheVariants.{Quoted}
use Rattle.plwrite.specs.Names.{name_text}
use Rattle.plwrite.specs.Writing.{written}
use Rattle.plevent.specs.declared.request.ThreadEnd.{ThreadEnd}
use Rattle.plevent.specs.declared.act.Entry.{Entry}
use Rattle.plevent.specs.declared.standing.Thread.{Thread}
use Rattle.plevent.specs.Reading.{reading, is_thread}
use Rattle.plhist.specs.declared.history.Run.{Run}
use Rattle.plhist.specs.declared.history.RunEnd.{RunEnd}
use Rattle.plhist.specs.declared.history.History.{History}

abbrev pub alias_of : ℕ → List Thread → Option (List ℕ)
alias_of t ts = option_and_then (λ x. x.alias) (find (is_thread t) ts)

abbrev pub alias_text : Option (List ℕ) → List ℕ
alias_text None = []
alias_text (Some a) = codes " " ++ name_text Quoted a

-- an end, where a ball is written quoted
abbrev pub end_text : List operators.Entry → ThreadEnd → List ℕ
end_text ops ThreadEnd.True = codes "true"
end_text ops ThreadEnd.False = codes "false"
end_text ops (ThreadEnd.Exception ball) = codes "exception(" ++ written ops Quoted ball ++ codes ")"
end_text ops ThreadEnd.Budget = codes "budget"
end_text ops (ThreadEnd.Halt n) = codes "halt(" ++ decimal n ++ codes ")"

abbrev pub run_end_text : List operators.Entry → RunEnd → List ℕ
run_end_text ops (RunEnd.Ended e) = end_text ops e

-- an output that is empty needs no newline
abbrev pub last_byte : List ℕ → ℕ
last_byte out = unwrap_or (slice_get out (length out - 1)) 10

-- a newline behind an output that does not end with one
abbrev pub closing : List ℕ → List ℕ
closing out = if last_byte out == 10 then [] else codes "\n"

-- what the report says of one thread
abbrev pub run_text : List operators.Entry → List Entry → Run → List ℕ
run_text ops h run =
    codes "% thread " ++ decimal run.thread ++ alias_text (alias_of run.thread (reading h).standing.threads) ++ codes ": " ++ run_end_text ops run.«end» ++ codes "\n"
    ++ run.output ++ closing run.output

abbrev pub report_text : List operators.Entry → History → List ℕ
report_text ops history = flat_map (run_text ops history.journal) history.runs
