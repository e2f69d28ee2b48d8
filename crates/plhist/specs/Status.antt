-- The status of a call: its number, its words, and that of a run.
use Rattle.std.specs.Prelude.{ℕ, Bool, true, false, List, [], ◌∷◌, ◌++◌, Option, Some, None, option_and_then, find, codes, decimal}
use Rattle.plload.specs.declared.error.RefusalKind.{RefusalKind}
use Rattle.plevent.specs.declared.request.ThreadEnd.{ThreadEnd}
use Rattle.plevent.specs.declared.act.Act.{Act}
use Rattle.plevent.specs.declared.act.Entry.{Entry}
use Rattle.plevent.specs.declared.standing.Thread.{Thread}
use Rattle.plevent.specs.Reading.{reading, is_thread}
use Rattle.plhist.specs.declared.status.Status.{Status}

abbrev pub number_of : Status → ℕ
number_of Status.Done = 0
number_of Status.Failed = 1
number_of Status.Raised = 2
number_of Status.Spent = 4
number_of (Status.Halted n) = n
number_of Status.Usage = 64
number_of (Status.Refused line column kind) = 65
number_of Status.ReadFault = 66
number_of Status.TooLong = 67
number_of Status.NoMemory = 71
number_of Status.WriteFault = 74

-- the line for standard error
abbrev pub line_of : Status → Option (List ℕ)
line_of Status.Done = None
line_of Status.Failed = None
line_of Status.Raised = None
line_of Status.Spent = None
line_of (Status.Halted n) = None
line_of Status.Usage = Some (codes "usage")
line_of (Status.Refused line column kind) = None
line_of Status.ReadFault = Some (codes "cannot read")
line_of Status.TooLong = Some (codes "too long")
line_of Status.NoMemory = Some (codes "no memory")
line_of Status.WriteFault = Some (codes "cannot write")

abbrev pub kind_text : RefusalKind → List ℕ
kind_text RefusalKind.Lex = codes "lex"
kind_text RefusalKind.Syntax = codes "syntax"
kind_text RefusalKind.NotCallable = codes "not_callable"
kind_text RefusalKind.StaticRedefined = codes "static_redefined"
kind_text RefusalKind.BadDirective = codes "bad_directive"

-- the output where a program text is refused
abbrev pub refusal_text : ℕ → ℕ → RefusalKind → List ℕ
refusal_text line column kind = codes "refused: line " ++ decimal line ++ codes " column " ++ decimal column ++ codes ": " ++ kind_text kind ++ 10 ∷ []

-- the end of thread t, if it has ended
abbrev pub end_of : ℕ → List Thread → Option ThreadEnd
end_of t ts = option_and_then (λ x. x.ended) (find (is_thread t) ts)

abbrev pub status_of_end : Option ThreadEnd → Status
status_of_end None = Status.Done
status_of_end (Some ThreadEnd.True) = Status.Done
status_of_end (Some ThreadEnd.False) = Status.Failed
status_of_end (Some (ThreadEnd.Exception ball)) = Status.Raised
status_of_end (Some ThreadEnd.Budget) = Status.Spent
status_of_end (Some (ThreadEnd.Halt n)) = Status.Halted n

-- main's end
abbrev pub status_of_main : List Entry → Status
status_of_main h = status_of_end (end_of 1 (reading h).standing.threads)

-- what counts before main's end: that a thread has ended the run
abbrev pub status_where : Option ℕ → Status → Status
status_where None s = s
status_where (Some n) s = Status.Halted n

-- the status of a run: the number with which a thread has ended it, or else main's end
abbrev pub status_of : List Entry → Status
status_of h = status_where (reading h).standing.halted (status_of_main h)

-- what an entry makes of the status of main's end, where the flag says whether it is main's
abbrev pub status_after : Bool → Act → Status → Status
status_after true (Act.End e) s = status_of_end (Some e)
status_after true Act.Start s = s
status_after true (Act.Batch us) s = s
status_after true (Act.Halt n) s = s
status_after true Act.Left s = s
status_after false a s = s
