-- Journals of small runs, computed.
use Rattle.std.specs.Prelude.{◌≡◌, true, false, List, [], ◌∷◌, ◌++◌, Some, None, refl}
use Rattle.plterm.specs.Tree.{atom}
use Rattle.plterm.specs.declared.indicator.Indicator.{Indicator}
use Rattle.plclause.specs.Clause.{Clause}
use Rattle.plevent.specs.declared.update.Update.TheVariants.{First, Last, Erase, EraseOwn, Declare}
use Rattle.plevent.specs.declared.request.ThreadEnd.{ThreadEnd}
use Rattle.plevent.specs.declared.request.Request.{Request}
use Rattle.plevent.specs.declared.request.Reply.{Reply}
use Rattle.plevent.specs.declared.act.Act.{Act}
use Rattle.plevent.specs.declared.act.Entry.{Entry}
use Rattle.plevent.specs.Alive.{Stamped, stamped, named, living, names_of, clauses_alive, exists, is_alive, before, view}
use Rattle.plevent.specs.Reading.{reading, main}
use Rattle.plevent.specs.Rows.{served, is_over, adds, reply_to}

-- p/0 and its facts
abbrev p : Indicator
p = record { name = 112 ∷ []; arity = 0 }

abbrev fact : Clause
fact = record { head = atom (112 ∷ []); body = atom (116 ∷ 114 ∷ 117 ∷ 101 ∷ []); variables = 0 }

abbrev two_batches : List Stamped
two_batches = stamped 0 0 (Declare p ∷ Last fact ∷ Last fact ∷ []) ++ stamped 4 0 (Erase (named 0 1) ∷ First fact ∷ [])

-- the second batch erases one clause and puts another in front
pub walk_before : names_of (living (before 4 two_batches) p) ≡ named 0 1 ∷ named 0 2 ∷ []
unfolding living before
walk_before = refl

pub walk_after : names_of (living (before 5 two_batches) p) ≡ named 4 1 ∷ named 0 2 ∷ []
unfolding living before
walk_after = refl

pub clauses_after : clauses_alive (before 5 two_batches) p ≡ fact ∷ fact ∷ []
unfolding living before
clauses_after = refl

pub erased : is_alive (named 0 1) (before 5 two_batches) ≡ false
unfolding is_alive before
erased = refl

pub not_yet_erased : is_alive (named 0 1) (before 4 two_batches) ≡ true
unfolding is_alive before
not_yet_erased = refl

-- a procedure that was declared is there before it has a clause
pub declared : exists (stamped 0 0 (Declare p ∷ [])) p ≡ true
unfolding exists
declared = refl

-- an erasure of a clause that is not made yet does nothing, and a second one neither
pub too_early : names_of (living (stamped 0 0 (EraseOwn 1 ∷ Last fact ∷ [])) p) ≡ named 0 1 ∷ []
unfolding living
too_early = refl

pub twice : names_of (living (two_batches ++ stamped 5 0 (Erase (named 0 1) ∷ [])) p) ≡ named 4 1 ∷ named 0 2 ∷ []
unfolding living
twice = refl

-- those put in front in one batch stand by falling number
pub fronts : names_of (living (view [] 0 (First fact ∷ First fact ∷ Last fact ∷ EraseOwn 0 ∷ []) 4) p) ≡ named 0 1 ∷ named 0 2 ∷ []
unfolding living before
fronts = refl

-- a journal: the first batch, and what worker 1 then adds by a start, a batch and an end
abbrev opened : List Entry
opened = record { worker = 0; thread = 0; act = Act.Batch (Declare p ∷ []) } ∷ []

abbrev started : List Entry
started = opened ++ record { worker = 1; thread = 1; act = Act.Start } ∷ []

abbrev published : List Entry
published = started ++ record { worker = 1; thread = 1; act = Act.Batch (Last fact ∷ []) } ∷ []

abbrev ended : List Entry
ended = published ++ record { worker = 1; thread = 1; act = Act.End ThreadEnd.True } ∷ []

-- a start names the thread that is started, and not the one that asks
pub start_adds : opened ++ adds opened 1 7 Request.Start ≡ started
unfolding served reading
start_adds = refl

pub start_is_told : reply_to opened 7 Request.Start ≡ Reply.Started 1 (Some main) None
unfolding served reading
start_is_told = refl

pub publish_adds : started ++ adds started 1 1 (Request.Publish (Last fact ∷ [])) ≡ published
unfolding served reading
publish_adds = refl

pub publish_is_told : reply_to started 1 (Request.Publish (Last fact ∷ [])) ≡ Reply.Published
unfolding served reading
publish_is_told = refl

pub finish_adds : published ++ adds published 1 1 (Request.Finish ThreadEnd.True) ≡ ended
unfolding served reading
finish_adds = refl

-- the batch has the place of its entry
pub names_of_all : names_of (living (reading ended).updates p) ≡ named 2 0 ∷ []
unfolding reading living
names_of_all = refl

-- a thread that is not started is told to wait, and adds nothing; so is one that has ended
pub not_started : served (Request.Finish ThreadEnd.True) 1 (reading opened) ≡ (Reply.NotYet (Request.Finish ThreadEnd.True), None)
unfolding served reading
not_started = refl

pub has_ended : served (Request.Publish []) 1 (reading ended) ≡ (Reply.NotYet (Request.Publish []), None)
unfolding served reading
has_ended = refl

-- a second start is told to wait while main runs, and that the run is over when main has ended
pub second_start : served Request.Start 0 (reading started) ≡ (Reply.NotYet Request.Start, None)
unfolding served reading
second_start = refl

pub run_over : served Request.Start 0 (reading ended) ≡ (Reply.RunOver, None)
unfolding served reading
run_over = refl

pub not_over : is_over (reading published).standing ≡ false
unfolding reading
not_over = refl

pub over : is_over (reading ended).standing ≡ true
unfolding reading
over = refl

-- a thread ends the run, and from then on all are stopped
abbrev halted : List Entry
halted = started ++ record { worker = 1; thread = 1; act = Act.Halt 44 } ∷ []

pub halt_adds : started ++ adds started 1 1 (Request.HaltRun 44) ≡ halted
unfolding served reading
halt_adds = refl

pub halt_is_told : reply_to started 1 (Request.HaltRun 44) ≡ Reply.Done
unfolding served reading
halt_is_told = refl

pub halt_ends : is_over (reading halted).standing ≡ true
unfolding reading
halt_ends = refl

pub stopped : served Request.Start 0 (reading halted) ≡ (Reply.Stopped, None)
unfolding served reading
stopped = refl

pub end_stopped : served (Request.Finish ThreadEnd.True) 1 (reading halted) ≡ (Reply.Stopped, None)
unfolding served reading
end_stopped = refl

-- Leave alone is served behind a halt: it adds one entry, and a second one adds none
abbrev left : List Entry
left = halted ++ record { worker = 1; thread = 1; act = Act.Left } ∷ []

pub leave_adds : halted ++ adds halted 1 1 Request.Leave ≡ left
unfolding served reading
leave_adds = refl

pub leave_is_told : reply_to halted 1 Request.Leave ≡ Reply.Done
unfolding served reading
leave_is_told = refl

pub second_leave : served Request.Leave 1 (reading left) ≡ (Reply.Done, None)
unfolding served reading
second_leave = refl

-- what is known of a thread that has left: it is started, it has not ended, and the run stays as it was ended
pub leave_reads : (reading left).standing ≡ record { size = 4; threads = record { number = 1; alias = Some main; goal = None; worker = Some 1; ended = None; left = true } ∷ []; halted = Some 44 }
unfolding reading
leave_reads = refl

pub leave_changes_no_clause : (reading left).updates ≡ (reading halted).updates
unfolding reading
leave_changes_no_clause = refl

-- others are stopped behind it as before it
pub stopped_behind : served (Request.Publish []) 1 (reading left) ≡ (Reply.Stopped, None)
unfolding served reading
stopped_behind = refl

-- before the run is over no thread leaves, one that is not started neither
pub leave_waits : served Request.Leave 1 (reading started) ≡ (Reply.NotYet Request.Leave, None)
unfolding served reading
leave_waits = refl

pub leave_unstarted_waits : served Request.Leave 1 (reading opened) ≡ (Reply.NotYet Request.Leave, None)
unfolding served reading
leave_unstarted_waits = refl

-- one that has ended, that is not started or that was never created does not leave
pub leave_ended : served Request.Leave 1 (reading ended) ≡ (Reply.Done, None)
unfolding served reading
leave_ended = refl

pub leave_unstarted : served Request.Leave 1 (reading (opened ++ record { worker = 2; thread = 2; act = Act.Halt 44 } ∷ [])) ≡ (Reply.Done, None)
unfolding served reading
leave_unstarted = refl

pub leave_unknown : served Request.Leave 7 (reading halted) ≡ (Reply.Done, None)
unfolding served reading
leave_unknown = refl

-- an end of the run is no end that is told
pub halt_is_asked : served (Request.Finish (ThreadEnd.Halt 44)) 1 (reading started) ≡ (Reply.NotYet (Request.Finish (ThreadEnd.Halt 44)), None)
unfolding served reading
halt_is_asked = refl

-- a clause that is alive is erased, by a batch of its own
abbrev erased_one : List Entry
erased_one = published ++ record { worker = 1; thread = 1; act = Act.Batch (Erase (named 2 0) ∷ []) } ∷ []

pub erase_adds : published ++ adds published 1 1 (Request.EraseOne (named 2 0)) ≡ erased_one
unfolding served reading is_alive
erase_adds = refl

pub erase_is_told : reply_to published 1 (Request.EraseOne (named 2 0)) ≡ Reply.Erased
unfolding served reading is_alive
erase_is_told = refl

pub erase_takes : names_of (living (reading erased_one).updates p) ≡ []
unfolding reading living
erase_takes = refl

-- one that was erased is gone, and so is one that was never made: nothing is added
pub second_erase : served (Request.EraseOne (named 2 0)) 1 (reading erased_one) ≡ (Reply.Gone, None)
unfolding served reading is_alive
second_erase = refl

pub never_made : served (Request.EraseOne (named 1 0)) 1 (reading published) ≡ (Reply.Gone, None)
unfolding served reading is_alive
never_made = refl

-- a thread that is not started is told to wait, and all are stopped where one has ended the run
pub erase_waits : served (Request.EraseOne (named 0 0)) 1 (reading opened) ≡ (Reply.NotYet (Request.EraseOne (named 0 0)), None)
unfolding served reading is_alive
erase_waits = refl

pub erase_stopped : served (Request.EraseOne (named 0 0)) 1 (reading halted) ≡ (Reply.Stopped, None)
unfolding served reading is_alive
erase_stopped = refl
