-- What a call of the program comes to.
use Rattle.std.specs.Prelude.{◌≡◌, ◌⊎◌, ◌+◌, ◌++◌, ◌∷◌, [], ℕ, List, Option, None, Some, IfOk, codes, decimal}
use Rattle.std.specs.Io.KnownBytes.{Appends, Consumes, IsAtEnd}
use Rattle.plio.specs.Causes.{Rose, TookCount, TookAtMost, AppendsPrefix}
use Rattle.plops.specs.Given.{iso_table}
use Rattle.plprogram.specs.Program.{Program, with_goal}
use Rattle.plload.specs.Loading.{Loads, Accepts, Refuses}
use Rattle.plload.specs.Listing.{Lists}
use Rattle.plload.specs.declared.error.RefusalKind.{RefusalKind}
use Rattle.pllibrary.specs.Library.{HasLibrary}
use Rattle.plsearch.specs.Starts.{searches}
use Rattle.plhist.specs.declared.history.History.{History}
use Rattle.plhist.specs.declared.status.Status.{Status}
use Rattle.plhist.specs.Legal.{Legal, ByOneWorker, Over}
use Rattle.plhist.specs.Runs.{AllFollow, OneEach}
use Rattle.plhist.specs.Report.{report_text}
use Rattle.plhist.specs.Status.{refusal_text, status_of}
use Rattle.plterm.specs.Tree.{Tree}
use Rattle.plwords.specs.declared.form.Form.{Form}
use Rattle.plwords.specs.declared.form.Form.TheVariants.{Run, Check, List as ListForm}
use Rattle.plcommand.specs.declared.command.Answer.{Answer}
use Rattle.plcommand.specs.Words.{IsCommand, IsOf, Means}

-- the most bytes of a program's text
abbrev pub text_limit : ℕ
text_limit = 16777216

-- a source gave this text, to its end
abbrev pub Gave : Option (List ℕ) → Option (List ℕ) → List ℕ → Type 0
Gave before now text = Consumes before now text × IsAtEnd now

-- A program, and a history of its run: one legal journal of a run that is over, by worker 1, and for each thread that was
-- created exactly one run, which follows the thread's search of so many steps.
pub record IsRunOf (program : Program) (steps : ℕ) (h : History) : Type 0 where
  pub legal : Legal program.first h.journal
  pub workers : ByOneWorker h.journal
  pub over : Over h.journal
  pub each : OneEach h.journal h.runs
  pub follow : AllFollow (searches program steps h.journal) steps h.journal h.runs

-- the line that `check` writes
abbrev pub check_text : Program → List ℕ
check_text program = codes "clauses " ++ decimal program.clauses ++ codes " directives " ++ decimal program.directives ++ 10 ∷ []

-- What a form makes of a text: a history if it runs the program, with those procedures of the library that it lacks and with a
-- goal of its own behind those of the text, the output, and the status. Of a text that is refused, the output is the line that says where.
pub data Makes (text : List ℕ) : Form Tree → Option History → List ℕ → Status → Type 0 where
  ran : {steps : ℕ} {goal : Option Tree} {program whole : Program} {h : History} →
      Loads text (Accepts program) → HasLibrary program whole → IsRunOf (with_goal whole goal) steps h →
      Makes text (Run steps goal) (Some h) (report_text iso_table h) (status_of h.journal)
  checked : {program : Program} → Loads text (Accepts program) → Makes text Check None (check_text program) Status.Done
  listed : {lines : List ℕ} → Lists text (Accepts lines) → Makes text ListForm None lines Status.Done
  refused : {form : Form Tree} {line column : ℕ} {kind : RefusalKind} → Loads text (Refuses line column kind) → Makes text form None (refusal_text line column kind) (Status.Refused line column kind)

-- what a form makes of the text that a source gave
pub record Comes (form : Form Tree) (before now : Option (List ℕ)) (history : Option History) (output : List ℕ) (status : Status) : Type 0 where
  pub text : List ℕ
  pub gave : Gave before now text
  pub makes : Makes text form history output status

-- the words ask for a run, the text that was read is a program's, and this is a history of the run, which has the library
pub record HasRun (words : List (List ℕ)) (before now : Option (List ℕ)) (h : History) : Type 0 where
  pub steps : ℕ
  pub goal : Option Tree
  pub asked : IsOf (Run steps goal) words
  pub text : List ℕ
  pub gave : Gave before now text
  pub program : Program
  pub loaded : Loads text (Accepts program)
  pub whole : Program
  pub library : HasLibrary program whole
  pub run : IsRunOf (with_goal whole goal) steps h

-- An answer says what a form makes of a text; its output may be missing for want of memory.
pub record IsOutcome (text : List ℕ) (form : Form Tree) (a : Answer) : Type 0 where
  pub output : List ℕ
  pub makes : Makes text form a.history output a.status
  pub is : IfOk a.output (λ o. o.items ≡ output)

-- An output was written with this status, which is `whole` where all of it is written. At a fault of the sink and for want
-- of memory a prefix of it is written.
pub record Wrote (before now : Option (List ℕ)) (faults later : ℕ) (output : List ℕ) (whole status : Status) : Type 0 where
  pub part : AppendsPrefix before now output
  pub ends : ((status ≡ whole) × Appends before now output) ⊎ ((status ≡ Status.NoMemory) ⊎ ((status ≡ Status.WriteFault) × Rose faults later))

-- the words, the source, the sink and memory were not in the way: all of the output is written
abbrev pub IsAnswer : Status → Type 0
IsAnswer Status.Done = Unit {0}
IsAnswer Status.Failed = Unit {0}
IsAnswer Status.Raised = Unit {0}
IsAnswer Status.Spent = Unit {0}
IsAnswer (Status.Halted n) = Unit {0}
IsAnswer Status.Usage = ⊥
IsAnswer (Status.Refused line column kind) = Unit {0}
IsAnswer Status.ReadFault = ⊥
IsAnswer Status.TooLong = ⊥
IsAnswer Status.NoMemory = ⊥
IsAnswer Status.WriteFault = ⊥

-- the words or the source were in the way
abbrev pub IsUnread : Status → Type 0
IsUnread Status.Done = ⊥
IsUnread Status.Failed = ⊥
IsUnread Status.Raised = ⊥
IsUnread Status.Spent = ⊥
IsUnread (Status.Halted n) = ⊥
IsUnread Status.Usage = Unit {0}
IsUnread (Status.Refused line column kind) = ⊥
IsUnread Status.ReadFault = Unit {0}
IsUnread Status.TooLong = Unit {0}
IsUnread Status.NoMemory = ⊥
IsUnread Status.WriteFault = ⊥

-- why a form whose goal is a text was refused
abbrev pub IsFormCause : Form (List ℕ) → Status → Type 0
IsFormCause texts Status.Done = ⊥
IsFormCause texts Status.Failed = ⊥
IsFormCause texts Status.Raised = ⊥
IsFormCause texts Status.Spent = ⊥
IsFormCause texts (Status.Halted n) = ⊥
IsFormCause texts Status.Usage = (form : Form Tree) → Means texts form → ⊥
IsFormCause texts (Status.Refused line column kind) = ⊥
IsFormCause texts Status.ReadFault = ⊥
IsFormCause texts Status.TooLong = ⊥
IsFormCause texts Status.NoMemory = Unit {0}
IsFormCause texts Status.WriteFault = ⊥

-- why the words were refused
abbrev pub IsWordsCause : List (List ℕ) → Status → Type 0
IsWordsCause words Status.Done = ⊥
IsWordsCause words Status.Failed = ⊥
IsWordsCause words Status.Raised = ⊥
IsWordsCause words Status.Spent = ⊥
IsWordsCause words (Status.Halted n) = ⊥
IsWordsCause words Status.Usage = IsCommand words → ⊥
IsWordsCause words (Status.Refused line column kind) = ⊥
IsWordsCause words Status.ReadFault = ⊥
IsWordsCause words Status.TooLong = ⊥
IsWordsCause words Status.NoMemory = Unit {0}
IsWordsCause words Status.WriteFault = ⊥

-- why a source gave no text
abbrev pub IsReadCause : Option (List ℕ) → Option (List ℕ) → ℕ → ℕ → Status → Type 0
IsReadCause before now faults later Status.Done = ⊥
IsReadCause before now faults later Status.Failed = ⊥
IsReadCause before now faults later Status.Raised = ⊥
IsReadCause before now faults later Status.Spent = ⊥
IsReadCause before now faults later (Status.Halted n) = ⊥
IsReadCause before now faults later Status.Usage = ⊥
IsReadCause before now faults later (Status.Refused line column kind) = ⊥
IsReadCause before now faults later Status.ReadFault = Rose faults later × TookAtMost before now text_limit
IsReadCause before now faults later Status.TooLong = TookCount before now (text_limit + 1)
IsReadCause before now faults later Status.NoMemory = Unit {0}
IsReadCause before now faults later Status.WriteFault = ⊥

-- it is an answer, or there was no memory
abbrev pub IsAnswerOrMemory : Status → Type 0
IsAnswerOrMemory status = IsAnswer status ⊎ (status ≡ Status.NoMemory)

-- the source was asked for more, and gave no more than a program's text may have
abbrev pub IsShort : Status → Type 0
IsShort Status.Done = Unit {0}
IsShort Status.Failed = Unit {0}
IsShort Status.Raised = Unit {0}
IsShort Status.Spent = Unit {0}
IsShort (Status.Halted n) = Unit {0}
IsShort Status.Usage = ⊥
IsShort (Status.Refused line column kind) = Unit {0}
IsShort Status.ReadFault = Unit {0}
IsShort Status.TooLong = ⊥
IsShort Status.NoMemory = ⊥
IsShort Status.WriteFault = Unit {0}
