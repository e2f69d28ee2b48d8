-- What an answer says, and which refusals a known text rules out.
use Rattle.std.proofs.Common.{◌≡◌, ◌+◌, ◌≤◌, ◌⊎◌, ◌∙◌, ℕ, List, length, Option, Some, None, IfSome, IsNone, ◌++◌, inl, inr, refl, ap, sym, subst, append-nil, length-append, arith}
use Rattle.std.specs.Io.KnownBytes.{Appends, Consumes, IsAtEnd}
use Rattle.plio.specs.Causes.{Rose, TookCount}
use Rattle.plevent.specs.declared.request.ThreadEnd.{ThreadEnd}
use Rattle.plevent.specs.declared.request.ThreadEnd.TheVariants.{True, False, Exception, Budget, Halt}
use Rattle.plprogram.specs.Program.{Program}
use Rattle.plload.specs.Draft.{empty_draft, with_term, program_of}
use Rattle.plload.specs.Loading.{Loads, Outcome, Accepts, Refuses}
use Rattle.plload.specs.declared.error.RefusalKind.{RefusalKind}
use Rattle.plload.proofs.Once.{one_outcome}
use Rattle.plhist.specs.declared.history.History.{History}
use Rattle.plhist.specs.declared.status.Status.{Status}
use Rattle.plevent.specs.declared.act.Entry.{Entry}
use Rattle.plevent.specs.Reading.{reading}
use Rattle.plhist.specs.Status.{end_of, status_of_end, status_of_main, status_where, status_of}
use Rattle.plterm.specs.Tree.{Tree}
use Rattle.plwords.specs.declared.form.Form.{Form}
use Rattle.plcommand.specs.Words.{IsCommand, IsOf}
use Rattle.plcommand.specs.Outcome.{text_limit, Gave, HasRun, Makes, ran, checked, listed, refused, Wrote, IsAnswer, IsUnread, IsAnswerOrMemory, IsShort, IsWordsCause, IsReadCause}

-- what was read of a known text to its end is that text
read_whole : (text read : List ℕ) (now : Option (List ℕ)) → Consumes (Some text) now read → IsAtEnd now → text ≡ read
read_whole text read None taken whole = absurd taken
read_whole text read (Some left) taken whole = taken ∙ ap (λ xs. read ++ xs) whole ∙ append-nil read

abbrev IsAccepted : Outcome Program → Type 0
IsAccepted (Accepts p) = Unit {0}
IsAccepted (Refuses line column kind) = ⊥

-- a text that is refused has no run
pub never_run : (words : List (List ℕ)) (before now : Option (List ℕ)) (h : History) (text : List ℕ) (line column : ℕ) (kind : RefusalKind) →
    before ≡ Some text → HasRun words before now h → Loads text (Refuses line column kind) → ⊥
never_run words before now h text line column kind known run bad =
    let same : text ≡ run.text = read_whole text run.text now (subst (λ b. Consumes b now run.text) known run.gave.0) run.gave.1 in
    let accepted : Loads text (Accepts run.program) = subst (λ t. Loads t (Accepts run.program)) (sym same) run.loaded in
    subst IsAccepted (one_outcome with_term empty_draft program_of text (Accepts run.program) (Refuses line column kind) accepted bad) tt

-- the status of a run, of a listing or of a refusal is an answer
end_answers : (e : Option ThreadEnd) → IsAnswer (status_of_end e)
end_answers None = tt
end_answers (Some True) = tt
end_answers (Some False) = tt
end_answers (Some (Exception ball)) = tt
end_answers (Some Budget) = tt
end_answers (Some (Halt n)) = tt

where_answers : (o : Option ℕ) (s : Status) → IsAnswer s → IsAnswer (status_where o s)
where_answers None s is = is
where_answers (Some n) s is = tt

journal_answers : (h : List Entry) → IsAnswer (status_of h)
journal_answers h = where_answers (reading h).standing.halted (status_of_main h) (end_answers (end_of 1 (reading h).standing.threads))

pub answers : (text : List ℕ) (form : Form Tree) (history : Option History) (output : List ℕ) (status : Status) → Makes text form history output status → IsAnswer status
answers text form history output status (ran {h = h} l b r) = journal_answers h.journal
answers text form history output status (checked l) = tt
answers text form history output status (listed l) = tt
answers text form history output status (refused l) = tt

-- a history comes of a run
pub has_run : (words : List (List ℕ)) (form : Form Tree) (before now : Option (List ℕ)) (text : List ℕ) (history : Option History) (output : List ℕ) (status : Status) →
    IsOf form words → Gave before now text → Makes text form history output status → (h : History) → history ≡ Some h → HasRun words before now h
has_run words form before now text history output status asked gave (ran {steps} {goal} {program} {whole} {h = k} l b r) h e =
    let same : k ≡ h = cc in
    subst (HasRun words before now) same (record { steps = steps; goal = goal; asked = asked; text = text; gave = gave; program = program; loaded = l; whole = whole; library = b; run = r })
has_run words form before now text history output status asked gave (checked l) h e = absurd cc
has_run words form before now text history output status asked gave (listed l) h e = absurd cc
has_run words form before now text history output status asked gave (refused l) h e = absurd cc

-- more than the limit was not taken of a text within it
too_many : (text taken : List ℕ) (now : Option (List ℕ)) → Consumes (Some text) now taken → length taken ≤ length text
too_many text taken None h = absurd h
too_many text taken (Some left) h = omega (arith, ap length h, length-append taken left)

pub not_long : (before now : Option (List ℕ)) (text : List ℕ) → before ≡ Some text → length text ≤ text_limit → TookCount before now (text_limit + 1) → ⊥
not_long before now text known short (taken, consumed, count) =
    let few = too_many text taken now (subst (λ b. Consumes b now taken) known consumed) in omega (arith, few, count, short)

-- a known text that is short enough is read, unless the source failed or memory gave out
pub was_read : (before now : Option (List ℕ)) (faults later : ℕ) (text : List ℕ) (status : Status) → before ≡ Some text → length text ≤ text_limit →
    (Rose faults later → ⊥) → IsReadCause before now faults later status → IsAnswerOrMemory status
was_read before now faults later text Status.Done known short sound h = absurd h
was_read before now faults later text Status.Failed known short sound h = absurd h
was_read before now faults later text Status.Raised known short sound h = absurd h
was_read before now faults later text Status.Spent known short sound h = absurd h
was_read before now faults later text (Status.Halted n) known short sound h = absurd h
was_read before now faults later text Status.Usage known short sound h = absurd h
was_read before now faults later text (Status.Refused line column kind) known short sound h = absurd h
was_read before now faults later text Status.ReadFault known short sound h = absurd (sound h.0)
was_read before now faults later text Status.TooLong known short sound h = absurd (not_long before now text known short h)
was_read before now faults later text Status.NoMemory known short sound h = inr refl
was_read before now faults later text Status.WriteFault known short sound h = absurd h

-- an output is written, unless the sink failed or memory gave out
pub was_written : (before now : Option (List ℕ)) (faults later : ℕ) (output : List ℕ) (whole status : Status) → IsAnswer whole → (Rose faults later → ⊥) →
    Wrote before now faults later output whole status → IsAnswerOrMemory status
was_written before now faults later output whole status good sound w =
    elim w.ends [
      | inl e ↦ inl (subst IsAnswer (sym e.0) good)
      | inr other ↦ elim other [
        | inl e ↦ inr e
        | inr e ↦ absurd (sound e.1)
      ]
    ]

-- what is written of an answer: the status is none of those before writing
abbrev pub Finished : Status → Type 0
Finished Status.Done = Unit {0}
Finished Status.Failed = Unit {0}
Finished Status.Raised = Unit {0}
Finished Status.Spent = Unit {0}
Finished (Status.Halted n) = Unit {0}
Finished Status.Usage = ⊥
Finished (Status.Refused line column kind) = Unit {0}
Finished Status.ReadFault = ⊥
Finished Status.TooLong = ⊥
Finished Status.NoMemory = Unit {0}
Finished Status.WriteFault = Unit {0}

answer_finished : (s : Status) → IsAnswer s → Finished s
answer_finished Status.Done h = tt
answer_finished Status.Failed h = tt
answer_finished Status.Raised h = tt
answer_finished Status.Spent h = tt
answer_finished (Status.Halted n) h = tt
answer_finished Status.Usage h = absurd h
answer_finished (Status.Refused line column kind) h = tt
answer_finished Status.ReadFault h = absurd h
answer_finished Status.TooLong h = absurd h
answer_finished Status.NoMemory h = tt
answer_finished Status.WriteFault h = tt

pub not_unread : (s : Status) → Finished s → IsUnread s → ⊥
not_unread Status.Done f u = u
not_unread Status.Failed f u = u
not_unread Status.Raised f u = u
not_unread Status.Spent f u = u
not_unread (Status.Halted n) f u = u
not_unread Status.Usage f u = f
not_unread (Status.Refused line column kind) f u = u
not_unread Status.ReadFault f u = f
not_unread Status.TooLong f u = f
not_unread Status.NoMemory f u = u
not_unread Status.WriteFault f u = u

module _ (before now : Option (List ℕ)) (faults later : ℕ) (output : List ℕ) (whole status : Status) (good : IsAnswer whole) (w : Wrote before now faults later output whole status) where
  pub finished : Finished status
  finished =
      elim w.ends [
        | inl e ↦ subst Finished (sym e.0) (answer_finished whole good)
        | inr other ↦ elim other [
          | inl e ↦ subst Finished (sym e) tt
          | inr e ↦ subst Finished (sym e.0) tt
        ]
      ]

  pub whole_written : IsAnswer status → (status ≡ whole) × Appends before now output
  whole_written h =
      elim w.ends [
        | inl e ↦ e
        | inr other ↦ elim other [
          | inl e ↦ absurd (subst IsAnswer e h)
          | inr e ↦ absurd (subst IsAnswer e.0 h)
        ]
      ]

  pub faulted : status ≡ Status.WriteFault → Rose faults later
  faulted f =
      elim w.ends [
        | inl e ↦ absurd (subst IsAnswer (sym e.0 ∙ f) good)
        | inr other ↦ elim other [
          | inl e ↦ absurd (let no : Status.NoMemory ≡ Status.WriteFault = sym e ∙ f in cc)
          | inr e ↦ e.1
        ]
      ]

pub if_some : {A : Type 0} (P : A → Type 0) (o : Option A) → ((x : A) → o ≡ Some x → P x) → IfSome o P
if_some P None f = tt
if_some P (Some x) f = f x refl

pub is_none : {A : Type 0} (o : Option A) → ((x : A) → o ≡ Some x → ⊥) → IsNone o
is_none None f = refl
is_none (Some x) f = absurd (f x refl)

-- words that were refused, or memory gave out
pub words_refused : (words : List (List ℕ)) (status : Status) → IsWordsCause words status → (status ≡ Status.Usage) ⊎ (status ≡ Status.NoMemory)
words_refused words Status.Done h = absurd h
words_refused words Status.Failed h = absurd h
words_refused words Status.Raised h = absurd h
words_refused words Status.Spent h = absurd h
words_refused words (Status.Halted n) h = absurd h
words_refused words Status.Usage h = inl refl
words_refused words (Status.Refused line column kind) h = absurd h
words_refused words Status.ReadFault h = absurd h
words_refused words Status.TooLong h = absurd h
words_refused words Status.NoMemory h = inr refl
words_refused words Status.WriteFault h = absurd h

pub words_unread : (words : List (List ℕ)) (status : Status) → IsWordsCause words status → IsShort status → ⊥
words_unread words status cause short = elim (words_refused words status cause) [
  | inl e ↦ subst IsShort e short
  | inr e ↦ subst IsShort e short
]

pub words_no_answer : (words : List (List ℕ)) (status : Status) → IsWordsCause words status → IsAnswer status → ⊥
words_no_answer words status cause answer = elim (words_refused words status cause) [
  | inl e ↦ subst IsAnswer e answer
  | inr e ↦ subst IsAnswer e answer
]

pub words_complete : (words : List (List ℕ)) (status : Status) → IsWordsCause words status → IsCommand words → IsAnswerOrMemory status
words_complete words status cause command = elim (words_refused words status cause) [
  | inl e ↦ absurd (subst (IsWordsCause words) e cause command)
  | inr e ↦ inr e
]
