-- What the words ask for, and why they are refused.
use Rattle.std.proofs.Common.{ℕ, List, Some, None, Result, Ok, Err, IfOk, IfErr, subst}
use Rattle.plterm.specs.Tree.{Tree}
use Rattle.plload.specs.Goals.{IsGoal}
use Rattle.plhist.specs.declared.status.Status.{Status}
use Rattle.plwords.specs.declared.form.Form.{Form}
use Rattle.plwords.specs.declared.form.Form.TheVariants.{Run}
use Rattle.plwords.specs.Commands.{IsRead, IsLine}
use Rattle.plwords.proofs.Answered.{read_once}
use Rattle.plcommand.specs.Words.{Means, runs, IsOf, IsCommand}
use Rattle.plcommand.specs.Outcome.{IsFormCause, IsWordsCause}

-- a text that is no goal is none of a run
pub no_goal : (steps : ℕ) (text : List ℕ) → ((goal : Tree) → IsGoal text goal → ⊥) → (form : Form Tree) → Means (Run steps (Some text)) form → ⊥
no_goal steps text none form (runs {goal = None} h) = h
no_goal steps text none form (runs {goal = Some goal} h) = none goal h

module _ (words : List (List ℕ)) (asked : Form (List ℕ)) (path : List ℕ) (read : IsRead words asked path) where
  pub asks : (r : Result (Form Tree) Status) → IfOk r (Means asked) → IfOk r (λ form. IsOf form words)
  asks (Ok form) means = (path, (asked, read, means))
  asks (Err status) means = tt

  never : ((form : Form Tree) → Means asked form → ⊥) → IsCommand words → ⊥
  never none (form, other, (also, again, means)) = none form (subst (λ t. Means t form) (read_once words also asked other path again read) means)

  caused : (status : Status) → IsFormCause asked status → IsWordsCause words status
  caused Status.Done h = h
  caused Status.Failed h = h
  caused Status.Raised h = h
  caused Status.Spent h = h
  caused (Status.Halted n) h = h
  caused Status.Usage h = never h
  caused (Status.Refused line column kind) h = h
  caused Status.ReadFault h = h
  caused Status.TooLong h = h
  caused Status.NoMemory h = tt
  caused Status.WriteFault h = h

  pub cause : (r : Result (Form Tree) Status) → IfErr r (IsFormCause asked) → IfErr r (IsWordsCause words)
  cause (Ok form) h = tt
  cause (Err status) h = caused status h

-- words that are of no form are no command
pub no_line : (words : List (List ℕ)) → (IsLine words → ⊥) → IsCommand words → ⊥
no_line words none (form, path, (texts, read, means)) = none (texts, path, read)
