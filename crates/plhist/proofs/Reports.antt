-- A worked report, and the status of the run.
use Rattle.std.proofs.Common.{◌≡◌, ℕ, List, [], ◌∷◌, refl, codes, lit<, map}
use Rattle.std.proofs.lemmas.Fmt.{decimal_digit}
use Rattle.plterm.specs.Tree.{atom}
use Rattle.plevent.specs.declared.request.ThreadEnd.{ThreadEnd}
use Rattle.plevent.specs.declared.act.Act.{Act}
use Rattle.plevent.specs.declared.act.Entry.{Entry}
use Rattle.plevent.specs.Reading.{reading}
use Rattle.plhist.specs.declared.history.RunEnd.{RunEnd}
use Rattle.plhist.specs.declared.history.History.{History}
use Rattle.plhist.specs.declared.status.Status.{Status}
use Rattle.plhist.specs.Legal.{opening}
use Rattle.plhist.specs.Report.{report_text}
use Rattle.plhist.specs.Status.{status_of}

abbrev ended : ThreadEnd → List ℕ → History
ended e out = record {
  journal = opening [] ∷ record { worker = 1; thread = 1; act = Act.Start } ∷ record { worker = 1; thread = 1; act = Act.End e } ∷ [];
  runs = record { thread = 1; places = 2 ∷ []; steps = 1; «end» = RunEnd.Ended e; output = out } ∷ [];
}

-- a newline comes behind an output that lacks one
output : report_text [] (ended ThreadEnd.True (codes "1")) ≡ codes "% thread 1 main: true\n1\n"
unfolding reading
output = rw (decimal_digit 1 (lit< tt)) refl

no_output : report_text [] (ended ThreadEnd.Budget []) ≡ codes "% thread 1 main: budget\n"
unfolding reading
no_output = rw (decimal_digit 1 (lit< tt)) refl

spent : status_of (ended ThreadEnd.Budget []).journal ≡ Status.Spent
unfolding reading
spent = refl

raised : status_of (ended (ThreadEnd.Exception (atom (codes "x"))) []).journal ≡ Status.Raised
unfolding reading
raised = refl

-- the number of the first halt counts, and main's end does not
abbrev halted : List Act → List Entry
halted later = opening [] ∷ record { worker = 1; thread = 1; act = Act.Start } ∷ record { worker = 1; thread = 1; act = Act.Halt 44 } ∷ map (λ a. record { worker = 1; thread = 1; act = a }) later

halts : status_of (halted []) ≡ Status.Halted 44
unfolding reading
halts = refl

halts_first : status_of (halted (Act.Halt 7 ∷ Act.End ThreadEnd.False ∷ [])) ≡ Status.Halted 44
unfolding reading
halts_first = refl
