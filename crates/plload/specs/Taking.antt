-- What a clause or a directive of a text changes: the operators and the flags.
use Rattle.std.specs.Prelude.{◌≡◌, List, Option, Some, None, Result, Ok, Err}
use Rattle.plops.specs.declared.table.Entry.{Entry}
use Rattle.plprogram.specs.Changes.{declared, with_flag}
use Rattle.plprogram.specs.declared.change.Refusal.{Refusal}
use Rattle.plprogram.specs.declared.settings.Settings.{Settings}
use Rattle.plload.specs.Meaning.{Meaning, Adds, Runs, Declares, Operates, Sets, Passes, Refused}
use Rattle.plload.specs.declared.error.RefusalKind.{RefusalKind}
use Rattle.plload.specs.declared.error.RefusalKind.TheVariants.{BadDirective}

-- what a clause or a directive does to the settings, or why it is refused
pub data Taken : Type 0 where
  Takes : Settings → Taken
  Refuses : RefusalKind → Taken

abbrev pub with_operators : Settings → Result (List Entry) Refusal → Taken
with_operators s (Err r) = Refuses BadDirective
with_operators s (Ok entries) = Takes (record s { operators = entries })

abbrev pub taken : Settings → Meaning → Taken
taken s (Adds c) = Takes s
taken s (Runs goal) = Takes s
taken s (Declares ps) = Takes s
taken s (Operates priority kind names) = with_operators s (declared priority kind names s.operators)
taken s (Sets flag) = Takes (with_flag flag s)
taken s Passes = Takes s
taken s (Refused kind) = Refuses kind

-- what `take` answers: the settings after it, or a refusal
abbrev pub Answers : Taken → Settings → Option RefusalKind → Type 0
Answers (Takes s) new None = new ≡ s
Answers (Takes s) new (Some kind) = ⊥
Answers (Refuses k) new None = ⊥
Answers (Refuses k) new (Some kind) = kind ≡ k
