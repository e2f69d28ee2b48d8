-- The meaning that the code holds.
use Rattle.plload.specs.declared.meaning.Meaning.{Meaning as Found}
use Rattle.plload.specs.declared.meaning.Meaning.TheVariants as found
use Rattle.plload.specs.Meaning.{Meaning, Adds, Runs, Declares, Operates, Sets, Passes, Refused}

abbrev pub shown : Found → Meaning
shown (found.Adds c) = Adds c
shown (found.Runs goal) = Runs goal
shown (found.Declares ps) = Declares ps.items
shown (found.Operates priority kind names) = Operates priority kind names.items
shown (found.Sets flag) = Sets flag
shown found.Passes = Passes
shown (found.Refused kind) = Refused kind
