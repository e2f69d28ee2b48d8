use Rattle.std.proofs.Common.{◌≤◌, ◌-◌, length}
use Rattle.plprogram.specs.Settings.{iso_settings}
use Rattle.plload.specs.Draft.{Draft, empty_draft, with_term}
use Rattle.plload.specs.Loading.{Ending, Runs}
use Rattle.plload.proofs.load.load.Given as goal

abbrev pub invariant-clauses : goal.invariant-clauses
invariant-clauses l = record {
  within : l.place ≤ length l.text;
  counted : l.draft.directives ≤ l.place;
  ends : (end : Ending Draft) → Runs with_term l.text l.place l.settings l.draft end → Runs with_term l.text 0 iso_settings empty_draft end;
}

abbrev pub decreases-clauses : goal.decreases-clauses
decreases-clauses l = length l.text - l.place
