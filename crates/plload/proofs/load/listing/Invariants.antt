use Rattle.std.proofs.Common.{ℕ, ◌≤◌, ◌-◌, List, [], length}
use Rattle.plprogram.specs.Settings.{iso_settings}
use Rattle.plload.specs.Listing.{with_line}
use Rattle.plload.specs.Loading.{Ending, Runs}
use Rattle.plload.proofs.load.listing.Given as goal

abbrev pub invariant-clauses : goal.invariant-clauses
invariant-clauses l = record {
  within : l.place ≤ length l.text;
  ends : (end : Ending (List ℕ)) → Runs with_line l.text l.place l.settings l.lines.items end → Runs with_line l.text 0 iso_settings [] end;
}

abbrev pub decreases-clauses : goal.decreases-clauses
decreases-clauses l = length l.text - l.place
