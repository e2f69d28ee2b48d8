use Rattle.std.proofs.Common.{◌≤◌, ◌-◌, length}
use Rattle.std.specs.List.{flat_map}
use Rattle.plterm.specs.Reading.{spelling}
use Rattle.plterm.proofs.Steps.{CopiesFirst}
use Rattle.plterm.proofs.walk.Terms.copy_nodes.Given as goal

abbrev pub invariant-terms : goal.invariant-terms
invariant-terms l = record {
  room : l.behind ≤ length l.self;
  copies : CopiesFirst l.initial.self l.count l.initial.made.items (length l.self - l.behind) l.self l.made.items;
}

abbrev pub decreases-terms : goal.decreases-terms
decreases-terms l = length (flat_map spelling l.self)
