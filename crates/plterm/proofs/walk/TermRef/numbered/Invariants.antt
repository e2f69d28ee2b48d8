use Rattle.std.proofs.Common.{◌≡◌, ◌++◌, length}
use Rattle.std.specs.List.{flat_map}
use Rattle.plterm.specs.Reading.{spelling, AllFit}
use Rattle.plterm.specs.Variables.{seen_after}
use Rattle.plterm.proofs.Spellings.{numbering}
use Rattle.plterm.proofs.walk.TermRef.numbered.Given as goal

abbrev pub invariant-terms : goal.invariant-terms
invariant-terms l = record {
  nodes : l.nodes.items ++ numbering l.seen (flat_map spelling l.terms) ≡ numbering l.initial.seen (spelling l.self);
  seen : seen_after l.seen (flat_map spelling l.terms) ≡ seen_after l.initial.seen (spelling l.self);
  fits : AllFit l.nodes.items;
}

abbrev pub decreases-terms : goal.decreases-terms
decreases-terms l = length (flat_map spelling l.terms)
