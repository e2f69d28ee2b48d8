use Rattle.std.proofs.Common.{◌≡◌, ◌+◌, ◌≤◌, List, length}
use Rattle.std.specs.Str.{chars}
use Rattle.plterm.specs.Tree.{Tree}
use Rattle.plgenerator.specs.Fitting.{fitting}
use Rattle.plgenerator.specs.Turns.{IsPart, parts_left}
use Rattle.plgenerator.specs.Wanting.{AreWanted}
use Rattle.plgenerator.proofs.part.first_part.Given as goal

abbrev pub invariant-loop-found : goal.invariant-loop-found
invariant-loop-found l = record {
  part : IsPart (chars l.text) l.next;
  left : (us : List Tree) → length (parts_left (chars l.text) us l.next) ≤ length (parts_left (chars l.text) us l.fn.part);
  same : (us : List Tree) → AreWanted us l.wanted → fitting (parts_left (chars l.text) us l.fn.part) ≡ fitting (parts_left (chars l.text) us l.next);
}

abbrev pub decreases-loop-found : goal.decreases-loop-found
decreases-loop-found l = l.next.length + l.next.after
