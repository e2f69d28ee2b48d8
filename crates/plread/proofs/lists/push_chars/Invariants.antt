use Rattle.std.proofs.Common.{◌≡◌, map}
use Rattle.plread.specs.Texts.{char_tree}
use Rattle.plread.proofs.Joined.{onto}
use Rattle.plread.proofs.lists.push_chars.Given as goal

abbrev pub invariant-loop-c : goal.invariant-loop-c
invariant-loop-c l = l.terms ≡ onto (map char_tree l.yielded) l.initial.terms
