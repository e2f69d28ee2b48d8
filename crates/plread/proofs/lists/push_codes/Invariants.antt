use Rattle.std.proofs.Common.{◌≡◌, map}
use Rattle.plread.specs.Texts.{code_tree}
use Rattle.plread.proofs.Joined.{onto}
use Rattle.plread.proofs.lists.push_codes.Given as goal

abbrev pub invariant-loop-c : goal.invariant-loop-c
invariant-loop-c l = l.terms ≡ onto (map code_tree l.yielded) l.initial.terms
