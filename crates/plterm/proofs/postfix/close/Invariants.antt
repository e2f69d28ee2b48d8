use Rattle.std.proofs.Common.{vec_len}
use Rattle.plterm.proofs.Postfixes.{KeepsAlways}
use Rattle.plterm.proofs.postfix.close.Given as goal

abbrev pub invariant-open : goal.invariant-open
invariant-open l = KeepsAlways l.initial.waiting.items l.waiting.items l.initial.made.items l.made.items

abbrev pub decreases-open : goal.decreases-open
decreases-open l = vec_len l.waiting
