use Rattle.std.proofs.Common.{◌≤◌}
use Rattle.plterm.specs.Variables.{place}
use Rattle.plcollect.proofs.seen.place_in.Given as goal

abbrev pub invariant-loop-i : goal.invariant-loop-i
invariant-loop-i l = l.i ≤ place l.number l.few
