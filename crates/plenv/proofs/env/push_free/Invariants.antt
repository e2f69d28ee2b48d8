use Rattle.std.proofs.Common.{◌≡◌, ◌++◌}
use Rattle.plenv.specs.Env.{free_from}
use Rattle.plenv.proofs.env.push_free.Given as goal

abbrev pub invariant-loop-x : goal.invariant-loop-x
invariant-loop-x l = l.slots.items ≡ l.initial.slots.items ++ free_from l.number l.x
