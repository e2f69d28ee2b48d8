use Rattle.std.proofs.Common.{◌≡◌, ◌≤◌, take, drop, length, vec_len}
use Rattle.plenv.specs.Env.{freed}
use Rattle.plenv.proofs.env.free.Given as goal

abbrev pub invariant-loop-noted : goal.invariant-loop-noted
invariant-loop-noted l = record {
  room : l.keep ≤ length l.noted.items;
  slots : freed l.slots.items (drop l.keep l.noted.items) ≡ freed l.initial.slots.items (drop l.keep l.initial.noted.items);
  noted : take l.keep l.noted.items ≡ take l.keep l.initial.noted.items;
}

abbrev pub decreases-loop-noted : goal.decreases-loop-noted
decreases-loop-noted l = vec_len l.noted
