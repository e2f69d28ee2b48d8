use Rattle.std.proofs.Common.{◌≡◌, ◌≤◌, ◌++◌, length, take, drop, reverse}
use Rattle.plcode.specs.Laying.{lowest}
use Rattle.plcode.proofs.lay.put_row.Given as goal

abbrev pub invariant-loop : goal.invariant-loop
invariant-loop l = record {
  room : l.count ≤ length (reverse l.initial.waiting.items);
  nodes : l.nodes.items ≡ l.initial.nodes.items ++ take l.counter (reverse l.initial.waiting.items);
  waiting : reverse l.waiting.items ≡ drop l.counter (reverse l.initial.waiting.items);
  low : l.low ≡ lowest l.end (take l.counter (reverse l.initial.waiting.items));
}
