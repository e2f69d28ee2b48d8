use Rattle.std.proofs.Common.{◌≡◌, map, take}
use Rattle.plsubst.specs.Subst.{bind}
use Rattle.plenv.specs.Env.{over}
use Rattle.plenv.specs.Changes.{AreFor, Stays, NoneFreed}
use Rattle.plenv.specs.Rows.{row_at}
use Rattle.plenv.proofs.env.Environment.put_row.Given as goal

abbrev pub invariant-loop-i : goal.invariant-loop-i
invariant-loop-i l = record {
  are : AreFor l.self.heap l.values.items (map (bind (over l.initial.self l.base)) (take l.i (row_at l.initial.self.heap.names l.nodes l.fn.row)));
  stays : Stays l.initial.self l.self;
  names : l.self.heap.names ≡ l.initial.self.heap.names;
  freed : NoneFreed l.initial.self l.self;
}
