use Rattle.std.proofs.Common.{◌≡◌, ◌≤◌, ◌++◌, length}
use Rattle.plsearch.specs.Lists.{levels}
use Rattle.pllinks.specs.Lists.{all_elements}
use Rattle.pllinks.specs.Links.{list_at}
use Rattle.plstack.specs.State.{goals_in, goals_of}
use Rattle.plstack.proofs.stack.Stack.levels.Given as goal

abbrev pub invariant-loop-link : goal.invariant-loop-link
invariant-loop-link l = record {
  there : l.at ≤ length l.self.links;
  so_far : l.found.items ++ levels (all_elements (goals_in l.self) l.self.env (list_at l.self.links l.at)) ≡ levels (goals_of l.self l.fn.list);
}

abbrev pub decreases-loop-link : goal.decreases-loop-link
decreases-loop-link l = l.at
