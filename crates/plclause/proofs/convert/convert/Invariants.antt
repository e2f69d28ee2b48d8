use Rattle.std.proofs.Common.{◌≡◌, ◌∷◌, [], Some, length, flat_map}
use Rattle.plterm.specs.Reading.{spelling, AllFit}
use Rattle.plclause.specs.Goals.{goal_nodes, joined}
use Rattle.plclause.proofs.convert.convert.Given as goal

abbrev pub invariant-goals : goal.invariant-goals
invariant-goals l = record {
  same : joined (Some l.nodes.items) (goal_nodes l.goals) ≡ goal_nodes (l.term ∷ []);
  fits : AllFit l.nodes.items;
}

abbrev pub decreases-goals : goal.decreases-goals
decreases-goals l = length (flat_map spelling l.goals)
