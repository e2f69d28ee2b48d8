use Rattle.std.proofs.Common.{◌≡◌, map, take}
use Rattle.plbuiltin.specs.Current.{operator_terms}
use Rattle.plbuiltin.specs.Solution.{together}
use Rattle.pltexts.proofs.current.operator_groups.Given as goal

abbrev pub invariant-loop-op : goal.invariant-loop-op
invariant-loop-op l = l.groups.items ≡ map together (map operator_terms (take l.op-index l.ops))
