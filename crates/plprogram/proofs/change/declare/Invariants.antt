use Rattle.std.proofs.Common.{◌≡◌, drop, take}
use Rattle.plprogram.specs.Changes.{declared, until_refused}
use Rattle.plprogram.proofs.Operators.{AreMade}
use Rattle.plprogram.proofs.change.declare.Given as goal

abbrev pub invariant-loop-name : goal.invariant-loop-name
invariant-loop-name l = record {
  says : declared l.priority l.kind l.names l.initial.operators ≡ declared l.priority l.kind (drop l.name-index l.names) l.operators;
  table : until_refused l.priority l.kind l.names l.initial.operators ≡ until_refused l.priority l.kind (drop l.name-index l.names) l.operators;
  made : AreMade l.priority l.kind (take l.name-index l.names) l.initial.operators l.operators;
}
