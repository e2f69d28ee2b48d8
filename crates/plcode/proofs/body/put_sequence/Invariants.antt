use Rattle.std.proofs.Common.{◌≡◌, ◌≤◌, ◌-◌, ◌++◌, drop, take}
use Rattle.plcode.specs.declared.op.Op.TheVariants as ops
use Rattle.plcode.specs.Bodies.{step}
use Rattle.plcode.proofs.body.put_sequence.Given as goal

abbrev pub invariant-loop-place : goal.invariant-loop-place
invariant-loop-place l = record {
  from : l.from ≤ l.place;
  code : l.code.items ≡ l.fn.code.items ++ (step ops.Proceed 0 ++ take (l.place - l.from) (drop l.from l.made.items));
}
