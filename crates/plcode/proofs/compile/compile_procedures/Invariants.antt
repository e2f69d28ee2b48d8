use Rattle.std.proofs.Common.{take}
use Rattle.plprogram.specs.Program.{AreOwn}
use Rattle.plcode.specs.Steps.{text, Extended}
use Rattle.plcode.specs.Bodies.{IsCode}
use Rattle.plcode.specs.Clauses.{AreProcedures}
use Rattle.plcode.proofs.compile.compile_procedures.Given as goal

abbrev pub invariant-loop-index : goal.invariant-loop-index
invariant-loop-index l = record {
  code : IsCode (text l.code);
  extended : Extended (text l.initial.code) (text l.code);
  procedures : AreProcedures (text l.code) l.made.items (take l.index l.program.procedures);
  own : AreOwn (take l.index l.program.procedures);
}
