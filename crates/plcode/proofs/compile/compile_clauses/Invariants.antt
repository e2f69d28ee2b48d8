use Rattle.std.proofs.Common.{take}
use Rattle.plcode.specs.Steps.{text, Extended}
use Rattle.plcode.specs.Bodies.{IsCode}
use Rattle.plcode.specs.Clauses.{AreCodeOf}
use Rattle.plcode.proofs.compile.compile_clauses.Given as goal

abbrev pub invariant-loop-clause : goal.invariant-loop-clause
invariant-loop-clause l = record {
  code : IsCode (text l.code);
  extended : Extended (text l.initial.code) (text l.code);
  clauses : AreCodeOf (text l.code) l.made.items (take l.clause-index l.clauses);
}
