use Rattle.std.proofs.Common.{◌≡◌, fold}
use Rattle.plprogram.specs.Program.{with_clause}
use Rattle.plprogram.proofs.program.Procedures.add_all.Given as goal

abbrev pub invariant-loop-clause : goal.invariant-loop-clause
invariant-loop-clause l = l.self ≡ fold with_clause l.initial.self l.yielded
