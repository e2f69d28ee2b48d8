use Rattle.std.proofs.Common.{refl}
use Rattle.plsolver.specs.Solver.{start_given}
use Rattle.plsolver.proofs.Starts.{begins}
use Rattle.plsolver.proofs.progress.Progress.new.Goals as goal

pub returns-clause-begins : goal.returns-clause-begins
returns-clause-begins c = λ v. begins c.args.program.now (start_given c.args.program.now c.args.given) v _ c.in_ok-machine.ensures refl
