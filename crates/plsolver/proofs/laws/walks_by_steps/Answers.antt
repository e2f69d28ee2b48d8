-- src/laws.rt:25:1
use Rattle.plsolver.proofs.Advancing.{walks_by_steps}
use Rattle.plsolver.proofs.laws.walks_by_steps.Goals as goal

pub returns : goal.returns
returns c = walks_by_steps
