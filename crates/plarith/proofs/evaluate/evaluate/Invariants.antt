use Rattle.std.proofs.Common.{◌≡◌, All}
use Rattle.plarith.specs.Evaluation.{eval}
use Rattle.plarith.specs.Frames.{ahead, outcome_of, step_bound}
use Rattle.plarith.proofs.evaluate.evaluate.Given as goal

abbrev pub invariant-loop-step : goal.invariant-loop-step
invariant-loop-step g l = record {
  same : outcome_of (g.S.Operands.tree l.source) l.frames.items l.step ≡ eval (g.S.Operands.tree l.source l.fn.operand);
  there : All (g.S.Operands.is_operand l.source) (ahead l.frames.items l.step);
}

abbrev pub decreases-loop-step : goal.decreases-loop-step
decreases-loop-step g l = step_bound (g.S.Operands.tree l.source) l.frames.items l.step
