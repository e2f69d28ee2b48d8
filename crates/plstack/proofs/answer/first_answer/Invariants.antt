use Rattle.std.proofs.Common.{length}
use Rattle.plgenerator.specs.Answers.{left}
use Rattle.plstack.proofs.Taking.{Passed}
use Rattle.plstack.proofs.answer.first_answer.Given as goal

abbrev pub invariant-answers : goal.invariant-answers
invariant-answers l = Passed l.fn.env l.call.values.now l.call.turn l.env l.left

abbrev pub decreases-answers : goal.decreases-answers
decreases-answers l = length (left l.fn.env.heap l.call.values.now l.left)
