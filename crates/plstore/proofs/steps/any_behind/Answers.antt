use Rattle.std.proofs.Common.{arith}
use Rattle.plstore.proofs.steps.any_behind.Goals as goal

pub onward-at-requires-clause-from : goal.onward-at-requires-clause-from
onward-at-requires-clause-from c = record { mark = c.requires.held; passed = λ j d room mark shown lt. omega (arith, lt) }
