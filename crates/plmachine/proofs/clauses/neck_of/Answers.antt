use Rattle.std.proofs.Common.{arith}
use Rattle.plmachine.proofs.Necks.{block-no-two, end-no-neck}
use Rattle.plmachine.proofs.clauses.neck_of.Goals as goal

pub returns-in_default : goal.returns-in_default
returns-in_default c = record { some = tt; none = end-no-neck c.args.heap.now c.root.result _ c.root.ensures.heap c.root.ensures.end c.in_default.not-Str c.root.ensures.same }

pub returns-then-arity-ne2-clause-none : goal.returns-then-arity-ne2-clause-none
returns-then-arity-ne2-clause-none c = block-no-two c.args.heap.now c.in-Str.p c.block-f.result.0 c.block-f.result.1 c.block-f.ensures.block _ c.in-Str.ensures.same (λ e. omega (arith, c.if-arity-ne2.true, e))
