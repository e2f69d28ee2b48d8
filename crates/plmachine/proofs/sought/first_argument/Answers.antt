use Rattle.std.proofs.Common.{◌≡◌, suc, ◌-◌, arith}
use Rattle.plmachine.proofs.Firsts.{block-first, block-none, end-no-first}
use Rattle.plmachine.proofs.sought.first_argument.Goals as goal

pub returns-in_default : goal.returns-in_default
returns-in_default c = record { some = tt; none = end-no-first c.args.heap.now c.root.result _ c.root.ensures.heap c.root.ensures.end c.in_default.not-Str c.root.ensures.same }

pub returns-then-arity-eq0-clause-none : goal.returns-then-arity-eq0-clause-none
returns-then-arity-eq0-clause-none c = block-none c.args.heap.now c.in-Str.p c.block-arity.result.0 c.block-arity.result.1 c.block-arity.ensures.block c.args.v.now c.in-Str.ensures.same (omega (arith, c.if-arity-eq0.true))

pub returns-clause-some : goal.returns-clause-some
returns-clause-some c =
    let k = c.block-arity.result.1 in
    let more : k ≡ suc (k - 1) = omega (arith, c.if-arity-eq0.false) in
    block-first c.args.heap.now c.in-Str.p c.block-arity.result.0 k c.block-arity.ensures.block c.args.v.now c.in-Str.ensures.same c.argument.result (k - 1) more c.argument.ensures.fits (rw c.arg.ensures at c.argument.ensures.same)
