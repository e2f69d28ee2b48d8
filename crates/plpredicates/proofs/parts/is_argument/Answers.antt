use Rattle.std.proofs.Common.{arith}
use Rattle.plcells.specs.Store.{value}
use Rattle.plpredicates.proofs.Arguments.{no_first, none_behind, one_at}
use Rattle.plpredicates.proofs.parts.is_argument.Goals.{then-number-eq0-via-then-number-eq0, then-number-eq0-via-else-number-eq0+then-number-from}
use Rattle.plpredicates.proofs.parts.is_argument.Goals as goal

pub returns-then-number-eq0-clause-is : goal.returns-then-number-eq0-clause-is
returns-then-number-eq0-clause-is c = λ s n.
    let h = c.args.heap.now in
    let b = c.args.block in
    let a = value h c.args.argument in
    elim c.then-number-eq0.branch [
      | then-number-eq0-via-then-number-eq0 w ↦ no_first h b.place b.functor b.arity c.requires.block a s c.args.number w.if-number-eq0.true
      | then-number-eq0-via-else-number-eq0+then-number-from w ↦ none_behind h b.place b.functor b.arity c.requires.block a s c.args.number (omega (arith, w.if-number-from.true, w.from.ensures))
    ]

pub returns-clause-is : goal.returns-clause-is
returns-clause-is c = λ s n.
    let h = c.args.heap.now in
    let b = c.args.block in
    let a = value h c.args.argument in
    one_at h b.place b.functor b.arity c.requires.block a s c.args.number (value h c.argument.result)
    (omega (arith, c.if-number-eq0.false)) (omega (arith, c.if-number-from.false, c.from.ensures)) (rw c.arg.ensures at c.argument.ensures.same)
