use Rattle.std.proofs.Common.{arith}
use Rattle.plstack.proofs.Settling.{given-up}
use Rattle.plstack.proofs.Stacks.{inside}
use Rattle.plstack.proofs.stack.Stack.oldest_from.Goals as goal

pub returns-in-Open : goal.returns-in-Open
returns-in-Open c =
    let s = inside c.self.inside in
    rw (← c.self.view_is) (given-up s c.args.at c.loop-i.i c.index.result.now c.in-Open.point c.in-Open.field-1 c.self.invariant.0 c.loop-i.invariant.from (omega (arith, c.loop-i-test.true, c.len.ensures, c.self.inside.frames.ok.0)) c.index.ensures c.in-Open.is)
