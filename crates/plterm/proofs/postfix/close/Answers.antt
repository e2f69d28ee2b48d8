use Rattle.std.proofs.Common.{refl, arith}
use Rattle.plterm.proofs.Postfixes.{goes_on, stops}
use Rattle.plterm.proofs.postfix.close.Goals as goal

pub returns-then-left-gt0 : goal.returns-then-left-gt0
returns-then-left-gt0 c =
    stops c.args.waiting.now.items _ c.pop.new.self.items c.args.made.now.items c.open.made.items c.in-Some.top.node c.in-Some.top.left c.in-Some.ensures.items c.open.invariant _ _ c.if-left-gt0.true refl c.in_ok-push.ensures.items

pub open-preserved : goal.open-preserved
open-preserved c =
    goes_on c.args.waiting.now.items _ c.pop.new.self.items c.args.made.now.items c.open.made.items c.in-Some.top.node c.in-Some.top.left c.in-Some.ensures.items c.open.invariant _ (omega (arith, c.if-left-gt0.false)) c.in_ok-push-2.ensures.items
