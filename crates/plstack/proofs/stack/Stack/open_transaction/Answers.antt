use Rattle.std.proofs.Common.{arith}
use Rattle.plstack.specs.declared.frame.Marks.{Marks}
use Rattle.plstack.specs.State.{State}
use Rattle.plstack.proofs.Stacks.{inside}
use Rattle.plstack.proofs.Transacting.{transaction-opens, transaction-stack}
use Rattle.plstack.proofs.stack.Stack.open_transaction.Goals as goal

pub invariant_of-self-2 : goal.invariant_of-self-2
invariant_of-self-2 c =
    let s : State = inside c.self.inside in
    let m : Marks = record { env = c.mark.result; links = c.len.result; saved = c.len-2.result } in
    let view = rw (← c.self.view_is) at c.requires.view in
    let list = rw (← c.self.view_is) at c.requires.list in
    let f = rw (← c.self.view_is) at c.requires.fits in
    let first = rw c.reserve.ensures.items at c.count_up.ensures.counts in
    let starts = rw c.reserve-2.ensures.items at c.push_start.ensures in
    rw (c.in_ok-depth.ensures.ok, c.alone-self-inside.ensures) (transaction-stack s c.self.inside.depth c.self.invariant c.args.view view c.args.list list f c.count_up.new.frames.items first c.mark.new.self m c.mark.ensures.mark c.mark.ensures.now c.mark.ensures.same (omega (arith, c.len.ensures, c.self.inside.links.ok.0)) (omega (arith, c.len-2.ensures, c.self.inside.saved.ok.0)) c.push_within.new.items.items c.push_within.ensures.is c.count_up-2.new.frames.items c.count_up-2.ensures.counts c.push_start.new.starts.items starts)

pub returns-clause-ok : goal.returns-clause-ok
returns-clause-ok c =
    let s : State = inside c.self.inside in
    let m : Marks = record { env = c.mark.result; links = c.len.result; saved = c.len-2.result } in
    let view = rw (← c.self.view_is) at c.requires.view in
    let list = rw (← c.self.view_is) at c.requires.list in
    let f = rw (← c.self.view_is) at c.requires.fits in
    let first = rw c.reserve.ensures.items at c.count_up.ensures.counts in
    let starts = rw c.reserve-2.ensures.items at c.push_start.ensures in
    rw (← c.self.view_is, c.alone-self-inside.ensures) (transaction-opens s c.self.inside.depth c.self.invariant c.args.view view c.args.list list f c.count_up.new.frames.items first c.mark.new.self m c.mark.ensures.mark c.mark.ensures.now c.mark.ensures.same (omega (arith, c.len.ensures, c.self.inside.links.ok.0)) (omega (arith, c.len-2.ensures, c.self.inside.saved.ok.0)) c.push_within.new.items.items c.push_within.ensures.is c.count_up-2.new.frames.items c.count_up-2.ensures.counts c.push_start.new.starts.items starts)
