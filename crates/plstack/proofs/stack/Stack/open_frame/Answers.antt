use Rattle.std.proofs.Common.{arith}
use Rattle.plstack.specs.declared.frame.Marks.{Marks}
use Rattle.plstack.specs.State.{State}
use Rattle.plstack.proofs.Stacks.{inside}
use Rattle.plstack.proofs.Opening.{framed-stack, framed-opens}
use Rattle.plstack.proofs.stack.Stack.open_frame.Goals as goal

pub invariant_of-self-2 : goal.invariant_of-self-2
invariant_of-self-2 c =
    let s : State = inside c.self.inside in
    let m : Marks = record { env = c.mark.result; links = c.len.result; saved = c.len-2.result } in
    let list = rw (← c.self.view_is) at c.requires.list in
    let f = rw (← c.self.view_is) at c.requires.fits in
    let resume = rw (← c.self.view_is) at c.requires.resume in
    let pushed = rw c.reserve.ensures.items at c.push_within.ensures.is in
    let seen = rw (← c.self.view_is) at c.requires.seen in
    rw c.in_ok-depth.ensures.ok (framed-stack s c.self.inside.depth c.self.invariant c.mark.new.self m c.mark.ensures.mark c.mark.ensures.now c.mark.ensures.same (omega (arith, c.len.ensures, c.self.inside.links.ok.0)) (omega (arith, c.len-2.ensures, c.self.inside.saved.ok.0)) c.args.list c.args.resume list f resume c.requires.none c.push_within.new.items.items pushed c.requires.stays seen)

pub returns-clause-ok : goal.returns-clause-ok
returns-clause-ok c =
    let s : State = inside c.self.inside in
    let m : Marks = record { env = c.mark.result; links = c.len.result; saved = c.len-2.result } in
    let list = rw (← c.self.view_is) at c.requires.list in
    let f = rw (← c.self.view_is) at c.requires.fits in
    let resume = rw (← c.self.view_is) at c.requires.resume in
    let pushed = rw c.reserve.ensures.items at c.push_within.ensures.is in
    rw (← c.self.view_is) (framed-opens s c.self.inside.depth c.self.invariant c.mark.new.self m c.mark.ensures.mark c.mark.ensures.now c.mark.ensures.same (omega (arith, c.len.ensures, c.self.inside.links.ok.0)) (omega (arith, c.len-2.ensures, c.self.inside.saved.ok.0)) c.args.list c.args.resume list f resume c.requires.none c.push_within.new.items.items pushed)
