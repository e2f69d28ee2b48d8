use Rattle.std.proofs.Common.{refl, arith, reverse, ap, ◌∙◌}
use Rattle.plstack.specs.State.{State}
use Rattle.plstack.proofs.Stacks.{inside}
use Rattle.plstack.proofs.Postponed.{unchanged-at, unchanged-none, unchanged-stack, entered-calls, entered-older, entered-stack, last-calls, last-stack, own-slots}
use Rattle.plstack.proofs.Reopening.{calls_settled, on_err}
use Rattle.plstack.specs.Places.{walks_of}
use Rattle.plstack.proofs.Ending.{call-walks}
use Rattle.plstack.proofs.stack.Stack.open_call.Goals as goal

pub invariant_of-self-in_err-hit : goal.invariant_of-self-in_err-hit
invariant_of-self-in_err-hit c =
    let s : State = inside c.self.inside in
    let m = rw (← c.self.view_is) at c.requires.marks in
    let i = rw (← c.self.view_is) at c.requires.list in
    let f = rw (← c.self.view_is) at c.requires.fits in
    let fit = rw (← c.self.view_is) at c.requires.values in
    rw (c.reserve-2.ensures.items, c.reserve.ensures.items) (unchanged-stack s c.self.inside.depth c.self.invariant c.args.point.now m c.requires.alone i f c.args.procedure _ c.args.values.now fit refl c.fit_first.new.env c.fit_first.ensures.env c.fit_first.ensures.keeps.names c.in_err-hit.ensures.err)

pub returns-in_err-hit-clause-err : goal.returns-in_err-hit-clause-err
returns-in_err-hit-clause-err c =
    let s : State = inside c.self.inside in
    let m = rw (← c.self.view_is) at c.requires.marks in
    let i = rw (← c.self.view_is) at c.requires.list in
    let f = rw (← c.self.view_is) at c.requires.fits in
    let fit = rw (← c.self.view_is) at c.requires.values in
    on_err _ c.from_residual-in_err-hit.result
    (rw (← c.self.view_is, c.reserve-2.ensures.items, c.reserve.ensures.items) (unchanged-at s c.self.inside.depth c.self.invariant c.args.point.now m c.requires.alone i f c.args.procedure _ c.args.values.now fit refl c.fit_first.new.env c.fit_first.ensures.env c.fit_first.ensures.keeps.names c.in_err-hit.ensures.err))

pub invariant_of-self-in_default : goal.invariant_of-self-in_default
invariant_of-self-in_default c =
    let s : State = inside c.self.inside in
    let m = rw (← c.self.view_is) at c.requires.marks in
    let i = rw (← c.self.view_is) at c.requires.list in
    let f = rw (← c.self.view_is) at c.requires.fits in
    let fit = rw (← c.self.view_is) at c.requires.values in
    rw (c.reserve-2.ensures.items, c.reserve.ensures.items) (unchanged-stack s c.self.inside.depth c.self.invariant c.args.point.now m c.requires.alone i f c.args.procedure _ c.args.values.now fit refl c.fit_first.new.env c.fit_first.ensures.env c.fit_first.ensures.keeps.names (rw c.in_default.is at c.in_ok-hit.ensures.back))

pub returns-in_default-clause-no : goal.returns-in_default-clause-no
returns-in_default-clause-no c = λ _ db own.
    let s : State = inside c.self.inside in
    let m = rw (← c.self.view_is) at c.requires.marks in
    let i = rw (← c.self.view_is) at c.requires.list in
    let f = rw (← c.self.view_is) at c.requires.fits in
    let fit = rw (← c.self.view_is) at c.requires.values in
    let k = rw (← c.self.view_is) at own in
    let none = (rw c.in_default.is at c.in_ok-hit.ensures.none) db k in
    rw (← c.self.view_is, c.reserve-2.ensures.items, c.reserve.ensures.items) (unchanged-none s c.self.inside.depth c.self.invariant c.args.point.now m c.requires.alone i f c.args.procedure _ c.args.values.now fit refl c.fit_first.new.env c.fit_first.ensures.env c.fit_first.ensures.keeps.names (rw c.in_default.is at c.in_ok-hit.ensures.back) db none)

pub body_of-self-inside-requires : goal.body_of-self-inside-requires
body_of-self-inside-requires c =
    let s : State = inside c.self.inside in
    let m = rw (← c.self.view_is) at c.requires.marks in
    let i = rw (← c.self.view_is) at c.requires.list in
    let f = rw (← c.self.view_is) at c.requires.fits in
    let fit = rw (← c.self.view_is) at c.requires.values in
    let o = rw (← c.self.view_is) at c.requires.statics in
    let first = (rw c.in-Some.is at c.in_ok-hit.ensures.some) o.0 o.1 in
    let slots = own-slots s c.self.inside.depth c.self.invariant c.args.point.now m c.requires.alone i f c.args.procedure _ c.args.values.now fit refl o.0 o.1 c.fit_first.new.env c.fit_first.ensures.keeps c.fit_first.ensures.env c.in-Some.hit first in
    let few = c.fit_first.ensures.env.slots.few in
    omega (arith, slots, few)

pub invariant_of-self-in-None : goal.invariant_of-self-in-None
invariant_of-self-in-None c =
    let s : State = inside c.self.inside in
    let m = rw (← c.self.view_is) at c.requires.marks in
    let i = rw (← c.self.view_is) at c.requires.list in
    let f = rw (← c.self.view_is) at c.requires.fits in
    let fit = rw (← c.self.view_is) at c.requires.values in
    let o = rw (← c.self.view_is) at c.requires.statics in
    let first = (rw c.in-Some.is at c.in_ok-hit.ensures.some) o.0 o.1 in
    let pushes = rw c.reserve.ensures.items at c.push_call.ensures in
    rw (c.reserve-2.ensures.items, c.body_of-self-inside.ensures, c.in_ok-depth.ensures.ok) (last-stack s c.self.inside.depth c.self.invariant c.args.point.now m c.requires.alone i f c.args.procedure _ c.args.values.now fit refl o.0 o.1 c.fit_first.new.env c.fit_first.ensures.keeps c.fit_first.ensures.env c.in-Some.hit first c.push_call.new.frames.items pushes c.in-None.is)

pub settle-requires-clause-within : goal.settle-requires-clause-within
settle-requires-clause-within c =
    let m = rw (← c.self.view_is) at c.requires.marks in
    c.fit_first.ensures.keeps.within c.args.point.now.marks.env m.mark.within

pub settle-requires-clause-older : goal.settle-requires-clause-older
settle-requires-clause-older c =
    let s : State = inside c.self.inside in
    let m = rw (← c.self.view_is) at c.requires.marks in
    let i = rw (← c.self.view_is) at c.requires.list in
    let f = rw (← c.self.view_is) at c.requires.fits in
    let fit = rw (← c.self.view_is) at c.requires.values in
    let o = rw (← c.self.view_is) at c.requires.statics in
    let first = (rw c.in-Some.is at c.in_ok-hit.ensures.some) o.0 o.1 in
    let pushes = rw c.reserve.ensures.items at c.push_call.ensures in
    entered-older s c.self.inside.depth c.self.invariant c.args.point.now m c.requires.alone i f c.args.procedure _ c.args.values.now fit refl o.0 o.1 c.fit_first.new.env c.fit_first.ensures.keeps c.fit_first.ensures.env c.in-Some.hit first c.push_call.new.frames.items pushes c.in-None.is

pub returns-in-None-clause-yes : goal.returns-in-None-clause-yes
returns-in-None-clause-yes c = λ _ db own.
    let s : State = inside c.self.inside in
    let m = rw (← c.self.view_is) at c.requires.marks in
    let i = rw (← c.self.view_is) at c.requires.list in
    let f = rw (← c.self.view_is) at c.requires.fits in
    let fit = rw (← c.self.view_is) at c.requires.values in
    let k = rw (← c.self.view_is) at own in
    let first = (rw c.in-Some.is at c.in_ok-hit.ensures.some) db k in
    let pushes = rw c.reserve.ensures.items at c.push_call.ensures in
    let settles = rw (c.reserve-2.ensures.items, c.body_of-self-inside.ensures) at c.settle.ensures in
    rw (← c.self.view_is) (calls_settled db s _ c.settle.new.self _ c.args.point.now.list _ (last-calls s c.self.inside.depth c.self.invariant c.args.point.now m c.requires.alone i f c.args.procedure _ c.args.values.now fit refl db k c.fit_first.new.env c.fit_first.ensures.keeps c.fit_first.ensures.env c.in-Some.hit first c.push_call.new.frames.items pushes c.in-None.is) settles)

pub invariant_of-self-in-Some-next : goal.invariant_of-self-in-Some-next
invariant_of-self-in-Some-next c =
    let s : State = inside c.self.inside in
    let m = rw (← c.self.view_is) at c.requires.marks in
    let i = rw (← c.self.view_is) at c.requires.list in
    let f = rw (← c.self.view_is) at c.requires.fits in
    let fit = rw (← c.self.view_is) at c.requires.values in
    let o = rw (← c.self.view_is) at c.requires.statics in
    let first = (rw c.in-Some.is at c.in_ok-hit.ensures.some) o.0 o.1 in
    let pushes = rw c.reserve.ensures.items at c.push_call.ensures in
    rw (c.keep_values.ensures, c.reserve-2.ensures.items, c.body_of-self-inside.ensures, c.in_ok-depth.ensures.ok) (entered-stack s c.self.inside.depth c.self.invariant c.args.point.now m c.requires.alone i f c.args.procedure _ c.args.values.now fit refl o.0 o.1 c.fit_first.new.env c.fit_first.ensures.keeps c.fit_first.ensures.env c.in-Some.hit first c.push_call.new.frames.items pushes)

pub returns-in-Some-next-clause-yes : goal.returns-in-Some-next-clause-yes
returns-in-Some-next-clause-yes c = λ _ db own.
    let s : State = inside c.self.inside in
    let m = rw (← c.self.view_is) at c.requires.marks in
    let i = rw (← c.self.view_is) at c.requires.list in
    let f = rw (← c.self.view_is) at c.requires.fits in
    let fit = rw (← c.self.view_is) at c.requires.values in
    let k = rw (← c.self.view_is) at own in
    let first = (rw c.in-Some.is at c.in_ok-hit.ensures.some) db k in
    let pushes = rw c.reserve.ensures.items at c.push_call.ensures in
    rw (← c.self.view_is, c.keep_values.ensures, c.reserve-2.ensures.items, c.body_of-self-inside.ensures)
    (entered-calls s c.self.inside.depth c.self.invariant c.args.point.now m c.requires.alone i f c.args.procedure _ c.args.values.now fit refl db k c.fit_first.new.env c.fit_first.ensures.keeps c.fit_first.ensures.env c.in-Some.hit first c.push_call.new.frames.items pushes)

pub returns-in-None-clause-walks : goal.returns-in-None-clause-walks
returns-in-None-clause-walks c =
    let pushes = rw c.reserve.ensures.items at c.push_call.ensures in
    rw (← c.self.view_is) (ap (λ fs. walks_of (reverse fs)) c.settle.ensures.frames ∙ call-walks c.args.point.now (record { procedure = c.args.procedure; count = _; next = 0 }) c.in-Some.hit.next (inside c.self.inside).frames c.push_call.new.frames.items pushes)

pub returns-in-Some-next-clause-walks : goal.returns-in-Some-next-clause-walks
returns-in-Some-next-clause-walks c =
    let pushes = rw c.reserve.ensures.items at c.push_call.ensures in
    rw (← c.self.view_is) (call-walks c.args.point.now (record { procedure = c.args.procedure; count = _; next = 0 }) c.in-Some.hit.next (inside c.self.inside).frames c.push_call.new.frames.items pushes)
