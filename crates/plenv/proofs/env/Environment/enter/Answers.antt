use Rattle.std.proofs.Common.{◌≡◌, ◌+◌, ◌^◌, ◌<◌, ◌∙◌, length, ap, arith}
use Rattle.plenv.specs.Env.{Env}
use Rattle.plenv.proofs.Changing.{slots-entered, entered}
use Rattle.plenv.proofs.env.Environment.enter.Goals as goal

pub invariant_of-self : goal.invariant_of-self
invariant_of-self c =
    let s = c.self.inside in
    let e : Env = record { heap = s.heap; slots = s.slots.items; noted = s.noted.items; boundary = s.boundary; count = s.count } in
    let room : length s.slots.items + c.args.width < 2 ^ 32 = omega (arith, c.in-Ok.ensures, c.len-base.ensures, s.slots.ok.0, c.if-width-place.false) in
    let count : c.in-Some.count ≡ s.count + c.args.width = c.in-Some.ensures.1 ∙ ap (λ w. s.count + w) c.from.ensures in
    rw (c.in-Ok-push_free.ensures.ok, count) (slots-entered e c.args.width c.self.invariant room)

pub returns-in-Ok-push_free-clause-ok : goal.returns-in-Ok-push_free-clause-ok
returns-in-Ok-push_free-clause-ok c = rw (← c.self.view_is) (
    let s = c.self.inside in
    let e : Env = record { heap = s.heap; slots = s.slots.items; noted = s.noted.items; boundary = s.boundary; count = s.count } in
    let room : length s.slots.items + c.args.width < 2 ^ 32 = omega (arith, c.in-Ok.ensures, c.len-base.ensures, s.slots.ok.0, c.if-width-place.false) in
    let count : c.in-Some.count ≡ s.count + c.args.width = c.in-Some.ensures.1 ∙ ap (λ w. s.count + w) c.from.ensures in
    rw (c.in-Ok-push_free.ensures.ok, count, c.in-Ok.ensures.1, c.len-base.ensures, s.slots.ok.0) (entered e c.args.width c.self.invariant room))
