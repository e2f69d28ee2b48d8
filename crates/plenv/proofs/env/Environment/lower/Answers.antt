use Rattle.std.proofs.Common.{◌≡◌, ◌+◌, ◌-◌, ◌≤◌, ◌++◌, length, take, drop, ap, ◌∙◌, arith}
use Rattle.plenv.specs.Env.{Env}
use Rattle.plenv.proofs.Lowering.{slots-lowered, moved-down}
use Rattle.plenv.proofs.env.Environment.lower.Goals as goal

pub invariant_of-self : goal.invariant_of-self
invariant_of-self c =
    let s = c.self.inside in
    let e : Env = record { heap = s.heap; slots = s.slots.items; noted = s.noted.items; boundary = s.boundary; count = s.count } in
    let all : c.len-count.result ≡ length s.slots.items = c.len-count.ensures ∙ s.slots.ok.0 in
    let within : c.args.base ≤ length s.slots.items = rw (← c.self.view_is) at c.requires in
    let down : c.max-keep.result ≤ c.args.base = omega (arith, c.if-keep-from.false) in
    let is : c.truncate.new.self.items ≡ take c.max-keep.result s.slots.items ++ drop c.args.base s.slots.items =
    c.truncate.ensures.items
    ∙ ap (take (c.max-keep.result + (c.len-count.result - c.args.base))) c.copy_within.ensures.items
    ∙ moved-down s.slots.items c.max-keep.result c.args.base c.len-count.result down within all in
    rw is (slots-lowered e c.max-keep.result c.args.base down within c.self.invariant (omega (arith, c.max-keep.ensures)))

pub returns : goal.returns
returns c =
    let s = c.self.inside in
    let all : c.len-count.result ≡ length s.slots.items = c.len-count.ensures ∙ s.slots.ok.0 in
    let within : c.args.base ≤ length s.slots.items = rw (← c.self.view_is) at c.requires in
    let down : c.max-keep.result ≤ c.args.base = omega (arith, c.if-keep-from.false) in
    let is : c.truncate.new.self.items ≡ take c.max-keep.result s.slots.items ++ drop c.args.base s.slots.items =
    c.truncate.ensures.items
    ∙ ap (take (c.max-keep.result + (c.len-count.result - c.args.base))) c.copy_within.ensures.items
    ∙ moved-down s.slots.items c.max-keep.result c.args.base c.len-count.result down within all in
    rw (← c.self.view_is) (record {
      moved = ap (λ ss. record { heap = s.heap; slots = ss; noted = s.noted.items; boundary = s.boundary; count = s.count }) is;
      place = omega (arith, c.max-keep.ensures, c.if-keep-from.false);
    })
