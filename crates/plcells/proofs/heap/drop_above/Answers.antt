use Rattle.std.proofs.Common.{◌<◌, ◌∙◌, ◌+◌, ◌-◌, length, take, get_or, ap, sym, arith}
use Rattle.std.proofs.lemmas.List.{get_or_read}
use Rattle.plcells.proofs.Inside.{taken-own, below-taken}
use Rattle.plcells.proofs.heap.drop_above.Goals as goal

pub returns-then-place-x-clause-kept : goal.returns-then-place-x-clause-kept
returns-then-place-x-clause-kept c =
    taken-own c.args.closed.now.items c.truncate.new.self.items (c.loop-n.n - 1 + 1) (c.truncate.ensures.items ∙ ap (take (c.loop-n.n - 1 + 1)) c.loop-n.invariant)

pub returns-then-place-x-clause-below : goal.returns-then-place-x-clause-below
returns-then-place-x-clause-below c =
    let old = c.args.closed.now.items in
    let few : c.loop-n.n - 1 < length old = omega (arith, c.len-n.ensures, c.args.closed.now.ok.0) in
    let at : c.loop-n.n - 1 < length c.loop-n.closed.items = omega (arith, few, ap length c.loop-n.invariant) in
    let read = get_or_read c.loop-n.closed.items (c.loop-n.n - 1) _ at c.index.ensures 0 in
    let e = ap (λ xs. get_or xs (c.loop-n.n - 1) 0) (sym c.loop-n.invariant) in
    below-taken old c.truncate.new.self.items (c.loop-n.n - 1) c.args.x c.requires few (c.truncate.ensures.items ∙ ap (take (c.loop-n.n - 1 + 1)) c.loop-n.invariant) (omega (arith, c.if-place-x.true, c.place.ensures.is, read, e))
