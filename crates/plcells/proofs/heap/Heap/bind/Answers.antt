use Rattle.std.proofs.Common.{◌<◌, map, length, refl, sym, subst, arith}
use Rattle.std.proofs.lemmas.List.{length-map}
use Rattle.plcells.specs.Store.{Store, IsBinding}
use Rattle.plcells.specs.Skipping.{plain}
use Rattle.plcells.proofs.Kept.{Binds-linked}
use Rattle.plcells.proofs.Inside.{found-place, inside-linked, cells-linked}
use Rattle.plcells.proofs.heap.Heap.bind.Goals as goal

pub invariant_of-self-2 : goal.invariant_of-self-2
invariant_of-self-2 c =
    let may = rw (← c.self.view_is) at c.requires in
    let s = c.self.inside in
    let h : Store = record { cells = map plain s.cells.items; numbers = s.numbers.items; wide = s.wide.items; trail = s.trail.items; boundary = s.boundary; names = s.names } in
    let within : c.args.x < length s.cells.items = omega (arith, may.1.within, length-map s.cells.items plain) in
    let place = found-place s.cells.items c.args.x may.0 c.in-Some.place c.index.result.now within (rw c.place-at.ensures.is at c.index.ensures) (c.place_of.ensures.some c.in-Some.place c.in-Some.is) may.1.free in
    let is : IsBinding h c.args.x c.in-Some.place c.args.v = subst (λ p. IsBinding h c.args.x p c.args.v) (sym place) may.1 in
    let k = c.embed.ensures in
    let r = c.reopen.ensures in
    let cells = cells-linked h c.args.x c.in-Some.place c.args.v s.cells.items c.embed.new.cells.items s.closed.items c.reopen.new.closed.items refl c.self.invariant is k.same k.was k.lone r.kept r.below in
    rw (c.in_ok-note.ensures.ok, c.place-at.ensures.is, cells)
    (inside-linked h c.args.x c.in-Some.place c.args.v s.cells.items c.embed.new.cells.items s.closed.items c.reopen.new.closed.items refl c.self.invariant is k.same k.was k.lone r.kept r.below)

pub returns-clause-ok : goal.returns-clause-ok
returns-clause-ok c = rw (← c.self.view_is) (λ p may.
    let s = c.self.inside in
    let h : Store = record { cells = map plain s.cells.items; numbers = s.numbers.items; wide = s.wide.items; trail = s.trail.items; boundary = s.boundary; names = s.names } in
    let within : c.args.x < length s.cells.items = omega (arith, may.within, length-map s.cells.items plain) in
    let place = found-place s.cells.items c.args.x p c.in-Some.place c.index.result.now within (rw c.place-at.ensures.is at c.index.ensures) (c.place_of.ensures.some c.in-Some.place c.in-Some.is) may.free in
    let k = c.embed.ensures in
    let r = c.reopen.ensures in
    let cells = cells-linked h c.args.x p c.args.v s.cells.items c.embed.new.cells.items s.closed.items c.reopen.new.closed.items refl c.self.invariant may k.same k.was k.lone r.kept r.below in
    rw (c.in_ok-note.ensures.ok, c.place-at.ensures.is, cells) (rw place (Binds-linked h c.args.x p c.args.v c.self.invariant.heap may)))
