use Rattle.std.proofs.Common.{◌∙◌, map, take, refl, ap, arith}
use Rattle.plcells.specs.Store.{Store, cut, IsKept}
use Rattle.plcells.specs.Skipping.{plain}
use Rattle.plcells.proofs.Inside.{cells-cut, inside-cut}
use Rattle.plcells.proofs.Committing.{inside-noted}
use Rattle.plcells.proofs.Marking.{kept-mark}
use Rattle.plcells.proofs.heap.Heap.cut_back.Goals as goal

pub invariant_of-self : goal.invariant_of-self
unfolding cut
invariant_of-self c =
    let s = c.self.inside in
    let h : Store = record { cells = map plain s.cells.items; numbers = s.numbers.items; wide = s.wide.items; trail = s.trail.items; boundary = s.boundary; names = s.names } in
    let kept : IsKept c.args.mark h = rw (← c.self.view_is) at c.requires.kept in
    let mark = kept-mark c.args.mark h c.self.invariant.heap.names kept in
    let cells = c.truncate.ensures.items ∙ ap (take c.args.mark.cells) c.take_off.ensures.cells in
    let inside = inside-cut c.args.mark h s.cells.items s.closed.items c.drop_above.new.closed.items refl c.self.invariant mark c.drop_above.ensures.kept c.drop_above.ensures.below in
    rw (cells, c.truncate-2.ensures.items, c.truncate-3.ensures.items, c.take_off.ensures.trail) (
    rw (cells-cut c.args.mark h s.cells.items s.closed.items c.drop_above.new.closed.items refl c.self.invariant mark c.drop_above.ensures.kept c.drop_above.ensures.below)
    (inside-noted (cut c.args.mark h) _ c.args.boundary _ _ inside.heap.trailed (omega (arith, c.requires.old, inside.heap.bounded)) inside))

pub returns-clause-cut : goal.returns-clause-cut
unfolding cut
returns-clause-cut c =
    rw (← c.self.view_is) (
    let s = c.self.inside in
    let h : Store = record { cells = map plain s.cells.items; numbers = s.numbers.items; wide = s.wide.items; trail = s.trail.items; boundary = s.boundary; names = s.names } in
    let kept : IsKept c.args.mark h = rw (← c.self.view_is) at c.requires.kept in
    let mark = kept-mark c.args.mark h c.self.invariant.heap.names kept in
    let cells = c.truncate.ensures.items ∙ ap (take c.args.mark.cells) c.take_off.ensures.cells in
    rw (cells, c.truncate-2.ensures.items, c.truncate-3.ensures.items, c.take_off.ensures.trail) (
    rw (cells-cut c.args.mark h s.cells.items s.closed.items c.drop_above.new.closed.items refl c.self.invariant mark c.drop_above.ensures.kept c.drop_above.ensures.below) refl))

pub returns-clause-heap : goal.returns-clause-heap
unfolding cut
returns-clause-heap c =
    let s = c.self.inside in
    let h : Store = record { cells = map plain s.cells.items; numbers = s.numbers.items; wide = s.wide.items; trail = s.trail.items; boundary = s.boundary; names = s.names } in
    let kept : IsKept c.args.mark h = rw (← c.self.view_is) at c.requires.kept in
    let mark = kept-mark c.args.mark h c.self.invariant.heap.names kept in
    let cells = c.truncate.ensures.items ∙ ap (take c.args.mark.cells) c.take_off.ensures.cells in
    let inside = inside-cut c.args.mark h s.cells.items s.closed.items c.drop_above.new.closed.items refl c.self.invariant mark c.drop_above.ensures.kept c.drop_above.ensures.below in
    rw (cells, c.truncate-2.ensures.items, c.truncate-3.ensures.items, c.take_off.ensures.trail) (
    let e = cells-cut c.args.mark h s.cells.items s.closed.items c.drop_above.new.closed.items refl c.self.invariant mark c.drop_above.ensures.kept c.drop_above.ensures.below in
    rw e (inside-noted (cut c.args.mark h) _ c.args.boundary _ _ inside.heap.trailed (omega (arith, c.requires.old, inside.heap.bounded)) inside).heap)
