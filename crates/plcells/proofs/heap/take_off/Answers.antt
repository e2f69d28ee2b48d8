use Rattle.std.proofs.Common.{◌∙◌, ◌≤◌, length, arith, subst, sym}
use Rattle.std.proofs.lemmas.List.{length-set}
use Rattle.plcells.specs.declared.cell.Cell.TheVariants.{Free}
use Rattle.plcells.specs.Store.{AllBelow}
use Rattle.plcells.proofs.Kept.{below-append, undo_step, undo_trail}
use Rattle.plcells.proofs.heap.take_off.Goals as goal

pub index_mut-requires : goal.index_mut-requires
index_mut-requires c =
    let l = c.loop-trail in
    let b = below-append (length l.cells.items) c.pop.new.self.items c.in-Some.bound (subst (AllBelow (length l.cells.items)) c.in-Some.ensures.items l.invariant.below) in
    omega (arith, b.1, l.cells.ok.0)

pub loop-trail-preserved : goal.loop-trail-preserved
loop-trail-preserved c =
    let l = c.loop-trail in
    let t = c.in-Some.bound in
    let rest = c.pop.new.self.items in
    let e = c.in-Some.ensures.items in
    let b = below-append (length l.cells.items) rest t (subst (AllBelow (length l.cells.items)) e l.invariant.below) in
    let room : c.args.keep ≤ length rest = omega (arith, c.loop-trail-test.true, c.len.ensures, c.pop.new.self.ok.0, c.in-Some.ensures.cases) in
    rw c.place.ensures.is (record {
      room = room;
      below = subst (λ n. AllBelow n rest) (sym (length-set l.cells.items t.cell (Free t.place))) b.0;
      cells = undo_step l.cells.items l.trail.items rest t c.args.keep e room ∙ l.invariant.cells;
      trail = undo_trail l.trail.items rest t c.args.keep e room ∙ l.invariant.trail;
    })
