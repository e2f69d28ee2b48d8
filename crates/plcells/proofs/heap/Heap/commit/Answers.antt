use Rattle.std.proofs.Common.{map, sym, subst}
use Rattle.plcells.specs.Store.{Store, noted_by}
use Rattle.plcells.specs.Skipping.{plain, IsInside}
use Rattle.plcells.specs.Committing.{Commits}
use Rattle.plcells.proofs.Committing.{commits, inside-committed}
use Rattle.plcells.proofs.heap.Heap.commit.Goals as goal

pub invariant_of-self : goal.invariant_of-self
invariant_of-self c =
    let old = rw (← c.self.view_is) at c.requires.old in
    let noted = rw (← c.self.view_is) at c.requires.noted in
    let s = c.self.inside in
    let h : Store = record { cells = map plain s.cells.items; numbers = s.numbers.items; wide = s.wide.items; trail = s.trail.items; boundary = s.boundary; names = s.names } in
    subst (λ ts. IsInside (noted_by h ts c.args.cells) s.cells.items s.closed.items) (sym c.leave_older.ensures)
    (inside-committed h c.args.trail c.args.cells noted s.cells.items s.closed.items old c.self.invariant)

pub returns : goal.returns
returns c =
    let noted = rw (← c.self.view_is) at c.requires.noted in
    rw (← c.self.view_is) (
    let s = c.self.inside in
    let h : Store = record { cells = map plain s.cells.items; numbers = s.numbers.items; wide = s.wide.items; trail = s.trail.items; boundary = s.boundary; names = s.names } in
    subst (λ ts. Commits h (noted_by h ts c.args.cells) c.args.trail c.args.cells) (sym c.leave_older.ensures) (commits h c.args.trail c.args.cells noted))
