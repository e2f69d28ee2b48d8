use Rattle.std.proofs.Common.{refl}
use Rattle.plcells.specs.declared.cell.Cell.TheVariants.{Int, Ref}
use Rattle.plsubst.specs.Subst.{occurs}
use Rattle.plcells.proofs.Searching.{binding-of}
use Rattle.plheaptests.proofs.cells.bound.Goals as goal

pub bind-requires : goal.bind-requires
unfolding occurs
bind-requires c =
    let added = c.in_ok-x.ensures.ok in
    let b = binding-of c.variable.new.self c.boundary-old.ensures.heap c.in_ok-x.x 7 (Int (lib.IntN.pos 5)) added.end added.is tt refl in
    (b.0, b.1)

pub show-requires : goal.show-requires
unfolding occurs
show-requires c =
    let added = c.in_ok-x.ensures.ok in
    let b = binding-of c.variable.new.self c.boundary-old.ensures.heap c.in_ok-x.x 7 (Int (lib.IntN.pos 5)) added.end added.is tt refl in
    (((c.in_ok-bind.ensures.ok b.0 b.1).values) (Ref c.in_ok-x.x) added.fits).0
