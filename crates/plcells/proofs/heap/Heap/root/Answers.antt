use Rattle.std.proofs.Common.{◌<◌, ◌∙◌, map, sym, ap, subst, arith}
use Rattle.std.proofs.lemmas.List.{length-map}
use Rattle.plcells.specs.Store.{IsValue, value}
use Rattle.plcells.specs.Skipping.{plain}
use Rattle.plcells.proofs.Values.{read-plain, plain-same, argument-value, root-nearer, distance}
use Rattle.plcells.proofs.heap.Heap.root.Goals as goal

pub loop-w-smaller : goal.loop-w-smaller
loop-w-smaller c =
    let fits = rw (← c.self.view_is) at (subst (IsValue c.args.self.now) c.in-Ref.is c.loop-w.invariant.fits) in
    let here = read-plain c.self.inside.cells.items c.in-Ref.c c.index.result.now (omega (arith, fits.0, length-map c.self.inside.cells.items plain)) (rw c.place.ensures.is at c.index.ensures) in
    subst (λ v. distance (map plain c.self.inside.cells.items) c.index.result.now < distance (map plain c.self.inside.cells.items) v) (sym c.in-Ref.is)
    (root-nearer _ c.self.invariant.heap c.in-Ref.c c.index.result.now fits.0 (here ∙ plain-same c.index.result.now (λ p e. c.in_default-index.not-Lone p e)))

pub loop-w-preserved : goal.loop-w-preserved
loop-w-preserved c =
    let fits = rw (← c.self.view_is) at (subst (IsValue c.args.self.now) c.in-Ref.is c.loop-w.invariant.fits) in
    let same = rw (← c.self.view_is) at (ap (value c.args.self.now) (sym c.in-Ref.is) ∙ c.loop-w.invariant.same) in
    rw (← c.self.view_is) (
    let here = read-plain c.self.inside.cells.items c.in-Ref.c c.index.result.now (omega (arith, fits.0, length-map c.self.inside.cells.items plain)) (rw c.place.ensures.is at c.index.ensures) in
    let r = argument-value _ c.self.invariant.heap c.in-Ref.c c.index.result.now fits.0 here fits.1 (λ p e. c.in_default-index.not-Free p e) (λ p e. c.in_default-index.not-Lone p e) in
    record { fits = r.0; same = r.1 ∙ same })
