use Rattle.std.proofs.Common.{arith}
use Rattle.std.proofs.lemmas.List.{length-map}
use Rattle.plcells.specs.Skipping.{plain}
use Rattle.plcells.proofs.Values.{read-plain, argument-value}
use Rattle.plcells.proofs.heap.Heap.argument.Goals as goal

pub returns-in_default : goal.returns-in_default
returns-in_default c =
    let within = rw (← c.self.view_is) at c.requires.within in
    let apart = rw (← c.self.view_is) at c.requires.plain in
    rw (← c.self.view_is) (
    let is = c.self.invariant.heap in
    let here = read-plain c.self.inside.cells.items c.args.c c.index.result.now (omega (arith, within, length-map c.self.inside.cells.items plain)) (rw c.place.ensures.is at c.index.ensures) in
    let r = argument-value _ is c.args.c c.index.result.now within here apart (λ p e. c.in_default.not-Free p e) (λ p e. c.in_default.not-Lone p e) in
    record { fits = r.0; same = r.1; heap = is })
