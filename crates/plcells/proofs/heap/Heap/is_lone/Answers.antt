use Rattle.std.proofs.Common.{◌∙◌, map, arith}
use Rattle.std.proofs.lemmas.List.{length-map}
use Rattle.plcells.specs.Skipping.{plain}
use Rattle.plcells.proofs.Values.{read-at, variable-within}
use Rattle.plcells.proofs.Searching.{lone-none}
use Rattle.plcells.proofs.heap.Heap.is_lone.Goals as goal

pub returns-in-Lone : goal.returns-in-Lone
returns-in-Lone c =
    let end = rw (← c.self.view_is) at c.requires in
    rw (← c.self.view_is) (λ yes_is n d numbered lt ne.
    let cells = c.self.inside.cells.items in
    let within = variable-within (map plain cells) c.args.x end in
    let here = read-at cells c.args.x c.index.result.now (omega (arith, within, length-map cells plain)) (rw c.place.ensures.is at c.index.ensures) in
    lone-none _ c.self.invariant.heap c.args.x n end numbered cells c.in-Lone.field-0 c.self.invariant.lone (here ∙ c.in-Lone.is) d lt ne)
