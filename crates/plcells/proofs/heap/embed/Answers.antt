use Rattle.std.proofs.Common.{◌<◌, ◌∙◌, subst, length}
use Rattle.plcells.specs.Skipping.{IsPlaced}
use Rattle.plcells.proofs.Values.{read-at}
use Rattle.plcells.proofs.Inside.{embedded}
use Rattle.plcells.proofs.heap.embed.Goals as goal

pub returns-in-Lone-clause-same : goal.returns-in-Lone-clause-same
returns-in-Lone-clause-same c =
    let lt : c.in-Ref.c < length c.args.cells.now.items = subst (IsPlaced (length c.args.cells.now.items)) c.in-Ref.is c.requires in
    rw c.place-in-Lone.ensures.is (embedded c.args.cells.now.items c.in-Ref.c c.in-Lone.place (read-at c.args.cells.now.items c.in-Ref.c c.index.result.now lt (rw c.place.ensures.is at c.index.ensures) ∙ c.in-Lone.is))
