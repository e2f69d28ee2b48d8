use Rattle.std.proofs.Common.{◌≡◌, ◌<◌, ◌+◌, suc, length, arith, ap, ◌∙◌}
use Rattle.plterm.specs.declared.node.Node.TheVariants as nodes
use Rattle.plterm.specs.Building.{with_node}
use Rattle.plread.specs.Texts.{dot}
use Rattle.plread.specs.Machine.{with_tail}
use Rattle.plread.proofs.Joined.{cell_more}
use Rattle.plread.proofs.lists.join.Goals as goal

pub cells-preserved : goal.cells-preserved
cells-preserved c =
    let more : suc c.cells.counter < length c.args.terms.now = omega arith in
    let next : suc c.cells.counter ≡ c.cells.counter + 1 = omega arith in
    c.in_ok-push.ensures.ok
    ∙ ap (λ n. with_node (nodes.Compound n 2) c.cells.terms) (c.in_ok-cell.ensures.value ∙ c.dot.ensures)
    ∙ ap (with_node (nodes.Compound dot 2)) c.cells.invariant
    ∙ cell_more c.cells.counter c.args.terms.now more
    ∙ ap (λ k. with_tail k c.args.terms.now) next
