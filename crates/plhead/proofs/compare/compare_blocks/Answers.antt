use Rattle.std.proofs.Common.{◌+◌, ◌∙◌, arith, sym}
use Rattle.plhead.specs.Fitting.{IsVerdict}
use Rattle.plhead.proofs.Clashes.{blocks-args, blocks-clash, head-functor}
use Rattle.plhead.proofs.compare.compare_blocks.Goals as goal

pub returns-then-f-g : goal.returns-then-f-g
unfolding IsVerdict
returns-then-f-g c = λ u at.
    let h = c.args.heap.now in
    let g = head-functor h c.block-f.ensures.heap c.args.nodes.now c.args.root u at c.in-Fun.g c.in-Fun.field-1 c.in-Fun.is in
    blocks-args h c.block-f.ensures.heap c.args.nodes.now c.args.root u at c.args.p c.block-f.result.0 c.block-f.result.1 (c.args.root + 1) c.arg.result c.block-f.ensures.block (c.if-f-g.true ∙ g) (omega arith) (omega (arith, c.arg.ensures))

pub returns-else-f-g : goal.returns-else-f-g
unfolding IsVerdict
returns-else-f-g c = λ u at.
    let h = c.args.heap.now in
    let g = head-functor h c.block-f.ensures.heap c.args.nodes.now c.args.root u at c.in-Fun.g c.in-Fun.field-1 c.in-Fun.is in
    blocks-clash h c.block-f.ensures.heap c.args.nodes.now c.args.root u at c.args.p c.block-f.result.0 c.block-f.result.1 c.block-f.ensures.block (λ same. c.if-f-g.false (same ∙ sym g))
