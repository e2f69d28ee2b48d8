use Rattle.std.proofs.Common.{ap, subst, ◌∙◌}
use Rattle.plsubst.specs.Subst.{bind}
use Rattle.plcode.specs.declared.node.Node.TheVariants.{Sub}
use Rattle.plenv.specs.Env.{over, Covers}
use Rattle.plenv.proofs.Packing.{packed-root}
use Rattle.plenv.proofs.Rows.{tree-is}
use Rattle.plenv.proofs.env.Environment.put_goal.Goals as goal

pub put_arguments-requires-clause-block : goal.put_arguments-requires-clause-block
put_arguments-requires-clause-block c =
    let from = c.in-Sub.field-0 in
    let p = c.requires.laid.packed c.args.at from c.in-Sub.root c.requires.within c.in-Sub.is in
    (from, packed-root c.args.nodes.now from c.in-Sub.root from p.1)

pub put_arguments-requires-clause-covers : goal.put_arguments-requires-clause-covers
put_arguments-requires-clause-covers c =
    let now = c.args.self.now in
    subst (Covers now c.args.base) (tree-is now.heap.names c.args.nodes.now c.args.at (Sub c.in-Sub.field-0 c.in-Sub.root) c.requires.laid c.requires.within c.in-Sub.is) c.requires.covers

pub returns-in-Sub-clause-is : goal.returns-in-Sub-clause-is
returns-in-Sub-clause-is c =
    let now = c.args.self.now in
    ap (bind (over now c.args.base)) (tree-is now.heap.names c.args.nodes.now c.args.at (Sub c.in-Sub.field-0 c.in-Sub.root) c.requires.laid c.requires.within c.in-Sub.is) ∙ c.in_ok-number.ensures.is
