use Rattle.std.proofs.Common.{◌≡◌, sym, ap, ◌∙◌}
use Rattle.plcode.specs.declared.node.Node.TheVariants as node
use Rattle.plexpression.proofs.Clauses.{pair_there, pair_none, leaf_none}
use Rattle.plexpression.proofs.pair.pair_at.Goals as goal

pub returns-in_default : goal.returns-in_default
returns-in_default c = record { some = λ e base is. tt; none = λ e base is. leaf_none e c.args.nodes.now base c.args.at is (λ from root here. c.in_default.not-Sub from root here) }

pub returns-in_default-nodes : goal.returns-in_default-nodes
returns-in_default-nodes c = record { some = λ e base is. tt; none = λ e base is. pair_none e c.args.nodes.now base c.args.at c.in-Sub.field-0 c.in-Sub.root is c.in-Sub.is (λ f here. c.in_default-nodes.not-Fun f 2 here) }

pub returns-then-arity-ne2-clause-none : goal.returns-then-arity-ne2-clause-none
returns-then-arity-ne2-clause-none c = λ e base is.
    pair_none e c.args.nodes.now base c.args.at c.in-Sub.field-0 c.in-Sub.root is c.in-Sub.is
    (λ f here.
    let same : node.Fun c.in-Fun.functor c.in-Fun.arity ≡ node.Fun f 2 = sym c.in-Fun.is ∙ here in
    let two : c.in-Fun.arity ≡ 2 = cc in
    absurd (c.if-arity-ne2.true two))

pub returns-clause-some : goal.returns-clause-some
returns-clause-some c = λ e base is.
    let two : c.in-Fun.arity ≡ 2 = c.if-arity-ne2.false in
    pair_there e c.args.nodes.now base c.args.at c.in-Sub.field-0 c.in-Sub.root c.in-Fun.functor is c.in-Sub.is (c.in-Fun.is ∙ ap (node.Fun c.in-Fun.functor) two)
