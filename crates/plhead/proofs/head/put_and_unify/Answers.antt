use Rattle.plsubst.specs.Subst.{bind}
use Rattle.plenv.specs.Env.{over}
use Rattle.plenv.specs.Rows.{tree_at}
use Rattle.plhead.proofs.Slots.{keeps-trans, put-yes}
use Rattle.plhead.proofs.head.put_and_unify.Goals as goal

pub returns-clause-yes : goal.returns-clause-yes
returns-clause-yes c =
    let e = c.args.env.now in
    put-yes e c.put_node.new.self c.unify_in_choice.new.self c.in_ok-own.own c.args.v (bind (over e c.args.base) (tree_at e.heap.names c.args.nodes.now c.args.at)) c.in_ok-own.ensures.ok c.requires.value c.unify_in_choice.result c.unify_in_choice.ensures.yes

pub returns-clause-keeps : goal.returns-clause-keeps
returns-clause-keeps c =
    keeps-trans c.args.env.now c.put_node.new.self c.unify_in_choice.new.self c.in_ok-own.ensures.ok.extends.keeps c.unify_in_choice.ensures.keeps
