use Rattle.std.proofs.Common.{◌∙◌, ap}
use Rattle.plterm.specs.Tree.{var}
use Rattle.plcells.specs.Store.{value}
use Rattle.plhead.proofs.Verdicts.{no}
use Rattle.plhead.proofs.Slots.{keeps-trans, put-yes}
use Rattle.plhead.proofs.head.meet_free.Goals as goal

pub take-requires-clause-older : goal.take-requires-clause-older
take-requires-clause-older c = λ u q lt. no ((c.if-is_younger.ensures.variable u (ap (λ x. value x c.args.v) c.heap.ensures.is ∙ q)).1 lt)

pub returns-in_ok-own-clause-yes : goal.returns-in_ok-own-clause-yes
returns-in_ok-own-clause-yes c =
    put-yes c.args.env.now c.put_variable.new.self c.unify_in_choice.new.self c.in_ok-own.own c.args.v (var c.args.number) (c.in_ok-own.ensures.ok c.args.number c.requires.free) c.requires.value c.unify_in_choice.result c.unify_in_choice.ensures.yes

pub returns-in_ok-own-clause-keeps : goal.returns-in_ok-own-clause-keeps
returns-in_ok-own-clause-keeps c =
    let puts = c.in_ok-own.ensures.ok c.args.number c.requires.free in
    keeps-trans c.args.env.now c.put_variable.new.self c.unify_in_choice.new.self puts.extends.keeps c.unify_in_choice.ensures.keeps
