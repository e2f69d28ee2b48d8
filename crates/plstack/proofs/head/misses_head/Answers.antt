use Rattle.std.proofs.Common.{◌∙◌, subst}
use Rattle.plcells.specs.Store.{Store, value}
use Rattle.plbind.specs.Apart.{AreApart}
use Rattle.plbind.proofs.Clashing.{apart-none}
use Rattle.plstack.proofs.head.misses_head.Goals as goal

pub returns : goal.returns
returns c h =
    let e = c.args.env.now in
    let x = c.args.clause.now in
    let apart = subst (λ (heap : Store). AreApart (value heap c.args.goal.now) c.root.result) c.heap.ensures.is (c.are_apart.ensures h) in
    apart-none (value e.heap c.args.goal.now) x.head e.count (subst (AreApart (value e.heap c.args.goal.now)) (c.root.ensures ∙ c.head.ensures.value) apart)
