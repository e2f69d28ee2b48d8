use Rattle.std.proofs.Common.{◌≤◌, ◌∙◌, length, ap, subst, arith}
use Rattle.plcells.specs.Store.{renamed}
use Rattle.plcells.proofs.Marking.{mark-cells, given-back}
use Rattle.plenv.specs.Changes.{AddsVariables}
use Rattle.plenv.proofs.Terms.{variables-under}
use Rattle.plenv.proofs.env.new_variables.Goals as goal

pub forget-requires : goal.forget-requires
forget-requires c =
    let w = c.in-Ok.ensures.keeps.within c.mark-mark.result c.mark-mark.ensures.mark.within in
    omega (arith, w.old, mark-cells c.mark-mark.result c.args.heap.now c.mark-mark.new.self c.mark-mark.ensures.now c.mark-mark.ensures.same, c.boundary-boundary.ensures.within)

pub cut_back-requires-clause-old : goal.cut_back-requires-clause-old
cut_back-requires-clause-old c =
    omega (arith, mark-cells c.mark-mark.result c.args.heap.now c.mark-mark.new.self c.mark-mark.ensures.now c.mark-mark.ensures.same, c.boundary-boundary.ensures.within)

pub returns-in-Ok-clause-ok : goal.returns-in-Ok-clause-ok
returns-in-Ok-clause-ok c =
    let h = c.args.heap.now in
    let new = c.push_variables.new.heap in
    let vs = c.push_variables.new.values.items in
    let le : h.boundary ≤ length h.cells = omega (arith, c.boundary-boundary.ensures.within, c.boundary-boundary.ensures.is) in
    let marked = subst (λ s. AddsVariables s new vs c.args.number c.args.count) c.mark-mark.ensures.same c.in-Ok.ensures.ok in
    rw (c.forget.ensures, c.boundary-boundary.ensures.is) (variables-under h new (length h.cells) vs c.args.number c.args.count le marked)

pub returns-in-Err-clause-err : goal.returns-in-Err-clause-err
returns-in-Err-clause-err c =
    let h = c.args.heap.now in
    let m = c.mark-mark.ensures in
    let names = c.in-Err.ensures.names ∙ ap (λ s. s.names) m.same in
    given-back c.mark-mark.result h c.mark-mark.new.self m.now m.same c.push_variables.new.heap c.cut_back.new.self _ m.mark c.in-Err.ensures.keeps c.cut_back.ensures.cut c.boundary-boundary.ensures.is ∙ ap (renamed h) names
