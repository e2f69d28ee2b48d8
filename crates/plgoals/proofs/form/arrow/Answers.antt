use Rattle.std.proofs.Common.{◌∙◌, sym, subst}
use Rattle.plcode.specs.Bodies.{IsNoArrow}
use Rattle.plgoals.proofs.Calling.{arrow-is, no-arrow, end-no-arrow}
use Rattle.plgoals.proofs.form.arrow.Goals as goal

pub returns-in_default : goal.returns-in_default
returns-in_default c =
    let h = c.args.heap.now in
    let e = c.root.ensures in
    record { some = tt; none = subst IsNoArrow e.same (end-no-arrow h c.root.result e.heap e.end c.in_default.not-Str) }

pub returns-then-is_arrow-clause-some : goal.returns-then-is_arrow-clause-some
returns-then-is_arrow-clause-some c =
    let h = c.args.heap.now in
    arrow-is h c.args.code.now.callees c.args.v.now c.in-Str.p _ _ c.block-f.ensures.block (sym c.in-Str.ensures.same) c.requires.kinds (sym c.callee_of_functor.ensures ∙ c.is_arrow.ensures.yes c.if-is_arrow.true)

pub returns-clause-none : goal.returns-clause-none
returns-clause-none c =
    let h = c.args.heap.now in
    no-arrow h c.args.code.now.callees c.args.v.now c.in-Str.p _ _ c.block-f.ensures.block (sym c.in-Str.ensures.same) c.requires.kinds (λ e. c.is_arrow.ensures.no c.if-is_arrow.false (c.callee_of_functor.ensures ∙ e))
