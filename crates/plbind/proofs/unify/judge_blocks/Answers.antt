use Rattle.std.proofs.Common.{◌∙◌, ap, subst, sym}
use Rattle.std.proofs.lemmas.Bool.{eqb-true}
use Rattle.plsubst.specs.Subst.{bind}
use Rattle.plcells.specs.Store.{term, IsBlock}
use Rattle.plbind.specs.Unifying.{IsVerdict}
use Rattle.plbind.proofs.Verdicts.{blocks-args, blocks-clash}
use Rattle.plbind.proofs.unify.judge_blocks.Goals as goal

pub returns-then-eq : goal.returns-then-eq
unfolding IsVerdict
returns-then-eq c = λ τ. ap (λ d. bind τ (term c.args.heap.now d)) (eqb-true c.args.p c.args.q (sym c.eq.ensures ∙ c.if-eq.true))

pub returns-then-f-g : goal.returns-then-f-g
unfolding IsVerdict
returns-then-f-g c =
    let h = c.args.heap.now in
    let q = subst (λ f. IsBlock h c.args.q f c.block-g.result.1) (sym c.if-f-g.true) c.block-g.ensures.block in
    blocks-args h c.block-f.ensures.heap c.args.p c.args.q c.block-f.result.0 c.block-f.result.1 c.block-g.result.1 c.block-f.ensures.block q

pub returns-else-f-g : goal.returns-else-f-g
unfolding IsVerdict
returns-else-f-g c =
    let h = c.args.heap.now in
    blocks-clash h c.block-f.ensures.heap c.args.p c.args.q c.block-f.result.0 c.block-g.result.0 c.block-f.result.1 c.block-g.result.1 c.block-f.ensures.block c.block-g.ensures.block (λ e. c.if-f-g.false e)
