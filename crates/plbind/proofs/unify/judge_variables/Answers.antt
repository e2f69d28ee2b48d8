use Rattle.std.proofs.Common.{◌≡◌, ◌<◌, ◌∙◌, ap, sym, arith}
use Rattle.std.proofs.lemmas.Bool.{eqb-true, eqb-false}
use Rattle.plterm.specs.Tree.{var}
use Rattle.plsubst.specs.Subst.{bind}
use Rattle.plcells.specs.Store.{term}
use Rattle.plcells.proofs.Searching.{number-once}
use Rattle.plbind.specs.Unifying.{IsVerdict}
use Rattle.plbind.proofs.Verdicts.{near-older, near-younger}
use Rattle.plbind.proofs.unify.judge_variables.Goals as goal

pub returns-then-eq : goal.returns-then-eq
unfolding IsVerdict
returns-then-eq c = λ τ. ap (λ d. bind τ (term c.args.heap.now d)) (eqb-true c.args.x c.args.y (sym c.eq.ensures ∙ c.if-eq.true))

pub returns-then-number : goal.returns-then-number
unfolding IsVerdict
returns-then-number c =
    near-younger c.args.heap.now c.args.x c.args.y c.number.result c.number-2.result c.requires.right c.requires.fits.0 c.number.ensures.is c.number-2.ensures.is c.if-number.true

pub returns-else-number : goal.returns-else-number
unfolding IsVerdict
returns-else-number c =
    let h = c.args.heap.now in
    let differ : c.number.result ≡ c.number-2.result → ⊥ = λ e.
    eqb-false c.args.x c.args.y (sym c.eq.ensures ∙ c.if-eq.false) (number-once h c.number.ensures.heap c.args.x c.args.y c.number.result c.requires.left c.requires.right c.number.ensures.is (c.number-2.ensures.is ∙ ap var (sym e))) in
    let less : c.number-2.result < c.number.result = omega (arith, c.if-number.false, differ) in
    near-older h c.args.x c.args.y c.number.result c.number-2.result c.requires.left c.requires.fits.1 c.number.ensures.is c.number-2.ensures.is less
