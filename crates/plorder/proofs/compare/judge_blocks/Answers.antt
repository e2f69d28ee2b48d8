use Rattle.std.proofs.Common.{◌≡◌, ◌∙◌, ap, ap₂, sym, arith, refl}
use Rattle.std.proofs.lemmas.Bool.{eqb-true}
use Rattle.std.specs.declared.cmp.Ordering.TheVariants.{Equal}
use Rattle.plterm.specs.Order.{functor_order}
use Rattle.platoms.specs.Names.{functor_name, functor_arity}
use Rattle.plorder.specs.Runs.{IsComparison}
use Rattle.plorder.proofs.Judging.{term-same, blocks-decided, blocks-run}
use Rattle.plorder.proofs.compare.judge_blocks.Goals as goal

pub returns-then-eq : goal.returns-then-eq
unfolding IsComparison
returns-then-eq c = term-same c.args.heap.now c.args.a.place c.args.b.place (eqb-true c.args.a.place c.args.b.place (sym c.eq.ensures ∙ c.if-eq.true))

pub returns-in-Equal : goal.returns-in-Equal
unfolding IsComparison
returns-in-Equal c =
    let h = c.args.heap.now in
    let a = c.args.a in
    let b = c.args.b in
    let same : Equal ≡ functor_order (functor_name h.names a.functor) a.arity (functor_name h.names b.functor) b.arity =
    sym c.in-Equal.is ∙ c.compare_functors.ensures
    ∙ ap (λ t. functor_order (functor_name t a.functor) (functor_arity t a.functor) (functor_name t b.functor) (functor_arity t b.functor)) c.names.ensures
    ∙ ap₂ (λ m n. functor_order (functor_name h.names a.functor) m (functor_name h.names b.functor) n) c.requires.left.arity c.requires.right.arity in
    blocks-run h a b c.requires.left c.requires.right _ c.requires.names (omega arith) (omega arith) refl same

pub returns-in_default : goal.returns-in_default
unfolding IsComparison
returns-in_default c =
    let h = c.args.heap.now in
    let a = c.args.a in
    let b = c.args.b in
    blocks-decided h a b c.requires.left c.requires.right c.compare_functors.result
    (c.compare_functors.ensures
    ∙ ap (λ t. functor_order (functor_name t a.functor) (functor_arity t a.functor) (functor_name t b.functor) (functor_arity t b.functor)) c.names.ensures
    ∙ ap₂ (λ m n. functor_order (functor_name h.names a.functor) m (functor_name h.names b.functor) n) c.requires.left.arity c.requires.right.arity)
    c.in_default.not-Equal
