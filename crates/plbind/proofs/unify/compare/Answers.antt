use Rattle.std.proofs.Common.{◌∙◌, ap, subst, sym, arith, rules}
use Rattle.std.proofs.lemmas.Int.{to_z-of_z}
use Rattle.std.specs.Int.{w64}
use mir.Val.{to_z, of_z, SFits}
use Rattle.plsubst.specs.Subst.{bind}
use Rattle.plcells.specs.Store.{value}
use Rattle.plbind.specs.declared.unify.Verdict.TheVariants.{Same, Clash, Binds}
use Rattle.plbind.specs.Unifying.{IsVerdict}
use Rattle.plbind.proofs.Verdicts.{KindSays, kind-says, says-along, integers-same, integers-clash}
use Rattle.plbind.proofs.unify.compare.Goals as goal

pub returns-in-Binding : goal.returns-in-Binding
unfolding IsVerdict
returns-in-Binding c =
    let h = c.args.heap.now in
    let v = c.root-v.result in
    let w = c.root-w.result in
    let k = subst (KindSays h v w) (sym c.in-Binding.ensures) (kind-says h c.root-v.ensures.heap v w c.root-v.ensures.fits c.root-w.ensures.fits c.root-v.ensures.end c.root-w.ensures.end) in
    says-along h (value h v) (value h w) (value h c.args.a) (value h c.args.b) (Binds c.in-Binding.x c.in-Binding.t) c.root-v.ensures.same c.root-w.ensures.same k

pub returns-then-same_integers : goal.returns-then-same_integers
unfolding IsVerdict
returns-then-same_integers c =
    let h = c.args.heap.now in
    let v = c.root-v.result in
    let w = c.root-w.result in
    says-along h (value h v) (value h w) (value h c.args.a) (value h c.args.b) Same c.root-v.ensures.same c.root-w.ensures.same
    (integers-same (value h v) (value h w) c.integer_of.result c.integer_of-in-Integers.result c.integer_of.ensures c.integer_of-in-Integers.ensures (
    let f : SFits w64 c.integer_of.result = search rules in
    let g : SFits w64 c.integer_of-in-Integers.result = search rules in
    sym (to_z-of_z w64 c.integer_of.result f) ∙ c.same_integers.ensures.0 c.if-same_integers.true ∙ to_z-of_z w64 c.integer_of-in-Integers.result g))

pub returns-else-same_integers : goal.returns-else-same_integers
unfolding IsVerdict
returns-else-same_integers c =
    let h = c.args.heap.now in
    let v = c.root-v.result in
    let w = c.root-w.result in
    says-along h (value h v) (value h w) (value h c.args.a) (value h c.args.b) Clash c.root-v.ensures.same c.root-w.ensures.same
    (integers-clash (value h v) (value h w) c.integer_of.result c.integer_of-in-Integers.result c.integer_of.ensures c.integer_of-in-Integers.ensures (λ e. let t = c.same_integers.ensures.1 (ap (λ z. to_z w64 (of_z w64 z)) e) in grind (arith, t, c.if-same_integers.false)))

pub returns-in-Same : goal.returns-in-Same
unfolding IsVerdict
returns-in-Same c =
    let h = c.args.heap.now in
    let v = c.root-v.result in
    let w = c.root-w.result in
    let k = subst (KindSays h v w) (sym c.in-Same.ensures) (kind-says h c.root-v.ensures.heap v w c.root-v.ensures.fits c.root-w.ensures.fits c.root-v.ensures.end c.root-w.ensures.end) in
    λ τ. ap (bind τ) (sym c.root-v.ensures.same ∙ k ∙ c.root-w.ensures.same)

pub returns-in-Clash : goal.returns-in-Clash
unfolding IsVerdict
returns-in-Clash c =
    let h = c.args.heap.now in
    let v = c.root-v.result in
    let w = c.root-w.result in
    let k = subst (KindSays h v w) (sym c.in-Clash.ensures) (kind-says h c.root-v.ensures.heap v w c.root-v.ensures.fits c.root-w.ensures.fits c.root-v.ensures.end c.root-w.ensures.end) in
    says-along h (value h v) (value h w) (value h c.args.a) (value h c.args.b) Clash c.root-v.ensures.same c.root-w.ensures.same k
