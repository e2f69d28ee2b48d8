use Rattle.std.proofs.Common.{◌≡◌, ◌-◌, ◌<◌, ◌∷◌, le_refl, refl, subst, sym, length, arith, drop, drop-cons, suc, ap₂, ◌∙◌}
use Rattle.std.proofs.lemmas.List.{drop_all}
use Rattle.plsolver.specs.Solver.{Starts}
use Rattle.plsolver.proofs.Starts.{starts-empty, starts-more}
use Rattle.plsolver.proofs.start.start_goals.Goals as goal

pub loop-i-init : goal.loop-i-init
loop-i-init c = record {
  few = le_refl _;
  starts = subst (λ l. Starts c.args.stack.now l (drop (length c.args.goals.now) c.args.goals.now)) (sym c.alone-list.ensures)
      (subst (Starts c.args.stack.now _) (sym (drop_all (length c.args.goals.now) c.args.goals.now (le_refl _))) (starts-empty c.args.stack.now c.requires));
  basis = refl;
  frames = refl;
}

pub loop-i-preserved : goal.loop-i-preserved
loop-i-preserved c =
    let i = c.loop-i.i - 1 in
    let g = c.index-goals-i.result in
    let next : suc (c.loop-i.i - 1) ≡ c.loop-i.i = omega (arith, c.loop-i-test.true) in
    let inside : c.loop-i.i - 1 < length c.args.goals.now = omega (arith, c.loop-i-test.true, c.loop-i.invariant.few) in
    record {
      few = omega (arith, c.loop-i.invariant.few);
      starts = subst (Starts c.start_goal.new.stack c.in_ok-list.list) (sym (drop-cons c.args.goals.now i g inside ∙ ap₂ (λ x k. x ∷ drop k c.args.goals.now) (sym c.index-goals-i.is) next))
          (starts-more c.loop-i.stack c.start_goal.new.stack c.loop-i.list c.in_ok-list.list g (drop c.loop-i.i c.args.goals.now) c.loop-i.invariant.starts c.in_ok-list.ensures.starts);
      basis = c.start_goal.ensures.basis ∙ c.loop-i.invariant.basis;
      frames = c.start_goal.ensures.frames ∙ c.loop-i.invariant.frames;
    }
