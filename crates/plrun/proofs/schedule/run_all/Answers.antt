use Rattle.std.proofs.Common.{◌≡◌, ◌∷◌, [], length, ap, subst, arith, length-append}
use Rattle.plsearch.specs.Starts.{searches}
use Rattle.plrun.specs.Overall.{IsHistory}
use Rattle.plrun.proofs.Start.{stage-first, stage-over, stage-run}
use Rattle.plrun.proofs.schedule.run_all.Goals as goal

pub loop-runs-smaller : goal.loop-runs-smaller
loop-runs-smaller c =
    let P = c.args.program.now in
    let n = c.args.steps in
    let old = c.loop-runs.runs.items in
    let none : old ≡ [] = stage-first P.first (searches P n) n c.loop-runs.world.journal old c.loop-runs.invariant.stage (rw c.in-Some.is at c.in_ok-running.ensures.first) in
    omega (arith, ap length none, ap length c.in_ok-push.ensures.items, length-append old (c.in_ok-run_thread.field-0 ∷ []))

pub loop-runs-preserved : goal.loop-runs-preserved
loop-runs-preserved c =
    let P = c.args.program.now in
    let n = c.args.steps in
    let old = c.loop-runs.runs.items in
    let none : old ≡ [] = stage-first P.first (searches P n) n c.loop-runs.world.journal old c.loop-runs.invariant.stage (rw c.in-Some.is at c.in_ok-running.ensures.first) in
    record {
      stage = stage-run P.first (searches P n) n c.run_thread.new.world.journal old c.push.new.self.items c.in_ok-run_thread.field-0 none c.in_ok-push.ensures.items
          (subst (λ m. IsHistory P.first (searches P m c.run_thread.new.world.journal) m c.run_thread.new.world.journal (c.in_ok-run_thread.field-0 ∷ [])) (rw c.in-Some.is at c.in_ok-running.ensures.limit) c.in_ok-run_thread.ensures.history);
      serves = c.run_thread.ensures.serves;
    }

pub returns : goal.returns
returns c =
    let P = c.args.program.now in
    let n = c.args.steps in
    let both = rw c.in_default.is at c.in_ok-running.ensures.over in
    stage-over P.first (searches P n) n c.loop-runs.world.journal c.start.new.world.journal c.loop-runs.runs.items c.loop-runs.invariant.stage both.0 both.1
