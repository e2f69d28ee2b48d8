use Rattle.std.proofs.Common.{arith}
use Rattle.plsearch.specs.Starts.{searches}
use Rattle.plsolver.specs.Solver.{rest_of}
use Rattle.plrun.proofs.Serve.{looked, relimit}
use Rattle.plrun.proofs.thread.look.Goals as goal

pub refreshed-requires-clause-latest : goal.refreshed-requires-clause-latest
refreshed-requires-clause-latest c = omega (arith, c.requires.runs.1.latest, c.front.ensures)

pub returns-clause-runs : goal.returns-clause-runs
returns-clause-runs c P runs at =
    let old = c.args.running.now.solver in
    let new = c.refreshed.new.self in
    let h = c.args.world.now.journal in
    let t = c.args.running.now.thread in
    record {
      of = c.refreshed.ensures.of P runs.of;
      latest = omega (arith, c.in_ok-refreshed.ensures.latest, c.front.ensures);
      runs = relimit P.first (λ n. searches P n h t) old.limit new.limit (λ v. rest_of P v new) new.used h t new.places.items c.refreshed.ensures.limit
          (looked P.first (searches P old.limit h t) old.limit (λ v. rest_of P v old) (λ v. rest_of P v new) old.used new.used old.machine.out.items h t old.places.items new.places.items c.front.result
          runs.runs at c.front.ensures (λ v are. c.in_ok-refreshed.ensures.ok P runs.of v) c.in_ok-refreshed.ensures.places);
    }
