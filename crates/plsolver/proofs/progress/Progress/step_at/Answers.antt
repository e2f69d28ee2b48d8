use Rattle.std.proofs.Common.{subst}
use Rattle.pltx.specs.Own.{State}
use Rattle.plviews.specs.Lookups.{SaysAt}
use Rattle.plclause.specs.Indicators.{indicator}
use Rattle.plcells.specs.Store.{value}
use Rattle.plevent.specs.Keys.{first_key}
use Rattle.plsolver.proofs.Apart.{tells-from}
use Rattle.plsolver.proofs.progress.Progress.step_at.Goals as goal

pub returns-in-Some : goal.returns-in-Some
returns-in-Some c =
    let own = c.args.self.now.machine.layer.own.updates in
    let h = value c.args.self.now.machine.stack.env.heap c.args.head in
    record {
      tells = tells-from own h c.args.view c.args.reach c.in-Some.step (c.own-own.ensures.apart c.args.view c.requires.seen) (subst (λ (o : State). SaysAt o.updates c.args.view (indicator h) (first_key h) c.args.reach c.in-Some.step) c.own-own.ensures.is (c.in-Some.ensures.says (indicator h) (first_key h)));
      leads = c.in-Some.ensures.leads;
    }
