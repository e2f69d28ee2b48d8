use Rattle.std.proofs.Common.{ap, sym, ◌∙◌, subst}
use Rattle.plcells.specs.Store.{value}
use Rattle.plstack.specs.State.{walks_in}
use Rattle.plsolver.specs.declared.progress.Progress.{Progress}
use Rattle.plsolver.specs.Knowing.{Steps}
use Rattle.plsolver.proofs.Asked.{seeks-same}
use Rattle.plsolver.proofs.Behind.{not-asks}
use Rattle.plsolver.proofs.Sweeping.{step-asks, step-ends, step-fewer, step-keeps, step-on, step-sweeps}
use Rattle.plsolver.proofs.progress.Progress.sweep_behind.Goals as goal

pub returns-in_default-clause-to : goal.returns-in_default-clause-to
returns-in_default-clause-to c =
    let s = c.args.self.now in
    let r = c.requires.step in
    let w = r.3.0 in
    let steps = subst (λ g. Steps s.machine.layer.own.updates (value s.machine.stack.env.heap r.0) g r.2 c.args.step) (sym r.3.2) r.4 in
    (c.requires.sweeps, step-ends s r.0 w r.2 c.args.step r.3.1 r.3.3 steps (sym c.sweep_behind.ensures ∙ c.in_default.is))

pub returns-in-Next : goal.returns-in-Next
returns-in-Next c =
    let s = c.args.self.now in
    let r = c.requires.step in
    let w = r.3.0 in
    let t = c.sweep_at.new.self in
    let steps = subst (λ g. Steps s.machine.layer.own.updates (value s.machine.stack.env.heap r.0) g r.2 c.args.step) (sym r.3.2) r.4 in
    let is = sym c.sweep_behind.ensures ∙ c.in-Some.is in
    let to = c.sweep_at.ensures r.0 w r.3.1 in
    record {
      to = (step-sweeps s r.0 w r.2 c.args.step r.3.1 r.3.3 steps c.in-Some.spot t is to, step-fewer s r.0 w r.2 c.args.step r.3.1 r.3.3 steps c.in-Some.spot t is to (not-asks c.args.step c.in-Next.is));
      keeps = step-keeps s r.0 w r.2 c.args.step r.3.1 r.3.3 steps c.in-Some.spot t is to;
      walks = ap (λ (n : Progress). walks_in n.machine.stack) to;
      sought = step-on s r.0 w r.2 c.args.step r.3.1 r.3.3 steps c.in-Some.spot t is to;
    }

pub returns-in-Asks-clause-to : goal.returns-in-Asks-clause-to
returns-in-Asks-clause-to c =
    let s = c.args.self.now in
    let r = c.requires.step in
    let w = r.3.0 in
    let steps = subst (λ g. Steps s.machine.layer.own.updates (value s.machine.stack.env.heap r.0) g r.2 c.args.step) (sym r.3.2) r.4 in
    step-asks s r.0 w r.2 c.args.step r.3.1 r.3.3 steps c.in-Some.spot c.sweep_at.new.self (sym c.sweep_behind.ensures ∙ c.in-Some.is) (c.sweep_at.ensures r.0 w r.3.1) c.in-Asks.field-0 c.in-Asks.is

pub returns-in-Asks-clause-keeps : goal.returns-in-Asks-clause-keeps
returns-in-Asks-clause-keeps c =
    let s = c.args.self.now in
    let r = c.requires.step in
    let w = r.3.0 in
    let steps = subst (λ g. Steps s.machine.layer.own.updates (value s.machine.stack.env.heap r.0) g r.2 c.args.step) (sym r.3.2) r.4 in
    step-keeps s r.0 w r.2 c.args.step r.3.1 r.3.3 steps c.in-Some.spot c.sweep_at.new.self (sym c.sweep_behind.ensures ∙ c.in-Some.is) (c.sweep_at.ensures r.0 w r.3.1)

pub returns-in-Asks-clause-sought : goal.returns-in-Asks-clause-sought
returns-in-Asks-clause-sought c =
    let s = c.args.self.now in
    let r = c.requires.step in
    let w = r.3.0 in
    let steps = subst (λ g. Steps s.machine.layer.own.updates (value s.machine.stack.env.heap r.0) g r.2 c.args.step) (sym r.3.2) r.4 in
    step-on s r.0 w r.2 c.args.step r.3.1 r.3.3 steps c.in-Some.spot c.sweep_at.new.self (sym c.sweep_behind.ensures ∙ c.in-Some.is) (c.sweep_at.ensures r.0 w r.3.1)

pub returns-in_default-clause-sought : goal.returns-in_default-clause-sought
returns-in_default-clause-sought c = seeks-same c.args.self.now.machine
