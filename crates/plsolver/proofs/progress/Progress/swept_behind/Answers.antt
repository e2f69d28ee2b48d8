use Rattle.std.proofs.Common.{◌≡◌, ap, refl, subst, sym, ◌∙◌}
use Rattle.plcells.specs.Store.{value}
use Rattle.plclause.specs.Indicators.{indicator}
use Rattle.plevent.specs.Alive.{living}
use Rattle.plevent.specs.Keys.{first_key}
use Rattle.plstore.specs.Like.{next_like_of}
use Rattle.plstack.specs.State.{walks_in}
use Rattle.plviews.specs.declared.view.View.{View}
use Rattle.plmachine.proofs.Moves.{on_ok_map}
use Rattle.plsolver.specs.declared.progress.Progress.{Progress}
use Rattle.plsolver.proofs.Asked.{sweep-ends, sweep-found}
use Rattle.plsolver.proofs.Sweeping.{found-keeps, found-none, step-of}
use Rattle.plsolver.proofs.progress.Progress.swept_behind.Goals as goal

pub returns-in-Some-clause-ok : goal.returns-in-Some-clause-ok
returns-in-Some-clause-ok c = λ P b v head g cur ordered (w, at, view, spot) told.
    let s = c.args.self.now in
    let a = c.sweeping-at.result in
    let is = subst (λ (k : View). c.args.found ≡ next_like_of (first_key (value s.machine.stack.env.heap head)) cur (living (v k.place) (indicator (value s.machine.stack.env.heap head)))) (sym view) told in
    found-keeps s a.head a.view a.spot c.args.found c.in_ok-step.step c.sweeping-at.ensures c.in_ok-step.ensures head w cur at spot v ordered is P c.in-Some.spot c.sweep_at.new.self (sym c.sweep_behind.ensures ∙ c.in-Some.is) (c.sweep_at.ensures head w at)

pub returns-in-Some-clause-asked : goal.returns-in-Some-clause-asked
returns-in-Some-clause-asked c = λ v head w cur ordered at spot told.
    let s = c.args.self.now in
    let a = c.sweeping-at.result in
    let steps = step-of s a.head a.view a.spot c.args.found c.in_ok-step.step c.sweeping-at.ensures c.in_ok-step.ensures head w cur at spot in
    let to = c.sweep_at.ensures head w at in
    sweep-found v head w s.machine c.sweep_at.new.self.machine cur spot (ordered.ordered w.view.place) c.args.found (sym told) c.in_ok-step.step steps.leads (record w { spot = c.in-Some.spot }) refl (sym c.sweep_behind.ensures ∙ c.in-Some.is)
    (ap (λ (n : Progress). n.machine.mode) to) (ap (λ (n : Progress). value n.machine.stack.env.heap head) to) (ap (λ (n : Progress). walks_in n.machine.stack) to)

pub returns-in-None-clause-ok : goal.returns-in-None-clause-ok
returns-in-None-clause-ok c P b =
    let s = c.args.self.now in
    let a = c.sweeping-at.result in
    on_ok_map c.publish_swept.result
    (λ made v head g cur ordered (w, at, view, spot) told.
    let is = subst (λ (k : View). c.args.found ≡ next_like_of (first_key (value s.machine.stack.env.heap head)) cur (living (v k.place) (indicator (value s.machine.stack.env.heap head)))) (sym view) told in
    (made head w at).1 v ordered (found-none s a.head a.view a.spot c.args.found c.in_ok-step.step c.sweeping-at.ensures c.in_ok-step.ensures head w cur at spot v ordered is (sym c.sweep_behind.ensures ∙ c.in-None.is)))
    (c.publish_swept.ensures.ok P b)

pub returns-in-None-clause-asked : goal.returns-in-None-clause-asked
returns-in-None-clause-asked c =
    let s = c.args.self.now in
    let a = c.sweeping-at.result in
    on_ok_map c.publish_swept.result
    (λ made v head w cur ordered at spot told.
    let steps = step-of s a.head a.view a.spot c.args.found c.in_ok-step.step c.sweeping-at.ensures c.in_ok-step.ensures head w cur at spot in
    sweep-ends v head w s.machine c.publish_swept.new.self.machine cur spot (ordered.ordered w.view.place) c.args.found (sym told) c.in_ok-step.step steps.leads (made head w at).0 c.publish_swept.ensures.walks)
    (c.publish_swept.ensures.ok c.requires.of.0 c.requires.of.1)
