use Rattle.std.proofs.Common.{◌≡◌, ◌∙◌, Bool, true, false, [], refl, sym, ap, ap₂}
use Rattle.std.specs.Prelude.{◌||◌}
use Rattle.pltx.specs.Own.{State}
use Rattle.pltx.specs.Walks.{own_batch}
use Rattle.plclause.specs.Indicators.{indicator}
use Rattle.plcells.specs.Store.{value}
use Rattle.plevent.specs.Alive.{exists}
use Rattle.plviews.proofs.Naming.{none-exists}
use Rattle.plsolver.proofs.progress.Progress.is_named.Goals as goal

or-false : (b : Bool) → b || false ≡ b
or-false true = refl
or-false false = refl

pub returns-then-view-eq0 : goal.returns-then-view-eq0
returns-then-view-eq0 c =
    let s = c.args.self.now.machine in
    let p = indicator (value s.stack.env.heap c.args.head.now) in
    sym (ap (λ n. exists (own_batch c.args.view.place n s.layer.own.updates) p) c.if-view-eq0.true ∙ none-exists c.args.view.place p)

pub returns : goal.returns
returns c =
    let named = rw (c.heap-heap.ensures.is, c.env.ensures) at c.in_ok-pred.ensures in
    sym
    (ap₂ (λ (o : State) p. exists (own_batch c.args.view.place c.args.view.count o.updates) p) (sym c.own.ensures.is) (sym named)
    ∙ c.names.ensures []
    ∙ ap (λ b. c.names.result || b) (none-exists 0 c.in_ok-pred.pred)
    ∙ or-false c.names.result)
