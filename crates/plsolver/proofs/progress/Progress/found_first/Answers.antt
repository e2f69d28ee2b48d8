use Rattle.std.proofs.Common.{rules, refl, sym, ap, ◌∙◌, inl, subst}
use Rattle.plrecords.specs.declared.record.Cursor.TheVariants.{Start}
use Rattle.plviews.specs.declared.lookup.Reach.TheVariants as reaches
use Rattle.plstack.specs.declared.frame.Spot.TheVariants as spots
use Rattle.plmachine.specs.declared.machine.Machine.{Machine as Reached}
use Rattle.plmachine.specs.Machine.{IsPlain, MayAsk}
use Rattle.plmachine.proofs.Moves.{on_ok_map}
use Rattle.plsolver.specs.Knowing.{StepsFound}
use Rattle.plsolver.specs.Solver.{KeepsRest}
use Rattle.plsolver.proofs.Asked.{first-found, first-none, on_ok_both}
use Rattle.plsolver.proofs.Finding.{found-none, found-some}
use Rattle.plsolver.proofs.Walking.{behind-viewed}
use Rattle.plsolver.proofs.progress.Progress.found_first.Goals as goal

pub returns-in-Some-clause-ok : goal.returns-in-Some-clause-ok
returns-in-Some-clause-ok c P b =
    let s = c.args.self.now.machine in
    let found = subst (MayAsk s.layer.own s.stack) c.requires.finds b.sound.askable in
    let step = subst (λ h. StepsFound s.layer.own.updates h c.args.view c.args.found c.in_ok-step.step) (rw (c.heap-heap.ensures.is, c.env.ensures) at c.head_of-head.ensures.is) c.in_ok-step.ensures in
    on_ok_map c.walk_from.result
    (λ w v ordered front is. record {
      used = ap (λ x. x.used) c.walk_from.ensures.frame;
      limit = ap (λ x. x.limit) c.walk_from.ensures.frame;
      rest = found-some P v ordered s c.args.sought c.args.view c.requires.finds found.0.1 front c.args.found is c.in_ok-step.step step.tells step.leads c.walk_from.new.self.machine c.in-Some.spot (sym c.spot_behind.ensures ∙ c.in-Some.is) w;
    })
    (c.walk_from.ensures.ok P)

pub returns-in-Some-clause-asked : goal.returns-in-Some-clause-asked
returns-in-Some-clause-asked c =
    let s = c.args.self.now.machine in
    let new = c.walk_from.new.self.machine in
    let step = subst (λ h. StepsFound s.layer.own.updates h c.args.view c.args.found c.in_ok-step.step) (rw (c.heap-heap.ensures.is, c.env.ensures) at c.head_of-head.ensures.is) c.in_ok-step.ensures in
    let is = sym c.spot_behind.ensures ∙ c.in-Some.is in
    on_ok_both c.walk_from.result
    (λ w walks v ordered told.
    first-found v c.args.sought c.args.view s new (ordered.ordered c.args.view.place) c.args.found (sym told) c.in_ok-step.step step.leads c.in-Some.spot is (subst (λ (y : Reached). IsPlain y.mode) (sym w.frame) tt) walks
    (behind-viewed (spots.Seek c.args.view (reaches.Base Start)) c.in-Some.spot c.args.view (reaches.Base Start) c.in_ok-step.step (inl refl) is))
    (c.walk_from.ensures.ok c.requires.of.0) c.walk_from.ensures.walks

pub returns-in-None-clause-ok : goal.returns-in-None-clause-ok
returns-in-None-clause-ok c = λ P b v ordered front told.
    let s = c.args.self.now in
    let found = subst (MayAsk s.machine.layer.own s.machine.stack) c.requires.finds b.sound.askable in
    let step = subst (λ h. StepsFound s.machine.layer.own.updates h c.args.view c.args.found c.in_ok-step.step) (rw (c.heap-heap.ensures.is, c.env.ensures) at c.head_of-head.ensures.is) c.in_ok-step.ensures in
    subst (λ m. KeepsRest P v s (record s { machine = record s.machine { mode = m } })) (sym c.mode_without.ensures) (record {
      used = refl;
      limit = refl;
      rest = found-none P v ordered s.machine c.args.sought c.args.view c.requires.finds found.0.1 front c.args.found told c.in_ok-step.step step.tells step.leads (sym c.spot_behind.ensures ∙ c.in-None.is);
    })

pub returns-in-None-clause-asked : goal.returns-in-None-clause-asked
returns-in-None-clause-asked c = λ v ordered told.
    let s = c.args.self.now.machine in
    let step = subst (λ h. StepsFound s.layer.own.updates h c.args.view c.args.found c.in_ok-step.step) (rw (c.heap-heap.ensures.is, c.env.ensures) at c.head_of-head.ensures.is) c.in_ok-step.ensures in
    first-none v c.args.sought c.args.view s (record s { mode = c.mode_without.result }) (ordered.ordered c.args.view.place) c.args.found (sym told) c.in_ok-step.step step.leads (sym c.spot_behind.ensures ∙ c.in-None.is) (ap (λ m. record s { mode = m }) c.mode_without.ensures)

pub returns-in-Some-clause-of : goal.returns-in-Some-clause-of
returns-in-Some-clause-of c P b =
    let ok = c.walk_from.ensures.ok P in
    let err = c.walk_from.ensures.err P in
    search rules

pub returns-in-Some-clause-latest : goal.returns-in-Some-clause-latest
returns-in-Some-clause-latest c =
    let ok = c.walk_from.ensures.ok c.requires.of.0 in
    let err = c.walk_from.ensures.err c.requires.of.0 in
    search rules

pub returns-in-Some-clause-err : goal.returns-in-Some-clause-err
returns-in-Some-clause-err c P b =
    let ok = c.walk_from.ensures.ok P in
    let err = c.walk_from.ensures.err P in
    search rules
