use Rattle.std.proofs.Common.{refl, sym, ap, inl, subst}
use Rattle.plcells.specs.Store.{value}
use Rattle.plrecords.specs.declared.record.Cursor.TheVariants.{Start}
use Rattle.pltx.specs.declared.own.OwnCursor.TheVariants.{Start as OwnStart}
use Rattle.plviews.specs.declared.lookup.Step.TheVariants as steps
use Rattle.plviews.specs.declared.lookup.Reach.TheVariants as reaches
use Rattle.plstack.specs.Places.{head_in}
use Rattle.plstack.specs.declared.frame.Spot.TheVariants as spots
use Rattle.plmachine.specs.declared.machine.Find.TheVariants as finds
use Rattle.plmachine.specs.declared.machine.Machine.{Machine as Reached}
use Rattle.plmachine.specs.Machine.{IsPlain, MayAsk}
use Rattle.plsolver.specs.Fetching.{like}
use Rattle.plsolver.specs.Knowing.{Steps}
use Rattle.plsolver.specs.Solver.{PausesAt}
use Rattle.plsolver.specs.Asking.{activations, Onward}
use Rattle.plsolver.proofs.Asked.{becomes-own}
use Rattle.plsolver.proofs.Ending.{ends_refl, ends_same}
use Rattle.plsolver.proofs.Finding.{found-own, none-in-front}
use Rattle.plsolver.proofs.Further.{onward_becomes, onward_ends, onward_refl, plain_cases}
use Rattle.plsolver.proofs.Keeping.{finds_keeps, found_of, stays_keeps}
use Rattle.plsolver.proofs.progress.Progress.find_first.Goals as goal

pub returns-in_err-step-clause-walks : goal.returns-in_err-step-clause-walks
returns-in_err-step-clause-walks c = onward_ends c.args.self.now.machine c.args.self.now.machine.stack (ends_refl _)

pub returns-in_err-walk_from-in-Next-clause-walks : goal.returns-in_err-walk_from-in-Next-clause-walks
returns-in_err-walk_from-in-Next-clause-walks c = onward_ends c.args.self.now.machine c.walk_from.new.self.machine.stack (ends_same _ _ (c.in_err-walk_from-in-Next.ensures.err c.requires.of.0).there.walks)

pub returns-in_ok-walk_from-in-Next-clause-keeps : goal.returns-in_ok-walk_from-in-Next-clause-keeps
returns-in_ok-walk_from-in-Next-clause-keeps c P b =
    let s = c.args.self.now in
    let f = finds.First c.args.sought c.args.view in
    let w = c.in_ok-walk_from-in-Next.ensures.ok P in
    let found = subst (MayAsk s.machine.layer.own s.machine.stack) c.requires.finds b.sound.askable in
    let step = subst (λ h. Steps s.machine.layer.own.updates h c.args.view (reaches.Front OwnStart) (steps.Next c.in-Next.name c.in-Next.reach)) (rw (c.heap-heap.ensures.is, c.env.ensures) at c.head_of-head.ensures.is) (rw c.in-Next.is at c.in_ok-step.ensures) in
    finds_keeps P s c.walk_from.new.self f c.requires.finds c.walk_from.ensures.frame (ap (λ b. b.latest.place) w.basis) (found_of P s.machine c.walk_from.new.self.machine f c.requires.finds (ap (λ x. x.mode) w.frame) (ap (λ x. x.layer) w.frame) w.basis)
    (λ v ordered. found-own P v ordered s.machine c.args.sought c.args.view c.requires.finds found.0.1 c.walk_from.new.self.machine c.in-Next.name c.in-Next.reach step.tells w)

pub returns-in_ok-walk_from-in-Next-clause-asks : goal.returns-in_ok-walk_from-in-Next-clause-asks
returns-in_ok-walk_from-in-Next-clause-asks c =
    let s = c.args.self.now.machine in
    let x = c.args.sought in
    let g = c.args.view in
    let y = c.in-Next.name in
    let r = c.in-Next.reach in
    let step = rw c.in-Next.is at c.in_ok-step.ensures in
    let w = c.in_ok-walk_from-in-Next.ensures in
    onward_becomes s c.walk_from.new.self.machine (finds.First x g) (record { goal = x.goal; uses = x.uses; spot = spots.At g y r }) c.requires.finds (subst (λ (n : Reached). IsPlain n.mode) (sym (w.ok c.requires.of.0).frame) tt) w.walks
    (becomes-own s.stack.env.heap x g OwnStart y r step.leads)

pub returns-in_ok-walk_from-in-Next-clause-walks : goal.returns-in_ok-walk_from-in-Next-clause-walks
returns-in_ok-walk_from-in-Next-clause-walks c =
    let t = c.walk_from.new.self.machine in
    subst (Onward 0 (activations c.args.self.now.machine)) (plain_cases t (subst (λ (n : Reached). IsPlain n.mode) (sym (c.in_ok-walk_from-in-Next.ensures.ok c.requires.of.0).frame) tt)) (returns-in_ok-walk_from-in-Next-clause-asks c)

pub returns-in-Asks-clause-due : goal.returns-in-Asks-clause-due
unfolding PausesAt
returns-in-Asks-clause-due c P b =
    let s = c.args.self.now.machine in
    let h = head_in c.args.sought.uses (value s.stack.env.heap c.args.sought.goal) in
    let step = subst (λ h. Steps s.layer.own.updates h c.args.view (reaches.Front OwnStart) (steps.Asks c.in-Asks.field-0)) (rw (c.heap-heap.ensures.is, c.env.ensures) at c.head_of-head.ensures.is) (rw c.in-Asks.is at c.in_ok-step.ensures) in
    (c.args.view.place, like h Start, inl (finds.First c.args.sought c.args.view, c.requires.finds, refl, (none-in-front s.layer.own.updates h c.args.view c.in-Asks.field-0 step, refl)))

pub returns-in-Asks-clause-walks : goal.returns-in-Asks-clause-walks
returns-in-Asks-clause-walks c = onward_ends c.args.self.now.machine c.args.self.now.machine.stack (ends_refl _)

pub returns-in-Asks-clause-asks : goal.returns-in-Asks-clause-asks
returns-in-Asks-clause-asks c = onward_refl 0 (activations c.args.self.now.machine)

pub returns-in_err-walk_from-in-Next-clause-keeps : goal.returns-in_err-walk_from-in-Next-clause-keeps
returns-in_err-walk_from-in-Next-clause-keeps c P b = stays_keeps P c.args.self.now c.walk_from.new.self b (c.in_err-walk_from-in-Next.ensures.err P)

pub returns-in_ok-walk_from-in-Next-clause-plain : goal.returns-in_ok-walk_from-in-Next-clause-plain
returns-in_ok-walk_from-in-Next-clause-plain c = subst (λ (n : Reached). IsPlain n.mode) (sym (c.in_ok-walk_from-in-Next.ensures.ok c.requires.of.0).frame) tt
