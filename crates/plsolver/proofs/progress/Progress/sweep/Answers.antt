use Rattle.std.proofs.Common.{◌≡◌, ◌∙◌}
use Rattle.plstack.specs.State.{walks_in, EndsWalks, State}
use Rattle.plsolver.specs.Solver.{PausesAt}
use Rattle.plsolver.proofs.Asked.{seeks-trans}
use Rattle.plmachine.specs.declared.machine.Find.TheVariants as finds
use Rattle.plsolver.proofs.Keeping.{finds_keeps, keeps_trans, stays_keeps}
use Rattle.plsolver.proofs.Ending.{ends_same, ends_trans}
use Rattle.plsolver.proofs.Further.{onward_ends, onward_plain, onward_seeks}
use Rattle.plsolver.proofs.progress.Progress.sweep.Goals as goal

-- the walks that have ended once the erasures were made
ended : (s t mid new : State) → walks_in t ≡ walks_in s → walks_in mid ≡ walks_in t → EndsWalks mid new → EndsWalks s new
ended s t mid new first second ends = ends_trans (walks_in s) (walks_in mid) (walks_in new) (ends_same (walks_in s) (walks_in mid) (second ∙ first)) ends

pub returns-in_err-sweep_on-clause-walks : goal.returns-in_err-sweep_on-clause-walks
returns-in_err-sweep_on-clause-walks c = onward_ends c.args.self.now.machine c.sweep_on.new.self.machine.stack (ends_same (walks_in c.args.self.now.machine.stack) (walks_in c.sweep_on.new.self.machine.stack) (c.sweep_on.ensures.walks ∙ c.sweep.invariant.walks))

pub returns-in-Asks-clause-due : goal.returns-in-Asks-clause-due
unfolding PausesAt
returns-in-Asks-clause-due c P b = rw c.in-Asks.is at c.in_ok-sweep_on.ensures.ok

pub returns-in-Asks-clause-walks : goal.returns-in-Asks-clause-walks
returns-in-Asks-clause-walks c = onward_ends c.args.self.now.machine c.sweep_on.new.self.machine.stack (ends_same (walks_in c.args.self.now.machine.stack) (walks_in c.sweep_on.new.self.machine.stack) (c.sweep_on.ensures.walks ∙ c.sweep.invariant.walks))

pub returns-in_err-publish_swept-in-Over-clause-walks : goal.returns-in_err-publish_swept-in-Over-clause-walks
returns-in_err-publish_swept-in-Over-clause-walks c = onward_ends c.args.self.now.machine c.publish_swept.new.self.machine.stack (ended c.args.self.now.machine.stack c.sweep.self.machine.stack c.sweep_on.new.self.machine.stack c.publish_swept.new.self.machine.stack c.sweep.invariant.walks c.sweep_on.ensures.walks c.publish_swept.ensures.walks)

pub returns-in-Over-clause-walks : goal.returns-in-Over-clause-walks
returns-in-Over-clause-walks c = onward_ends c.args.self.now.machine c.publish_swept.new.self.machine.stack (ended c.args.self.now.machine.stack c.sweep.self.machine.stack c.sweep_on.new.self.machine.stack c.publish_swept.new.self.machine.stack c.sweep.invariant.walks c.sweep_on.ensures.walks c.publish_swept.ensures.walks)

pub returns-in-Asks-clause-asks : goal.returns-in-Asks-clause-asks
returns-in-Asks-clause-asks c =
    let s = c.args.self.now.machine in
    let t = c.sweep_on.new.self.machine in
    onward_seeks s t (c.sweep_on.ensures.walks ∙ c.sweep.invariant.walks) (seeks-trans s c.sweep.self.machine t c.sweep.invariant.sought c.in_ok-sweep_on.ensures.sought)

pub returns-in-Over-clause-asks : goal.returns-in-Over-clause-asks
returns-in-Over-clause-asks c =
    let P = c.requires.of.0 in
    let over = (rw c.in-Over.is at c.in_ok-sweep_on.ensures.ok).0 in
    onward_plain c.args.self.now.machine c.publish_swept.new.self.machine (c.in_ok-publish_swept-in-Over.ensures.ok P ((c.in_ok-sweep_on.ensures.keeps P).of (c.sweep.invariant.of P c.requires.of.1)) over.0 over.1 over.2).0
    (ended c.args.self.now.machine.stack c.sweep.self.machine.stack c.sweep_on.new.self.machine.stack c.publish_swept.new.self.machine.stack c.sweep.invariant.walks c.sweep_on.ensures.walks c.publish_swept.ensures.walks)

pub sweep-preserved : goal.sweep-preserved
sweep-preserved c =
    let s = c.args.self.now in
    let t = c.sweep.self in
    let new = c.sweep_on.new.self in
    let i = c.sweep.invariant in
    let on = c.in_ok-sweep_on.ensures in
    record {
      keeps = λ P b. keeps_trans P s t new (i.keeps P b) (on.keeps P);
      of = λ P b. (on.keeps P).of (i.of P b);
      sweeps = (rw c.in-On.is at on.ok).0;
      sought = seeks-trans s.machine t.machine new.machine i.sought on.sought;
      walks = on.walks ∙ i.walks;
    }

pub returns-in_err-publish_swept-in-Over-clause-keeps : goal.returns-in_err-publish_swept-in-Over-clause-keeps
returns-in_err-publish_swept-in-Over-clause-keeps c P b =
    let s = c.args.self.now in
    let mid = c.sweep_on.new.self in
    let first = keeps_trans P s c.sweep.self mid (c.sweep.invariant.keeps P b) (c.in_ok-sweep_on.ensures.keeps P) in
    keeps_trans P s mid c.publish_swept.new.self first (stays_keeps P mid c.publish_swept.new.self (first.of b) (c.in_err-publish_swept-in-Over.ensures.err P (first.of b)))

pub returns-in-Over-clause-keeps : goal.returns-in-Over-clause-keeps
returns-in-Over-clause-keeps c P b =
    let s = c.args.self.now in
    let mid = c.sweep_on.new.self in
    let new = c.publish_swept.new.self in
    let first = keeps_trans P s c.sweep.self mid (c.sweep.invariant.keeps P b) (c.in_ok-sweep_on.ensures.keeps P) in
    let over = rw c.in-Over.is at c.in_ok-sweep_on.ensures.ok in
    let at = over.0 in
    let made = c.in_ok-publish_swept-in-Over.ensures.ok P (first.of b) at.0 at.1 at.2 in
    keeps_trans P s mid new first
    (finds_keeps P mid new (finds.Sweep at.0 at.1) at.2 c.publish_swept.ensures.frame c.publish_swept.ensures.latest (c.publish_swept.ensures.of P)
    (λ v ordered. (made.1 v ordered (over.1 at.0 at.1 v ordered at.2)).rest))
