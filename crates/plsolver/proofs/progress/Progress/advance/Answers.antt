use Rattle.std.proofs.Common.{◌≡◌, ◌∙◌, arith}
use Rattle.plprogram.specs.Program.{Program}
use Rattle.plsolver.specs.declared.progress.Progress.{Progress}
use Rattle.plsolver.specs.Advancing.{AdvancesInPart, AdvancesTo, SettlesTo, StepsOn}
use Rattle.plsolver.specs.Asking.{activations, in_cases, Onward}
use Rattle.plsolver.specs.Solver.{Settled}
use Rattle.plsolver.specs.Says.{Says}
use Rattle.plsolver.proofs.Advancing.{advances_on, advances_settles, advances_steps}
use Rattle.plsolver.proofs.Asked.{if_ok_all}
use Rattle.plsolver.proofs.Further.{onward_ends}
use Rattle.plsolver.proofs.Runs.{goes_on, stays_goes}
use Rattle.plsolver.proofs.progress.Progress.advance.Goals as goal

pub told-requires-clause-due : goal.told-requires-clause-due
unfolding Settled
told-requires-clause-due c = (c.args.program.now, rw c.in-Paused.is at c.in_ok-due.ensures.due)

pub returns-in-Paused-clause-says : goal.returns-in-Paused-clause-says
unfolding Settled
returns-in-Paused-clause-says c = c.told.ensures.says c.args.program.now c.settle.ensures.of (rw c.in-Paused.is at c.in_ok-due.ensures.due)

pub returns-then-self-until-clause-says : goal.returns-then-self-until-clause-says
unfolding Says
returns-then-self-until-clause-says c = (c.in-Goal.selected, rw c.in-Goal.is at c.in_ok-due.ensures.due)

pub returns-then-self-until-clause-slice : goal.returns-then-self-until-clause-slice
unfolding Settled
returns-then-self-until-clause-slice c = λ _.
    let i = c.loop-due.invariant in
    let more = (rw c.in-Goal.is at c.in_ok-due.ensures.due).1 in
    c.if-self-until.true ∙ i.all (omega (arith, c.if-self-until.true, more, c.settle.ensures.limit, i.limit))

pub past_conjunction-selected-requires-clause-first : goal.past_conjunction-selected-requires-clause-first
unfolding Settled
past_conjunction-selected-requires-clause-first c = (rw c.in-Goal.is at c.in_ok-due.ensures.due).0

pub past_conjunction-selected-requires-clause-left : goal.past_conjunction-selected-requires-clause-left
past_conjunction-selected-requires-clause-left c = omega (arith, c.settle.ensures.used, c.loop-due.invariant.used, c.if-self-until.false)

pub past_conjunction-selected-requires-clause-within : goal.past_conjunction-selected-requires-clause-within
past_conjunction-selected-requires-clause-within c = omega (arith, c.settle.ensures.limit, c.loop-due.invariant.limit, c.loop-due.invariant.until)

pub step-requires-clause-of : goal.step-requires-clause-of
step-requires-clause-of c = c.past_conjunction-selected.ensures.of c.args.program.now c.settle.ensures.of

pub step-requires-clause-goal : goal.step-requires-clause-goal
step-requires-clause-goal c = c.past_conjunction-selected.ensures.first

pub step-requires-clause-left : goal.step-requires-clause-left
step-requires-clause-left c = omega (arith, c.past_conjunction-selected.ensures.left, c.past_conjunction-selected.ensures.limit, c.settle.ensures.limit, c.loop-due.invariant.limit, c.loop-due.invariant.until)

-- behind what settled, and the step of a conjunction
reached : (P : Program) (s a t p : Progress) → AdvancesTo P s a → SettlesTo P a t → StepsOn t p → AdvancesTo P s p
reached P s a t p far settles on = advances_on P s t p (advances_settles P s a t far settles) on

pub loop-due-preserved : goal.loop-due-preserved
loop-due-preserved c =
    let P = c.args.program.now in
    let s = c.args.self.now in
    let t = c.settle.new.self in
    let p = c.past_conjunction-selected.new.self in
    let past = c.past_conjunction-selected.ensures in
    let i = c.loop-due.invariant in
    let steps = c.in_ok-step.ensures.ok in
    let step = steps.stepped in
    let settled = goes_on P s c.loop-due.self t i.limit i.goes c.settle.ensures.goes in
    record {
      goes = goes_on P s p c.step.new.self (past.limit ∙ c.settle.ensures.limit ∙ i.limit) (goes_on P s t p (c.settle.ensures.limit ∙ i.limit) settled (past.goes P)) step.goes;
      of = c.step.ensures.of;
      used = omega (arith, step.used, past.left);
      until = i.until;
      few = i.few;
      all = i.all;
      within = omega (arith, step.used, past.left, i.until);
      limit = step.limit ∙ past.limit ∙ c.settle.ensures.limit ∙ i.limit;
      places = step.places ∙ past.places ∙ c.settle.ensures.places ∙ i.places;
      latest = c.step.ensures.latest ∙ past.latest ∙ c.settle.ensures.latest ∙ i.latest;
      rises = omega (arith, step.used, past.rises, c.settle.ensures.used, i.rises);
      advances = advances_steps P s p c.step.new.self (reached P s c.loop-due.self t p i.advances c.in_ok-due.ensures.settles past.steps) steps;
    }

-- ---- how far it advanced

in_part : (P : Program) (s mid t : Progress) → AdvancesTo P s mid → t.used ≡ mid.used → Onward 0 (activations mid.machine) (in_cases t.machine.stack) → AdvancesInPart P s t
in_part P s mid t far used walks = record { reached = mid; advances = far; used = used; walks = walks }

pub returns-in_err-due-clause-walks : goal.returns-in_err-due-clause-walks
returns-in_err-due-clause-walks c = in_part c.args.program.now c.args.self.now c.loop-due.self c.settle.new.self c.loop-due.invariant.advances c.settle.ensures.used c.settle.ensures.walks

pub returns-then-self-until-clause-walks : goal.returns-then-self-until-clause-walks
returns-then-self-until-clause-walks c = in_part c.args.program.now c.args.self.now c.loop-due.self c.settle.new.self c.loop-due.invariant.advances c.settle.ensures.used c.settle.ensures.walks

pub returns-in-Paused-clause-walks : goal.returns-in-Paused-clause-walks
returns-in-Paused-clause-walks c = in_part c.args.program.now c.args.self.now c.loop-due.self c.settle.new.self c.loop-due.invariant.advances c.settle.ensures.used c.settle.ensures.walks

pub returns-in_err-step-clause-walks : goal.returns-in_err-step-clause-walks
returns-in_err-step-clause-walks c =
    let P = c.args.program.now in
    let s = c.args.self.now in
    let t = c.settle.new.self in
    let p = c.past_conjunction-selected.new.self in
    let far = reached P s c.loop-due.self t p c.loop-due.invariant.advances c.in_ok-due.ensures.settles c.past_conjunction-selected.ensures.steps in
    in_part P s p c.step.new.self far c.in_err-step.ensures.err.used (onward_ends p.machine c.step.new.self.machine.stack c.step.ensures.walks)

pub returns-then-self-until-clause-advances : goal.returns-then-self-until-clause-advances
returns-then-self-until-clause-advances c = advances_settles c.args.program.now c.args.self.now c.loop-due.self c.settle.new.self c.loop-due.invariant.advances c.in_ok-due.ensures.settles

pub returns-in-Paused-clause-advances : goal.returns-in-Paused-clause-advances
returns-in-Paused-clause-advances c = if_ok_all c.told.result (advances_settles c.args.program.now c.args.self.now c.loop-due.self c.settle.new.self c.loop-due.invariant.advances c.in_ok-due.ensures.settles)

-- ---- where a step was refused memory

pub returns-in_err-step-clause-goes : goal.returns-in_err-step-clause-goes
returns-in_err-step-clause-goes c =
    let P = c.args.program.now in
    let s = c.args.self.now in
    let t = c.settle.new.self in
    let p = c.past_conjunction-selected.new.self in
    let past = c.past_conjunction-selected.ensures in
    let i = c.loop-due.invariant in
    let settled = goes_on P s c.loop-due.self t i.limit i.goes c.settle.ensures.goes in
    goes_on P s p c.step.new.self (past.limit ∙ c.settle.ensures.limit ∙ i.limit) (goes_on P s t p (c.settle.ensures.limit ∙ i.limit) settled (past.goes P))
    (stays_goes P p c.step.new.self (past.of P c.settle.ensures.of) c.in_err-step.ensures.err)
