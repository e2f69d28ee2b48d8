use Rattle.std.proofs.Common.{◌∙◌, refl, sym, subst, ap, inr}
use Rattle.plmachine.specs.declared.machine.Mode.{Mode}
use Rattle.plmachine.proofs.Moves.{on_err, tied-as}
use Rattle.plsolver.specs.Solver.{QuietIn, PausesAt}
use Rattle.plsolver.proofs.Further.{further_ends, further_refl, further_trans}
use Rattle.plsolver.proofs.Through.{closes-through, keeps-through, over-trans, visits-through}
use Rattle.plsolver.proofs.progress.Progress.walk_through.Goals as goal

pub walk-init : goal.walk-init
walk-init c = record {
  fails = c.requires.fails;
  at = c.requires.at;
  seen = c.requires.seen;
  viewed = c.requires.viewed;
  tied = c.requires.tied;
  same = λ P v ordered. refl;
  basis = refl;
  frame = refl;
  walks = further_refl c.args.self.now.machine.stack;
}

pub returns-in_err-spot-clause-err : goal.returns-in_err-spot-clause-err
returns-in_err-spot-clause-err c =
    let i = c.walk.invariant in
    on_err c.from_residual.result (λ P. keeps-through P c.args.self.now c.requires.fails c.walk_on.new.self (over-trans c.args.self.now c.walk.self c.walk_on.new.self i.frame c.walk_on.ensures.frame) (c.walk_on.ensures.basis ∙ i.basis)
    (λ Q v ordered. c.in_err-spot.ensures.err Q v ordered ∙ i.same Q v ordered))

pub returns-in_err-spot-clause-walks : goal.returns-in_err-spot-clause-walks
returns-in_err-spot-clause-walks c = further_trans c.args.self.now.machine.stack c.walk.self.machine.stack c.walk_on.new.self.machine.stack c.walk.invariant.walks c.walk_on.ensures.walks

pub walk-preserved : goal.walk-preserved
walk-preserved c =
    let i = c.walk.invariant in
    let on = rw c.in-On.is at c.in_ok-spot.ensures.ok in
    record {
      fails = ap (λ x. x.machine.mode) c.walk_on.ensures.frame ∙ i.fails;
      at = on.walking;
      seen = on.seen;
      viewed = on.viewed;
      tied = tied-as c.walk.self.machine c.walk_on.new.self.machine c.walk_on.ensures.basis (ap (λ x. x.machine.layer) c.walk_on.ensures.frame) i.tied;
      same = λ P v ordered. on.same P v ordered ∙ i.same P v ordered;
      basis = c.walk_on.ensures.basis ∙ i.basis;
      frame = over-trans c.args.self.now c.walk.self c.walk_on.new.self i.frame c.walk_on.ensures.frame;
      walks = further_trans c.args.self.now.machine.stack c.walk.self.machine.stack c.walk_on.new.self.machine.stack i.walks c.walk_on.ensures.walks;
    }

pub returns-in-Into-clause-on : goal.returns-in-Into-clause-on
returns-in-Into-clause-on c = λ P v ordered.
    let i = c.walk.invariant in
    let s = c.args.self.now in
    let w = c.walk_on.new.self in
    let into = rw c.in-Into.is at c.in_ok-spot.ensures.ok in
    subst (λ (m : Mode). QuietIn P v s (record w { machine = record w.machine { mode = m } })) (sym c.mode_of.ensures)
    (visits-through P s c.requires.fails v ordered c.walk.self w c.in-Into.entered.erased (over-trans s c.walk.self w i.frame c.walk_on.ensures.frame) (c.walk_on.ensures.basis ∙ i.basis) i.frame i.same (into P v ordered))

pub returns-in-Into-clause-walks : goal.returns-in-Into-clause-walks
returns-in-Into-clause-walks c = further_trans c.args.self.now.machine.stack c.walk.self.machine.stack c.walk_on.new.self.machine.stack c.walk.invariant.walks c.walk_on.ensures.walks

pub returns-in-Asks-clause-due : goal.returns-in-Asks-clause-due
unfolding PausesAt
returns-in-Asks-clause-due c = λ P.
    let i = c.walk.invariant in
    let s = c.args.self.now in
    let asks = rw c.in-Asks.is at c.in_ok-spot.ensures.ok in (
      (asks.1.0, asks.1.1, inr asks.1.2),
      keeps-through P s c.requires.fails c.walk_on.new.self (over-trans s c.walk.self c.walk_on.new.self i.frame c.walk_on.ensures.frame) (c.walk_on.ensures.basis ∙ i.basis) (λ Q v ordered. asks.0 Q v ordered ∙ i.same Q v ordered),
    )

pub returns-in-Asks-clause-walks : goal.returns-in-Asks-clause-walks
returns-in-Asks-clause-walks c = further_trans c.args.self.now.machine.stack c.walk.self.machine.stack c.walk_on.new.self.machine.stack c.walk.invariant.walks c.walk_on.ensures.walks

pub returns-in-Over-clause-on : goal.returns-in-Over-clause-on
returns-in-Over-clause-on c = λ P v ordered.
    let i = c.walk.invariant in
    let s = c.args.self.now in
    let w = c.walk_on.new.self in
    closes-through P s c.requires.fails v ordered c.walk.self w c.close.new.self c.close.result (over-trans s c.walk.self w i.frame c.walk_on.ensures.frame) (c.walk_on.ensures.basis ∙ i.basis) i.same (rw c.in-Over.is at c.in_ok-spot.ensures.ok)
    c.close.ensures.some c.close.ensures.none c.close.ensures.basis

pub returns-in-Over-clause-walks : goal.returns-in-Over-clause-walks
returns-in-Over-clause-walks c =
    let s = c.args.self.now.machine.stack in
    let w = c.walk_on.new.self.machine.stack in
    further_trans s w c.close.new.self (further_trans s c.walk.self.machine.stack w c.walk.invariant.walks c.walk_on.ensures.walks) (further_ends w c.close.new.self c.close.ensures.walks)
