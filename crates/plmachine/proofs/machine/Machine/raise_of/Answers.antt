use Rattle.plmachine.proofs.Moves.{grown-stays, stays-trans, on_err, on_err_map, moved-grown, on_ok_map}
use Rattle.std.proofs.Common.{◌∙◌, ap, ap₂}
use Rattle.plmachine.specs.Machine.{local_of}
use Rattle.plstack.specs.State.{goals_of}
use Rattle.plsearch.specs.Moves.{raised}
use Rattle.plclause.specs.Indicators.{indicator}
use Rattle.plmachine.proofs.machine.Machine.raise_of.Goals as goal

pub returns-in_err-goal-clause-err : goal.returns-in_err-goal-clause-err
returns-in_err-goal-clause-err c P b = on_err _ (grown-stays P c.args.self.now c.goal.new.self c.goal.ensures.grown c.goal.ensures.frame)

pub returns-in_err-p-clause-err : goal.returns-in_err-p-clause-err
returns-in_err-p-clause-err c P b = on_err _ (grown-stays P c.args.self.now c.goal.new.self c.goal.ensures.grown c.goal.ensures.frame)

pub returns-clause-err : goal.returns-clause-err
returns-clause-err c P b =
    let s = c.args.self.now in
    on_err_map c.raise.result (stays-trans P s c.goal.new.self c.raise.new.self (grown-stays P s c.goal.new.self c.goal.ensures.grown c.goal.ensures.frame)) (c.raise.ensures.err P)

pub returns-clause-ok : goal.returns-clause-ok
returns-clause-ok c P b t stands =
    let s = c.args.self.now in
    let g = c.goal.new.self in
    let grown = c.goal.ensures.grown in
    let p = rw (c.heap.ensures.is, c.env.ensures) at c.in_ok-p.ensures in
    on_ok_map c.raise.result
    (moved-grown P s g c.raise.new.self _ _ grown c.goal.ensures.frame
    (ap₂ (λ q es. raised c.args.error q es (local_of g)) (p ∙ ap indicator (c.in_ok-goal.ensures.is t stands)) (grown.extends.lists c.args.rest c.requires.rest).1
    ∙ ap (λ x. raised c.args.error (indicator t) (goals_of s.stack c.args.rest) (local_of x)) c.goal.ensures.frame))
    (c.raise.ensures.ok P)
