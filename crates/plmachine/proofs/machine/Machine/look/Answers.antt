use Rattle.plmachine.proofs.Moves.{grown-stays, on_err, on_err_map, stays-trans, moved-by-as, moved-by-grown, on_ok_map}
use Rattle.plmachine.proofs.Levels.{fits-grown}
use Rattle.std.proofs.Common.{ap}
use Rattle.plmachine.specs.Machine.{below_in, depth_of, local_of}
use Rattle.plstack.specs.State.{goals_of}
use Rattle.plsearch.specs.Lookups.{seek}
use Rattle.plsearch.specs.Types.{ToCall}
use Rattle.plmachine.proofs.machine.Machine.look.Goals as goal

pub returns-in_err-goal-clause-err : goal.returns-in_err-goal-clause-err
returns-in_err-goal-clause-err c P = on_err _ (grown-stays P c.args.self.now c.goal.new.self c.goal.ensures.grown c.goal.ensures.frame)

pub seek-requires-clause-fits : goal.seek-requires-clause-fits
seek-requires-clause-fits c = fits-grown c.args.self.now.stack c.goal.new.self.stack c.goal.ensures.grown c.args.rest c.requires.rest c.requires.fits

pub returns-clause-err : goal.returns-clause-err
returns-clause-err c P =
    let s = c.args.self.now in
    on_err_map c.seek.result (stays-trans P s c.goal.new.self c.seek.new.self (grown-stays P s c.goal.new.self c.goal.ensures.grown c.goal.ensures.frame)) (c.seek.ensures.err P)

pub returns-clause-ok : goal.returns-clause-ok
returns-clause-ok c P t stands =
    let s = c.args.self.now in
    let g = c.goal.new.self in
    let grown = c.goal.ensures.grown in
    on_ok_map c.seek.result
    (λ moved. moved-by-grown P s g c.seek.new.self (λ us d es n w. seek us (ToCall t) d es n w) _ _ grown c.goal.ensures.frame (grown.extends.lists c.args.rest c.requires.rest).1
    (moved-by-as P g c.seek.new.self _ _ (λ v. ap (λ u. seek (below_in v g) (ToCall u) (depth_of g) (goals_of g.stack c.args.rest) g.stack.env.count (local_of g)) (c.in_ok-goal.ensures.is t stands)) moved))
    (c.seek.ensures.ok P)
