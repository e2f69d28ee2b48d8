use Rattle.std.proofs.Common.{refl}
use Rattle.plmachine.proofs.Clausal.{walks-grown}
use Rattle.plmachine.proofs.Moves.{grown-stays, on_err, on_err_map, on_ok_map, stays-trans}
use Rattle.plstack.proofs.Fitted.{fits-extends}
use Rattle.plmachine.proofs.machine.Machine.tell.Goals as goal

pub returns-in_err-goal-clause-err : goal.returns-in_err-goal-clause-err
returns-in_err-goal-clause-err c P = on_err _ (grown-stays P c.args.self.now (record c.args.self.now { stack = c.put_clause_term.new.self }) (record { extends = c.put_clause_term.ensures.stays; count = c.put_clause_term.ensures.count }) refl)

pub returns-clause-ok : goal.returns-clause-ok
returns-clause-ok c P =
    let s = c.args.self.now in
    on_ok_map c.walk.result
    (walks-grown P s c.walk.new.self c.put_clause_term.new.self _ c.args.uses c.args.spot c.args.rest
    (record { extends = c.put_clause_term.ensures.stays; count = c.put_clause_term.ensures.count }) c.requires.rest)
    (rw c.in_ok-goal.ensures.is at (c.walk.ensures.ok P))

pub returns-clause-err : goal.returns-clause-err
returns-clause-err c P =
    let s = c.args.self.now in
    on_err_map c.walk.result
    (stays-trans P s (record s { stack = c.put_clause_term.new.self }) c.walk.new.self
    (grown-stays P s (record s { stack = c.put_clause_term.new.self }) (record { extends = c.put_clause_term.ensures.stays; count = c.put_clause_term.ensures.count }) refl)) (c.walk.ensures.err P)

pub walk-requires-clause-fits : goal.walk-requires-clause-fits
walk-requires-clause-fits c = fits-extends c.args.self.now.stack c.put_clause_term.new.self c.put_clause_term.ensures.stays c.args.rest c.requires.rest c.requires.fits
