use Rattle.std.proofs.Common.{refl}
use Rattle.plmachine.specs.declared.machine.Machine.{Machine as Reached}
use Rattle.plmachine.proofs.Moves.{grown-stays, on_err}
use Rattle.plmachine.proofs.Offers.{solves, unsolved}
use Rattle.plstack.proofs.Fitted.{fits-solved}
use Rattle.plmachine.proofs.machine.Machine.solve_equation.Goals as goal

pub returns-in_err-solve-clause-err : goal.returns-in_err-solve-clause-err
returns-in_err-solve-clause-err c P =
    let s = c.args.self.now in
    let t : Reached = record s { stack = c.solve.new.self } in
    on_err _ (grown-stays P s t (record { extends = c.in_err-solve.ensures.err.0; count = c.in_err-solve.ensures.err.1 }) refl)

pub returns-then-branch-clause-ok : goal.returns-then-branch-clause-ok
returns-then-branch-clause-ok c P =
    solves P c.args.self.now c.go_on.new.self c.solve.new.self c.args.equation c.args.rest c.requires.rest (c.in_ok-solve.ensures.yes c.if-branch.true) c.go_on.ensures.is

pub returns-clause-ok : goal.returns-clause-ok
returns-clause-ok c P =
    let s = c.args.self.now in
    let t : Reached = record s { stack = c.solve.new.self } in
    let same = c.in_ok-solve.ensures.same c.if-branch.false in
    unsolved P s t c.give.new.self _ _ _ c.args.rest (record { extends = same.0; count = same.1 }) refl (c.in_ok-solve.ensures.no c.if-branch.false) c.give.ensures

pub go_on-requires-clause-fits : goal.go_on-requires-clause-fits
go_on-requires-clause-fits c = fits-solved c.args.self.now.stack c.solve.new.self c.args.equation (c.in_ok-solve.ensures.yes c.if-branch.true) c.args.rest c.requires.rest c.requires.fits
