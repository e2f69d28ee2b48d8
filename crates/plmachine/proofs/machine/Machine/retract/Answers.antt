use Rattle.std.proofs.Common.{rules, refl, subst, sym}
use Rattle.plmachine.specs.Machine.{Stays}
use Rattle.plmachine.proofs.Moves.{grown-stays, on_err, on_err_map, stays-trans, stays_put}
use Rattle.plmachine.proofs.machine.Machine.retract.Goals.{in-Some-neck, in-None+in_ok-body-in-None}
use Rattle.plmachine.proofs.machine.Machine.retract.Goals as goal

pub returns-in_err-body-in-None-clause-err : goal.returns-in_err-body-in-None-clause-err
returns-in_err-body-in-None-clause-err c =
    on_err _ (grown-stays c.args.program.now c.args.self.now (record c.args.self.now { stack = c.put_true.new.self }) (record { extends = c.put_true.ensures.stays; count = c.put_true.ensures.count }) refl)

pub returns-clause-err : goal.returns-clause-err
returns-clause-err c =
    let P = c.args.program.now in
    let s = c.args.self.now in
    on_err_map c.seek.result
    (stays-trans P s c.match-neck.self c.seek.new.self
    (elim c.match-neck.branch [
      | in-Some-neck w ↦ subst (Stays P s) (sym w.self-is) (stays_put P s)
      | in-None+in_ok-body-in-None w ↦ subst (Stays P s) (sym w.self-is) (grown-stays P s (record s { stack = w.put_true.new.self }) (record { extends = w.put_true.ensures.stays; count = w.put_true.ensures.count }) refl)
    ]))
    (c.seek.ensures.err c.args.program.now)

pub returns-in-Some-clause-ok : goal.returns-in-Some-clause-ok
returns-in-Some-clause-ok c = let ok = c.raise_of.ensures.ok c.args.program.now c.requires.begun in search rules

pub returns-clause-ok : goal.returns-clause-ok
returns-clause-ok c = let ok = c.seek.ensures.ok c.args.program.now in search rules
