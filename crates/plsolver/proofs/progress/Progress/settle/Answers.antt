use Rattle.std.proofs.Common.{arith, sym, subst, ◌∙◌}
use Rattle.plsolver.specs.Asking.{activations, in_cases, Onward}
use Rattle.plsolver.specs.Solver.{Settled}
use Rattle.plsolver.proofs.Asked.{if_ok_all}
use Rattle.plsolver.proofs.Further.{onward_further, onward_trans, plain_cases}
use Rattle.plsolver.proofs.Keeping.{keeps-goes}
use Rattle.plsolver.proofs.Runs.{goes_on}
use Rattle.plsolver.proofs.progress.Progress.settle.Goals as goal

pub returns-in_err-pause-clause-goes : goal.returns-in_err-pause-clause-goes
returns-in_err-pause-clause-goes c = keeps-goes c.args.program.now c.args.self.now c.find.new.self c.requires.within (c.find.ensures.keeps c.args.program.now c.requires.of)

pub returns-in-Some-clause-goes : goal.returns-in-Some-clause-goes
returns-in-Some-clause-goes c = keeps-goes c.args.program.now c.args.self.now c.find.new.self c.requires.within (c.find.ensures.keeps c.args.program.now c.requires.of)

pub returns-clause-goes : goal.returns-clause-goes
returns-clause-goes c =
    let P = c.args.program.now in
    let s = c.args.self.now in
    let t = c.find.new.self in
    goes_on P s t c.go_quietly.new.self (c.find.ensures.keeps c.args.program.now c.requires.of).limit (keeps-goes P s t c.requires.within (c.find.ensures.keeps c.args.program.now c.requires.of)) c.go_quietly.ensures.goes

pub returns-clause-walks : goal.returns-clause-walks
returns-clause-walks c =
    let t = c.find.new.self.machine.stack in
    let new = c.go_quietly.new.self.machine.stack in
    onward_trans 0 0 0 (activations c.args.self.now.machine) (in_cases t) (in_cases new) omega arith c.find.ensures.walks (onward_further t new c.go_quietly.ensures.walks)

pub returns-in-Some-clause-due : goal.returns-in-Some-clause-due
unfolding Settled
returns-in-Some-clause-due c = rw c.in-Some.is at (c.in_ok-pause.ensures.due c.args.program.now c.requires.of)

pub returns-in-Some-clause-settles : goal.returns-in-Some-clause-settles
returns-in-Some-clause-settles c = record { goes = returns-in-Some-clause-goes c; used = (c.find.ensures.keeps c.args.program.now c.requires.of).used; limit = (c.find.ensures.keeps c.args.program.now c.requires.of).limit; asks = c.in_ok-pause.ensures.asks }

pub returns-clause-settles : goal.returns-clause-settles
returns-clause-settles c =
    let new = c.go_quietly.new.self in
    if_ok_all c.go_quietly.result record {
      goes = returns-clause-goes c;
      used = c.go_quietly.ensures.used ∙ (c.find.ensures.keeps c.args.program.now c.requires.of).used;
      limit = c.go_quietly.ensures.limit ∙ (c.find.ensures.keeps c.args.program.now c.requires.of).limit;
      asks = subst (Onward 0 (activations c.args.self.now.machine)) (sym (plain_cases new.machine c.go_quietly.ensures.plain)) (returns-clause-walks c);
    }
