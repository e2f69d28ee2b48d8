use Rattle.std.proofs.Common.{ap}
use Rattle.plmachine.specs.declared.machine.Mode.TheVariants as modes
use Rattle.plmachine.specs.declared.machine.Question.TheVariants as questions
use Rattle.plmachine.proofs.Moves.{on_err}
use Rattle.plsolver.proofs.Catches.{grown-stays}
use Rattle.plsolver.proofs.Taking.{asks-closed, looks-in, looks-of}
use Rattle.plsolver.proofs.progress.Progress.look_in.Goals as goal

pub find_of-requires : goal.find_of-requires
find_of-requires c = (asks-closed c.requires.of.0 c.args.self.now (questions.Look c.args.lookup) c.requires.looks c.requires.of.1).1

pub returns-in_err-find-clause-err : goal.returns-in_err-find-clause-err
returns-in_err-find-clause-err c P b =
    let s = c.args.self.now in
    on_err _ (grown-stays P s (record s { machine = c.find_of.new.self }) c.find_of.ensures.grown (ap (λ m. record s { machine = m }) c.find_of.ensures.frame))

pub returns-clause-ok : goal.returns-clause-ok
returns-clause-ok c P b =
    let s = c.args.self.now in
    let t = c.find_of.new.self in
    looks-in P s (record s { machine = record t { stack = c.sees.new.self; mode = modes.Find c.in_ok-find.find } }) t c.args.lookup c.args.g c.in_ok-find.find c.requires.looks b c.requires.latest c.find_of.ensures.grown c.find_of.ensures.frame
    (rw c.get.ensures.is at c.in_ok-find.ensures.ok) (ap (λ st. record t { stack = st; mode = modes.Find c.in_ok-find.find }) (rw c.get.ensures.is at c.sees.ensures))

pub returns-clause-of : goal.returns-clause-of
returns-clause-of c P b =
    let s = c.args.self.now in
    let t = c.find_of.new.self in
    looks-of P s (record s { machine = record t { stack = c.sees.new.self; mode = modes.Find c.in_ok-find.find } }) t c.args.lookup c.args.g c.in_ok-find.find c.requires.looks b c.requires.latest c.find_of.ensures.grown c.find_of.ensures.frame
    (rw c.get.ensures.is at c.in_ok-find.ensures.ok) (ap (λ st. record t { stack = st; mode = modes.Find c.in_ok-find.find }) (rw c.get.ensures.is at c.sees.ensures))

pub returns-clause-seeks : goal.returns-clause-seeks
returns-clause-seeks c = c.in_ok-find.ensures.ok.first
