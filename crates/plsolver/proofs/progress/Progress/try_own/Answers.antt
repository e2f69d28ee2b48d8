use Rattle.std.proofs.Common.{◌∙◌, sym, subst}
use Rattle.plstack.specs.StaticCalls.{database_of}
use Rattle.plsolver.specs.Going.{WalkedTo}
use Rattle.plsolver.proofs.Asked.{ahead-further, moves-further}
use Rattle.plsolver.proofs.Further.{further_same}
use Rattle.plsolver.proofs.Walking.{ahead-viewed, finds-own, known-viewed, over, tries-past}
use Rattle.plsolver.proofs.progress.Progress.try_own.Goals as goal

pub returns-in_err-entered-clause-walks : goal.returns-in_err-entered-clause-walks
returns-in_err-entered-clause-walks c = further_same c.args.self.now.machine.stack c.try_walk.new.self c.in_err-entered.ensures.err_walks

pub returns-in-Some-clause-ok : goal.returns-in-Some-clause-ok
returns-in-Some-clause-ok c = λ P v ordered.
    let s = c.args.self.now.machine in
    let p = c.requires.own in
    (rw c.in-Some.is at c.in_ok-entered.ensures.some) c.args.at.now.point c.args.at.now.walk c.requires.at (database_of P v s.layer.own.updates)
    (finds-own s c.try_walk.new.self c.args.at.now c.requires.at p.0 p.1 p.2 p.3 c.args.rest p.4 c.args.next.now p.5.0 p.5.1 p.5.2 P v ordered)

pub returns-in-Some-clause-walks : goal.returns-in-Some-clause-walks
returns-in-Some-clause-walks c =
    let p = c.requires.own in
    moves-further c.args.self.now.machine.stack c.try_walk.new.self c.args.at.now.walk c.args.rest (known-viewed c.args.at.now.walk.spot p.0 p.1 p.2 p.3) (c.in_ok-entered.ensures.moves c.args.at.now.point c.args.at.now.walk c.requires.at)
    (λ z e.
    let is = sym p.4 ∙ e in
    (ahead-viewed p.0 p.2 z is, ahead-further c.args.at.now.walk z p.0 p.1 p.2 p.3 is))

pub returns-in-None-clause-ok : goal.returns-in-None-clause-ok
returns-in-None-clause-ok c =
    let s = c.args.self.now.machine in
    let p = c.requires.own in
    let st = c.try_walk.new.self in
    subst (WalkedTo s (over s st) c.args.at.now) (sym c.walked_to.ensures)
    (tries-past s st c.args.at.now c.requires.at p.0 p.1 p.2 p.3 c.args.rest p.4
    (λ P v ordered. (rw c.in-None.is at c.in_ok-entered.ensures.none) c.args.at.now.point c.args.at.now.walk c.requires.at (database_of P v s.layer.own.updates) (finds-own s st c.args.at.now c.requires.at p.0 p.1 p.2 p.3 c.args.rest p.4 c.args.next.now p.5.0 p.5.1 p.5.2 P v ordered))
    c.try_walk.ensures.basis c.requires.seen ((rw c.in-None.is at c.in_ok-entered.ensures.at_next) c.args.at.now.point c.args.at.now.walk c.requires.at) ((rw c.in-None.is at c.in_ok-entered.ensures.values) c.args.at.now.point c.args.at.now.walk c.requires.at) (rw c.in-None.is at c.in_ok-entered.ensures.last))

pub returns-in-None-clause-walks : goal.returns-in-None-clause-walks
returns-in-None-clause-walks c =
    let p = c.requires.own in
    moves-further c.args.self.now.machine.stack c.try_walk.new.self c.args.at.now.walk c.args.rest (known-viewed c.args.at.now.walk.spot p.0 p.1 p.2 p.3) (c.in_ok-entered.ensures.moves c.args.at.now.point c.args.at.now.walk c.requires.at)
    (λ z e.
    let is = sym p.4 ∙ e in
    (ahead-viewed p.0 p.2 z is, ahead-further c.args.at.now.walk z p.0 p.1 p.2 p.3 is))
