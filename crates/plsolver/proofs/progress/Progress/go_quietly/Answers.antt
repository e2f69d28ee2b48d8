use Rattle.std.proofs.Common.{arith, ◌∙◌}
use Rattle.plsolver.proofs.Runs.{goes_on, no_order, no_views, quiet_goes, quiet_of}
use Rattle.plsolver.proofs.Further.{further_trans}
use Rattle.plsolver.proofs.Keeping.{keeps-goes}
use Rattle.plsolver.proofs.progress.Progress.go_quietly.Goals as goal

pub returns-in_err-quiet_turn-clause-goes : goal.returns-in_err-quiet_turn-clause-goes
returns-in_err-quiet_turn-clause-goes c =
    let P = c.args.program.now in
    let t = c.loop-due.self in
    let i = c.loop-due.invariant in
    goes_on P c.args.self.now t c.quiet_turn.new.self i.limit i.goes (keeps-goes P t c.quiet_turn.new.self (omega (arith, c.requires.within, i.used, i.limit)) c.in_err-quiet_turn.ensures.err)

pub returns-in-Some-clause-goes : goal.returns-in-Some-clause-goes
returns-in-Some-clause-goes c =
    let P = c.args.program.now in
    let t = c.loop-due.self in
    let i = c.loop-due.invariant in
    goes_on P c.args.self.now t c.quiet_turn.new.self i.limit i.goes (keeps-goes P t c.quiet_turn.new.self (omega (arith, c.requires.within, i.used, i.limit)) (rw c.in-Some.is at c.in_ok-quiet_turn.ensures.due).1)

pub loop-due-preserved : goal.loop-due-preserved
loop-due-preserved c =
    let P = c.args.program.now in
    let s = c.args.self.now in
    let t = c.loop-due.self in
    let new = c.quiet_turn.new.self in
    let i = c.loop-due.invariant in
    let q = rw c.in-None.is at c.in_ok-quiet_turn.ensures.on in
    let one = q no_views no_order in
    record {
      goes = goes_on P s t new i.limit i.goes (quiet_goes P t new (omega (arith, c.requires.within, i.used, i.limit)) q);
      of = quiet_of P t new i.of q;
      plain = one.plain;
      used = one.used ∙ i.used;
      limit = one.limit ∙ i.limit;
      places = one.places ∙ i.places;
      latest = one.latest ∙ i.latest;
      walks = further_trans _ _ _ i.walks c.quiet_turn.ensures.walks;
    }
