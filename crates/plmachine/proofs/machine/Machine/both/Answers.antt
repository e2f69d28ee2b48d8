use Rattle.std.proofs.Common.{refl}
use Rattle.plmachine.proofs.Lists.{lengthened-grown}
use Rattle.plmachine.proofs.Moves.{went, grown-stays, on_err}
use Rattle.plmachine.proofs.Levels.{holds-fits}
use Rattle.plmachine.proofs.machine.Machine.both.Goals as goal

pub returns-in_err-list-clause-err : goal.returns-in_err-list-clause-err
returns-in_err-list-clause-err c P =
    let s = c.args.self.now in
    on_err _ (grown-stays P s _ (lengthened-grown s.stack c.two_in_turn.new.stack c.two_in_turn.ensures.grows) refl)

pub returns-clause-ok : goal.returns-clause-ok
returns-clause-ok c P =
    let s = c.args.self.now in
    went P s c.go_on.new.self c.two_in_turn.new.stack c.in_ok-list.list _ (lengthened-grown s.stack c.two_in_turn.new.stack c.two_in_turn.ensures.grows) c.in_ok-list.ensures.ok c.go_on.ensures.is

pub go_on-requires-clause-fits : goal.go_on-requires-clause-fits
go_on-requires-clause-fits c =
    holds-fits c.args.self.now.stack c.two_in_turn.new.stack c.in_ok-list.list _ c.two_in_turn.ensures.grows.extends c.in_ok-list.ensures.ok c.requires.fits
