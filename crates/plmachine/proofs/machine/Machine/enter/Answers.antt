use Rattle.plmachine.proofs.Moves.{enters}
use Rattle.plmachine.proofs.Levels.{fits-opened}
use Rattle.plsearch.specs.Types.{Choice}
use Rattle.plstack.specs.Opening.{around_cases}
use Rattle.std.proofs.Common.{◌∷◌, []}
use Rattle.plmachine.proofs.machine.Machine.enter.Goals as goal

pub returns-clause-ok : goal.returns-clause-ok
returns-clause-ok c P = enters P c.args.self.now c.go_on.new.self c.open_run.new.self _ c.args.list c.requires.list c.in_ok-open_run.ensures.ok c.go_on.ensures.is

pub go_on-requires-clause-fits : goal.go_on-requires-clause-fits
go_on-requires-clause-fits c =
    let s = c.args.self.now.stack in
    fits-opened s c.open_run.new.self (Choice [] ∷ around_cases s c.args.around) c.in_ok-open_run.ensures.ok c.args.list c.requires.list c.requires.fits
