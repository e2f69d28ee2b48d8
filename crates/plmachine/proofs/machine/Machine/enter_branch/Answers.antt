use Rattle.plmachine.proofs.Moves.{enters}
use Rattle.plmachine.proofs.Levels.{fits-opened, fits-pushed}
use Rattle.plstack.specs.Opening.{branch_of}
use Rattle.plstack.specs.State.{kinds_in, goals_of}
use Rattle.std.proofs.Common.{◌∷◌, []}
use Rattle.plmachine.proofs.machine.Machine.enter_branch.Goals as goal

pub returns-clause-ok : goal.returns-clause-ok
returns-clause-ok c P = enters P c.args.self.now c.go_on.new.self c.open_branch.new.self _ c.args.list c.requires.list c.in_ok-open_branch.ensures.ok c.go_on.ensures.is

pub go_on-requires-clause-fits : goal.go_on-requires-clause-fits
go_on-requires-clause-fits c =
    let s = c.args.self.now.stack in
    fits-opened s c.open_branch.new.self (branch_of s c.args.other ∷ []) c.in_ok-open_branch.ensures.ok c.args.list c.requires.list
    (fits-pushed (kinds_in s) (goals_of s c.args.list) c.requires.list_fits)
