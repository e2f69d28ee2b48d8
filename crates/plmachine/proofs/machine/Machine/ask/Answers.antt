use Rattle.std.proofs.Common.{ap}
use Rattle.plmachine.specs.declared.machine.Mode.TheVariants as modes
use Rattle.plmachine.proofs.Moves.{asks}
use Rattle.plmachine.proofs.machine.Machine.ask.Goals as goal

pub returns : goal.returns
returns c P =
    let s = c.args.self.now in
    asks P s _ c.args.question c.args.rest c.requires.askable (ap (λ st. record s { stack = st; mode = modes.Ask c.args.question }) c.visit.ensures.is)
