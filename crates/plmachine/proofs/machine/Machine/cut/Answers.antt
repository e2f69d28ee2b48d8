use Rattle.std.proofs.Common.{refl}
use Rattle.plmachine.proofs.Cutting.{cuts}
use Rattle.plmachine.proofs.machine.Machine.cut.Goals as goal

pub returns-clause-ok : goal.returns-clause-ok
returns-clause-ok c P = cuts P c.args.self.now _ c.cut.new.self c.args.level c.args.rest c.requires.rest c.in_ok-cut.ensures.ok refl
