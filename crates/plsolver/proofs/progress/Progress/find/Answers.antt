use Rattle.std.proofs.Common.{ap, ◌∙◌}
use Rattle.plmachine.specs.declared.machine.Mode.TheVariants as modes
use Rattle.plsolver.specs.Asking.{activations}
use Rattle.plsolver.proofs.Ending.{ends_refl}
use Rattle.plsolver.proofs.Further.{onward_ends, onward_refl}
use Rattle.plsolver.proofs.Keeping.{keeps_same}
use Rattle.plsolver.proofs.Seeking.{plain-without}
use Rattle.plsolver.proofs.progress.Progress.find.Goals as goal

pub returns-in_default : goal.returns-in_default
returns-in_default c =
    record {
      keeps = λ P b. keeps_same P c.args.self.now;
      plain = plain-without c.args.self.now.machine.mode c.in_default.not-Find;
      due = λ P b. tt;
      walks = onward_ends c.args.self.now.machine c.args.self.now.machine.stack (ends_refl _);
      asks = onward_refl 0 (activations c.args.self.now.machine);
    }

pub sweep-requires-clause-sweeps : goal.sweep-requires-clause-sweeps
sweep-requires-clause-sweeps c = (c.in-Sweep.field-0, c.in-Sweep.field-1, c.in-Find.is ∙ ap modes.Find c.in-Sweep.is)
