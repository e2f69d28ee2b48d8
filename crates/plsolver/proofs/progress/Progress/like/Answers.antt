use Rattle.std.proofs.Common.{[]}
use Rattle.plterm.specs.Tree.{atom}
use Rattle.plsolver.proofs.Seeking.{base-asks}
use Rattle.plsolver.proofs.progress.Progress.like.Goals as goal

pub unreachable-requires : goal.unreachable-requires
unreachable-requires c = base-asks (atom []) c.args.reach (c.requires.asks (atom [])) c.in_default.not-Base
