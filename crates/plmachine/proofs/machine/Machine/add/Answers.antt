use Rattle.std.proofs.Common.{rules, ◌≡◌}
use Rattle.plterm.specs.Tree.{Tree}
use Rattle.plerror.specs.Errors.{callable_error}
use Rattle.plmachine.proofs.machine.Machine.add.Goals as goal

pub returns-in_ok-error-in-BadHead-clause-ok : goal.returns-in_ok-error-in-BadHead-clause-ok
returns-in_ok-error-in-BadHead-clause-ok c =
    let ok = c.raise_of-in-BadHead.ensures.ok c.args.program.now c.requires.begun in
    let callable : ◌≡◌ {A = Tree} c.in_ok-error-in-BadHead.error (callable_error c.in-BadHead.culprit) = c.in_ok-error-in-BadHead.ensures in
    search rules
