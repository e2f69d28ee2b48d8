use Rattle.std.proofs.Common.{◌∙◌, ap, sym}
use Rattle.plmachine.proofs.Moves.{moved-as}
use Rattle.plmachine.specs.Machine.{local_of}
use Rattle.plmachine.specs.Asking.{ended_with}
use Rattle.plstack.specs.State.{goals_of}
use Rattle.plmachine.proofs.machine.Machine.halt_with.Goals as goal

pub returns-in-Is-clause-ok : goal.returns-in-Is-clause-ok
returns-in-Is-clause-ok c P =
    let s = c.args.self.now in
    let es = goals_of s.stack c.args.rest in
    moved-as P s c.halt.new.self _ _ (sym (c.in_ok-status.ensures es s.stack.env.count (local_of s) ∙ ap (λ x. ended_with x es s.stack.env.count (local_of s)) c.in-Is.is)) (c.halt.ensures P)
