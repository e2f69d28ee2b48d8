use Rattle.std.proofs.Common.{sym, subst, ◌∙◌}
use Rattle.plmachine.specs.Selected.{StandsFor}
use Rattle.plmachine.proofs.machine.Machine.number.Goals as goal

pub returns-in-Node-clause-stands : goal.returns-in-Node-clause-stands
returns-in-Node-clause-stands c t stands =
    let x = subst (λ src. StandsFor c.args.self.now.stack src t) c.in-Node.is stands in
    let k = c.put_goal.ensures.arguments c.in-Node.run' c.in-Node.node x.0 x.1 in
    subst (λ src. StandsFor c.put_goal.new.self src t) (sym c.in-Node.is) (x.0, k.0, k.1 ∙ x.2)
