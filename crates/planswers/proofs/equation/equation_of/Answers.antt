use Rattle.std.proofs.Common.{◌≡◌, ◌∷◌, ap, ap₂, ◌∙◌, rules}
use Rattle.plterm.specs.Tree.{var}
use Rattle.plsubst.specs.Subst.{bind}
use Rattle.plcells.specs.Equations.{filled}
use Rattle.planswers.proofs.Filling.{bind-first}
use Rattle.planswers.proofs.equation.equation_of.Goals as goal

pub returns-clause-left : goal.returns-clause-left
returns-clause-left c = λ h n.
    let values : c.extend_from_slice.new.self.items ≡ c.args.v ∷ c.args.others.now = search rules in
    let left : c.in_ok-left.left ≡ var 0 = search rules in
    ap₂ (λ us u. bind (filled h us n) u) values left ∙ bind-first h c.args.v c.args.others.now n

pub returns-clause-right : goal.returns-clause-right
returns-clause-right c = λ h n.
    let values : c.extend_from_slice.new.self.items ≡ c.args.v ∷ c.args.others.now = search rules in
    ap (λ us. bind (filled h us n) c.args.right) values
