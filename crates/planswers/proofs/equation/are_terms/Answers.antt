use Rattle.std.proofs.Common.{ap₂}
use Rattle.plcells.specs.Equations.{filled}
use Rattle.plbuiltin.specs.Solution.{unifies}
use Rattle.planswers.proofs.Filling.{bind-closed}
use Rattle.planswers.proofs.equation.are_terms.Goals as goal

pub returns-clause-is : goal.returns-clause-is
returns-clause-is c = λ h s n.
    let σ = filled h c.new.result.items n in
    ap₂ (λ l r. unifies l r s) (bind-closed σ c.args.left c.requires.left) (bind-closed σ c.args.right c.requires.right)
