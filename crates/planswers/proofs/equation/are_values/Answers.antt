use Rattle.std.proofs.Common.{rules}
use Rattle.planswers.proofs.Filling.{both-by}
use Rattle.planswers.proofs.equation.are_values.Goals as goal

pub returns-clause-is : goal.returns-clause-is
returns-clause-is c = λ h s n. both-by h s n c.args.left.0 c.args.left.1 c.args.right.0 c.args.right.1 _ _ _ (search rules) (search rules) (search rules)
