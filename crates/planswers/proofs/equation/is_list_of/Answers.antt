use Rattle.planswers.proofs.Forwarding.{equation-means}
use Rattle.planswers.proofs.equation.is_list_of.Goals as goal

pub returns-clause-is : goal.returns-clause-is
returns-clause-is c = λ h s n. equation-means h s n _ _ 0 c.in_ok-equation.equation (c.in_ok-equation.ensures.left h n) (c.in_ok-equation.ensures.right h n) c.in_ok-equation.ensures.new
