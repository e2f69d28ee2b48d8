use Rattle.plsubst.proofs.UnifyUnique.{unify-is, unify-none}
use Rattle.plsubst.proofs.most_general_is_unique.Goals as goal

pub returns-clause-is : goal.returns-clause-is
returns-clause-is c = unify-is

pub returns-clause-none : goal.returns-clause-none
returns-clause-none c = unify-none
