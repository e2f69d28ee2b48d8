use Rattle.plenv.proofs.Keeping.{Keeps-refl}
use Rattle.plstack.proofs.walk.put_called.Goals as goal

pub returns-then-is_true-clause-keeps : goal.returns-then-is_true-clause-keeps
returns-then-is_true-clause-keeps c = Keeps-refl _
