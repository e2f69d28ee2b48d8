use Rattle.plenv.proofs.Keeping.{Keeps-refl, Keeps-trans}
use Rattle.plstack.proofs.head.try_head.Goals as goal

pub returns-then-misses_head-clause-keeps : goal.returns-then-misses_head-clause-keeps
returns-then-misses_head-clause-keeps c = Keeps-refl _

pub returns-clause-keeps : goal.returns-clause-keeps
returns-clause-keeps c = Keeps-trans _ _ _ c.in_ok-head.ensures.keeps c.unify_in_choice.ensures.keeps
