use Rattle.std.proofs.Common.{subst}
use Rattle.plsubst.specs.Unify.{IsMostGeneral, BindsYounger}
use Rattle.plsubst.proofs.Unify.{IfUnified, unify-general}
use Rattle.plsubst.proofs.UnifyUnique.{unify-younger}
use Rattle.plsubst.proofs.unify_is_most_general.Goals as goal

pub returns-clause-general : goal.returns-clause-general
returns-clause-general c = λ a b σ e. subst (λ r. IfUnified r (IsMostGeneral a b)) e (unify-general a b)

pub returns-clause-younger : goal.returns-clause-younger
returns-clause-younger c = λ a b σ e. subst (λ r. IfUnified r BindsYounger) e (unify-younger a b)
