use Rattle.std.proofs.Common.{subst}
use Rattle.plsubst.proofs.UnifyFinds.{Found, unify-found}
use Rattle.plsubst.proofs.unify_finds.Goals as goal

pub returns : goal.returns
returns c = λ a b e τ same. subst Found e (unify-found a b τ same)
