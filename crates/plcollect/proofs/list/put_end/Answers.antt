use Rattle.std.proofs.Common.{ap, ◌∙◌}
use Rattle.plterm.specs.Tree.{atom}
use Rattle.plsubst.specs.Subst.{bind}
use Rattle.plenv.proofs.Putting.{Stays-refl}
use Rattle.plcollect.proofs.list.put_end.Goals as goal

pub returns-in_err-name-clause-stays : goal.returns-in_err-name-clause-stays
returns-in_err-name-clause-stays c = Stays-refl c.args.env.now

pub returns-in-Err-clause-stays : goal.returns-in-Err-clause-stays
returns-in-Err-clause-stays c = Stays-refl c.args.env.now

pub returns-in-Ok-clause-ok : goal.returns-in-Ok-clause-ok
unfolding bind
returns-in-Ok-clause-ok c = rw (c.in-Ok.ensures.ok ∙ ap atom c.in_ok-name.ensures) at c.put_over.ensures.ok
