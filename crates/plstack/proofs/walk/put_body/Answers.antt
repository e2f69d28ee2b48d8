use Rattle.std.proofs.Common.{refl}
use Rattle.plenv.proofs.Keeping.{Keeps-refl}
use Rattle.plstack.proofs.Resolving.{fact-true}
use Rattle.plstack.proofs.walk.put_body.Goals as goal

pub returns-in-Tell : goal.returns-in-Tell
returns-in-Tell c = record { ok = (fact-true c.args.next.now.uses c.args.next.now.clause c.in-Tell.is, refl); keeps = Keeps-refl _ }
