use Rattle.std.proofs.Common.{reverse, ap}
use Rattle.plterm.specs.Tree.{atom}
use Rattle.plcode.proofs.Waiting.{Waits-names, Waits-pushed}
use Rattle.plcode.proofs.lay.put_atom.Goals as goal

pub returns-clause-waits : goal.returns-clause-waits
returns-clause-waits c nodes ts h =
    let is = c.in_ok-atom.ensures.is in
    let t = c.atom.new.self in
    let w = reverse c.args.waiting.now.items in
    Waits-pushed t nodes _ _ ts _ (atom c.args.name.now) c.in_ok-push.ensures.items
    (Waits-names c.args.names.now t nodes w ts c.atom.ensures.extends c.atom.ensures.table h) is.within tt (ap atom is.is)
