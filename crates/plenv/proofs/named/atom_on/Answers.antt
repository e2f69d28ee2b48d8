use Rattle.std.proofs.Common.{ap}
use Rattle.std.proofs.lemmas.Result.{IfOk-weaker}
use Rattle.plterm.specs.Tree.{atom}
use Rattle.plcells.specs.declared.cell.Cell.TheVariants.{Atom as AtomCell}
use Rattle.plcells.specs.Putting.{PutsTerm}
use Rattle.plcells.proofs.Putting.{adds-renamed}
use Rattle.plenv.proofs.named.atom_on.Goals as goal

pub returns-clause-ok : goal.returns-clause-ok
returns-clause-ok c =
    let old = c.args.heap.now in
    let new = c.atom.new.self in
    IfOk-weaker c.atom.result _ (λ a. PutsTerm old new (AtomCell a) (atom c.args.name.now))
    (λ a e. record { fits = e.within; is = ap atom e.is; adds = adds-renamed old new c.atom.ensures.same c.atom.ensures.preserves }) c.atom.ensures.is
