use Rattle.std.proofs.Common.{ap}
use Rattle.std.proofs.lemmas.Result.{IfOk-weaker, on_err_weaker}
use Rattle.plcells.specs.Store.{Store}
use Rattle.plterm.specs.Tree.{Tree, atom}
use Rattle.plcells.specs.declared.cell.Cell.TheVariants.{Atom as AtomCell}
use Rattle.plcells.specs.Putting.{PutsTerm}
use Rattle.plenv.specs.Env.{Env}
use Rattle.plenv.proofs.Putting.{stays-grown}
use Rattle.plenv.proofs.Terms.{slots-given, puts-given}
use Rattle.plenv.proofs.env.Environment.atom.Goals as goal

pub invariant_of-self : goal.invariant_of-self
invariant_of-self c =
    let s = c.self.inside in
    let e : Env = record { heap = s.heap; slots = s.slots.items; noted = s.noted.items; boundary = s.boundary; count = s.count } in
    slots-given e c.atom_on.new.heap (atom c.args.name.now) c.self.invariant c.atom_on.ensures.preserves AtomCell c.atom_on.result c.atom_on.ensures.ok c.atom_on.ensures.err

pub returns-clause-ok : goal.returns-clause-ok
returns-clause-ok c = rw (← c.self.view_is) (
    let s = c.self.inside in
    let e : Env = record { heap = s.heap; slots = s.slots.items; noted = s.noted.items; boundary = s.boundary; count = s.count } in
    let t : Tree = (atom c.args.name.now) in
    IfOk-weaker c.atom_on.result (λ a. PutsTerm s.heap c.atom_on.new.heap (AtomCell a) t) _
    (λ a p. puts-given e c.atom_on.new.heap t c.self.invariant c.atom_on.ensures.preserves (AtomCell a) p) c.atom_on.ensures.ok)

pub returns-clause-err : goal.returns-clause-err
returns-clause-err c = rw (← c.self.view_is) (
    let s = c.self.inside in
    let e : Env = record { heap = s.heap; slots = s.slots.items; noted = s.noted.items; boundary = s.boundary; count = s.count } in
    on_err_weaker c.atom_on.result (λ same. stays-grown e c.atom_on.new.heap c.atom_on.ensures.preserves.values c.atom_on.ensures.preserves.keeps c.self.invariant) c.atom_on.ensures.err)

pub returns-clause-back : goal.returns-clause-back
returns-clause-back c = rw (← c.self.view_is) (
    let s = c.self.inside in
    on_err_weaker c.atom_on.result (λ same. ap (λ (h : Store). record { heap = h; slots = s.slots.items; noted = s.noted.items; boundary = s.boundary; count = s.count }) same) c.atom_on.ensures.err)
