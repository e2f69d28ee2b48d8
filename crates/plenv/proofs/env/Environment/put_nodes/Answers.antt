use Rattle.std.proofs.Common.{ap, reverse}
use Rattle.std.proofs.lemmas.Result.{IfOk-weaker, on_err_weaker}
use Rattle.plcells.specs.Store.{Store}
use Rattle.plterm.specs.Reading.{tree_of}
use Rattle.plsubst.specs.Subst.{bind}
use Rattle.plcells.specs.Putting.{standing, PutsTerm}
use Rattle.plenv.specs.Env.{Env}
use Rattle.plenv.proofs.Putting.{stays-grown}
use Rattle.plenv.proofs.Terms.{slots-given, puts-given}
use Rattle.plenv.proofs.env.Environment.put_nodes.Goals as goal

pub invariant_of-self : goal.invariant_of-self
invariant_of-self c =
    let s = c.self.inside in
    let e : Env = record { heap = s.heap; slots = s.slots.items; noted = s.noted.items; boundary = s.boundary; count = s.count } in
    slots-given e c.put_nodes.new.self (bind (standing s.heap c.args.values.now) (tree_of (reverse c.args.nodes.now))) c.self.invariant c.put_nodes.ensures.preserves (λ v. v) c.put_nodes.result c.put_nodes.ensures.ok c.put_nodes.ensures.err

pub returns-clause-ok : goal.returns-clause-ok
returns-clause-ok c = rw (← c.self.view_is) (
    let s = c.self.inside in
    let e : Env = record { heap = s.heap; slots = s.slots.items; noted = s.noted.items; boundary = s.boundary; count = s.count } in
    let t = bind (standing s.heap c.args.values.now) (tree_of (reverse c.args.nodes.now)) in
    IfOk-weaker c.put_nodes.result (λ v. PutsTerm s.heap c.put_nodes.new.self v t) _
    (λ v p. puts-given e c.put_nodes.new.self t c.self.invariant c.put_nodes.ensures.preserves v p) c.put_nodes.ensures.ok)

pub returns-clause-err : goal.returns-clause-err
returns-clause-err c = rw (← c.self.view_is) (
    let s = c.self.inside in
    let e : Env = record { heap = s.heap; slots = s.slots.items; noted = s.noted.items; boundary = s.boundary; count = s.count } in
    on_err_weaker c.put_nodes.result (λ same. stays-grown e c.put_nodes.new.self c.put_nodes.ensures.preserves.values c.put_nodes.ensures.preserves.keeps c.self.invariant) c.put_nodes.ensures.err)

pub returns-clause-back : goal.returns-clause-back
returns-clause-back c = rw (← c.self.view_is) (
    let s = c.self.inside in
    on_err_weaker c.put_nodes.result (λ same. ap (λ (h : Store). record { heap = h; slots = s.slots.items; noted = s.noted.items; boundary = s.boundary; count = s.count }) same) c.put_nodes.ensures.err)
