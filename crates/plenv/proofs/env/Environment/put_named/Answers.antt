use Rattle.std.proofs.Common.{ap, map}
use Rattle.std.proofs.lemmas.Result.{IfOk-weaker, on_err_weaker}
use Rattle.plterm.specs.Tree.{Tree, compound, trees}
use Rattle.plcells.specs.Store.{Store, value}
use Rattle.plcells.specs.Putting.{PutsTerm}
use Rattle.plenv.specs.Env.{Env}
use Rattle.plenv.proofs.Putting.{stays-grown}
use Rattle.plenv.proofs.Terms.{slots-given, puts-given}
use Rattle.plenv.proofs.env.Environment.put_named.Goals as goal

pub invariant_of-self : goal.invariant_of-self
invariant_of-self c =
    let s = c.self.inside in
    let e : Env = record { heap = s.heap; slots = s.slots.items; noted = s.noted.items; boundary = s.boundary; count = s.count } in
    slots-given e c.compound_on.new.heap (compound c.args.name.now (trees (map (value s.heap) c.args.values.now))) c.self.invariant c.compound_on.ensures.preserves (λ v. v) c.compound_on.result c.compound_on.ensures.ok c.compound_on.ensures.err

pub returns-clause-ok : goal.returns-clause-ok
returns-clause-ok c = rw (← c.self.view_is) (
    let s = c.self.inside in
    let e : Env = record { heap = s.heap; slots = s.slots.items; noted = s.noted.items; boundary = s.boundary; count = s.count } in
    let t : Tree = (compound c.args.name.now (trees (map (value s.heap) c.args.values.now))) in
    IfOk-weaker c.compound_on.result (λ v. PutsTerm s.heap c.compound_on.new.heap v t) _
    (λ v p. puts-given e c.compound_on.new.heap t c.self.invariant c.compound_on.ensures.preserves v p) c.compound_on.ensures.ok)

pub returns-clause-err : goal.returns-clause-err
returns-clause-err c = rw (← c.self.view_is) (
    let s = c.self.inside in
    let e : Env = record { heap = s.heap; slots = s.slots.items; noted = s.noted.items; boundary = s.boundary; count = s.count } in
    on_err_weaker c.compound_on.result (λ same. stays-grown e c.compound_on.new.heap c.compound_on.ensures.preserves.values c.compound_on.ensures.preserves.keeps c.self.invariant) c.compound_on.ensures.err)

pub returns-clause-back : goal.returns-clause-back
returns-clause-back c = rw (← c.self.view_is) (
    let s = c.self.inside in
    on_err_weaker c.compound_on.result (λ same. ap (λ (h : Store). record { heap = h; slots = s.slots.items; noted = s.noted.items; boundary = s.boundary; count = s.count }) same) c.compound_on.ensures.err)
