use Rattle.std.proofs.Common.{ap}
use Rattle.std.proofs.lemmas.Result.{on_err_weaker}
use Rattle.plcells.specs.Store.{Store}
use Rattle.plenv.specs.Env.{Env}
use Rattle.plenv.proofs.Converting.{slots-preserved, stays-preserved}
use Rattle.plenv.proofs.env.Environment.with_arguments.Goals as goal

pub invariant_of-self : goal.invariant_of-self
invariant_of-self c =
    let s = c.self.inside in
    let e : Env = record { heap = s.heap; slots = s.slots.items; noted = s.noted.items; boundary = s.boundary; count = s.count } in
    slots-preserved e c.with_arguments.new.heap c.self.invariant c.with_arguments.ensures.preserves c.with_arguments.result c.with_arguments.ensures.adds c.with_arguments.ensures.err

pub returns-clause-stays : goal.returns-clause-stays
returns-clause-stays c = rw (← c.self.view_is) (
    let s = c.self.inside in
    let e : Env = record { heap = s.heap; slots = s.slots.items; noted = s.noted.items; boundary = s.boundary; count = s.count } in
    stays-preserved e c.with_arguments.new.heap c.self.invariant c.with_arguments.ensures.preserves)

pub returns-clause-back : goal.returns-clause-back
returns-clause-back c = rw (← c.self.view_is) (
    let s = c.self.inside in
    on_err_weaker c.with_arguments.result (λ same. ap (λ (h : Store). record { heap = h; slots = s.slots.items; noted = s.noted.items; boundary = s.boundary; count = s.count }) same) c.with_arguments.ensures.err)
