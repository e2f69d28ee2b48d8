use Rattle.std.proofs.Common.{ap}
use Rattle.std.proofs.lemmas.Result.{on_err_weaker}
use Rattle.plcells.specs.Store.{Store}
use Rattle.plenv.specs.Env.{Env}
use Rattle.plenv.proofs.Converting.{slots-preserved, stays-preserved}
use Rattle.plenv.proofs.env.Environment.goal_of.Goals as goal

pub invariant_of-self : goal.invariant_of-self
invariant_of-self c =
    let s = c.self.inside in
    let e : Env = record { heap = s.heap; slots = s.slots.items; noted = s.noted.items; boundary = s.boundary; count = s.count } in
    slots-preserved e c.goal_of.new.heap c.self.invariant c.goal_of.ensures.preserves c.goal_of.result c.goal_of.ensures.adds c.goal_of.ensures.err

pub returns-clause-stays : goal.returns-clause-stays
returns-clause-stays c = rw (← c.self.view_is) (
    let s = c.self.inside in
    let e : Env = record { heap = s.heap; slots = s.slots.items; noted = s.noted.items; boundary = s.boundary; count = s.count } in
    stays-preserved e c.goal_of.new.heap c.self.invariant c.goal_of.ensures.preserves)

pub returns-clause-back : goal.returns-clause-back
returns-clause-back c = rw (← c.self.view_is) (
    let s = c.self.inside in
    on_err_weaker c.goal_of.result (λ same. ap (λ (h : Store). record { heap = h; slots = s.slots.items; noted = s.noted.items; boundary = s.boundary; count = s.count }) same) c.goal_of.ensures.err)
