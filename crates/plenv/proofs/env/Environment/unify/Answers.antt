use Rattle.plcells.specs.Store.{value}
use Rattle.plenv.specs.Env.{Env}
use Rattle.plenv.proofs.Unified.{unifies-where}
use Rattle.plenv.proofs.env.Environment.unify.Goals as goal

pub returns-clause-yes : goal.returns-clause-yes
returns-clause-yes c = rw (← c.self.view_is) (
    let s = c.self.inside in
    let e : Env = record { heap = s.heap; slots = s.slots.items; noted = s.noted.items; boundary = s.boundary; count = s.count } in
    unifies-where e c.unify.new.heap c.self.invariant c.unify.result (value s.heap c.args.a) (value s.heap c.args.b) c.unify.ensures.yes)
