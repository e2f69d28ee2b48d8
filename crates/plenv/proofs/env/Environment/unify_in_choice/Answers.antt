use Rattle.plcells.specs.Store.{value}
use Rattle.plenv.specs.Env.{Env}
use Rattle.plenv.proofs.Keeping.{over_heap, keeps-both, same-slots}
use Rattle.plenv.proofs.Unified.{unifies-where}
use Rattle.plenv.proofs.env.Environment.unify_in_choice.Goals as goal

pub returns-clause-yes : goal.returns-clause-yes
returns-clause-yes c = rw (← c.self.view_is) (
    let s = c.self.inside in
    let e : Env = record { heap = s.heap; slots = s.slots.items; noted = s.noted.items; boundary = s.boundary; count = s.count } in
    unifies-where e c.unify_in_choice.new.heap c.self.invariant c.unify_in_choice.result (value s.heap c.args.a) (value s.heap c.args.b) c.unify_in_choice.ensures.yes)

pub returns-clause-keeps : goal.returns-clause-keeps
returns-clause-keeps c = rw (← c.self.view_is) (
    let s = c.self.inside in
    let e : Env = record { heap = s.heap; slots = s.slots.items; noted = s.noted.items; boundary = s.boundary; count = s.count } in
    keeps-both e (over_heap e c.unify_in_choice.new.heap e.count) c.unify_in_choice.ensures.keeps.keeps (same-slots e c.unify_in_choice.new.heap e.count))
