use Rattle.std.proofs.Common.{◌≡◌, ◌+◌, ◌∙◌, ap}
use Rattle.plenv.specs.Env.{Env}
use Rattle.plenv.proofs.Terms.{puts-variables}
use Rattle.plenv.proofs.env.Environment.new_values.Goals as goal

pub returns-clause-ok : goal.returns-clause-ok
returns-clause-ok c = rw (← c.self.view_is) (
    let s = c.self.inside in
    let e : Env = record { heap = s.heap; slots = s.slots.items; noted = s.noted.items; boundary = s.boundary; count = s.count } in
    let next : c.in-Some.next ≡ s.count + c.args.count = c.in-Some.ensures.1 ∙ ap (λ w. s.count + w) c.from.ensures in
    rw next (puts-variables e c.new_variables.new.heap c.in_ok-values.values.items c.args.count c.self.invariant c.in_ok-values.ensures.ok))
