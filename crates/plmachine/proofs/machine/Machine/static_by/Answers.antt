use Rattle.std.proofs.Common.{subst, ◌≡◌}
use Rattle.std.specs.Prelude.{IfSome}
use Rattle.platoms.specs.Names.{IsTable}
use Rattle.plcode.specs.Callees.{callee_at}
use Rattle.plcode.specs.declared.callee.Callee.TheVariants as callees
use Rattle.plmachine.proofs.Terms.{static-by}
use Rattle.plmachine.proofs.machine.Machine.static_by.Goals as goal

pub returns-in-Some : goal.returns-in-Some
returns-in-Some c =
    let table = subst (λ e. IsTable e.heap.names) c.env.ensures c.heap.ensures.env.heap.names in
    static-by c.args.self.now c.args.number c.in-Some.number c.in-Some.is c.code.ensures.names table c.static_of.result
    (subst (λ m. IfSome c.static_of.result (λ i. callee_at m.callees c.in-Some.number ≡ callees.Static i)) c.code.ensures.is c.static_of.ensures)
