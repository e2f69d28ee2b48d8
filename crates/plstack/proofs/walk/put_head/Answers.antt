use Rattle.std.proofs.Common.{◌≡◌, arith}
use Rattle.plenv.proofs.Keeping.{Keeps-refl}
use Rattle.plstack.proofs.Resolving.{puts-head}
use Rattle.plstack.proofs.walk.put_head.Goals as goal

pub returns-in_default-clause-keeps : goal.returns-in_default-clause-keeps
returns-in_default-clause-keeps c = Keeps-refl _

pub returns-in_err-values-clause-keeps : goal.returns-in_err-values-clause-keeps
returns-in_err-values-clause-keeps c = rw c.in_err-values.ensures.err (Keeps-refl _)

pub returns-clause-ok : goal.returns-clause-ok
returns-clause-ok c =
    let x = c.args.clause.now in
    let many : c.in-Ok.count ≡ x.variables = omega (arith, c.in-Ok.ensures, c.variables.ensures) in
    puts-head c.args.env.now c.new_values.new.self c.put.new.env x c.in_ok-values.values.items c.in_ok-value.value c.in-Ok.count many c.in_ok-values.ensures.ok c.head.ensures.below
    (rw (c.head.ensures.value, c.deref.ensures.value) at c.in_ok-value.ensures.ok)
