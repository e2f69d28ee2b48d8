use Rattle.std.proofs.Common.{ap}
use Rattle.std.proofs.lemmas.Result.{on_err_weaker}
use Rattle.plenv.specs.Env.{Env}
use Rattle.plstack.proofs.Stacks.{inside}
use Rattle.plstack.proofs.Growing.{stack-env, extends-env}
use Rattle.plstack.proofs.stack.Stack.with_arguments.Goals as goal

pub invariant_of-self : goal.invariant_of-self
invariant_of-self c = stack-env (inside c.self.inside) c.self.inside.depth c.with_arguments-made.new.self c.with_arguments-made.ensures.stays.extends c.heap.ensures.env c.self.invariant

pub returns-clause-stays : goal.returns-clause-stays
returns-clause-stays c = rw (← c.self.view_is) (extends-env (inside c.self.inside) c.self.inside.depth c.with_arguments-made.new.self c.with_arguments-made.ensures.stays.extends c.heap.ensures.env c.self.invariant)

pub returns-clause-back : goal.returns-clause-back
returns-clause-back c = rw (← c.self.view_is) (on_err_weaker c.with_arguments-made.result (λ same. ap (λ (e : Env). record (inside c.self.inside) { env = e }) same) c.with_arguments-made.ensures.back)
