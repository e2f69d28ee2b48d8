use Rattle.std.proofs.Common.{ap}
use Rattle.std.proofs.lemmas.Result.{on_err_weaker}
use Rattle.plenv.specs.Env.{Env}
use Rattle.plstack.proofs.Stacks.{inside}
use Rattle.plstack.proofs.Growing.{if_ok, puts-stay, stack-env, extends-env}
use Rattle.plstack.proofs.Arguments.{arguments-stay}
use Rattle.plstack.proofs.stack.Stack.put_clause_term.Goals as goal

pub invariant_of-self : goal.invariant_of-self
invariant_of-self c =
    let s = inside c.self.inside in
    let e = c.put_clause-put.new.env in
    stack-env s c.self.inside.depth e (puts-stay s.env e _ c.put_clause-put.result c.put_clause-put.ensures.ok c.put_clause-put.ensures.err).extends c.heap.ensures.env c.self.invariant

pub returns-clause-is : goal.returns-clause-is
returns-clause-is c =
    rw (← c.self.view_is) (if_ok _ _ c.put_clause-put.result (λ v puts. puts.is) c.put_clause-put.ensures.ok)

pub returns-clause-count : goal.returns-clause-count
returns-clause-count c =
    let s = inside c.self.inside in
    rw (← c.self.view_is) (puts-stay s.env c.put_clause-put.new.env _ c.put_clause-put.result c.put_clause-put.ensures.ok c.put_clause-put.ensures.err).count

pub returns-clause-arguments : goal.returns-clause-arguments
returns-clause-arguments c =
    let s = inside c.self.inside in
    let e = c.put_clause-put.new.env in
    rw (← c.self.view_is) (arguments-stay s e (puts-stay s.env e _ c.put_clause-put.result c.put_clause-put.ensures.ok c.put_clause-put.ensures.err).extends)

pub returns-clause-stays : goal.returns-clause-stays
returns-clause-stays c =
    let s = inside c.self.inside in
    let e = c.put_clause-put.new.env in
    rw (← c.self.view_is) (extends-env s c.self.inside.depth e (puts-stay s.env e _ c.put_clause-put.result c.put_clause-put.ensures.ok c.put_clause-put.ensures.err).extends c.heap.ensures.env c.self.invariant)

pub returns-clause-back : goal.returns-clause-back
returns-clause-back c = rw (← c.self.view_is) (on_err_weaker c.put_clause-put.result (λ same. ap (λ (e : Env). record (inside c.self.inside) { env = e }) same) c.put_clause-put.ensures.back)
