use Rattle.std.proofs.Common.{◌≡◌, ◌∙◌, ap, length, arith}
use Rattle.plterm.specs.Variables.{variables}
use Rattle.plterm.proofs.Belows.{AllBelow-copied_0}
use Rattle.plsubst.specs.Subst.{shift}
use Rattle.plstack.proofs.Stacks.{inside}
use Rattle.plstack.proofs.Growing.{if_ok, put-extends, stack-env, extends-env}
use Rattle.plstack.proofs.Arguments.{arguments-stay}
use Rattle.plcollect.proofs.Copying.{shift-copied}
use Rattle.plstack.proofs.stack.Stack.put_copy.Goals as goal

pub put_term-put-requires : goal.put_term-put-requires
put_term-put-requires c =
    let g = c.args.given.now in
    let many : c.in-Ok.count ≡ length (variables g) = grind (arith, c.in-Ok.ensures, c.len.ensures, ap length c.in_ok-variables.ensures) in
    rw (c.in_ok-copy.ensures, many) (AllBelow-copied_0 g)

pub invariant_of-self : goal.invariant_of-self
invariant_of-self c =
    let s = inside c.self.inside in
    let e = c.put_term-put.new.self in
    stack-env s c.self.inside.depth e (put-extends s.env e _ _ c.put_term-put.result c.put_term-put.ensures.ok c.put_term-put.ensures.err) c.heap.ensures.env c.self.invariant

pub returns-clause-stays : goal.returns-clause-stays
returns-clause-stays c =
    let s = inside c.self.inside in
    let e = c.put_term-put.new.self in
    rw (← c.self.view_is) (extends-env s c.self.inside.depth e (put-extends s.env e _ _ c.put_term-put.result c.put_term-put.ensures.ok c.put_term-put.ensures.err) c.heap.ensures.env c.self.invariant)

pub returns-clause-is : goal.returns-clause-is
returns-clause-is c =
    let s = inside c.self.inside in
    let g = c.args.given.now in
    rw (← c.self.view_is) (if_ok _ _ c.put_term-put.result (λ v puts. puts.is ∙ ap (shift s.env.count) c.in_ok-copy.ensures ∙ shift-copied s.env.count g) c.put_term-put.ensures.ok)

pub returns-clause-arguments : goal.returns-clause-arguments
returns-clause-arguments c =
    let s = inside c.self.inside in
    let e = c.put_term-put.new.self in
    rw (← c.self.view_is) (arguments-stay s e (put-extends s.env e _ _ c.put_term-put.result c.put_term-put.ensures.ok c.put_term-put.ensures.err))
