use Rattle.std.proofs.Common.{arith}
use Rattle.plstack.specs.declared.frame.Marks.{Marks}
use Rattle.plstack.specs.State.{State}
use Rattle.plstack.proofs.Stacks.{inside}
use Rattle.plstack.proofs.Opening.{marked-stack, marked-extends}
use Rattle.plstack.proofs.stack.Stack.marks.Goals as goal

pub invariant_of-self : goal.invariant_of-self
invariant_of-self c =
    let s : State = inside c.self.inside in
    let m : Marks = record { env = c.mark-env.result; links = c.len.result; saved = c.len-2.result } in
    marked-stack s c.self.inside.depth c.self.invariant c.mark-env.new.self m c.mark-env.ensures.mark c.mark-env.ensures.now c.mark-env.ensures.same (omega (arith, c.len.ensures, c.self.inside.links.ok.0)) (omega (arith, c.len-2.ensures, c.self.inside.saved.ok.0))

pub returns-clause-stays : goal.returns-clause-stays
returns-clause-stays c =
    let s : State = inside c.self.inside in
    let m : Marks = record { env = c.mark-env.result; links = c.len.result; saved = c.len-2.result } in
    rw (← c.self.view_is) (marked-extends s c.self.inside.depth c.self.invariant c.mark-env.new.self m c.mark-env.ensures.mark c.mark-env.ensures.now c.mark-env.ensures.same (omega (arith, c.len.ensures, c.self.inside.links.ok.0)) (omega (arith, c.len-2.ensures, c.self.inside.saved.ok.0)))
