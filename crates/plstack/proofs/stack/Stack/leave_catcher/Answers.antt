use Rattle.std.proofs.Common.{◌≡◌, ◌+◌, ap, ◌∙◌, sym}
use Rattle.plstack.specs.State.{depth_in}
use Rattle.plstack.proofs.Stacks.{inside}
use Rattle.plstack.proofs.Leaving.{catcher_settled, first-level}
use Rattle.plstack.proofs.stack.Stack.leave_catcher.Goals as goal

pub catcher_in-requires-clause-level : goal.catcher_in-requires-clause-level
catcher_in-requires-clause-level c =
    let first = rw (← c.self.view_is) at c.requires in
    first-level (inside c.self.inside) c.self.inside.depth c.self.invariant c.args.level c.args.list first

pub returns-clause-yes : goal.returns-clause-yes
returns-clause-yes c = λ yes.
    let deep : depth_in c.args.self.now ≡ c.in-Some.catcher.inside + c.args.level + 1 = ap depth_in (sym c.self.view_is) ∙ sym c.self.invariant.1 ∙ c.in-Some.ensures.level in
    catcher_settled c.args.self.now c.empty_catcher.new.self c.settle.new.self c.args.level c.args.list (c.empty_catcher.ensures.leaves c.args.level deep) c.settle.ensures

pub returns-in_default-clause-only : goal.returns-in_default-clause-only
returns-in_default-clause-only c = λ no has.
    let h = rw (← c.self.view_is) at has in
    let none = rw c.deref.ensures.value at c.in_default.ensures.none in
    none h.number h.marks h.inside h.is (c.self.invariant.1 ∙ h.level_is)
