use Rattle.std.proofs.Common.{sym, ◌∙◌}
use Rattle.plstack.proofs.Stacks.{inside}
use Rattle.plstack.proofs.Going.{emptied-stack, emptied, emptied-older}
use Rattle.plstack.specs.declared.frame.Resume.TheVariants as resumes
use Rattle.plstack.proofs.Ending.{taken-walks}
use Rattle.plstack.proofs.stack.Stack.empty_call.Goals as goal

pub invariant_of-self : goal.invariant_of-self
invariant_of-self c =
    let calling = rw (← c.self.view_is) at c.requires in
    emptied-stack (inside c.self.inside) c.self.inside.depth c.self.invariant c.args.at.point c.args.at.call calling c.pop.new.self.items c.in-Some.field-0 c.in-Some.ensures.items c.count_up.new.frames.items c.count_up.ensures.counts

pub returns-clause-goes : goal.returns-clause-goes
returns-clause-goes c = λ db.
    let calling = rw (← c.self.view_is) at c.requires in
    rw (← c.self.view_is) (emptied (inside c.self.inside) c.self.inside.depth c.self.invariant c.args.at.point c.args.at.call calling c.pop.new.self.items c.in-Some.field-0 c.in-Some.ensures.items c.count_up.new.frames.items c.count_up.ensures.counts db)

pub returns-clause-older : goal.returns-clause-older
returns-clause-older c =
    let calling = rw (← c.self.view_is) at c.requires in
    emptied-older (inside c.self.inside) c.self.inside.depth c.self.invariant c.args.at.point c.args.at.call calling c.pop.new.self.items c.in-Some.field-0 c.in-Some.ensures.items c.count_up.new.frames.items c.count_up.ensures.counts

pub returns-clause-walks : goal.returns-clause-walks
returns-clause-walks c =
    let calling = rw (← c.self.view_is) at c.requires in
    rw (← c.self.view_is) (c.count_up.ensures.counts.walks ∙ sym (taken-walks (inside c.self.inside) c.args.at.point (resumes.Clauses c.args.at.call) calling.rest c.pop.new.self.items c.in-Some.field-0 calling.top c.in-Some.ensures.items))
