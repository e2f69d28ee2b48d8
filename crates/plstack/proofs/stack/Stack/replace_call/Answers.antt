use Rattle.std.proofs.Common.{◌≡◌, ◌∙◌, length, sym, arith}
use Rattle.plstack.specs.declared.frame.Frame.TheVariants.{Open}
use Rattle.plstack.specs.declared.frame.Resume.TheVariants as resumes
use Rattle.plstack.proofs.Ending.{pushed-walks, taken-walks}
use Rattle.plstack.proofs.Going.{replaced, replaced-stack}
use Rattle.plstack.proofs.Stacks.{changed-last, inside}
use Rattle.plstack.proofs.stack.Stack.replace_call.Goals as goal

pub invariant_of-self : goal.invariant_of-self
invariant_of-self c =
    let at = c.requires in
    let calling = rw (← c.self.view_is) at at.2 in
    let many : c.len-last.result ≡ length c.self.inside.frames.items = omega (arith, c.len-last.ensures, c.self.inside.frames.ok.0) in
    let pushed = changed-last c.self.inside.frames.items calling.rest (Open at.0 (resumes.Clauses at.1)) (Open at.0 (resumes.Clauses (record at.1 { next = c.args.next }))) c.index_mut.result.now c.leave_from.new.frame c.len-last.result calling.top many c.index_mut.ensures.value (c.leave_from.ensures at.0 at.1) in
    replaced-stack (inside c.self.inside) c.self.inside.depth c.self.invariant at.0 at.1 calling calling.rest (Open at.0 (resumes.Clauses at.1)) calling.top c.args.next _ pushed

pub returns-clause-goes : goal.returns-clause-goes
returns-clause-goes c = λ p k is db.
    let calling = rw (← c.self.view_is) at is in
    let many : c.len-last.result ≡ length c.self.inside.frames.items = omega (arith, c.len-last.ensures, c.self.inside.frames.ok.0) in
    let pushed = changed-last c.self.inside.frames.items calling.rest (Open p (resumes.Clauses k)) (Open p (resumes.Clauses (record k { next = c.args.next }))) c.index_mut.result.now c.leave_from.new.frame c.len-last.result calling.top many c.index_mut.ensures.value (c.leave_from.ensures p k) in
    rw (← c.self.view_is) (replaced (inside c.self.inside) c.self.inside.depth c.self.invariant p k calling calling.rest (Open p (resumes.Clauses k)) calling.top c.args.next _ pushed db)

pub returns-clause-walks : goal.returns-clause-walks
returns-clause-walks c =
    let at = c.requires in
    let calling = rw (← c.self.view_is) at at.2 in
    let many : c.len-last.result ≡ length c.self.inside.frames.items = omega (arith, c.len-last.ensures, c.self.inside.frames.ok.0) in
    let pushed = changed-last c.self.inside.frames.items calling.rest (Open at.0 (resumes.Clauses at.1)) (Open at.0 (resumes.Clauses (record at.1 { next = c.args.next }))) c.index_mut.result.now c.leave_from.new.frame c.len-last.result calling.top many c.index_mut.ensures.value (c.leave_from.ensures at.0 at.1) in
    rw (← c.self.view_is)
    (pushed-walks _ calling.rest (Open at.0 (resumes.Clauses _)) pushed
    ∙ sym (taken-walks (inside c.self.inside) at.0 (resumes.Clauses at.1) calling.rest calling.rest (Open at.0 (resumes.Clauses at.1)) calling.top calling.top))
