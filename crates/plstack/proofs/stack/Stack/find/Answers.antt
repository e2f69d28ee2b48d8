use Rattle.std.proofs.Common.{◌∙◌}
use Rattle.plenv.proofs.Renaming.{IsMark-kept}
use Rattle.plstack.specs.State.{State}
use Rattle.plstack.proofs.Stacks.{inside}
use Rattle.plstack.proofs.Hitting.{the-call, then-cut, cases-stay}
use Rattle.plstack.proofs.Finding.{if_some, if_none, run-kept, undone-stack, undone-cases, undone-place, past-all, the-attempt, nothing-left, hit-binds, hits, found-stack}
use Rattle.plstack.proofs.stack.Stack.find.Goals as goal

pub returns-then-call-clauses-clause-none : goal.returns-then-call-clauses-clause-none
returns-then-call-clauses-clause-none c = λ db own l.
    let at = rw (← c.self.view_is) at c.requires.at in
    let o = rw (← c.self.view_is) at own in
    let past = rw (c.clauses.ensures, c.in-Some.ensures.some.1, c.code.ensures) at c.if-call-clauses.true in
    rw (← c.self.view_is) (past-all (inside c.self.inside) c.self.inside.depth c.self.invariant c.args.at.now.point c.args.at.now.call at db o (rw c.code.ensures at c.in-Some.ensures.some.0) past l)

pub first_hit-requires-clause-attempt : goal.first_hit-requires-clause-attempt
first_hit-requires-clause-attempt c =
    let s : State = inside c.self.inside in
    let at = rw (← c.self.view_is) at c.requires.at in
    let o = rw (← c.self.view_is) at c.requires.statics in
    let kept = run-kept c.args.at.now.point.marks.saved c.args.at.now.call.count s.saved in
    let key_is = rw (c.heap.ensures.is, c.deref.ensures.value, kept) at c.first_key.ensures.is in
    let laid = rw c.code-2.ensures at c.nodes.ensures.laid in (
      s.basis.code.text,
      (o.0.statics c.args.at.now.call.procedure).name,
      (o.0.statics c.args.at.now.call.procedure).clauses,
      rw (c.deref.ensures.value, kept, c.nodes.ensures.is, c.code-2.ensures, c.in-Some.ensures.some.1, c.code.ensures) (the-attempt s c.self.inside.depth c.self.invariant c.args.at.now.point c.args.at.now.call at o.0 o.1 (rw c.code.ensures at c.in-Some.ensures.some.0) c.first_key.result key_is laid),
    )

pub invariant_of-self : goal.invariant_of-self
invariant_of-self c =
    let s : State = inside c.self.inside in
    let at = rw (← c.self.view_is) at c.requires.at in
    let o = rw (← c.self.view_is) at c.requires.statics in
    let kept = run-kept c.args.at.now.point.marks.saved c.args.at.now.call.count s.saved in
    let key_is = rw (c.heap.ensures.is, c.deref.ensures.value, kept) at c.first_key.ensures.is in
    let some = rw (c.deref.ensures.value, kept, c.nodes.ensures.is, c.code-2.ensures, c.in-Some.ensures.some.1, c.code.ensures) at c.in-Ok.ensures.some in
    found-stack s c.self.inside.depth c.self.invariant c.args.at.now.point c.args.at.now.call at o.0 o.1 (rw c.code.ensures at c.in-Some.ensures.some.0) c.first_key.result key_is (rw c.code-2.ensures at c.nodes.ensures.laid) c.first_hit.new.env c.first_hit.ensures.keeps c.heap-in-Ok.ensures.env c.in-Ok.hit (if_some _ _ c.in-Ok.hit (λ hit f. f s.basis.code.text (o.0.statics c.args.at.now.call.procedure).name (o.0.statics c.args.at.now.call.procedure).clauses (the-attempt s c.self.inside.depth c.self.invariant c.args.at.now.point c.args.at.now.call at o.0 o.1 (rw c.code.ensures at c.in-Some.ensures.some.0) c.first_key.result key_is (rw c.code-2.ensures at c.nodes.ensures.laid))) some) c.in-Ok.ensures.same

pub undo-requires : goal.undo-requires
undo-requires c =
    let s : State = inside c.self.inside in
    let at = rw (← c.self.view_is) at c.requires.at in
    IsMark-kept c.args.at.now.point.marks.env s.env c.first_hit.new.env c.first_hit.ensures.keeps c.heap-in-Err.ensures.env.heap.names (the-call s c.self.inside.depth c.self.invariant c.args.at.now.point c.args.at.now.call at).mark

pub invariant_of-self-in-Err : goal.invariant_of-self-in-Err
invariant_of-self-in-Err c =
    let s : State = inside c.self.inside in
    let at = rw (← c.self.view_is) at c.requires.at in
    let then = c.undo.ensures ∙ then-cut s c.self.inside.depth c.self.invariant c.args.at.now.point c.args.at.now.call at c.first_hit.new.env c.first_hit.ensures.keeps c.heap-in-Err.ensures.env in
    rw then (undone-stack s c.self.inside.depth c.self.invariant c.args.at.now.point c.args.at.now.call at c.first_hit.new.env.heap.names c.heap-in-Err.ensures.env.heap.names c.first_hit.ensures.keeps.names (rw then at c.heap-in-Err-2.ensures.env))

pub returns-in-Ok-clause-some : goal.returns-in-Ok-clause-some
returns-in-Ok-clause-some c =
    let s : State = inside c.self.inside in
    let at = rw (← c.self.view_is) at c.requires.at in
    let kept = run-kept c.args.at.now.point.marks.saved c.args.at.now.call.count s.saved in
    let key_is = rw (c.heap.ensures.is, c.deref.ensures.value, kept) at c.first_key.ensures.is in
    let some = rw (c.deref.ensures.value, kept, c.nodes.ensures.is, c.code-2.ensures, c.in-Some.ensures.some.1, c.code.ensures) at c.in-Ok.ensures.some in
    rw (← c.self.view_is) (if_some _ _ c.in-Ok.hit (λ hit f. λ db own.
    hits s c.self.inside.depth c.self.invariant c.args.at.now.point c.args.at.now.call at db own (rw c.code.ensures at c.in-Some.ensures.some.0) c.first_key.result key_is (rw c.code-2.ensures at c.nodes.ensures.laid) c.first_hit.new.env c.first_hit.ensures.keeps c.heap-in-Ok.ensures.env hit (f s.basis.code.text (db.statics c.args.at.now.call.procedure).name (db.statics c.args.at.now.call.procedure).clauses (the-attempt s c.self.inside.depth c.self.invariant c.args.at.now.point c.args.at.now.call at db own (rw c.code.ensures at c.in-Some.ensures.some.0) c.first_key.result key_is (rw c.code-2.ensures at c.nodes.ensures.laid)))) some)

pub returns-in-Ok-clause-binds : goal.returns-in-Ok-clause-binds
returns-in-Ok-clause-binds c =
    let s : State = inside c.self.inside in
    let at = rw (← c.self.view_is) at c.requires.at in
    let o = rw (← c.self.view_is) at c.requires.statics in
    let kept = run-kept c.args.at.now.point.marks.saved c.args.at.now.call.count s.saved in
    let key_is = rw (c.heap.ensures.is, c.deref.ensures.value, kept) at c.first_key.ensures.is in
    let some = rw (c.deref.ensures.value, kept, c.nodes.ensures.is, c.code-2.ensures, c.in-Some.ensures.some.1, c.code.ensures) at c.in-Ok.ensures.some in
    rw (← c.self.view_is) (if_some _ _ c.in-Ok.hit (λ hit f. hit-binds s c.self.inside.depth c.self.invariant c.args.at.now.point c.args.at.now.call at o.0 o.1 (rw c.code.ensures at c.in-Some.ensures.some.0) c.first_key.result key_is (rw c.code-2.ensures at c.nodes.ensures.laid) c.first_hit.new.env c.first_hit.ensures.keeps c.heap-in-Ok.ensures.env hit (f s.basis.code.text (o.0.statics c.args.at.now.call.procedure).name (o.0.statics c.args.at.now.call.procedure).clauses (the-attempt s c.self.inside.depth c.self.invariant c.args.at.now.point c.args.at.now.call at o.0 o.1 (rw c.code.ensures at c.in-Some.ensures.some.0) c.first_key.result key_is (rw c.code-2.ensures at c.nodes.ensures.laid)))) some)

pub returns-in-Ok-clause-none : goal.returns-in-Ok-clause-none
returns-in-Ok-clause-none c =
    let s : State = inside c.self.inside in
    let at = rw (← c.self.view_is) at c.requires.at in
    let kept = run-kept c.args.at.now.point.marks.saved c.args.at.now.call.count s.saved in
    let key_is = rw (c.heap.ensures.is, c.deref.ensures.value, kept) at c.first_key.ensures.is in
    let none = rw (c.deref.ensures.value, kept, c.nodes.ensures.is, c.code-2.ensures, c.in-Some.ensures.some.1, c.code.ensures) at c.in-Ok.ensures.none in
    rw (← c.self.view_is) (if_none _ _ c.in-Ok.hit (λ f. λ db own l. nothing-left s c.self.inside.depth c.self.invariant c.args.at.now.point c.args.at.now.call at db own (rw c.code.ensures at c.in-Some.ensures.some.0) c.first_key.result key_is (rw c.code-2.ensures at c.nodes.ensures.laid) c.first_hit.new.env c.first_hit.ensures.keeps c.heap-in-Ok.ensures.env (f s.basis.code.text (db.statics c.args.at.now.call.procedure).name (db.statics c.args.at.now.call.procedure).clauses (the-attempt s c.self.inside.depth c.self.invariant c.args.at.now.point c.args.at.now.call at db own (rw c.code.ensures at c.in-Some.ensures.some.0) c.first_key.result key_is (rw c.code-2.ensures at c.nodes.ensures.laid))) l) none)

pub returns-in-Ok-clause-cases : goal.returns-in-Ok-clause-cases
returns-in-Ok-clause-cases c = λ db.
    let s : State = inside c.self.inside in
    let at = rw (← c.self.view_is) at c.requires.at in
    rw (← c.self.view_is) (cases-stay s c.self.inside.depth c.self.invariant c.args.at.now.point c.args.at.now.call at c.first_hit.new.env c.first_hit.ensures.keeps c.heap-in-Ok.ensures.env db)

pub returns-in-Err-clause-cases : goal.returns-in-Err-clause-cases
returns-in-Err-clause-cases c = λ db.
    let s : State = inside c.self.inside in
    let at = rw (← c.self.view_is) at c.requires.at in
    let then = c.undo.ensures ∙ then-cut s c.self.inside.depth c.self.invariant c.args.at.now.point c.args.at.now.call at c.first_hit.new.env c.first_hit.ensures.keeps c.heap-in-Err.ensures.env in
    rw (← c.self.view_is) (rw then (undone-cases s c.self.inside.depth c.self.invariant c.args.at.now.point c.args.at.now.call at c.first_hit.new.env.heap.names c.heap-in-Err.ensures.env.heap.names c.first_hit.ensures.keeps.names (rw then at c.heap-in-Err-2.ensures.env) db))

pub returns-in-Err-clause-place : goal.returns-in-Err-clause-place
returns-in-Err-clause-place c =
    let s : State = inside c.self.inside in
    let at = rw (← c.self.view_is) at c.requires.at in
    let then = c.undo.ensures ∙ then-cut s c.self.inside.depth c.self.invariant c.args.at.now.point c.args.at.now.call at c.first_hit.new.env c.first_hit.ensures.keeps c.heap-in-Err.ensures.env in
    rw (← c.self.view_is) (rw then (undone-place s c.self.inside.depth c.self.invariant c.args.at.now.point c.args.at.now.call at c.first_hit.new.env.heap.names c.heap-in-Err.ensures.env.heap.names c.first_hit.ensures.keeps.names (rw then at c.heap-in-Err-2.ensures.env)))
