use Rattle.std.proofs.Common.{ap, ◌∙◌, ◌++◌, ◌∷◌, [], arith, refl, sym, ◌-◌}
use Rattle.plstack.specs.declared.frame.Frame.TheVariants.{Plain}
use Rattle.plstack.proofs.Stacks.{inside, no-cases, empty_is, closed-plain, closed-last, popped-frames, popped-stack, smaller-stack}
use Rattle.plstack.proofs.Opening.{closed-open}
use Rattle.plstack.proofs.Ending.{ends-open, other-walks, pushed-walks}
use Rattle.plstack.proofs.stack.Stack.close.Goals as goal
use Rattle.plstack.specs.declared.frame.Handler.TheVariants as handlers
use Rattle.plstack.specs.declared.frame.Resume.TheVariants as resumes
use Rattle.plstack.specs.declared.frame.Frame.TheVariants.{Open}
use Rattle.plstack.specs.Basis.{counting}
use Rattle.plstack.specs.State.{State, cases_of}
use Rattle.plstack.proofs.Undoing.{closing-undo, not-undo}
use Rattle.plstack.proofs.Seeing.{own-same}
use Rattle.plstack.proofs.Transacting.{undone-ends, undone-stack}

pub returns-in_default-clause-none : goal.returns-in_default-clause-none
returns-in_default-clause-none c = λ db.
    rw (← c.self.view_is) (no-cases db (inside c.self.inside) (empty_is c.self.inside.frames.items (omega (arith, c.in_default.ensures.cases.0, c.self.inside.frames.ok.0))))

pub returns-then-n-gt1-clause-some : goal.returns-then-n-gt1-clause-some
unfolding cases_of
returns-then-n-gt1-clause-some c = λ db.
    let e = c.in-Some.ensures.items ∙ ap (λ f. c.pop.new.self.items ++ f ∷ []) c.in-Plain.is in
    rw (← c.self.view_is) ([], closed-plain db (inside c.self.inside) c.pop.new.self.items c.push_within.new.items.items c.in-Plain.n e c.if-n-gt1.true c.push_within.ensures.is, λ not n m k. refl)

pub returns-else-n-gt1-clause-some : goal.returns-else-n-gt1-clause-some
unfolding cases_of
returns-else-n-gt1-clause-some c = λ db.
    let e = c.in-Some.ensures.items ∙ ap (λ f. c.pop.new.self.items ++ f ∷ []) c.in-Plain.is in
    let some = (popped-frames (inside c.self.inside) c.self.inside.depth c.pop.new.self.items (Plain c.in-Plain.n) e c.self.invariant).0 in
    rw (← c.self.view_is) ([], closed-last db (inside c.self.inside) c.pop.new.self.items c.in-Plain.n e (omega (arith, some, c.if-n-gt1.false)), λ not n m k. refl)

pub returns-then-n-gt1-clause-walks : goal.returns-then-n-gt1-clause-walks
returns-then-n-gt1-clause-walks c =
    let e = c.in-Some.ensures.items ∙ ap (λ f. c.pop.new.self.items ++ f ∷ []) c.in-Plain.is in
    rw (← c.self.view_is) ([], sym (other-walks (inside c.self.inside).frames c.push_within.new.items.items c.pop.new.self.items (Plain c.in-Plain.n) (Plain (c.in-Plain.n - 1)) e c.push_within.ensures.is refl))

pub returns-else-n-gt1-clause-walks : goal.returns-else-n-gt1-clause-walks
returns-else-n-gt1-clause-walks c =
    let e = c.in-Some.ensures.items ∙ ap (λ f. c.pop.new.self.items ++ f ∷ []) c.in-Plain.is in
    rw (← c.self.view_is) ([], pushed-walks (inside c.self.inside).frames c.pop.new.self.items (Plain c.in-Plain.n) e)

pub invariant_of-self-then-n-gt1 : goal.invariant_of-self-then-n-gt1
invariant_of-self-then-n-gt1 c =
    let e = c.in-Some.ensures.items ∙ ap (λ f. c.pop.new.self.items ++ f ∷ []) c.in-Plain.is in
    rw (c.alone-self-inside.ensures, c.down-self-inside.ensures) (smaller-stack (inside c.self.inside) c.self.inside.depth c.pop.new.self.items c.push_within.new.items.items c.in-Plain.n e c.if-n-gt1.true c.push_within.ensures.is c.self.invariant)

pub invariant_of-self-else-n-gt1 : goal.invariant_of-self-else-n-gt1
invariant_of-self-else-n-gt1 c =
    let e = c.in-Some.ensures.items ∙ ap (λ f. c.pop.new.self.items ++ f ∷ []) c.in-Plain.is in
    let some = (popped-frames (inside c.self.inside) c.self.inside.depth c.pop.new.self.items (Plain c.in-Plain.n) e c.self.invariant).0 in
    let t = popped-stack (inside c.self.inside) c.self.inside.depth c.pop.new.self.items (Plain c.in-Plain.n) e c.self.invariant (λ i. i) in
    rw (c.alone-self-inside.ensures, c.down-self-inside.ensures) (t.0, omega (arith, t.1, some, c.if-n-gt1.false))

-- a case other than Undo, which came back to something
pub invariant_of-self-in_default-closed : goal.invariant_of-self-in_default-closed
invariant_of-self-in_default-closed c =
    let e = c.in-Some.ensures.items ∙ ap (λ f. c.pop.new.self.items ++ f ∷ []) c.in-Open.is in
    let stays = not-undo c.in-Open.field-0 c.in-Open.resume c.closed_as-closed.result c.closed_as-closed.ensures c.in_default-closed.not-Transaction in
    rw (c.alone-self-inside.ensures, c.down-self-inside.ensures) (popped-stack (inside c.self.inside) c.self.inside.depth c.pop.new.self.items _ e c.self.invariant stays)

pub returns-in_default-closed-clause-some : goal.returns-in_default-closed-clause-some
unfolding cases_of
returns-in_default-closed-clause-some c = λ db.
    let e = c.in-Some.ensures.items ∙ ap (λ f. c.pop.new.self.items ++ f ∷ []) c.in-Open.is in
    rw (← c.self.view_is, c.closed_as-closed.ensures) (closed-open db (inside c.self.inside) c.pop.new.self.items _ c.in-Open.resume e)

pub returns-in_default-closed-clause-walks : goal.returns-in_default-closed-clause-walks
returns-in_default-closed-clause-walks c =
    let e = c.in-Some.ensures.items ∙ ap (λ f. c.pop.new.self.items ++ f ∷ []) c.in-Open.is in
    rw (← c.self.view_is) (ends-open (inside c.self.inside) c.pop.new.self.items _ c.in-Open.resume e)

-- the end of a transaction
pub invariant_of-self-in-Open : goal.invariant_of-self-in-Open
invariant_of-self-in-Open c =
    let e = c.in-Some.ensures.items ∙ ap (λ f. c.pop.new.self.items ++ f ∷ []) (c.in-Open.is ∙ ap (Open c.in-Open.field-0) (closing-undo c.in-Open.resume (sym c.closed_as-closed.ensures ∙ c.in-Transaction.is))) in
    rw (c.alone-self-inside.ensures, c.down-self-inside.ensures) (undone-stack (inside c.self.inside) c.self.inside.depth c.self.invariant c.pop.new.self.items c.in-Open.field-0 e c.in-Some-pop.start c.pop-in-Open.new.self.items c.in-Some-pop.ensures.items)

pub returns-in-Some-pop-clause-some : goal.returns-in-Some-pop-clause-some
unfolding cases_of
returns-in-Some-pop-clause-some c = λ db.
    let e = c.in-Some.ensures.items ∙ ap (λ f. c.pop.new.self.items ++ f ∷ []) (c.in-Open.is ∙ ap (Open c.in-Open.field-0) (closing-undo c.in-Open.resume (sym c.closed_as-closed.ensures ∙ c.in-Transaction.is))) in
    rw (← c.self.view_is) (closed-open db (inside c.self.inside) c.pop.new.self.items c.in-Open.field-0 (resumes.Handle handlers.Undo) e)

-- own updates that are not seen change no case that is left
pub returns-in_default-closed-clause-own : goal.returns-in_default-closed-clause-own
returns-in_default-closed-clause-own c = λ db own same.
    let s : State = inside c.self.inside in
    let e = c.in-Some.ensures.items ∙ ap (λ f. c.pop.new.self.items ++ f ∷ []) c.in-Open.is in
    let stays = not-undo c.in-Open.field-0 c.in-Open.resume c.closed_as-closed.result c.closed_as-closed.ensures c.in_default-closed.not-Transaction in
    own-same db own (record s { frames = c.pop.new.self.items; goals = c.alone-self-inside.result }) (popped-stack s c.self.inside.depth c.pop.new.self.items _ e c.self.invariant stays).0.seen same

pub returns-in-Some-pop-clause-own : goal.returns-in-Some-pop-clause-own
returns-in-Some-pop-clause-own c = λ db own same.
    let s : State = inside c.self.inside in
    let e = c.in-Some.ensures.items ∙ ap (λ f. c.pop.new.self.items ++ f ∷ []) (c.in-Open.is ∙ ap (Open c.in-Open.field-0) (closing-undo c.in-Open.resume (sym c.closed_as-closed.ensures ∙ c.in-Transaction.is))) in
    let t = undone-stack s c.self.inside.depth c.self.invariant c.pop.new.self.items c.in-Open.field-0 e c.in-Some-pop.start c.pop-in-Open.new.self.items c.in-Some-pop.ensures.items in
    own-same db own (record s { basis = record { code = s.basis.code; latest = counting c.in-Some-pop.start s.basis.latest; starts = c.pop-in-Open.new.self.items }; frames = c.pop.new.self.items; goals = c.alone-self-inside.result }) t.0.seen same

pub returns-then-n-gt1-clause-own : goal.returns-then-n-gt1-clause-own
returns-then-n-gt1-clause-own c = λ db own same.
    let s : State = inside c.self.inside in
    let e = c.in-Some.ensures.items ∙ ap (λ f. c.pop.new.self.items ++ f ∷ []) c.in-Plain.is in
    let t = smaller-stack s c.self.inside.depth c.pop.new.self.items c.push_within.new.items.items c.in-Plain.n e c.if-n-gt1.true c.push_within.ensures.is c.self.invariant in
    own-same db own (record s { frames = c.push_within.new.items.items; goals = c.alone-self-inside.result }) t.0.seen same

pub returns-else-n-gt1-clause-own : goal.returns-else-n-gt1-clause-own
returns-else-n-gt1-clause-own c = λ db own same.
    let s : State = inside c.self.inside in
    let e = c.in-Some.ensures.items ∙ ap (λ f. c.pop.new.self.items ++ f ∷ []) c.in-Plain.is in
    own-same db own (record s { frames = c.pop.new.self.items; goals = c.alone-self-inside.result }) (popped-stack s c.self.inside.depth c.pop.new.self.items (Plain c.in-Plain.n) e c.self.invariant (λ i. i)).0.seen same

pub returns-in-Some-pop-clause-basis : goal.returns-in-Some-pop-clause-basis
returns-in-Some-pop-clause-basis c =
    let e = c.in-Some.ensures.items ∙ ap (λ f. c.pop.new.self.items ++ f ∷ []) (c.in-Open.is ∙ ap (Open c.in-Open.field-0) (closing-undo c.in-Open.resume (sym c.closed_as-closed.ensures ∙ c.in-Transaction.is))) in
    rw (← c.self.view_is) (undone-ends (inside c.self.inside) c.self.inside.depth c.self.invariant c.pop.new.self.items c.in-Open.field-0 e c.in-Some-pop.start c.pop-in-Open.new.self.items c.in-Some-pop.ensures.items)
