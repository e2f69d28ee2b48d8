use Rattle.std.proofs.Common.{◌≡◌, ◌+◌, ◌-◌, List, ◌++◌, ◌∷◌, [], take, drop, ap, sym, ◌∙◌, reverse}
use Rattle.plcells.specs.declared.cell.Cell.{Cell}
use Rattle.plstack.specs.declared.frame.Point.{Point}
use Rattle.plstack.specs.declared.frame.Answers.{Answers}
use Rattle.plstack.specs.declared.frame.Resume.TheVariants as resumes
use Rattle.plstack.specs.declared.frame.Frame.TheVariants.{Open}
use Rattle.plstack.specs.State.{State}
use Rattle.plstack.proofs.Stacks.{inside}
use Rattle.plstack.proofs.Finding.{run-kept}
use Rattle.plstack.proofs.Rewinding.{kept-then}
use Rattle.plstack.proofs.Answered.{values-again, turn-again, mark-again, now-again, again-stack, again-retries, again-within, again-older, closed-stack, closed-cases, back-again, back-again-cases}
use Rattle.plstack.specs.Places.{walks_of}
use Rattle.plstack.proofs.Ending.{answer-walks, pushed-walks}
use Rattle.plstack.proofs.stack.Stack.reopen_answers.Goals as goal

pub take_answer-requires-clause-values : goal.take_answer-requires-clause-values
take_answer-requires-clause-values c =
    let s : State = inside c.self.inside in
    let p : Point = c.in-Some-Open-default-Answers.point in
    let k : Answers = c.in-Some-Open-default-Answers.answers in
    let popped : s.frames ≡ c.pop.new.self.items ++ Open p (resumes.Answers k) ∷ [] = c.in-Some-Open-default-Answers.ensures.items ∙ ap (λ f. c.pop.new.self.items ++ f ∷ []) (c.in-Some-Open-default-Answers.field-0-is ∙ ap (Open p) c.in-Some-Open-default-Answers.field-0-1-is) in
    let kept = ap (λ (xs : List Cell). take (p.marks.saved + k.count - p.marks.saved) (drop p.marks.saved xs)) (c.deref.ensures.value ∙ c.truncate-2.ensures.items) ∙ run-kept p.marks.saved k.count (take (p.marks.saved + k.count) s.saved) ∙ kept-then s c.self.inside.depth c.self.invariant c.pop.new.self.items p (resumes.Answers k) popped in
    rw (c.undo.ensures, kept) (values-again s c.self.inside.depth c.self.invariant c.pop.new.self.items p k popped)

pub take_answer-requires-clause-turn : goal.take_answer-requires-clause-turn
take_answer-requires-clause-turn c =
    let s : State = inside c.self.inside in
    let p : Point = c.in-Some-Open-default-Answers.point in
    let k : Answers = c.in-Some-Open-default-Answers.answers in
    let popped : s.frames ≡ c.pop.new.self.items ++ Open p (resumes.Answers k) ∷ [] = c.in-Some-Open-default-Answers.ensures.items ∙ ap (λ f. c.pop.new.self.items ++ f ∷ []) (c.in-Some-Open-default-Answers.field-0-is ∙ ap (Open p) c.in-Some-Open-default-Answers.field-0-1-is) in
    let kept = ap (λ (xs : List Cell). take (p.marks.saved + k.count - p.marks.saved) (drop p.marks.saved xs)) (c.deref.ensures.value ∙ c.truncate-2.ensures.items) ∙ run-kept p.marks.saved k.count (take (p.marks.saved + k.count) s.saved) ∙ kept-then s c.self.inside.depth c.self.invariant c.pop.new.self.items p (resumes.Answers k) popped in
    rw (c.undo.ensures, kept) (turn-again s c.self.inside.depth c.self.invariant c.pop.new.self.items p k popped)

pub take_answer-requires-clause-mark : goal.take_answer-requires-clause-mark
take_answer-requires-clause-mark c =
    let s : State = inside c.self.inside in
    let p : Point = c.in-Some-Open-default-Answers.point in
    let k : Answers = c.in-Some-Open-default-Answers.answers in
    let popped : s.frames ≡ c.pop.new.self.items ++ Open p (resumes.Answers k) ∷ [] = c.in-Some-Open-default-Answers.ensures.items ∙ ap (λ f. c.pop.new.self.items ++ f ∷ []) (c.in-Some-Open-default-Answers.field-0-is ∙ ap (Open p) c.in-Some-Open-default-Answers.field-0-1-is) in
    rw c.undo.ensures (mark-again s c.self.inside.depth c.self.invariant c.pop.new.self.items p k popped)

pub take_answer-requires-clause-now : goal.take_answer-requires-clause-now
take_answer-requires-clause-now c =
    let s : State = inside c.self.inside in
    let p : Point = c.in-Some-Open-default-Answers.point in
    let k : Answers = c.in-Some-Open-default-Answers.answers in
    let popped : s.frames ≡ c.pop.new.self.items ++ Open p (resumes.Answers k) ∷ [] = c.in-Some-Open-default-Answers.ensures.items ∙ ap (λ f. c.pop.new.self.items ++ f ∷ []) (c.in-Some-Open-default-Answers.field-0-is ∙ ap (Open p) c.in-Some-Open-default-Answers.field-0-1-is) in
    rw c.undo.ensures (now-again s c.self.inside.depth c.self.invariant c.pop.new.self.items p k popped)

pub invariant_of-self : goal.invariant_of-self
invariant_of-self c =
    let s : State = inside c.self.inside in
    let p : Point = c.in-Some-Open-default-Answers.point in
    let k : Answers = c.in-Some-Open-default-Answers.answers in
    let popped : s.frames ≡ c.pop.new.self.items ++ Open p (resumes.Answers k) ∷ [] = c.in-Some-Open-default-Answers.ensures.items ∙ ap (λ f. c.pop.new.self.items ++ f ∷ []) (c.in-Some-Open-default-Answers.field-0-is ∙ ap (Open p) c.in-Some-Open-default-Answers.field-0-1-is) in
    let kept = ap (λ (xs : List Cell). take (p.marks.saved + k.count - p.marks.saved) (drop p.marks.saved xs)) (c.deref.ensures.value ∙ c.truncate-2.ensures.items) ∙ run-kept p.marks.saved k.count (take (p.marks.saved + k.count) s.saved) ∙ kept-then s c.self.inside.depth c.self.invariant c.pop.new.self.items p (resumes.Answers k) popped in
    let t = rw (c.in-Ok-Some.field-0-is, kept, c.undo.ensures) at c.in-Ok-Some.ensures.some in
    rw (c.truncate.ensures.items, c.truncate-2.ensures.items) (again-stack s c.self.inside.depth c.self.invariant c.pop.new.self.items p k popped c.take_answer.new.env c.take_answer.ensures.env c.in-Ok-Some.taken.rest t c.push_answers-is_last.new.frames.items c.push_answers-is_last.ensures.pushes)

pub invariant_of-self-in-Ok-None : goal.invariant_of-self-in-Ok-None
invariant_of-self-in-Ok-None c =
    let s : State = inside c.self.inside in
    let p : Point = c.in-Some-Open-default-Answers.point in
    let k : Answers = c.in-Some-Open-default-Answers.answers in
    let popped : s.frames ≡ c.pop.new.self.items ++ Open p (resumes.Answers k) ∷ [] = c.in-Some-Open-default-Answers.ensures.items ∙ ap (λ f. c.pop.new.self.items ++ f ∷ []) (c.in-Some-Open-default-Answers.field-0-is ∙ ap (Open p) c.in-Some-Open-default-Answers.field-0-1-is) in
    let kept = ap (λ (xs : List Cell). take (p.marks.saved + k.count - p.marks.saved) (drop p.marks.saved xs)) (c.deref.ensures.value ∙ c.truncate-2.ensures.items) ∙ run-kept p.marks.saved k.count (take (p.marks.saved + k.count) s.saved) ∙ kept-then s c.self.inside.depth c.self.invariant c.pop.new.self.items p (resumes.Answers k) popped in
    let t = rw (c.in-Ok-None.field-0-is, kept, c.undo.ensures) at c.in-Ok-None.ensures.none in
    rw (c.truncate.ensures.items, c.truncate-2.ensures.items, c.alone-self-inside.ensures, c.down-self-inside.ensures) (closed-stack s c.self.inside.depth c.self.invariant c.pop.new.self.items p k popped c.take_answer.new.env c.take_answer.ensures.env t)

pub invariant_of-self-in-Err : goal.invariant_of-self-in-Err
invariant_of-self-in-Err c =
    let s : State = inside c.self.inside in
    let p : Point = c.in-Some-Open-default-Answers.point in
    let k : Answers = c.in-Some-Open-default-Answers.answers in
    let popped : s.frames ≡ c.pop.new.self.items ++ Open p (resumes.Answers k) ∷ [] = c.in-Some-Open-default-Answers.ensures.items ∙ ap (λ f. c.pop.new.self.items ++ f ∷ []) (c.in-Some-Open-default-Answers.field-0-is ∙ ap (Open p) c.in-Some-Open-default-Answers.field-0-1-is) in
    let kept = ap (λ (xs : List Cell). take (p.marks.saved + k.count - p.marks.saved) (drop p.marks.saved xs)) (c.deref.ensures.value ∙ c.truncate-2.ensures.items) ∙ run-kept p.marks.saved k.count (take (p.marks.saved + k.count) s.saved) ∙ kept-then s c.self.inside.depth c.self.invariant c.pop.new.self.items p (resumes.Answers k) popped in
    let back : c.push_within.new.items.items ≡ s.frames = c.push_within.ensures.is ∙ sym popped in
    let y = rw c.undo.ensures at c.in-Err.ensures.err in
    rw (c.truncate.ensures.items, c.truncate-2.ensures.items, c.alone-self-inside.ensures, back) (back-again s c.self.inside.depth c.self.invariant c.pop.new.self.items p k popped c.take_answer.new.env c.take_answer.ensures.env y)

pub returns-in-Ok-Some-clause-some : goal.returns-in-Ok-Some-clause-some
returns-in-Ok-Some-clause-some c = λ _ db.
    let s : State = inside c.self.inside in
    let p : Point = c.in-Some-Open-default-Answers.point in
    let k : Answers = c.in-Some-Open-default-Answers.answers in
    let popped : s.frames ≡ c.pop.new.self.items ++ Open p (resumes.Answers k) ∷ [] = c.in-Some-Open-default-Answers.ensures.items ∙ ap (λ f. c.pop.new.self.items ++ f ∷ []) (c.in-Some-Open-default-Answers.field-0-is ∙ ap (Open p) c.in-Some-Open-default-Answers.field-0-1-is) in
    let kept = ap (λ (xs : List Cell). take (p.marks.saved + k.count - p.marks.saved) (drop p.marks.saved xs)) (c.deref.ensures.value ∙ c.truncate-2.ensures.items) ∙ run-kept p.marks.saved k.count (take (p.marks.saved + k.count) s.saved) ∙ kept-then s c.self.inside.depth c.self.invariant c.pop.new.self.items p (resumes.Answers k) popped in
    let t = rw (c.in-Ok-Some.field-0-is, kept, c.undo.ensures) at c.in-Ok-Some.ensures.some in
    rw (← c.self.view_is, c.truncate.ensures.items, c.truncate-2.ensures.items) (again-retries s c.self.inside.depth c.self.invariant c.pop.new.self.items p k popped c.take_answer.new.env c.take_answer.ensures.env c.in-Ok-Some.taken.rest t c.push_answers-is_last.new.frames.items c.push_answers-is_last.ensures.pushes db)

pub returns-in-Ok-Some-clause-opened : goal.returns-in-Ok-Some-clause-opened
returns-in-Ok-Some-clause-opened c = λ last.
    let s : State = inside c.self.inside in
    let p : Point = c.in-Some-Open-default-Answers.point in
    let k : Answers = c.in-Some-Open-default-Answers.answers in
    let popped : s.frames ≡ c.pop.new.self.items ++ Open p (resumes.Answers k) ∷ [] = c.in-Some-Open-default-Answers.ensures.items ∙ ap (λ f. c.pop.new.self.items ++ f ∷ []) (c.in-Some-Open-default-Answers.field-0-is ∙ ap (Open p) c.in-Some-Open-default-Answers.field-0-1-is) in
    let kept = ap (λ (xs : List Cell). take (p.marks.saved + k.count - p.marks.saved) (drop p.marks.saved xs)) (c.deref.ensures.value ∙ c.truncate-2.ensures.items) ∙ run-kept p.marks.saved k.count (take (p.marks.saved + k.count) s.saved) ∙ kept-then s c.self.inside.depth c.self.invariant c.pop.new.self.items p (resumes.Answers k) popped in
    let t = rw (c.in-Ok-Some.field-0-is, kept, c.undo.ensures) at c.in-Ok-Some.ensures.some in
    record {
      within = again-within s c.self.inside.depth c.self.invariant c.pop.new.self.items p k popped c.take_answer.new.env c.take_answer.ensures.env c.in-Ok-Some.taken.rest t c.push_answers-is_last.new.frames.items c.push_answers-is_last.ensures.pushes;
      older = again-older s c.self.inside.depth c.self.invariant c.pop.new.self.items p k popped c.take_answer.new.env c.take_answer.ensures.env c.in-Ok-Some.taken.rest t c.push_answers-is_last.new.frames.items c.push_answers-is_last.ensures.pushes (c.push_answers-is_last.ensures.last last);
    }

pub returns-in-Ok-None-clause-none : goal.returns-in-Ok-None-clause-none
returns-in-Ok-None-clause-none c = λ db.
    let s : State = inside c.self.inside in
    let p : Point = c.in-Some-Open-default-Answers.point in
    let k : Answers = c.in-Some-Open-default-Answers.answers in
    let popped : s.frames ≡ c.pop.new.self.items ++ Open p (resumes.Answers k) ∷ [] = c.in-Some-Open-default-Answers.ensures.items ∙ ap (λ f. c.pop.new.self.items ++ f ∷ []) (c.in-Some-Open-default-Answers.field-0-is ∙ ap (Open p) c.in-Some-Open-default-Answers.field-0-1-is) in
    let kept = ap (λ (xs : List Cell). take (p.marks.saved + k.count - p.marks.saved) (drop p.marks.saved xs)) (c.deref.ensures.value ∙ c.truncate-2.ensures.items) ∙ run-kept p.marks.saved k.count (take (p.marks.saved + k.count) s.saved) ∙ kept-then s c.self.inside.depth c.self.invariant c.pop.new.self.items p (resumes.Answers k) popped in
    let t = rw (c.in-Ok-None.field-0-is, kept, c.undo.ensures) at c.in-Ok-None.ensures.none in
    rw (← c.self.view_is, c.truncate.ensures.items, c.truncate-2.ensures.items, c.alone-self-inside.ensures) (closed-cases s c.self.inside.depth c.self.invariant c.pop.new.self.items p k popped c.take_answer.new.env c.take_answer.ensures.env t db)

pub returns-in-Err-clause-err : goal.returns-in-Err-clause-err
returns-in-Err-clause-err c = λ db.
    let s : State = inside c.self.inside in
    let p : Point = c.in-Some-Open-default-Answers.point in
    let k : Answers = c.in-Some-Open-default-Answers.answers in
    let popped : s.frames ≡ c.pop.new.self.items ++ Open p (resumes.Answers k) ∷ [] = c.in-Some-Open-default-Answers.ensures.items ∙ ap (λ f. c.pop.new.self.items ++ f ∷ []) (c.in-Some-Open-default-Answers.field-0-is ∙ ap (Open p) c.in-Some-Open-default-Answers.field-0-1-is) in
    let kept = ap (λ (xs : List Cell). take (p.marks.saved + k.count - p.marks.saved) (drop p.marks.saved xs)) (c.deref.ensures.value ∙ c.truncate-2.ensures.items) ∙ run-kept p.marks.saved k.count (take (p.marks.saved + k.count) s.saved) ∙ kept-then s c.self.inside.depth c.self.invariant c.pop.new.self.items p (resumes.Answers k) popped in
    let back : c.push_within.new.items.items ≡ s.frames = c.push_within.ensures.is ∙ sym popped in
    let y = rw c.undo.ensures at c.in-Err.ensures.err in
    rw (← c.self.view_is, c.truncate.ensures.items, c.truncate-2.ensures.items, c.alone-self-inside.ensures, back) (back-again-cases s c.self.inside.depth c.self.invariant c.pop.new.self.items p k popped c.take_answer.new.env c.take_answer.ensures.env y db)

pub returns-in-Ok-Some-clause-walks : goal.returns-in-Ok-Some-clause-walks
returns-in-Ok-Some-clause-walks c =
    let s : State = inside c.self.inside in
    let p : Point = c.in-Some-Open-default-Answers.point in
    let k : Answers = c.in-Some-Open-default-Answers.answers in
    let popped : s.frames ≡ c.pop.new.self.items ++ Open p (resumes.Answers k) ∷ [] = c.in-Some-Open-default-Answers.ensures.items ∙ ap (λ f. c.pop.new.self.items ++ f ∷ []) (c.in-Some-Open-default-Answers.field-0-is ∙ ap (Open p) c.in-Some-Open-default-Answers.field-0-1-is) in
    rw (← c.self.view_is) (answer-walks p k.count c.in-Ok-Some.taken.rest c.pop.new.self.items c.push_answers-is_last.new.frames.items c.push_answers-is_last.ensures.pushes ∙ sym (pushed-walks s.frames c.pop.new.self.items (Open p (resumes.Answers k)) popped))

pub returns-in-Ok-None-clause-walks : goal.returns-in-Ok-None-clause-walks
returns-in-Ok-None-clause-walks c =
    let s : State = inside c.self.inside in
    let p : Point = c.in-Some-Open-default-Answers.point in
    let k : Answers = c.in-Some-Open-default-Answers.answers in
    let popped : s.frames ≡ c.pop.new.self.items ++ Open p (resumes.Answers k) ∷ [] = c.in-Some-Open-default-Answers.ensures.items ∙ ap (λ f. c.pop.new.self.items ++ f ∷ []) (c.in-Some-Open-default-Answers.field-0-is ∙ ap (Open p) c.in-Some-Open-default-Answers.field-0-1-is) in
    rw (← c.self.view_is) (sym (pushed-walks s.frames c.pop.new.self.items (Open p (resumes.Answers k)) popped))

pub returns-in-Err-clause-walks : goal.returns-in-Err-clause-walks
returns-in-Err-clause-walks c =
    let s : State = inside c.self.inside in
    let p : Point = c.in-Some-Open-default-Answers.point in
    let k : Answers = c.in-Some-Open-default-Answers.answers in
    let popped : s.frames ≡ c.pop.new.self.items ++ Open p (resumes.Answers k) ∷ [] = c.in-Some-Open-default-Answers.ensures.items ∙ ap (λ f. c.pop.new.self.items ++ f ∷ []) (c.in-Some-Open-default-Answers.field-0-is ∙ ap (Open p) c.in-Some-Open-default-Answers.field-0-1-is) in
    rw (← c.self.view_is) (ap (λ fs. walks_of (reverse fs)) (c.push_within.ensures.is ∙ sym popped))
