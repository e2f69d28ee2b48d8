use Rattle.std.proofs.Common.{◌≡◌, ◌++◌, ◌∷◌, [], ap, ◌∙◌, refl}
use Rattle.plstack.specs.declared.frame.Point.{Point}
use Rattle.plstack.specs.declared.frame.Resume.TheVariants as resumes
use Rattle.plstack.specs.declared.frame.Frame.TheVariants.{Open}
use Rattle.plstack.specs.State.{State}
use Rattle.plstack.proofs.Stacks.{inside}
use Rattle.plstack.proofs.Returning.{taken, taken-stack, within-then, older-then}
use Rattle.plstack.proofs.Ending.{counted-walks}
use Rattle.plstack.proofs.stack.Stack.come_back.Goals as goal

pub invariant_of-self : goal.invariant_of-self
invariant_of-self c =
    let s : State = inside c.self.inside in
    let p : Point = c.in-Some-Open.point in
    let popped : s.frames ≡ c.pop.new.self.items ++ Open p resumes.List ∷ [] = c.in-Some-Open.ensures.items ∙ ap (λ f. c.pop.new.self.items ++ f ∷ []) (c.in-Some-Open.field-0-is ∙ ap (Open p) c.in-List.is) in
    rw (c.undo.ensures, c.truncate.ensures.items, c.truncate-2.ensures.items) (taken-stack s c.self.inside.depth c.self.invariant c.pop.new.self.items p popped c.count_up.new.frames.items c.count_up.ensures.counts)

pub returns-clause-retries : goal.returns-clause-retries
returns-clause-retries c = λ db.
    let s : State = inside c.self.inside in
    let p : Point = c.in-Some-Open.point in
    let popped : s.frames ≡ c.pop.new.self.items ++ Open p resumes.List ∷ [] = c.in-Some-Open.ensures.items ∙ ap (λ f. c.pop.new.self.items ++ f ∷ []) (c.in-Some-Open.field-0-is ∙ ap (Open p) c.in-List.is) in
    rw (← c.self.view_is) (rw (c.undo.ensures, c.truncate.ensures.items, c.truncate-2.ensures.items) (taken s c.self.inside.depth c.self.invariant c.pop.new.self.items p popped c.count_up.new.frames.items c.count_up.ensures.counts db))

pub returns-clause-within : goal.returns-clause-within
returns-clause-within c =
    let s : State = inside c.self.inside in
    let p : Point = c.in-Some-Open.point in
    let popped : s.frames ≡ c.pop.new.self.items ++ Open p resumes.List ∷ [] = c.in-Some-Open.ensures.items ∙ ap (λ f. c.pop.new.self.items ++ f ∷ []) (c.in-Some-Open.field-0-is ∙ ap (Open p) c.in-List.is) in
    rw c.undo.ensures (within-then s c.self.inside.depth c.self.invariant c.pop.new.self.items p resumes.List popped)

pub returns-clause-older : goal.returns-clause-older
returns-clause-older c =
    let s : State = inside c.self.inside in
    let p : Point = c.in-Some-Open.point in
    let popped : s.frames ≡ c.pop.new.self.items ++ Open p resumes.List ∷ [] = c.in-Some-Open.ensures.items ∙ ap (λ f. c.pop.new.self.items ++ f ∷ []) (c.in-Some-Open.field-0-is ∙ ap (Open p) c.in-List.is) in
    older-then s c.self.inside.depth c.self.invariant c.pop.new.self.items p resumes.List popped c.count_up.new.frames.items c.count_up.ensures.counts

pub returns-clause-walks : goal.returns-clause-walks
returns-clause-walks c =
    let s : State = inside c.self.inside in
    let p : Point = c.in-Some-Open.point in
    let popped : s.frames ≡ c.pop.new.self.items ++ Open p resumes.List ∷ [] = c.in-Some-Open.ensures.items ∙ ap (λ f. c.pop.new.self.items ++ f ∷ []) (c.in-Some-Open.field-0-is ∙ ap (Open p) c.in-List.is) in
    rw (← c.self.view_is) (counted-walks s.frames c.count_up.new.frames.items c.pop.new.self.items (Open p resumes.List) 1 popped refl c.count_up.ensures.counts)
