use Rattle.std.proofs.Common.{◌≡◌, ◌++◌, ◌∷◌, [], ap, sym, ◌∙◌, reverse}
use Rattle.plstack.specs.declared.frame.Point.{Point}
use Rattle.plstack.specs.declared.frame.Handler.{Handler}
use Rattle.plstack.specs.declared.frame.Resume.TheVariants as resumes
use Rattle.plstack.specs.declared.frame.Frame.TheVariants.{Open}
use Rattle.plstack.specs.State.{State, Guards, IsHandler, IsCatcher, IsGatherer}
use Rattle.plstack.proofs.Stacks.{inside, is-last}
use Rattle.plstack.proofs.Returning.{rewound-stack, rewound-cases, rewound-at}
use Rattle.plstack.specs.Places.{walks_of}
use Rattle.plstack.proofs.stack.Stack.rewind.Goals as goal

pub invariant_of-self : goal.invariant_of-self
invariant_of-self c =
    let s : State = inside c.self.inside in
    let p : Point = c.in-Some-Open.point in
    let k : Handler = c.in-Handle.handler in
    let popped : s.frames ≡ c.pop.new.self.items ++ Open p (resumes.Handle k) ∷ [] = c.in-Some-Open.ensures.items ∙ ap (λ f. c.pop.new.self.items ++ f ∷ []) (c.in-Some-Open.field-0-is ∙ ap (Open p) c.in-Handle.is) in
    let guards : Guards k = is-last IsHandler s.frames c.pop.new.self.items (Open p (resumes.Handle k)) popped (rw (← c.self.view_is) at c.requires) in
    let back : c.push_within.new.items.items ≡ s.frames = c.push_within.ensures.is ∙ sym popped in
    rw (c.undo.ensures, c.truncate.ensures.items, c.truncate-2.ensures.items, c.alone-self-inside.ensures, back) (rewound-stack s c.self.inside.depth c.self.invariant c.pop.new.self.items p k guards popped)

pub returns-clause-cases : goal.returns-clause-cases
returns-clause-cases c = λ db.
    let s : State = inside c.self.inside in
    let p : Point = c.in-Some-Open.point in
    let k : Handler = c.in-Handle.handler in
    let popped : s.frames ≡ c.pop.new.self.items ++ Open p (resumes.Handle k) ∷ [] = c.in-Some-Open.ensures.items ∙ ap (λ f. c.pop.new.self.items ++ f ∷ []) (c.in-Some-Open.field-0-is ∙ ap (Open p) c.in-Handle.is) in
    let guards : Guards k = is-last IsHandler s.frames c.pop.new.self.items (Open p (resumes.Handle k)) popped (rw (← c.self.view_is) at c.requires) in
    let back : c.push_within.new.items.items ≡ s.frames = c.push_within.ensures.is ∙ sym popped in
    rw (← c.self.view_is) (rw (c.undo.ensures, c.truncate.ensures.items, c.truncate-2.ensures.items, c.alone-self-inside.ensures, back) (rewound-cases s c.self.inside.depth c.self.invariant c.pop.new.self.items p k guards popped db))

pub returns-clause-at : goal.returns-clause-at
returns-clause-at c =
    let s : State = inside c.self.inside in
    let p : Point = c.in-Some-Open.point in
    let k : Handler = c.in-Handle.handler in
    let popped : s.frames ≡ c.pop.new.self.items ++ Open p (resumes.Handle k) ∷ [] = c.in-Some-Open.ensures.items ∙ ap (λ f. c.pop.new.self.items ++ f ∷ []) (c.in-Some-Open.field-0-is ∙ ap (Open p) c.in-Handle.is) in
    let guards : Guards k = is-last IsHandler s.frames c.pop.new.self.items (Open p (resumes.Handle k)) popped (rw (← c.self.view_is) at c.requires) in
    let back : c.push_within.new.items.items ≡ s.frames = c.push_within.ensures.is ∙ sym popped in
    rw (c.undo.ensures, c.truncate.ensures.items, c.truncate-2.ensures.items, c.alone-self-inside.ensures, back) (rewound-at s c.self.inside.depth c.self.invariant c.pop.new.self.items p k guards popped)

pub returns-clause-catches : goal.returns-clause-catches
returns-clause-catches c = λ has.
    let s : State = inside c.self.inside in
    let p : Point = c.in-Some-Open.point in
    let k : Handler = c.in-Handle.handler in
    let popped : s.frames ≡ c.pop.new.self.items ++ Open p (resumes.Handle k) ∷ [] = c.in-Some-Open.ensures.items ∙ ap (λ f. c.pop.new.self.items ++ f ∷ []) (c.in-Some-Open.field-0-is ∙ ap (Open p) c.in-Handle.is) in
    is-last IsCatcher s.frames c.pop.new.self.items (Open p (resumes.Handle k)) popped (rw (← c.self.view_is) at has)

pub returns-clause-gathers : goal.returns-clause-gathers
returns-clause-gathers c = λ has.
    let s : State = inside c.self.inside in
    let p : Point = c.in-Some-Open.point in
    let k : Handler = c.in-Handle.handler in
    let popped : s.frames ≡ c.pop.new.self.items ++ Open p (resumes.Handle k) ∷ [] = c.in-Some-Open.ensures.items ∙ ap (λ f. c.pop.new.self.items ++ f ∷ []) (c.in-Some-Open.field-0-is ∙ ap (Open p) c.in-Handle.is) in
    is-last IsGatherer s.frames c.pop.new.self.items (Open p (resumes.Handle k)) popped (rw (← c.self.view_is) at has)

pub returns-clause-walks : goal.returns-clause-walks
returns-clause-walks c =
    let s : State = inside c.self.inside in
    let p : Point = c.in-Some-Open.point in
    let k : Handler = c.in-Handle.handler in
    let popped : s.frames ≡ c.pop.new.self.items ++ Open p (resumes.Handle k) ∷ [] = c.in-Some-Open.ensures.items ∙ ap (λ f. c.pop.new.self.items ++ f ∷ []) (c.in-Some-Open.field-0-is ∙ ap (Open p) c.in-Handle.is) in
    let back : c.push_within.new.items.items ≡ s.frames = c.push_within.ensures.is ∙ sym popped in
    rw (← c.self.view_is) (ap (λ fs. walks_of (reverse fs)) back)
