use Rattle.std.proofs.Common.{◌≡◌, ◌++◌, ◌∷◌, [], ap, ◌∙◌, refl}
use Rattle.plstack.specs.declared.frame.Point.{Point}
use Rattle.plstack.specs.declared.frame.Handler.{Handler}
use Rattle.plstack.specs.declared.frame.Resume.TheVariants as resumes
use Rattle.plstack.specs.declared.frame.Frame.TheVariants.{Open}
use Rattle.plstack.specs.State.{State, Guards, IsHandler}
use Rattle.plstack.proofs.Stacks.{inside, is-last}
use Rattle.plstack.proofs.Returning.{recovered-stack, recovers, within-now, older-then}
use Rattle.plstack.proofs.Ending.{counted-walks}
use Rattle.plstack.proofs.stack.Stack.leave_handler.Goals as goal

pub invariant_of-self : goal.invariant_of-self
invariant_of-self c =
    let s : State = inside c.self.inside in
    let p : Point = c.in-Some-Open.point in
    let k : Handler = c.in-Handle.field-0 in
    let popped : s.frames ≡ c.pop.new.self.items ++ Open p (resumes.Handle k) ∷ [] = c.in-Some-Open.ensures.items ∙ ap (λ f. c.pop.new.self.items ++ f ∷ []) (c.in-Some-Open.field-0-is ∙ ap (Open p) c.in-Handle.is) in
    let guards : Guards k = is-last IsHandler s.frames c.pop.new.self.items (Open p (resumes.Handle k)) popped (rw (← c.self.view_is) at c.requires.handler) in
    let list = rw (← c.self.view_is) at c.requires.list in
    let f = rw (← c.self.view_is) at c.requires.fits in
    recovered-stack s c.self.inside.depth c.self.invariant c.pop.new.self.items p k guards popped c.count_up.new.frames.items c.count_up.ensures.counts c.args.list list f

pub returns-clause-recovers : goal.returns-clause-recovers
returns-clause-recovers c =
    let s : State = inside c.self.inside in
    let p : Point = c.in-Some-Open.point in
    let k : Handler = c.in-Handle.field-0 in
    let popped : s.frames ≡ c.pop.new.self.items ++ Open p (resumes.Handle k) ∷ [] = c.in-Some-Open.ensures.items ∙ ap (λ f. c.pop.new.self.items ++ f ∷ []) (c.in-Some-Open.field-0-is ∙ ap (Open p) c.in-Handle.is) in
    let guards : Guards k = is-last IsHandler s.frames c.pop.new.self.items (Open p (resumes.Handle k)) popped (rw (← c.self.view_is) at c.requires.handler) in
    let list = rw (← c.self.view_is) at c.requires.list in
    let f = rw (← c.self.view_is) at c.requires.fits in
    rw (← c.self.view_is) (recovers s c.self.inside.depth c.self.invariant c.pop.new.self.items p k guards popped c.count_up.new.frames.items c.count_up.ensures.counts c.args.list list f)

pub returns-clause-within : goal.returns-clause-within
returns-clause-within c =
    let s : State = inside c.self.inside in
    let p : Point = c.in-Some-Open.point in
    let k : Handler = c.in-Handle.field-0 in
    let popped : s.frames ≡ c.pop.new.self.items ++ Open p (resumes.Handle k) ∷ [] = c.in-Some-Open.ensures.items ∙ ap (λ f. c.pop.new.self.items ++ f ∷ []) (c.in-Some-Open.field-0-is ∙ ap (Open p) c.in-Handle.is) in
    within-now s c.self.inside.depth c.self.invariant c.pop.new.self.items p (resumes.Handle k) popped

pub returns-clause-older : goal.returns-clause-older
returns-clause-older c =
    let s : State = inside c.self.inside in
    let p : Point = c.in-Some-Open.point in
    let k : Handler = c.in-Handle.field-0 in
    let popped : s.frames ≡ c.pop.new.self.items ++ Open p (resumes.Handle k) ∷ [] = c.in-Some-Open.ensures.items ∙ ap (λ f. c.pop.new.self.items ++ f ∷ []) (c.in-Some-Open.field-0-is ∙ ap (Open p) c.in-Handle.is) in
    older-then s c.self.inside.depth c.self.invariant c.pop.new.self.items p (resumes.Handle k) popped c.count_up.new.frames.items c.count_up.ensures.counts

pub returns-clause-walks : goal.returns-clause-walks
returns-clause-walks c =
    let s : State = inside c.self.inside in
    let p : Point = c.in-Some-Open.point in
    let k : Handler = c.in-Handle.field-0 in
    let popped : s.frames ≡ c.pop.new.self.items ++ Open p (resumes.Handle k) ∷ [] = c.in-Some-Open.ensures.items ∙ ap (λ f. c.pop.new.self.items ++ f ∷ []) (c.in-Some-Open.field-0-is ∙ ap (Open p) c.in-Handle.is) in
    rw (← c.self.view_is) (counted-walks s.frames c.count_up.new.frames.items c.pop.new.self.items (Open p (resumes.Handle k)) 1 popped refl c.count_up.ensures.counts)
