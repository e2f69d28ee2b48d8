use Rattle.std.proofs.Common.{◌≡◌, ◌++◌, ◌∷◌, [], ap, ◌∙◌, sym}
use Rattle.plstack.specs.declared.frame.Point.{Point}
use Rattle.plstack.specs.declared.frame.Handler.{Handler}
use Rattle.plstack.specs.declared.frame.Resume.TheVariants as resumes
use Rattle.plstack.specs.declared.frame.Frame.TheVariants.{Open}
use Rattle.plstack.specs.State.{State, Guards, IsHandler}
use Rattle.plstack.proofs.Stacks.{inside, is-last}
use Rattle.plstack.proofs.Returning.{left-stack, leaves, within-now, older-rest}
use Rattle.plstack.proofs.Ending.{pushed-walks}
use Rattle.plstack.proofs.stack.Stack.close_handler.Goals as goal

pub invariant_of-self : goal.invariant_of-self
invariant_of-self c =
    let s : State = inside c.self.inside in
    let p : Point = c.in-Some-Open.point in
    let k : Handler = c.in-Handle.field-0 in
    let popped : s.frames ≡ c.pop.new.self.items ++ Open p (resumes.Handle k) ∷ [] = c.in-Some-Open.ensures.items ∙ ap (λ f. c.pop.new.self.items ++ f ∷ []) (c.in-Some-Open.field-0-is ∙ ap (Open p) c.in-Handle.is) in
    let guards : Guards k = is-last IsHandler s.frames c.pop.new.self.items (Open p (resumes.Handle k)) popped (rw (← c.self.view_is) at c.requires.handler) in
    let list = rw (← c.self.view_is) at c.requires.list in
    let f = rw (← c.self.view_is) at c.requires.fits in
    rw c.down-self-inside.ensures (left-stack s c.self.inside.depth c.self.invariant c.pop.new.self.items p k guards popped c.args.list list f)

pub returns-clause-leaves : goal.returns-clause-leaves
returns-clause-leaves c =
    let s : State = inside c.self.inside in
    let p : Point = c.in-Some-Open.point in
    let k : Handler = c.in-Handle.field-0 in
    let popped : s.frames ≡ c.pop.new.self.items ++ Open p (resumes.Handle k) ∷ [] = c.in-Some-Open.ensures.items ∙ ap (λ f. c.pop.new.self.items ++ f ∷ []) (c.in-Some-Open.field-0-is ∙ ap (Open p) c.in-Handle.is) in
    let guards : Guards k = is-last IsHandler s.frames c.pop.new.self.items (Open p (resumes.Handle k)) popped (rw (← c.self.view_is) at c.requires.handler) in
    let list = rw (← c.self.view_is) at c.requires.list in
    let f = rw (← c.self.view_is) at c.requires.fits in
    rw (← c.self.view_is) (leaves s c.self.inside.depth c.self.invariant c.pop.new.self.items p k guards popped c.args.list list f)

pub returns-clause-within : goal.returns-clause-within
returns-clause-within c =
    let s : State = inside c.self.inside in
    let p : Point = c.in-Some-Open.point in
    let k : Handler = c.in-Handle.field-0 in
    let popped : s.frames ≡ c.pop.new.self.items ++ Open p (resumes.Handle k) ∷ [] = c.in-Some-Open.ensures.items ∙ ap (λ f. c.pop.new.self.items ++ f ∷ []) (c.in-Some-Open.field-0-is ∙ ap (Open p) c.in-Handle.is) in
    within-now s c.self.inside.depth c.self.invariant c.pop.new.self.items p (resumes.Handle k) popped

pub returns-clause-older : goal.returns-clause-older
returns-clause-older c =
    let s : State = inside c.self.inside in
    let p : Point = c.in-Some-Open.point in
    let k : Handler = c.in-Handle.field-0 in
    let popped : s.frames ≡ c.pop.new.self.items ++ Open p (resumes.Handle k) ∷ [] = c.in-Some-Open.ensures.items ∙ ap (λ f. c.pop.new.self.items ++ f ∷ []) (c.in-Some-Open.field-0-is ∙ ap (Open p) c.in-Handle.is) in
    older-rest s c.self.inside.depth c.self.invariant c.pop.new.self.items p (resumes.Handle k) popped

pub returns-clause-walks : goal.returns-clause-walks
returns-clause-walks c =
    let s : State = inside c.self.inside in
    let p : Point = c.in-Some-Open.point in
    let k : Handler = c.in-Handle.field-0 in
    let popped : s.frames ≡ c.pop.new.self.items ++ Open p (resumes.Handle k) ∷ [] = c.in-Some-Open.ensures.items ∙ ap (λ f. c.pop.new.self.items ++ f ∷ []) (c.in-Some-Open.field-0-is ∙ ap (Open p) c.in-Handle.is) in
    rw (← c.self.view_is) (sym (pushed-walks s.frames c.pop.new.self.items (Open p (resumes.Handle k)) popped))
