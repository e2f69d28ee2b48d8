use Rattle.std.proofs.Common.{ap, ◌∙◌, ◌++◌, ◌∷◌, [], sym}
use Rattle.plstack.specs.declared.frame.Frame.TheVariants.{Plain}
use Rattle.plstack.proofs.Stacks.{inside, popped-cases, popped-frames, popped-stack}
use Rattle.plstack.proofs.Ending.{pushed-walks}
use Rattle.plstack.proofs.stack.Stack.close_plain.Goals as goal
use Rattle.plstack.specs.State.{cases_of}

pub returns-clause-closes : goal.returns-clause-closes
unfolding cases_of
returns-clause-closes c =
    let e = c.in-Some-Plain.ensures.items ∙ ap (λ f. c.pop.new.self.items ++ f ∷ []) c.in-Some-Plain.field-0-is in
    rw (← c.self.view_is) (record {
      count = c.in-Some-Plain.n;
      some = (popped-frames (inside c.self.inside) c.self.inside.depth c.pop.new.self.items (Plain c.in-Some-Plain.n) e c.self.invariant).0;
      was = λ db. popped-cases db (inside c.self.inside) c.pop.new.self.items (Plain c.in-Some-Plain.n) e;
    })

pub returns-clause-walks : goal.returns-clause-walks
returns-clause-walks c =
    let e = c.in-Some-Plain.ensures.items ∙ ap (λ f. c.pop.new.self.items ++ f ∷ []) c.in-Some-Plain.field-0-is in
    rw (← c.self.view_is) (sym (pushed-walks (inside c.self.inside).frames c.pop.new.self.items (Plain c.in-Some-Plain.n) e))

pub invariant_of-self : goal.invariant_of-self
invariant_of-self c =
    let e = c.in-Some-Plain.ensures.items ∙ ap (λ f. c.pop.new.self.items ++ f ∷ []) c.in-Some-Plain.field-0-is in
    rw (c.alone-self-inside.ensures, c.down-self-inside.ensures) (popped-stack (inside c.self.inside) c.self.inside.depth c.pop.new.self.items (Plain c.in-Some-Plain.n) e c.self.invariant (λ i. i))
