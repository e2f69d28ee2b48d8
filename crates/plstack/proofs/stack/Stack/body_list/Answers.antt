use Rattle.std.proofs.Common.{refl}
use Rattle.pllinks.specs.Links.{alone}
use Rattle.plstack.proofs.Stacks.{inside}
use Rattle.plstack.proofs.Going.{body-there, body-goals}
use Rattle.plstack.proofs.stack.Stack.body_list.Goals as goal

pub returns-clause-there : goal.returns-clause-there
returns-clause-there c =
    let h = rw (← c.self.view_is) at c.requires.hit in
    let b = rw (← c.self.view_is) at c.requires.behind in
    rw (← c.self.view_is, c.body_of.ensures) (body-there (inside c.self.inside) c.self.inside.depth c.self.invariant c.args.hit h.0 h.1 h.2 (alone c.args.behind) c.args.behind b refl c.args.level)

pub returns-clause-is : goal.returns-clause-is
returns-clause-is c = λ x code.
    let h = rw (← c.self.view_is) at c.requires.hit in
    let b = rw (← c.self.view_is) at c.requires.behind in
    let k = rw (← c.self.view_is) at code in
    rw (← c.self.view_is, c.body_of.ensures) (body-goals (inside c.self.inside) c.self.inside.depth c.self.invariant c.args.hit x k h.2 (alone c.args.behind) c.args.behind b refl c.args.level)
