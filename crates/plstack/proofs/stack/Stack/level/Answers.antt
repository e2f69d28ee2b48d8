use Rattle.plstack.proofs.Stacks.{inside, level_is}
use Rattle.plstack.proofs.stack.Stack.level.Goals as goal

pub returns : goal.returns
returns c = λ db.
    let has = rw (← c.self.view_is) at c.requires in
    rw (← c.self.view_is, c.down.ensures) (level_is (inside c.self.inside) c.self.inside.depth c.self.invariant has db)
