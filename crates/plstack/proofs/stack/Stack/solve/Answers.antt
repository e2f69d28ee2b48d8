use Rattle.plstack.proofs.Stacks.{inside}
use Rattle.plstack.proofs.Growing.{solve-stack, solve-solves, solve-stays, solve-none, err-extends}
use Rattle.plstack.proofs.stack.Stack.solve.Goals as goal

pub invariant_of-self : goal.invariant_of-self
invariant_of-self c =
    let s = inside c.self.inside in
    solve-stack s c.self.inside.depth c.solve-solved.new.self c.args.equation c.heap.ensures.env c.self.invariant c.solve-solved.result c.solve-solved.ensures.yes c.solve-solved.ensures.no c.solve-solved.ensures.err

pub returns-clause-yes : goal.returns-clause-yes
returns-clause-yes c =
    rw (← c.self.view_is) (solve-solves (inside c.self.inside) c.self.inside.depth c.solve-solved.new.self c.args.equation c.heap.ensures.env c.self.invariant c.solve-solved.result c.solve-solved.ensures.yes)

pub returns-clause-no : goal.returns-clause-no
returns-clause-no c =
    rw (← c.self.view_is) (solve-none (inside c.self.inside) c.self.inside.depth c.solve-solved.new.self c.args.equation c.heap.ensures.env c.self.invariant c.solve-solved.result c.solve-solved.ensures.no)

pub returns-clause-same : goal.returns-clause-same
returns-clause-same c =
    rw (← c.self.view_is) (solve-stays (inside c.self.inside) c.self.inside.depth c.solve-solved.new.self c.args.equation c.heap.ensures.env c.self.invariant c.solve-solved.result c.solve-solved.ensures.no)

pub returns-clause-err : goal.returns-clause-err
returns-clause-err c =
    rw (← c.self.view_is) (err-extends (inside c.self.inside) c.self.inside.depth c.solve-solved.new.self c.heap.ensures.env c.self.invariant c.solve-solved.result c.solve-solved.ensures.err)
