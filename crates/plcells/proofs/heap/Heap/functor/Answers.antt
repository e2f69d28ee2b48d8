use Rattle.plcells.proofs.Renaming.{inside-renamed, Preserves-renamed}
use Rattle.plcells.proofs.heap.Heap.functor.Goals as goal

pub invariant_of-self : goal.invariant_of-self
invariant_of-self c =
    let s = c.self.inside in
    inside-renamed _ c.functor.new.self c.self.invariant.heap c.functor.ensures.table c.functor.ensures.extends s.cells.items s.closed.items c.self.invariant

pub returns-clause-preserves : goal.returns-clause-preserves
returns-clause-preserves c = rw (← c.self.view_is) (Preserves-renamed _ c.functor.new.self c.self.invariant.heap c.functor.ensures.table c.functor.ensures.extends)
