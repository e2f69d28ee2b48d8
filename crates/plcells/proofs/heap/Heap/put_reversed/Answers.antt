use Rattle.std.proofs.Common.{[], IfOk, map, sym, subst}
use Rattle.platoms.specs.Names.{functor_name}
use Rattle.plcells.specs.Store.{AddsBlock}
use Rattle.plcells.specs.Blocks.{stands_for}
use Rattle.plcells.specs.Putting.{AreGiven}
use Rattle.plcells.proofs.heap.Heap.put_reversed.Goals as goal

pub put_block-requires-clause-given : goal.put_block-requires-clause-given
put_block-requires-clause-given c = subst (AreGiven c.args.self.now) (sym c.reverse.ensures.after) c.requires.given

pub returns-clause-ok : goal.returns-clause-ok
returns-clause-ok c =
    let h = c.args.self.now in
    subst (λ ys. IfOk c.put_block.result (λ p. AddsBlock h c.put_block.new.self p (functor_name h.names c.args.f) (map (stands_for h) ys) [])) c.reverse.ensures.after c.put_block.ensures.ok
