use Rattle.std.proofs.Common.{◌≡◌, ◌∙◌, ◌-◌, [], ◌∷◌, ◌++◌, map, reverse, length, sym, subst, ap, arith}
use Rattle.plcells.specs.Store.{AddsBlock, Keeps}
use Rattle.platoms.specs.Names.{functor_name}
use Rattle.plcells.specs.declared.cell.Cell.TheVariants.{Str}
use Rattle.plcells.specs.declared.cell.Argument.TheVariants.{Value}
use Rattle.plcells.specs.Blocks.{stands_for}
use Rattle.plcells.specs.Putting.{AreGiven}
use Rattle.plcells.proofs.Given.{given-take}
use Rattle.plcells.proofs.Kept.{Keeps-refl}
use Rattle.plcells.proofs.Putting.{top-values, top-part, left-part, puts-compound}
use Rattle.plcells.proofs.heap.Heap.put_compound.Goals as goal

pub put_reversed-requires-clause-given : goal.put_reversed-requires-clause-given
put_reversed-requires-clause-given c =
    let h = c.args.self.now in
    let stack = c.args.stack.now.items in
    let first = c.len.result - c.args.count in
    let at_first : first ≡ length stack - c.args.count = omega (arith, c.len.ensures, c.args.stack.now.ok.0) in
    let same = ap reverse (top-part stack c.deref_mut.result.now first c.deref_mut.ensures.value) ∙ top-values stack c.args.count first c.requires.room at_first in
    subst (AreGiven h) (sym same) (given-take h c.args.count (reverse stack) c.requires.given)

pub returns-in_err-p-clause-keeps : goal.returns-in_err-p-clause-keeps
returns-in_err-p-clause-keeps c = subst (Keeps c.args.self.now) (sym c.in_err-p.ensures.err) (Keeps-refl c.args.self.now)

pub returns-clause-ok : goal.returns-clause-ok
returns-clause-ok c =
    let h = c.args.self.now in
    let new = c.put_reversed.new.self in
    let s = functor_name h.names c.args.f in
    let p = c.in_ok-p.p in
    let stack = c.args.stack.now.items in
    let read = c.deref_mut.result.now in
    let k = c.args.count in
    let first = c.len.result - k in
    let at_first : first ≡ length stack - k = omega (arith, c.len.ensures, c.args.stack.now.ok.0) in
    let adds = subst (λ xs. AddsBlock h new p s (map (stands_for h) (reverse xs)) []) (top-part stack read first c.deref_mut.ensures.value) c.in_ok-p.ensures.ok in
    let left = c.truncate.ensures.items ∙ left-part stack read c.put_reversed.new.values _ _ first _ c.deref_mut.ensures.value (omega (arith, at_first, c.args.stack.now.ok.0)) (omega (arith, at_first)) in
    puts-compound h new s k first p stack c.push.new.self.items c.requires.room at_first c.requires.given adds (c.in_ok-push.ensures.items ∙ ap (λ xs. xs ++ Value (Str p) ∷ []) left)
