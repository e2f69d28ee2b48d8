use Rattle.std.proofs.Common.{◌∙◌, ◌∷◌, ◌++◌, ◌-◌, [], length, take, map, refl, sym, ap, subst, arith}
use Rattle.std.proofs.lemmas.List.{take_at}
use Rattle.platoms.specs.Names.{functor_name}
use Rattle.plcells.specs.Store.{IsFunctorOf, AddsBlock, Keeps}
use Rattle.plcells.specs.Blocks.{stands_for}
use Rattle.plcells.specs.Putting.{AreGiven}
use Rattle.plcells.specs.declared.cell.Argument.TheVariants.{Value}
use Rattle.plcells.specs.declared.cell.Cell.TheVariants.{Str}
use Rattle.plcells.proofs.Kept.{Keeps-refl}
use Rattle.plcells.proofs.Putting.{top-part}
use Rattle.plpacked.proofs.Closing.{first-within, around-length, own-functor, own-given, closes}
use Rattle.plpacked.proofs.unfinished.Unfinished.close.Goals as goal

pub offset_bounds-deref-full : goal.offset_bounds-deref-full
offset_bounds-deref-full c =
    omega (arith, first-within c.args.heap.now c.args.self.now c.args.full c.requires.unfinished c.requires.full, ap length c.deref.ensures.value, c.deref.type_inv.1)

pub slice_bounds-put_block-count : goal.slice_bounds-put_block-count
slice_bounds-put_block-count c = omega (arith, first-within c.args.heap.now c.args.self.now c.args.full c.requires.unfinished c.requires.full, ap length c.deref.ensures.value)

pub slice_bounds-put_block-start : goal.slice_bounds-put_block-start
slice_bounds-put_block-start c = omega (arith, first-within c.args.heap.now c.args.self.now c.args.full c.requires.unfinished c.requires.full, ap length c.deref.ensures.value)

pub put_block-requires-clause-functor : goal.put_block-requires-clause-functor
put_block-requires-clause-functor c =
    let h = c.args.heap.now in
    let w = c.args.self.now in
    let o = c.args.full in
    subst (λ xs. IsFunctorOf h.names o.functor (length xs)) (sym (top-part w.values.items c.deref.result.now o.first c.deref.ensures.value)) (own-functor h w o c.requires.unfinished c.requires.full)

pub put_block-requires-clause-given : goal.put_block-requires-clause-given
put_block-requires-clause-given c =
    let h = c.args.heap.now in
    let w = c.args.self.now in
    let o = c.args.full in
    subst (AreGiven h) (sym (top-part w.values.items c.deref.result.now o.first c.deref.ensures.value)) (own-given h w o c.requires.unfinished c.requires.full)

pub returns-in_err-p-clause-keeps : goal.returns-in_err-p-clause-keeps
returns-in_err-p-clause-keeps c = subst (Keeps c.args.heap.now) (sym c.in_err-p.ensures.err) (Keeps-refl c.args.heap.now)

pub returns-clause-ok : goal.returns-clause-ok
returns-clause-ok c =
    let h = c.args.heap.now in
    let new = c.put_block.new.self in
    let w = c.args.self.now in
    let o = c.args.full in
    let full = c.requires.full in
    let adds = subst (λ xs. AddsBlock h new c.in_ok-p.p (functor_name h.names o.functor) (map (stands_for h) xs) []) (top-part w.values.items c.deref.result.now o.first c.deref.ensures.value) c.in_ok-p.ensures.ok in
    let count = around-length h w o c.requires.unfinished full in
    let left = c.truncate.ensures.items ∙ ap (take (c.len-around.result - 1)) full.innermost
    ∙ take_at full.around (o ∷ []) (c.len-around.result - 1) (omega (arith, count, c.len-around.ensures, w.compounds.ok.0)) in
    closes h new w _ o c.in_ok-p.p c.requires.unfinished full adds (c.in_ok-push.ensures.items ∙ ap (λ xs. xs ++ Value (Str c.in_ok-p.p) ∷ []) c.truncate-2.ensures.items) left refl refl
