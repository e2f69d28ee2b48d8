use Rattle.std.proofs.Common.{◌≡◌, ◌∙◌, ◌∷◌, ◌++◌, [], map, ap, sym, subst, arith, append-nil}
use Rattle.std.proofs.lemmas.Int.{to_z-of_z, ints}
use mir.Val.{to_z, of_z}
use Rattle.std.specs.Int.{w32, w64}
use Rattle.plterm.specs.Tree.{int}
use Rattle.plcells.specs.declared.cell.Cell.TheVariants.{Int, Wide}
use Rattle.plcells.specs.Store.{Store, AddsValue, grown}
use Rattle.plcells.specs.Skipping.{plain}
use Rattle.plcells.proofs.Pushing.{as-grown, small-added, wide-added}
use Rattle.plcells.proofs.heap.Heap.integer.Goals as goal

pub returns-then-number-from-2-clause-ok : goal.returns-then-number-from-2-clause-ok
returns-then-number-from-2-clause-ok c =
    let d = c.from.ensures in
    let e = c.from-then-number-from.ensures in
    let a = c.if-number-from.true in
    let b = c.if-number-from-2.true in
    let same : to_z w32 (of_z w32 (to_z w64 (of_z w64 c.args.number))) ≡ c.args.number = grind (arith, ints, a, b, d, e) in
    subst (λ z. AddsValue c.args.self.now c.args.self.now (Int z) (int c.args.number)) (sym same) (small-added c.args.self.now c.args.number)

pub returns-clause-ok : goal.returns-clause-ok
returns-clause-ok c =
    rw (← c.self.view_is) (
    let s = c.self.inside in
    let h : Store = record { cells = map plain s.cells.items; numbers = s.numbers.items; wide = s.wide.items; trail = s.trail.items; boundary = s.boundary; names = s.names } in
    let made = wide-added h c.args.number c.self.invariant.heap in
    let same = as-grown h [] [] (c.args.number ∷ []) (map plain s.cells.items) s.numbers.items c.push.new.self.items (sym (append-nil (map plain s.cells.items))) (sym (append-nil s.numbers.items)) (c.in_ok-push.ensures.items ∙ ap (λ z. s.wide.items ++ z ∷ []) (to_z-of_z w64 c.args.number c.ranges.number)) in
    subst (λ st. AddsValue h st (Wide c.new.result) (int c.args.number)) (sym same) (subst (λ x. AddsValue h (grown h [] [] (c.args.number ∷ [])) (Wide x) (int c.args.number)) (sym (omega (arith, c.new.ensures, c.len-place.ensures, s.wide.ok.0))) made))
