use Rattle.std.proofs.Common.{◌≡◌, ◌∙◌, ◌<◌, ◌+◌, ◌^◌, ◌∷◌, [], length, map, refl, ap, sym, subst, arith, append-nil}
use Rattle.std.proofs.lemmas.List.{length-map, map-append}
use Rattle.plcells.specs.declared.cell.Cell.TheVariants.{Free, Lone}
use Rattle.plcells.specs.Store.{Store, AddsVariable, grown}
use Rattle.plcells.specs.Skipping.{plain, IsInside}
use Rattle.plcells.proofs.Pushing.{as-grown, variable-inside, variable-added}
use Rattle.plcells.proofs.heap.Heap.variable.Goals as goal

pub invariant_of-self-2 : goal.invariant_of-self-2
invariant_of-self-2 c =
    let fresh = rw (← c.self.view_is) at c.requires in
    let r = c.in_ok-push_variable.ensures in
    let s = c.self.inside in
    let h : Store = record { cells = map plain s.cells.items; numbers = s.numbers.items; wide = s.wide.items; trail = s.trail.items; boundary = s.boundary; names = s.names } in
    let n = c.args.number in
    let place : c.len-place.result ≡ length (map plain s.cells.items) = omega (arith, c.len-place.ensures, s.cells.ok.0, length-map s.cells.items plain) in
    let few : length (map plain s.cells.items) + 1 < 2 ^ 32 = omega (arith, place, c.if-place.false) in
    let made = variable-inside h n c.self.invariant.heap fresh few s.cells.items s.closed.items refl c.self.invariant in
    let same = as-grown h (Free (length s.numbers.items) ∷ []) (n ∷ []) [] (map plain c.push_variable.new.cells.items) c.push_variable.new.numbers.items s.wide.items (ap (map plain) r.cells ∙ map-append plain s.cells.items (Lone (length s.numbers.items) ∷ [])) r.numbers (sym (append-nil s.wide.items)) in
    subst (λ st. IsInside st c.push_variable.new.cells.items s.closed.items) (sym same)
    (subst (λ cs. IsInside (grown h (Free (length s.numbers.items) ∷ []) (n ∷ []) []) cs s.closed.items) (sym r.cells) made)

pub returns-clause-ok : goal.returns-clause-ok
returns-clause-ok c =
    let fresh = rw (← c.self.view_is) at c.requires in
    rw (← c.self.view_is) (
    let r = c.in_ok-push_variable.ensures in
    let s = c.self.inside in
    let h : Store = record { cells = map plain s.cells.items; numbers = s.numbers.items; wide = s.wide.items; trail = s.trail.items; boundary = s.boundary; names = s.names } in
    let n = c.args.number in
    let place : c.len-place.result ≡ length (map plain s.cells.items) = omega (arith, c.len-place.ensures, s.cells.ok.0, length-map s.cells.items plain) in
    let few : length (map plain s.cells.items) + 1 < 2 ^ 32 = omega (arith, place, c.if-place.false) in
    let made = variable-added h n c.self.invariant.heap fresh few in
    let same = as-grown h (Free (length s.numbers.items) ∷ []) (n ∷ []) [] (map plain c.push_variable.new.cells.items) c.push_variable.new.numbers.items s.wide.items (ap (map plain) r.cells ∙ map-append plain s.cells.items (Lone (length s.numbers.items) ∷ [])) r.numbers (sym (append-nil s.wide.items)) in
    subst (λ st. AddsVariable h st c.at.result n) (sym same) (subst (λ x. AddsVariable h (grown h (Free (length s.numbers.items) ∷ []) (n ∷ []) []) x n) (sym (c.at.ensures ∙ place)) made))
