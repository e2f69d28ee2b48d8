use Rattle.std.proofs.Common.{◌≡◌, ◌∙◌, ◌<◌, ◌+◌, ◌^◌, ◌∷◌, [], ℕ, suc, length, length-append, map, refl, ap, sym, subst, arith, append-nil}
use Rattle.std.proofs.lemmas.List.{length-map}
use Rattle.platoms.specs.Names.{functor_name}
use Rattle.plcells.specs.declared.cell.Cell.TheVariants.{Lone}
use Rattle.plcells.specs.Store.{Store, AddsBlock, grown, at}
use Rattle.plcells.specs.Blocks.{cells_of, numbers_of, stands_for}
use Rattle.plcells.specs.Skipping.{plain, IsInside}
use Rattle.plcells.proofs.Pushing.{as-grown}
use Rattle.plcells.proofs.Blocks.{parts-placed, build-cells, build-inside, build-added}
use Rattle.plcells.proofs.heap.Heap.build.Goals as goal

pub embed_arguments-requires : goal.embed_arguments-requires
embed_arguments-requires c =
    let are = rw (← c.self.view_is) at c.requires.parts in
    let s = c.self.inside in
    let h : Store = record { cells = map plain s.cells.items; numbers = s.numbers.items; wide = s.wide.items; trail = s.trail.items; boundary = s.boundary; names = s.names } in
    parts-placed h (length c.push_parts.new.cells.items) 0 c.args.arguments.now are
    (omega (arith, length-map s.cells.items plain, ap length c.in_ok-push_parts.ensures.cells, length-append s.cells.items (c.head_of-head.result ∷ cells_of (length s.numbers.items) c.args.arguments.now)))

pub invariant_of-self-2 : goal.invariant_of-self-2
invariant_of-self-2 c =
    let functor = rw (← c.self.view_is) at c.requires.functor in
    let are = rw (← c.self.view_is) at c.requires.parts in
    let solid = rw (← c.self.view_is) at c.requires.solid in
    let s = c.self.inside in
    let h : Store = record { cells = map plain s.cells.items; numbers = s.numbers.items; wide = s.wide.items; trail = s.trail.items; boundary = s.boundary; names = s.names } in
    let xs = c.args.arguments.now in
    let f = c.args.f in
    let m = c.head_of-head.result in
    let cs = cells_of (length s.numbers.items) xs in
    let after = c.embed_arguments.new.cells.items in
    let place : c.len-place.result ≡ length (map plain s.cells.items) = omega (arith, c.len-place.ensures, s.cells.ok.0, length-map s.cells.items plain) in
    let few : length (map plain s.cells.items) + suc (length xs) < 2 ^ 32 = omega (arith, place, c.if-place-room.false) in
    let pushed = c.in_ok-push_parts.ensures.cells in
    let e = c.embed_arguments.ensures in
    let same_after = e.same ∙ ap (map plain) pushed in
    let was = λ (d p : ℕ) (x : at after d ≡ Lone p). ap (λ ys. at ys d) (sym pushed) ∙ e.was d p x in
    let cells = build-cells h f c.args.ground m xs c.self.invariant.heap functor are c.requires.numbers solid c.head_of-head.ensures.ground c.head_of-head.ensures.open few s.cells.items after s.closed.items refl c.self.invariant same_after was e.lone in
    let store = as-grown h (m ∷ cs) (numbers_of xs) [] (map plain after) c.push_parts.new.numbers.items s.wide.items cells c.in_ok-push_parts.ensures.numbers (sym (append-nil s.wide.items)) in
    let inside = build-inside h f c.args.ground m xs c.self.invariant.heap functor are c.requires.numbers solid c.head_of-head.ensures.ground c.head_of-head.ensures.open few s.cells.items after s.closed.items refl c.self.invariant same_after was e.lone in
    subst (λ st. IsInside st after s.closed.items) (sym store) inside

pub returns-clause-ok : goal.returns-clause-ok
returns-clause-ok c =
    let functor = rw (← c.self.view_is) at c.requires.functor in
    let are = rw (← c.self.view_is) at c.requires.parts in
    let solid = rw (← c.self.view_is) at c.requires.solid in
    rw (← c.self.view_is) (
    let s = c.self.inside in
    let h : Store = record { cells = map plain s.cells.items; numbers = s.numbers.items; wide = s.wide.items; trail = s.trail.items; boundary = s.boundary; names = s.names } in
    let xs = c.args.arguments.now in
    let f = c.args.f in
    let m = c.head_of-head.result in
    let cs = cells_of (length s.numbers.items) xs in
    let after = c.embed_arguments.new.cells.items in
    let place : c.len-place.result ≡ length (map plain s.cells.items) = omega (arith, c.len-place.ensures, s.cells.ok.0, length-map s.cells.items plain) in
    let few : length (map plain s.cells.items) + suc (length xs) < 2 ^ 32 = omega (arith, place, c.if-place-room.false) in
    let pushed = c.in_ok-push_parts.ensures.cells in
    let e = c.embed_arguments.ensures in
    let same_after = e.same ∙ ap (map plain) pushed in
    let was = λ (d p : ℕ) (x : at after d ≡ Lone p). ap (λ ys. at ys d) (sym pushed) ∙ e.was d p x in
    let cells = build-cells h f c.args.ground m xs c.self.invariant.heap functor are c.requires.numbers solid c.head_of-head.ensures.ground c.head_of-head.ensures.open few s.cells.items after s.closed.items refl c.self.invariant same_after was e.lone in
    let store = as-grown h (m ∷ cs) (numbers_of xs) [] (map plain after) c.push_parts.new.numbers.items s.wide.items cells c.in_ok-push_parts.ensures.numbers (sym (append-nil s.wide.items)) in
    let made = build-added h f c.args.ground m xs c.self.invariant.heap functor are c.requires.numbers solid c.head_of-head.ensures.ground c.head_of-head.ensures.open few in
    subst (λ st. AddsBlock h st c.at.result (functor_name s.names f) (map (stands_for h) xs) (numbers_of xs)) (sym store)
    (subst (λ p. AddsBlock h (grown h (m ∷ cs) (numbers_of xs) []) p (functor_name s.names f) (map (stands_for h) xs) (numbers_of xs)) (sym (c.at.ensures ∙ place)) made))
