use Rattle.std.proofs.Common.{◌≡◌, ◌∙◌, ◌<◌, ◌+◌, ◌^◌, ◌∷◌, [], ℕ, suc, length, length-append, map, refl, ap, sym, subst, arith, append-nil}
use Rattle.std.proofs.lemmas.List.{length-map}
use Rattle.plterm.specs.Tree.{compound, trees}
use Rattle.platoms.specs.Names.{functor_name}
use Rattle.plcells.specs.declared.cell.Cell.TheVariants.{Lone, Fun, Str}
use Rattle.plcells.specs.Store.{Store, AddsValue, grown, at, value}
use Rattle.plcells.specs.Skipping.{plain, IsInside}
use Rattle.plcells.proofs.Pushing.{as-grown, all-placed}
use Rattle.plcells.proofs.Blocks.{compound-cells, compound-inside, compound-added}
use Rattle.plcells.proofs.heap.Heap.compound.Goals as goal

pub embed_all-requires : goal.embed_all-requires
embed_all-requires c =
    let are = rw (← c.self.view_is) at c.requires.values in
    let s = c.self.inside in
    let h : Store = record { cells = map plain s.cells.items; numbers = s.numbers.items; wide = s.wide.items; trail = s.trail.items; boundary = s.boundary; names = s.names } in
    all-placed h (length c.push_block.new.cells.items) c.args.values.now are
    (omega (arith, length-map s.cells.items plain, ap length c.in_ok-push_block.ensures.ok, length-append s.cells.items (Fun c.args.f ∷ c.args.values.now)))

pub invariant_of-self-2 : goal.invariant_of-self-2
invariant_of-self-2 c =
    let are = rw (← c.self.view_is) at c.requires.values in
    let functor = rw (← c.self.view_is) at c.requires.functor in
    let s = c.self.inside in
    let h : Store = record { cells = map plain s.cells.items; numbers = s.numbers.items; wide = s.wide.items; trail = s.trail.items; boundary = s.boundary; names = s.names } in
    let vs = c.args.values.now in
    let f = c.args.f in
    let after = c.embed_all.new.cells.items in
    let place : c.len-place.result ≡ length (map plain s.cells.items) = omega (arith, c.len-place.ensures, s.cells.ok.0, length-map s.cells.items plain) in
    let few : length (map plain s.cells.items) + suc (length vs) < 2 ^ 32 = omega (arith, place, c.if-place-room.false) in
    let pushed = c.in_ok-push_block.ensures.ok in
    let e = c.embed_all.ensures in
    let same_after = e.same ∙ ap (map plain) pushed in
    let was = λ (d p : ℕ) (x : at after d ≡ Lone p). ap (λ cs. at cs d) (sym pushed) ∙ e.was d p x in
    let cells = compound-cells h f vs c.self.invariant.heap functor are few s.cells.items after s.closed.items refl c.self.invariant same_after was e.lone in
    let inside = compound-inside h f vs c.self.invariant.heap functor are few s.cells.items after s.closed.items refl c.self.invariant same_after was e.lone in
    subst (λ st. IsInside st after s.closed.items) (sym (as-grown h (Fun f ∷ vs) [] [] (map plain after) s.numbers.items s.wide.items cells (sym (append-nil s.numbers.items)) (sym (append-nil s.wide.items)))) inside

pub returns-clause-ok : goal.returns-clause-ok
returns-clause-ok c =
    let are = rw (← c.self.view_is) at c.requires.values in
    let functor = rw (← c.self.view_is) at c.requires.functor in
    rw (← c.self.view_is) (
    let s = c.self.inside in
    let h : Store = record { cells = map plain s.cells.items; numbers = s.numbers.items; wide = s.wide.items; trail = s.trail.items; boundary = s.boundary; names = s.names } in
    let vs = c.args.values.now in
    let f = c.args.f in
    let after = c.embed_all.new.cells.items in
    let place : c.len-place.result ≡ length (map plain s.cells.items) = omega (arith, c.len-place.ensures, s.cells.ok.0, length-map s.cells.items plain) in
    let few : length (map plain s.cells.items) + suc (length vs) < 2 ^ 32 = omega (arith, place, c.if-place-room.false) in
    let pushed = c.in_ok-push_block.ensures.ok in
    let e = c.embed_all.ensures in
    let same_after = e.same ∙ ap (map plain) pushed in
    let was = λ (d p : ℕ) (x : at after d ≡ Lone p). ap (λ cs. at cs d) (sym pushed) ∙ e.was d p x in
    let cells = compound-cells h f vs c.self.invariant.heap functor are few s.cells.items after s.closed.items refl c.self.invariant same_after was e.lone in
    let made = compound-added h f vs c.self.invariant.heap functor are few in
    let t = compound (functor_name s.names f) (trees (map (value h) vs)) in
    subst (λ st. AddsValue h st (Str c.at.result) t) (sym (as-grown h (Fun f ∷ vs) [] [] (map plain after) s.numbers.items s.wide.items cells (sym (append-nil s.numbers.items)) (sym (append-nil s.wide.items))))
    (subst (λ x. AddsValue h (grown h (Fun f ∷ vs) [] []) (Str x) t) (sym (c.at.ensures ∙ place)) made))
