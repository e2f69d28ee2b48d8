use Rattle.std.proofs.Common.{◌≡◌, ◌+◌, suc, [], ◌∷◌, ◌++◌, map, sym, ap, ap₂, ◌∙◌, arith, rules, subst}
use Rattle.plterm.specs.Tree.{atom}
use Rattle.plcells.specs.Store.{value, AreValues}
use Rattle.platoms.specs.Names.{functor_name}
use Rattle.plcells.specs.Store.{term}
use Rattle.std.proofs.lemmas.List.{map-append}
use Rattle.plcells.proofs.Searching.{spread-more}
use Rattle.plorder.proofs.Occurring.{values-append}
use Rattle.plpredicates.proofs.parts.elements.Goals as goal

pub loop-k-preserved : goal.loop-k-preserved
loop-k-preserved c =
    let h = c.args.heap.now in
    let b = c.args.block.now in
    let so_far = c.loop-k.invariant in
    let v = c.argument.result in
    let pushed : c.push-in-loop-k.new.self.items ≡ c.loop-k.items.items ++ v ∷ [] = search rules in
    let place : b.place + (1 + c.from.result) ≡ suc b.place + c.loop-k.k = omega (arith, c.from.ensures) in
    let here : value h v ≡ term h (suc b.place + c.loop-k.k) = (rw c.arg.ensures at c.argument.ensures.same) ∙ ap (term h) place in
    record {
      items = subst (AreValues h) (sym pushed) (values-append h c.loop-k.items.items (v ∷ []) so_far.items (c.argument.ensures.fits, tt));
      same = ap (map (value h)) pushed ∙ map-append (value h) c.loop-k.items.items (v ∷ []) ∙ ap₂ (λ ts t. ts ++ t ∷ []) so_far.same here
          ∙ ap (λ ts. atom (functor_name h.names b.functor) ∷ ts) (sym (spread-more (term h) (suc b.place) c.loop-k.k));
    }
