use Rattle.std.proofs.Common.{◌≡◌, ◌++◌, ◌∷◌, [], map, sym, ap, ◌∙◌, subst, rules}
use Rattle.plcells.specs.Store.{value, AreValues}
use Rattle.plbuiltin.specs.Lists.{elements_of}
use Rattle.plorder.proofs.Occurring.{values-append}
use Rattle.planswers.proofs.Cells.{joined-more, joined}
use Rattle.planswers.proofs.list.elements_of.Goals as goal

pub loop-first-preserved : goal.loop-first-preserved
loop-first-preserved c =
    let h = c.args.heap.now in
    let so_far = c.loop-first.invariant in
    let cell = c.in-Some.ensures.some in
    let pushed : c.push.new.self.items ≡ c.loop-first.items.items ++ c.in-Some.first ∷ [] = search rules in
    record {
      fits = search rules;
      items = subst (AreValues h) (sym pushed) (values-append h c.loop-first.items.items (c.in-Some.first ∷ []) so_far.items (search rules, tt));
      same = so_far.same ∙ joined-more h c.loop-first.items.items c.in-Some.first (elements_of (value h c.loop-first.rest)) (elements_of (value h c.in-Some.tail)) (search rules)
          ∙ ap (λ vs. joined (map (value h) vs) (elements_of (value h c.in-Some.tail))) (sym pushed);
    }
