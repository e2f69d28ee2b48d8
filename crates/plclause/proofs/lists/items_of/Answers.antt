use Rattle.std.proofs.Common.{◌∙◌, ◌++◌, ◌∷◌, [], sym, ap, append_assoc}
use Rattle.plclause.specs.Lists.{items}
use Rattle.plclause.proofs.Arguments.{along}
use Rattle.plclause.proofs.lists.items_of.Goals as goal

pub pairs-preserved : goal.pairs-preserved
pairs-preserved c =
    let name = c.args.name.now in
    let right = c.in-Some-pair_of.right in
    let on = along name c.pairs.rest c.in-Some-pair_of.left right (sym c.in-Some-pair_of.ensures) in
    record {
      items = ap (λ xs. xs ++ items name right) c.in_ok-push-in-Some-pair_of.ensures.items
          ∙ append_assoc c.pairs.found.items (c.in-Some-pair_of.left ∷ []) (items name right)
          ∙ ap (λ xs. c.pairs.found.items ++ xs) (sym on.items)
          ∙ c.pairs.invariant.items;
      behind = sym on.behind ∙ c.pairs.invariant.behind;
    }
