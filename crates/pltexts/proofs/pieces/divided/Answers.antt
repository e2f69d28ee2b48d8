use Rattle.std.proofs.Common.{◌≡◌, ◌∷◌, [], List, length, Some, sym, ap, ◌∙◌, arith, rules, subst}
use Rattle.plcells.specs.Store.{value}
use Rattle.plbuiltin.specs.Solution.{Solution, Gives}
use Rattle.plbuiltin.specs.Pieces.{as_text, text_of, divided}
use Rattle.plgenerator.specs.Answers.{splits_in}
use Rattle.plgenerator.specs.declared.turn.Remaining.TheVariants as turns
use Rattle.planswers.specs.Answers.{AreSeveral, IsMany}
use Rattle.pltexts.proofs.Dividing.{one-split, several-splits}
use Rattle.pltexts.proofs.pieces.divided.Goals as goal

pub returns-then-is_empty-clause-is : goal.returns-then-is_empty-clause-is
returns-then-is_empty-clause-is c = λ s n.
    let h = c.args.heap.now in
    let us = as_text (value h c.args.front.now) ∷ as_text (value h c.args.back.now) ∷ [] in
    let text = c.as_str-text.result.now in
    let found : text_of (value h c.args.whole.now) ≡ Some text = search rules in
    let empty : length text ≡ 0 = grind arith in
    ap (λ x. Gives (x ∷ []) [] s) (c.in_ok-equation.ensures.is n)
    ∙ ap (λ ss. Gives ss [] s) (one-split text c.as_str-text.utf8 us c.all_splits-split.result empty c.all_splits-split.ensures.split)
    ∙ sym (ap (λ t. divided t us s) found)

pub returns-clause-there : goal.returns-clause-there
returns-clause-there c =
    let h = c.args.heap.now in
    let us = as_text (value h c.args.front.now) ∷ as_text (value h c.args.back.now) ∷ [] in
    let text = c.as_str-text.result.now in
    let split = c.all_splits-split.result in
    let found : text_of (value h c.args.whole.now) ≡ Some text = search rules in
    let full : length text ≡ 0 → ⊥ = λ e. grind arith in
    let values : c.in_ok-values.values.items ≡ c.args.front.now ∷ c.args.back.now ∷ c.args.whole.now ∷ [] = search rules in
    subst (λ vs. AreSeveral h vs (turns.Split split)) (sym values)
    (record {
      values = (c.requires.front, (c.requires.back, (c.requires.whole, tt)));
      few = omega arith;
      is_turn = (text, found, c.all_splits-split.ensures.split);
      many = subst (λ t. IsMany (splits_in t us split)) (sym found) (subst (λ (ss : List Solution). IsMany ss) (sym (c.all_splits-split.ensures.all us)) (several-splits text c.as_str-text.utf8 us full));
    })
