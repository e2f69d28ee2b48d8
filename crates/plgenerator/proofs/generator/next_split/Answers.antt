use Rattle.std.proofs.Common.{◌≡◌, ◌<◌, Some, [], ◌∷◌, length, sym, ap, ap₂, ◌∙◌, subst}
use Rattle.std.specs.Prelude.{IfSome}
use Rattle.plcells.specs.Store.{value}
use Rattle.plbuiltin.specs.Pieces.{text_of, as_text}
use Rattle.plgenerator.specs.declared.turn.Remaining.TheVariants as turns
use Rattle.plgenerator.specs.Fitting.{fitting}
use Rattle.plgenerator.specs.Answers.{left, left_if, IsRemaining}
use Rattle.plgenerator.proofs.Turning.{text-atom, splits-left, splits-behind, splits-turn, splits-fewer}
use Rattle.plgenerator.proofs.generator.next_split.Goals as goal

pub returns-clause-some : goal.returns-clause-some
returns-clause-some c =
    let h = c.args.heap.now in
    let a = c.args.sides.0 in
    let b = c.args.sides.1 in
    let whole = c.args.whole in
    let vs = a ∷ b ∷ whole ∷ [] in
    let text = c.as_str-text.result.now in
    let is : text_of (value h whole) ≡ Some text = sym c.in_ok-name.ensures.is ∙ c.in-Some.is ∙ ap Some (sym c.as_str-text.ensures) in
    let u = as_text (value h a) in
    let w = as_text (value h b) in
    let found = c.in-Some-first_split.ensures in
    let split = c.args.split in
    let o = c.in-Some-first_split.rest in
    let turn = c.split_turn-rest.ensures in
    record {
      sides = c.in_ok-equation.ensures.there;
      rest = subst (λ r. IfSome r (IsRemaining h vs)) (sym turn) (splits-turn h a b whole text is o found.rest);
      fewer = subst (λ r. IfSome r (λ rest. length (left h vs rest) < length (left h vs (turns.Split split)))) (sym turn)
          (splits-fewer h a b whole text is split o (found.fewer (u ∷ w ∷ [])));
      is = λ n.
          ap fitting (splits-left h a b whole text is split)
          ∙ found.some u w (text-atom (value h a) c.in_ok-front.front c.in_ok-front.ensures.is) (text-atom (value h b) c.in_ok-back.back c.in_ok-back.ensures.is)
          ∙ ap₂ (λ x xs. fitting (x ∷ xs)) (sym (c.in_ok-equation.ensures.is n)) (sym (ap (left_if h vs) turn ∙ splits-behind h a b whole text is o));
    }
