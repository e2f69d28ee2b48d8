use Rattle.std.proofs.Common.{◌≡◌, ◌<◌, pos, [], ◌∷◌, length, sym, ap, ap₂, ◌∙◌, subst}
use Rattle.std.specs.Prelude.{IfSome}
use Rattle.plterm.specs.Tree.{int, atom}
use Rattle.plcells.specs.Store.{value}
use Rattle.plbuiltin.specs.Solution.{are}
use Rattle.plgenerator.specs.declared.turn.Remaining.TheVariants as turns
use Rattle.plgenerator.specs.Fitting.{fitting}
use Rattle.plgenerator.specs.Answers.{sought_terms, left, left_if, IsRemaining}
use Rattle.plgenerator.proofs.Turning.{parts-left, parts-behind, turns-behind, parts-fewer}
use Rattle.plgenerator.proofs.generator.next_part.Goals as goal

pub returns-clause-some : goal.returns-clause-some
returns-clause-some c =
    let h = c.args.heap.now in
    let a = c.args.atom in
    let s = c.args.sought in
    let vs = a ∷ s.before ∷ s.length ∷ s.after ∷ s.text ∷ [] in
    let text = c.as_str-text.result.now in
    let is : value h a ≡ atom text = c.in-Some.ensures.some ∙ ap atom (sym c.as_str-text.ensures) in
    let us = sought_terms h s in
    let w = c.in_ok-wanted.ensures in
    let p = c.args.part in
    let q = c.in-Some-first_part.part in
    let o = c.part_after.result in
    let turn = c.part_turn-rest.ensures in
    record {
      sides = ((c.requires.before, (c.requires.length, (c.requires.after, (c.requires.text, tt)))), c.in_ok-part_name.ensures.name);
      rest = subst (λ r. IfSome r (IsRemaining h vs)) (sym turn) (turns-behind h a s.before s.length s.after s.text text is o c.part_after.ensures.part);
      fewer = subst (λ r. IfSome r (λ rest. length (left h vs rest) < length (left h vs (turns.Part p)))) (sym turn)
          (parts-fewer h a s.before s.length s.after s.text text is p q o (c.in-Some-first_part.ensures.left us) (c.part_after.ensures.fewer us));
      is = λ n.
          ap fitting (parts-left h a s.before s.length s.after s.text text is p)
          ∙ c.in-Some-first_part.ensures.some us w
          ∙ c.part_after.ensures.is us w
          ∙ ap₂ (λ x xs. fitting (x ∷ xs)) (ap (λ s. are us (int (pos q.offset.characters) ∷ int (pos q.length) ∷ int (pos q.after) ∷ atom s ∷ [])) (sym c.in_ok-part_name.ensures.is)) (sym (ap (left_if h vs) turn ∙ parts-behind h a s.before s.length s.after s.text text is o));
    }
