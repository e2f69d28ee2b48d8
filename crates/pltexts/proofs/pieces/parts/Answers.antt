use Rattle.std.proofs.Common.{◌≡◌, ◌∷◌, [], List, length, Some, sym, ap, ◌∙◌, arith, rules, subst}
use Rattle.std.specs.Str.{chars}
use Rattle.plterm.specs.Tree.{atom}
use Rattle.platoms.specs.Names.{atom_at}
use Rattle.plcells.specs.Store.{value}
use Rattle.plbuiltin.specs.Solution.{Solution, Gives}
use Rattle.plbuiltin.specs.Pieces.{text_of, parts}
use Rattle.plgenerator.specs.Answers.{parts_in, sought_terms}
use Rattle.plgenerator.specs.declared.turn.Remaining.TheVariants as turns
use Rattle.planswers.specs.Answers.{AreSeveral, IsMany}
use Rattle.pltexts.proofs.Dividing.{one-part, several-parts}
use Rattle.pltexts.proofs.pieces.parts.Goals as goal

pub returns-then-is_empty-clause-is : goal.returns-then-is_empty-clause-is
returns-then-is_empty-clause-is c = λ s n.
    let h = c.args.heap.now in
    let us = sought_terms h c.args.sought in
    let text = c.as_str-text.result.now in
    let same : text ≡ atom_at h.names c.args.name = search rules in
    let empty : length text ≡ 0 = grind arith in
    ap (λ x. Gives (x ∷ []) [] s) (c.in_ok-equation.ensures.is h n)
    ∙ ap (λ ss. Gives ss [] s) (one-part text c.as_str-text.utf8 us c.all_parts-part.result empty c.all_parts-part.ensures.part)
    ∙ ap (λ t. Gives (parts (chars t) us) [] s) same

pub returns-then-is_empty-clause-there : goal.returns-then-is_empty-clause-there
returns-then-is_empty-clause-there c =
    let q = c.requires in
    c.in_ok-equation.ensures.there c.args.heap.now q.before q.length q.after q.text

pub returns-clause-there : goal.returns-clause-there
returns-clause-there c =
    let h = c.args.heap.now in
    let q = c.requires in
    let sought = c.args.sought in
    let us = sought_terms h sought in
    let text = c.as_str-text.result.now in
    let part = c.all_parts-part.result in
    let named : value h c.args.whole ≡ atom text = search rules in
    let found : text_of (value h c.args.whole) ≡ Some text = ap text_of named in
    let full : length text ≡ 0 → ⊥ = λ e. grind arith in
    let values : c.in_ok-values.values.items ≡ c.args.whole ∷ sought.before ∷ sought.length ∷ sought.after ∷ sought.text ∷ [] = search rules in
    subst (λ vs. AreSeveral h vs (turns.Part part)) (sym values)
    (record {
      values = (q.whole, (q.before, (q.length, (q.after, (q.text, tt)))));
      few = omega arith;
      is_turn = (text, named, c.all_parts-part.ensures.part);
      many = subst (λ t. IsMany (parts_in t us part)) (sym found) (subst (λ (ss : List Solution). IsMany ss) (sym (c.all_parts-part.ensures.all us)) (several-parts text c.as_str-text.utf8 us full));
    })
