use Rattle.std.proofs.Common.{◌≡◌, ◌+◌, ◌<◌, ◌∷◌, length, get_or, refl, sym, ap, ◌∙◌, arith, rules}
use Rattle.plcells.specs.declared.cell.Cell.TheVariants.{Free}
use Rattle.std.proofs.lemmas.List.{get_or_default}
use Rattle.plcells.proofs.Given.{value-in}
use Rattle.plgenerator.specs.declared.turn.Groups.{Groups}
use Rattle.plgenerator.specs.declared.turn.Remaining.TheVariants as turns
use Rattle.plgenerator.specs.Fitting.{fitting}
use Rattle.plgenerator.specs.Answers.{left}
use Rattle.plgenerator.proofs.Grouping.{first-values, next-left, next-groups}
use Rattle.plgenerator.proofs.group.next_group.Goals as goal

pub returns-clause-some : goal.returns-clause-some
returns-clause-some c = λ h all.
    let vs = c.args.values.now in
    let g = c.args.groups in
    let k : Groups = record { arguments = g.arguments; passed = c.in-Some.passed } in
    let place = g.arguments + g.passed in
    let v = c.index-values-place.result in
    let lt : place < length vs = omega (arith, c.if-place-values.false) in
    let read : get_or vs place (Free 0) ≡ v = get_or_default vs place (Free 0) _ lt ∙ sym c.index-values-place.is in
    let more : c.in-Some.passed ≡ g.passed + 1 = search rules in
    let first = next-left h vs g k v c.if-place-values.false refl more (sym read) in
    record {
      sides = c.in_ok-equation.ensures.there h (first-values h g.arguments vs all) (value-in h vs place (Free 0) v all lt read);
      rest = next-groups h vs g k c.if-place-values.false refl more c.requires.some c.requires.few;
      fewer = omega (arith, ap length first);
      is = λ n. ap fitting first ∙ ap (λ s. fitting (s ∷ left h vs (turns.Groups k))) (sym (c.in_ok-equation.ensures.is h n));
    }
