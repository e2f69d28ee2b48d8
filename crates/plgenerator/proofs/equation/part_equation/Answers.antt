use Rattle.std.proofs.Common.{◌≡◌, [], ◌∷◌, rules}
use Rattle.std.specs.Str.{chars}
use Rattle.plgenerator.proofs.Equations.{four, part-is, part-values, part-left, part-right}
use Rattle.plgenerator.proofs.equation.part_equation.Goals as goal

pub returns-clause-is : goal.returns-clause-is
returns-clause-is c = λ h n.
    let s = c.args.sought in
    let p = c.args.part in
    let ws = c.in_ok-values.values.items in
    let values : ws ≡ s.before ∷ s.length ∷ s.after ∷ s.text ∷ [] = search rules in
    let left : c.in_ok-left.left ≡ four = search rules in
    part-is h s.before s.length s.after s.text ws c.in_ok-left.left c.in_ok-right.right (chars c.args.text.now) p.offset.characters p.length p.after values left c.in_ok-right.ensures n

pub returns-clause-there : goal.returns-clause-there
returns-clause-there c = λ h b l a t.
    let s = c.args.sought in
    let p = c.args.part in
    let cs = chars c.args.text.now in
    let k = p.offset.characters in
    let ws = c.in_ok-values.values.items in
    let f = c.in_ok-left.left in
    let g = c.in_ok-right.right in
    let values : ws ≡ s.before ∷ s.length ∷ s.after ∷ s.text ∷ [] = search rules in
    let left : f ≡ four = search rules in
    let right = c.in_ok-right.ensures in
    record {
      values = part-values h s.before s.length s.after s.text ws f g cs k p.length p.after values left right b l a t;
      left = part-left h s.before s.length s.after s.text ws f g cs k p.length p.after values left right;
      right = part-right h s.before s.length s.after s.text ws f g cs k p.length p.after values left right;
    }
