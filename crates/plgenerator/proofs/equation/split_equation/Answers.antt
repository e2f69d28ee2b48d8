use Rattle.std.proofs.Common.{◌≡◌, [], ◌∷◌, take, drop, ap, ap₂, ◌∙◌, arith, rules}
use Rattle.std.specs.Str.{chars}
use Rattle.plterm.specs.Tree.{atom}
use Rattle.plcells.specs.Equations.{filled}
use Rattle.plbuiltin.specs.Solution.{together}
use Rattle.plbuiltin.specs.Pieces.{atom_spelled}
use Rattle.plgenerator.proofs.Offsets.{boundary, front-is, back-is}
use Rattle.plgenerator.proofs.Equations.{split-is, split-values, split-left, split-right, first-filled}
use Rattle.plgenerator.proofs.equation.split_equation.Goals as goal

pub split_at-requires : goal.split_at-requires
split_at-requires c = boundary c.args.text.now c.args.split.offset.characters c.args.split.offset.bytes c.utf8.text c.requires.split.offset.bytes

pub returns-clause-is : goal.returns-clause-is
returns-clause-is c = λ n.
    let h = c.args.heap.now in
    let text = c.args.text.now in
    let k = c.args.split.offset.characters in
    let bytes = c.args.split.offset.bytes in
    let cs = chars text in
    let a = c.args.sides.0 in
    let b = c.args.sides.1 in
    let ws = c.in_ok-values.values.items in
    let x = c.in_ok-first.first in
    let y = c.in_ok-second.second in
    let values : ws ≡ a ∷ b ∷ [] = search rules in
    let left : c.in_ok-left.left ≡ together (x ∷ y ∷ []) = search rules in
    let front : c.in_ok-front.front ≡ atom_spelled (take k cs) = c.in_ok-front.ensures ∙ ap atom (c.split_at.ensures.front ∙ front-is text k bytes c.utf8.text c.requires.split.offset.bytes) in
    let back : c.in_ok-back.back ≡ atom_spelled (drop k cs) = c.in_ok-back.ensures ∙ ap atom (c.split_at.ensures.back ∙ back-is text k bytes c.utf8.text c.requires.split.offset.bytes) in
    let told : c.in_ok-right.right ≡ together (c.in_ok-front.front ∷ c.in_ok-back.back ∷ []) = search rules in
    let right = told ∙ ap₂ (λ t u. together (t ∷ u ∷ [])) front back in
    let bound = first-filled h a b ws n values in
    split-is h a b ws c.in_ok-left.left c.in_ok-right.right x y cs k values left right n (c.in_ok-first.ensures.is (filled h ws n) bound.0) (c.in_ok-second.ensures.is (filled h ws n) bound.1)

pub returns-clause-there : goal.returns-clause-there
returns-clause-there c =
    let h = c.args.heap.now in
    let text = c.args.text.now in
    let k = c.args.split.offset.characters in
    let bytes = c.args.split.offset.bytes in
    let cs = chars text in
    let a = c.args.sides.0 in
    let b = c.args.sides.1 in
    let ws = c.in_ok-values.values.items in
    let f = c.in_ok-left.left in
    let g = c.in_ok-right.right in
    let x = c.in_ok-first.first in
    let y = c.in_ok-second.second in
    let values : ws ≡ a ∷ b ∷ [] = search rules in
    let left : f ≡ together (x ∷ y ∷ []) = search rules in
    let front : c.in_ok-front.front ≡ atom_spelled (take k cs) = c.in_ok-front.ensures ∙ ap atom (c.split_at.ensures.front ∙ front-is text k bytes c.utf8.text c.requires.split.offset.bytes) in
    let back : c.in_ok-back.back ≡ atom_spelled (drop k cs) = c.in_ok-back.ensures ∙ ap atom (c.split_at.ensures.back ∙ back-is text k bytes c.utf8.text c.requires.split.offset.bytes) in
    let told : g ≡ together (c.in_ok-front.front ∷ c.in_ok-back.back ∷ []) = search rules in
    let right = told ∙ ap₂ (λ t u. together (t ∷ u ∷ [])) front back in
    record {
      values = split-values h a b ws f g x y cs k values left right c.requires.front c.requires.back;
      left = split-left h a b ws f g x y cs k values left right (c.in_ok-first.ensures.below 2 (omega arith)) (c.in_ok-second.ensures.below 2 (omega arith));
      right = split-right h a b ws f g x y cs k values left right;
    }
