use Rattle.std.proofs.Common.{◌≡◌, suc, ◌+◌, ◌<◌, ◌≤◌, ap, sym, ◌∙◌, arith, length, reverse, take}
use Rattle.std.proofs.lemmas.List.{take_all}
use Rattle.std.proofs.lemmas.Map.Keys.{le_from_not_gt}
use Rattle.plstack.specs.Places.{depth_of}
use Rattle.plstack.proofs.Cutting.{below-all, choice-deep, choice-here, depth-taken}
use Rattle.plstack.proofs.cut.choice_at.Goals as goal

pub loop-level-init : goal.loop-level-init
loop-level-init c =
    let fs = c.args.frames.now in
    let deep = choice-deep fs c.args.level c.requires.choice in
    record {
      there = omega arith;
      depth = ap (λ xs. depth_of (reverse xs)) (take_all (length fs) fs (omega arith)) ∙ sym c.requires.depth;
      above = omega (arith, deep, ap (λ xs. depth_of (reverse xs)) (take_all (length fs + 1) fs (omega arith)));
    }

pub returns : goal.returns
returns c =
    let fs = c.args.frames.now in
    let i = c.loop-level.at in
    let low : c.loop-level.below ≤ c.args.level = le_from_not_gt _ _ (sym c.gt.ensures ∙ c.loop-level-test.false) in
    let there : i < length fs = below-all fs i c.args.level c.loop-level.invariant.there (omega (arith, low, c.loop-level.invariant.depth)) c.loop-level.invariant.above in
    let more : i + 1 ≡ suc i = omega arith in
    record {
      there = there;
      choice = choice-here fs i c.args.level there (omega (arith, low, c.loop-level.invariant.depth)) c.loop-level.invariant.above c.requires.choice;
      depth = c.loop-level.invariant.depth;
      low = low;
      high = omega (arith, c.loop-level.invariant.above, ap (λ n. depth_of (reverse (take n fs))) more, depth-taken fs i there, c.loop-level.invariant.depth);
    }
