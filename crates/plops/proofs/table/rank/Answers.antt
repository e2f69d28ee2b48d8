use Rattle.std.proofs.Common.{◌+◌, ◌-◌, ◌/◌, arith, sym, ap, ◌∙◌}
use Rattle.plops.specs.Changes.{is_before}
use Rattle.plops.proofs.Ranks.{rank_within, rank_behind, rank_before}
use Rattle.plops.proofs.table.rank.Goals as goal

pub loop-low-init : goal.loop-low-init
loop-low-init c = record { above = omega arith; below = rank_within c.args.name.now c.args.entries.now; within = omega arith }

pub loop-low-preserved-then-is_before : goal.loop-low-preserved-then-is_before
loop-low-preserved-then-is_before c =
    let middle = c.loop-low.low + (c.loop-low.high - c.loop-low.low) / 2 in
    let e = c.index-entries-middle.result in
    let behind = rank_behind c.args.name.now c.args.entries.now middle e c.requires (omega arith) (ap (λ x. is_before x.name c.args.name.now) (sym c.index-entries-middle.is) ∙ sym c.is_before.ensures ∙ c.if-is_before.true) in
    record { above = omega arith; below = c.loop-low.invariant.below; within = c.loop-low.invariant.within }

pub loop-low-preserved : goal.loop-low-preserved
loop-low-preserved c =
    let middle = c.loop-low.low + (c.loop-low.high - c.loop-low.low) / 2 in
    let e = c.index-entries-middle.result in
    record {
      above = c.loop-low.invariant.above;
      below = rank_before c.args.name.now c.args.entries.now middle e (omega arith) (ap (λ x. is_before x.name c.args.name.now) (sym c.index-entries-middle.is) ∙ sym c.is_before.ensures ∙ c.if-is_before.false);
      within = omega arith;
    }
