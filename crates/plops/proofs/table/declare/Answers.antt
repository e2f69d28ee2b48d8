use Rattle.std.proofs.Common.{◌≡◌, sym, ap, subst, true, ◌∙◌}
use Rattle.plops.specs.Changes.{added, is_rising}
use Rattle.plops.proofs.Given.{with_more}
use Rattle.plops.proofs.Kept.{rising_added}
use Rattle.plops.proofs.table.declare.Goals as goal

pub loop-name-preserved : goal.loop-name-preserved
loop-name-preserved c =
    record {
      so_far = c.in_ok-change.ensures.added ∙ ap (added c.args.priority c.args.kind _) c.loop-name.invariant.so_far ∙ sym (with_more c.args.priority c.args.kind c.args.names.now c.loop-name.name-index _ c.args.entries.now.items c.loop-name-test.true);
      rising = subst (λ l. is_rising l ≡ true) (sym c.in_ok-change.ensures.added) (rising_added c.args.priority c.args.kind _ c.loop-name.entries.items c.loop-name.invariant.rising);
    }
