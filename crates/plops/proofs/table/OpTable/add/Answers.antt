use Rattle.std.proofs.Common.{sym, ap, subst, ◌∙◌}
use Rattle.plops.specs.Changes.{refusal, added}
use Rattle.plops.specs.Checks.{IsTable}
use Rattle.plops.proofs.Kept.{table_added}
use Rattle.plops.proofs.table.OpTable.add.Goals as goal

pub invariant_of-self-2 : goal.invariant_of-self-2
invariant_of-self-2 c =
    let same = ap (refusal c.args.priority c.args.kind c.args.name.now) c.self.view_is in
    subst IsTable (sym c.in_ok-change.ensures.added)
    (table_added c.args.priority c.args.kind c.args.name.now c.self.inside.entries.items c.self.invariant (same ∙ sym c.in_default.ensures))

pub returns : goal.returns
returns c = (sym c.in_default.ensures, c.in_ok-change.ensures.added ∙ ap (added c.args.priority c.args.kind c.args.name.now) c.self.view_is)
