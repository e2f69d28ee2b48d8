use Rattle.std.proofs.Common.{sym, ◌∙◌}
use Rattle.std.proofs.lemmas.Bool.{ltb-true}
use Rattle.plops.proofs.Ranks.{found_at, other_at, missed_at}
use Rattle.plops.proofs.table.find.Goals as goal
use Rattle.plops.proofs.table.find.Goals.{in_default-via-in-Some+else-is_named, in_default-via-in_default}

pub returns-in-Some : goal.returns-in-Some
returns-in-Some c =
    found_at c.args.name.now c.args.entries.now c.rank.result c.in-Some.entry.now c.requires c.rank.ensures.rank (ltb-true _ _ (sym c.in-Some.ensures.lookup.0)) c.in-Some.ensures.lookup.1 (sym c.is_named.ensures ∙ c.if-is_named.true)

pub returns-in_default : goal.returns-in_default
returns-in_default c =
    elim c.in_default.branch [
      | in_default-via-in-Some+else-is_named w ↦
          other_at c.args.name.now c.args.entries.now c.rank.result w.in-Some.entry.now c.requires c.rank.ensures.rank (ltb-true _ _ (sym w.in-Some.ensures.lookup.0)) w.in-Some.ensures.lookup.1 (sym w.is_named.ensures ∙ w.if-is_named.false)
      | in_default-via-in_default w ↦ missed_at c.args.name.now c.args.entries.now c.rank.result c.requires c.rank.ensures.rank w.in_default.ensures.lookup.3
    ]
