use Rattle.std.proofs.Common.{◌≡◌, true, false, get_or, arith, sym, ◌∙◌}
use Rattle.plops.specs.Tables.{is_named}
use Rattle.plops.specs.Changes.{is_plain}
use Rattle.plops.specs.Ranks.{rank}
use Rattle.plops.proofs.Ranks.{put_removed, put_set, put_inserted, put_none}
use Rattle.plops.proofs.table.put.Goals as goal
use Rattle.plops.proofs.table.put.Goals.{else-place-len-via-then-place-len+else-is_named, else-place-len-via-else-place-len}

pub returns-then-is_plain-clause-put : goal.returns-then-is_plain-clause-put
returns-then-is_plain-clause-put c =
    let t = c.args.entries.now.items in
    let at_rank : c.rank-place.result ≡ rank c.args.entry.name t = cc in
    let named : is_named c.args.entry.name (get_or t c.rank-place.result c.index.result.now) ≡ true = cc in
    c.remove.ensures.items ∙ put_removed c.args.entry c.index.result.now t c.rank-place.result c.requires at_rank (omega arith) named (sym c.is_plain.ensures ∙ c.if-is_plain.true)

pub returns-else-is_plain-clause-put : goal.returns-else-is_plain-clause-put
returns-else-is_plain-clause-put c =
    let t = c.args.entries.now.items in
    let at_rank : c.rank-place.result ≡ rank c.args.entry.name t = cc in
    let named : is_named c.args.entry.name (get_or t c.rank-place.result c.index.result.now) ≡ true = cc in
    put_set c.args.entry c.index.result.now t c.rank-place.result c.requires at_rank (omega arith) named (sym c.is_plain.ensures ∙ c.if-is_plain.false)

pub returns-in_ok-insert-clause-put : goal.returns-in_ok-insert-clause-put
returns-in_ok-insert-clause-put c =
    let t = c.args.entries.now.items in
    let at_rank : c.rank-place.result ≡ rank c.args.entry.name t = cc in
    let plain : is_plain c.args.entry ≡ false = sym c.is_plain-else-place-len.ensures ∙ c.if-not-is_plain.true in
    elim c.else-place-len.branch [
      | else-place-len-via-then-place-len+else-is_named w ↦
          let other : is_named c.args.entry.name (get_or t c.rank-place.result w.index.result.now) ≡ false = cc in
          c.in_ok-insert.ensures.items ∙ put_inserted c.args.entry w.index.result.now t c.rank-place.result c.requires at_rank (λ _. other) plain
      | else-place-len-via-else-place-len w ↦
          c.in_ok-insert.ensures.items ∙ put_inserted c.args.entry c.args.entry t c.rank-place.result c.requires at_rank (λ h. absurd (omega arith)) plain
    ]

pub returns-else-not-is_plain-clause-put : goal.returns-else-not-is_plain-clause-put
returns-else-not-is_plain-clause-put c =
    let t = c.args.entries.now.items in
    let at_rank : c.rank-place.result ≡ rank c.args.entry.name t = cc in
    let plain : is_plain c.args.entry ≡ true = sym c.is_plain-else-place-len.ensures ∙ c.if-not-is_plain.false in
    elim c.else-place-len.branch [
      | else-place-len-via-then-place-len+else-is_named w ↦
          let other : is_named c.args.entry.name (get_or t c.rank-place.result w.index.result.now) ≡ false = cc in
          put_none c.args.entry w.index.result.now t c.rank-place.result c.requires at_rank (λ _. other) plain
      | else-place-len-via-else-place-len w ↦
          put_none c.args.entry c.args.entry t c.rank-place.result c.requires at_rank (λ h. absurd (omega arith)) plain
    ]
