use Rattle.std.proofs.Common.{◌∙◌, sym, ap, arith, get_or}
use Rattle.plstore.proofs.Merging.{chain-at, end-within, first-within, not-some, seek-found, seek-more, seek-over, seek-smaller}
use Rattle.plstore.proofs.walk.seek.Goals as goal

pub record_at-record-requires : goal.record_at-record-requires
record_at-record-requires c =
    rw c.as_slice-records.ensures.value (first-within _ _ _ _ _ _ _ _ _ _ c.requires.merged.covers c.loop-number.invariant c.in-Some.number (sym c.first.ensures ∙ c.in-Some.is))

pub returns-then-is_met : goal.returns-then-is_met
returns-then-is_met c =
    let r = c.record_at-record.result.now in
    seek-found _ _ _ _ _ _ _ _ _ _ c.requires.merged.covers c.loop-number.invariant c.in-Some.number (sym c.first.ensures ∙ c.in-Some.is) r
    (c.record_at-record.ensures ∙ ap (λ rs. get_or rs c.in-Some.number r) c.as_slice-records.ensures.value) (sym c.is_met.ensures ∙ c.if-is_met.true)

pub next_behind-requires-clause-within : goal.next_behind-requires-clause-within
next_behind-requires-clause-within c =
    let q = c.args.sought.now in
    let m = c.args.merged.now in
    let l = c.links-links.result.now in
    let own = chain-at c.args.tables.now q.pred.now m.own l c.requires.chained c.links-links.ensures in
    let b = first-within _ _ _ _ _ _ _ _ _ _ c.requires.merged.covers c.loop-number.invariant c.in-Some.number (sym c.first.ensures ∙ c.in-Some.is) in
    omega (arith, b, own.runs.count)

pub next_behind-requires-clause-end : goal.next_behind-requires-clause-end
next_behind-requires-clause-end c =
    let q = c.args.sought.now in
    let m = c.args.merged.now in
    let l = c.links-links.result.now in
    let own = chain-at c.args.tables.now q.pred.now m.own l c.requires.chained c.links-links.ensures in
    let any = chain-at c.args.tables.now q.pred.now m.any l c.requires.chained (c.links-links.ensures ∙ sym (c.requires.merged.links c.args.tables.now)) in
    end-within _ _ _ _ _ _ _ _ _ _ c.requires.merged.covers c.loop-number.invariant c.in-Some.number (sym c.first.ensures ∙ c.in-Some.is) l _ _ own any

pub loop-number-smaller : goal.loop-number-smaller
loop-number-smaller c =
    let q = c.args.sought.now in
    let m = c.args.merged.now in
    let l = c.links-links.result.now in
    let own = chain-at c.args.tables.now q.pred.now m.own l c.requires.chained c.links-links.ensures in
    let any = chain-at c.args.tables.now q.pred.now m.any l c.requires.chained (c.links-links.ensures ∙ sym (c.requires.merged.links c.args.tables.now)) in
    seek-smaller _ _ _ _ _ _ _ _ _ _ c.requires.merged.covers c.loop-number.invariant c.in-Some.number (sym c.first.ensures ∙ c.in-Some.is) l _ _ own any
    c.next_behind.result _ _ c.next_behind.ensures c.behind-at.ensures.own c.behind-at.ensures.any

pub loop-number-preserved : goal.loop-number-preserved
loop-number-preserved c =
    let q = c.args.sought.now in
    let m = c.args.merged.now in
    let l = c.links-links.result.now in
    let own = chain-at c.args.tables.now q.pred.now m.own l c.requires.chained c.links-links.ensures in
    let any = chain-at c.args.tables.now q.pred.now m.any l c.requires.chained (c.links-links.ensures ∙ sym (c.requires.merged.links c.args.tables.now)) in
    let r = c.record_at-record.result.now in
    seek-more _ _ _ _ _ _ _ _ _ _ c.requires.merged.covers c.loop-number.invariant c.in-Some.number (sym c.first.ensures ∙ c.in-Some.is) l _ _ own any
    c.next_behind.result _ _ c.next_behind.ensures c.behind-at.ensures.own c.behind-at.ensures.any r
    (c.record_at-record.ensures ∙ ap (λ rs. get_or rs c.in-Some.number r) c.as_slice-records.ensures.value) (sym c.is_met.ensures ∙ c.if-is_met.false)

pub returns : goal.returns
returns c = seek-over _ _ _ _ _ _ _ _ _ _ c.requires.merged.covers c.loop-number.invariant (sym c.first.ensures ∙ not-some _ c.in_default.not-Some)
