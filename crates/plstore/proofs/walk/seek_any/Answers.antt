use Rattle.std.proofs.Common.{◌≡◌, ◌∙◌, refl, sym, subst, ap, arith, get_or}
use Rattle.plevent.specs.Alive.{is_of}
use Rattle.plrecords.specs.Links.{Marked}
use Rattle.plrecords.specs.Parts.{marks}
use Rattle.plstore.specs.declared.chain.Chain.TheVariants.{Procedure}
use Rattle.plstore.proofs.Merging.{any-suits, chain-at, end-within, first-one, first-within, moved-one, not-some, seek-found, seek-more, seek-over, seek-smaller}
use Rattle.plstore.proofs.Slotted.{procedure-covers}
use Rattle.plstore.proofs.walk.seek_any.Goals as goal

pub record_at-record-requires : goal.record_at-record-requires
record_at-record-requires c =
    let q = c.args.sought.now in
    let rs = c.args.tables.now.records.items in
    rw c.as_slice-records.ensures.value (first-within _ _ _ _ _ _ _ _ _ _ (procedure-covers q.pred.now q.key.now rs) c.loop-at.invariant c.in-Some.number (first-one c.args.part.front c.loop-at.at ∙ c.in-Some.is))

pub returns-then-is_seen : goal.returns-then-is_seen
returns-then-is_seen c =
    let q = c.args.sought.now in
    let f = c.args.part.front in
    let rs = c.args.tables.now.records.items in
    let r = c.record_at-record.result.now in
    let is : r ≡ get_or rs c.in-Some.number r = c.record_at-record.ensures ∙ ap (λ rs. get_or rs c.in-Some.number r) c.as_slice-records.ensures.value in
    let mark = subst (Marked (marks f (is_of q.pred.now) rs)) c.in-Some.is c.loop-at.invariant.own.mark in
    seek-found _ _ _ _ _ _ _ _ _ _ (procedure-covers q.pred.now q.key.now rs) c.loop-at.invariant c.in-Some.number (first-one f c.loop-at.at ∙ c.in-Some.is) r is
    (any-suits f q.pred.now q.key.now q.g rs c.in-Some.number r c.requires.any mark is ∙ sym c.is_seen.ensures ∙ c.if-is_seen.true)

pub next_behind-at-requires-clause-within : goal.next_behind-at-requires-clause-within
next_behind-at-requires-clause-within c =
    let q = c.args.sought.now in
    let rs = c.args.tables.now.records.items in
    let chain = chain-at c.args.tables.now q.pred.now Procedure c.args.tables.now.by_procedure c.requires.chained refl in
    let b = first-within _ _ _ _ _ _ _ _ _ _ (procedure-covers q.pred.now q.key.now rs) c.loop-at.invariant c.in-Some.number (first-one c.args.part.front c.loop-at.at ∙ c.in-Some.is) in
    omega (arith, b, chain.runs.count)

pub next_behind-at-requires-clause-end : goal.next_behind-at-requires-clause-end
next_behind-at-requires-clause-end c =
    let q = c.args.sought.now in
    let rs = c.args.tables.now.records.items in
    let chain = chain-at c.args.tables.now q.pred.now Procedure c.args.tables.now.by_procedure c.requires.chained refl in
    end-within _ _ _ _ _ _ _ _ _ _ (procedure-covers q.pred.now q.key.now rs) c.loop-at.invariant c.in-Some.number (first-one c.args.part.front c.loop-at.at ∙ c.in-Some.is) c.args.tables.now.by_procedure _ _ chain chain

pub loop-at-smaller : goal.loop-at-smaller
loop-at-smaller c =
    let q = c.args.sought.now in
    let f = c.args.part.front in
    let rs = c.args.tables.now.records.items in
    let next = c.next_behind-at.result in
    let chain = chain-at c.args.tables.now q.pred.now Procedure c.args.tables.now.by_procedure c.requires.chained refl in
    let moved = moved-one c.in-Some.number next c.loop-at.at c.in-Some.is in
    let less = seek-smaller _ _ _ _ _ _ _ _ _ _ (procedure-covers q.pred.now q.key.now rs) c.loop-at.invariant c.in-Some.number (first-one f c.loop-at.at ∙ c.in-Some.is) c.args.tables.now.by_procedure _ _ chain chain
    next next next c.next_behind-at.ensures moved moved in
    rw (first-one f next, first-one f c.loop-at.at) at less

pub loop-at-preserved : goal.loop-at-preserved
loop-at-preserved c =
    let q = c.args.sought.now in
    let f = c.args.part.front in
    let rs = c.args.tables.now.records.items in
    let next = c.next_behind-at.result in
    let r = c.record_at-record.result.now in
    let is : r ≡ get_or rs c.in-Some.number r = c.record_at-record.ensures ∙ ap (λ rs. get_or rs c.in-Some.number r) c.as_slice-records.ensures.value in
    let chain = chain-at c.args.tables.now q.pred.now Procedure c.args.tables.now.by_procedure c.requires.chained refl in
    let mark = subst (Marked (marks f (is_of q.pred.now) rs)) c.in-Some.is c.loop-at.invariant.own.mark in
    let moved = moved-one c.in-Some.number next c.loop-at.at c.in-Some.is in
    seek-more _ _ _ _ _ _ _ _ _ _ (procedure-covers q.pred.now q.key.now rs) c.loop-at.invariant c.in-Some.number (first-one f c.loop-at.at ∙ c.in-Some.is) c.args.tables.now.by_procedure _ _ chain chain
    next next next c.next_behind-at.ensures moved moved r is
    (any-suits f q.pred.now q.key.now q.g rs c.in-Some.number r c.requires.any mark is ∙ sym c.is_seen.ensures ∙ c.if-is_seen.false)

pub returns : goal.returns
returns c =
    let q = c.args.sought.now in
    let rs = c.args.tables.now.records.items in
    seek-over _ _ _ _ _ _ _ _ _ _ (procedure-covers q.pred.now q.key.now rs) c.loop-at.invariant (first-one c.args.part.front c.loop-at.at ∙ not-some _ c.in_default.not-Some)
