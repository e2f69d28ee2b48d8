use Rattle.std.proofs.Common.{◌∙◌, ◌<◌, sym, subst, arith, length}
use Rattle.plrecords.specs.Links.{Marked}
use Rattle.plstore.specs.Chains.{in_chain}
use Rattle.plrecords.specs.Parts.{left, marks}
use Rattle.plstore.proofs.Leading.{mark-in, over-within, step-order, step-stands}
use Rattle.plstore.proofs.Merging.{before-part, chain-at}
use Rattle.plstore.proofs.walk.onward.Goals as goal

pub next_behind-at-requires-clause-within : goal.next_behind-at-requires-clause-within
next_behind-at-requires-clause-within c =
    let q = c.args.sought.now in
    let f = c.args.part.front in
    let class = in_chain q.pred.now c.args.chain in
    let rs = c.args.tables.now.records.items in
    let ch = chain-at c.args.tables.now q.pred.now c.args.chain c.links-links.result.now c.requires.chained c.links-links.ensures in
    let mark = subst (Marked (marks f class rs)) c.in-Some.is c.loop-at.invariant.mark in
    let l = mark-in f class rs c.in-Some.number mark in
    omega (arith, l, ch.runs.count)

pub next_behind-at-requires-clause-end : goal.next_behind-at-requires-clause-end
next_behind-at-requires-clause-end c =
    let q = c.args.sought.now in
    let f = c.args.part.front in
    let class = in_chain q.pred.now c.args.chain in
    let rs = c.args.tables.now.records.items in
    let ch = chain-at c.args.tables.now q.pred.now c.args.chain c.links-links.result.now c.requires.chained c.links-links.ensures in
    let mark = subst (Marked (marks f class rs)) c.in-Some.is c.loop-at.invariant.mark in
    over-within f class q.g rs c.links-links.result.now _ ch c.in-Some.number mark

pub loop-at-smaller : goal.loop-at-smaller
loop-at-smaller c =
    let q = c.args.sought.now in
    let f = c.args.part.front in
    let class = in_chain q.pred.now c.args.chain in
    let rs = c.args.tables.now.records.items in
    let ch = chain-at c.args.tables.now q.pred.now c.args.chain c.links-links.result.now c.requires.chained c.links-links.ensures in
    let mark = subst (Marked (marks f class rs)) c.in-Some.is c.loop-at.invariant.mark in
    let l = step-order f class q.g rs c.links-links.result.now _ ch c.in-Some.number mark c.next_behind-at.result c.next_behind-at.ensures in
    subst (λ o. left f (length rs) c.next_behind-at.result < left f (length rs) o) (sym c.in-Some.is) (omega (arith, l))

pub loop-at-preserved : goal.loop-at-preserved
loop-at-preserved c =
    let q = c.args.sought.now in
    let f = c.args.part.front in
    let class = in_chain q.pred.now c.args.chain in
    let rs = c.args.tables.now.records.items in
    let ch = chain-at c.args.tables.now q.pred.now c.args.chain c.links-links.result.now c.requires.chained c.links-links.ensures in
    let mark = subst (Marked (marks f class rs)) c.in-Some.is c.loop-at.invariant.mark in
    step-stands f class q.g rs c.links-links.result.now _ ch c.in-Some.number mark c.next_behind-at.result c.next_behind-at.ensures _
    (before-part f (length rs) c.args.part.behind c.in-Some.number (sym c.has.ensures ∙ c.if-has.false))
