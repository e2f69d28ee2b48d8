use Rattle.std.proofs.Common.{◌∙◌, sym, ap, nat_eq}
use Rattle.plclause.specs.Indicators.{indicator}
use Rattle.plstore.specs.Chains.{in_chain}
use Rattle.plstore.proofs.Same.{same-is}
use Rattle.plstore.proofs.Slotted.{slot-is}
use Rattle.plstore.proofs.chain.Chain.has.Goals as goal

pub returns-in-Slot : goal.returns-in-Slot
returns-in-Slot c =
    let p = c.args.pred.now in
    let clause = c.args.one.now.clause in
    ap (λ n. nat_eq n c.in-Slot.slot)
    (slot-is c.new.result.hasher p clause c.of_head.result c.new.ensures (sym (same-is (indicator clause.head) p c.requires)) _ (c.root.ensures ∙ c.head.ensures.value) c.of_head.ensures)
    ∙ ap (λ ch. in_chain p ch clause) (sym c.in-Slot.is)
