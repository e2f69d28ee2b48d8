use Rattle.std.proofs.Common.{sym, ◌∙◌, arith, ◌<◌, length}
use Rattle.plstore.proofs.Search.{below-middle, above-middle, one-is}
use Rattle.plstore.proofs.named.find_from.Goals as goal

pub loop-low-preserved-then-precedes : goal.loop-low-preserved-then-precedes
loop-low-preserved-then-precedes c =
    let m = c.within-middle.ensures.below in
    let l : c.within-middle.result < length c.args.records.now = omega (arith, m) in (
      omega (arith, m),
      c.loop-low.invariant.1,
      below-middle _ c.args.name _ c.index-records-middle.result c.requires l (sym c.precedes.ensures ∙ c.if-precedes.true),
      c.loop-low.invariant.3,
    )

pub loop-low-preserved : goal.loop-low-preserved
loop-low-preserved c =
    let m = c.within-middle.ensures in (
      m.above,
      omega (arith, m.below),
      c.loop-low.invariant.2,
      above-middle _ c.args.name _ c.index-records-middle.result c.requires (sym c.precedes-else-precedes.ensures ∙ c.if-precedes-2.true),
    )

pub returns-else-precedes-2 : goal.returns-else-precedes-2
returns-else-precedes-2 c =
    let m = c.within-middle.ensures.below in
    let l : c.within-middle.result < length c.args.records.now = omega (arith, m) in
    one-is _ c.args.name _ c.index-records-middle.result c.requires l (sym c.precedes.ensures ∙ c.if-precedes.false) (sym c.precedes-else-precedes.ensures ∙ c.if-precedes-2.false)
