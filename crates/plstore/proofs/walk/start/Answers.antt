use Rattle.std.proofs.Common.{◌∙◌, sym, ap, subst, arith, length, ℕ, Option}
use Rattle.plrecords.specs.declared.ends.Ends.{Ends}
use Rattle.plrecords.specs.Links.{first_end}
use Rattle.plstore.specs.Chains.{in_chain}
use Rattle.plstore.specs.Merged.{MayStand}
use Rattle.plrecords.specs.Parts.{extent, reaches}
use Rattle.plstore.proofs.Leading.{either, stand-first}
use Rattle.plstore.proofs.Merging.{chain-is, stand-over}
use Rattle.plstore.proofs.walk.start.Goals as goal

pub returns-then-not-reaches : goal.returns-then-not-reaches
returns-then-not-reaches c =
    let q = c.args.sought.now in
    let t = c.args.tables.now in
    let part = c.args.part in
    let indexed = (chain-is t q.pred.now c.args.chain c.requires.chained).indexed in
    let over = ap (reaches part) (sym c.wide.ensures) ∙ sym c.reaches.ensures ∙ c.if-not-reaches.true in
    record {
      stands = stand-over part.front _ q.g t.records.items _ _ part.behind c.if-not-part.true indexed (ap (λ (e : Ends). reaches part e.newest_back) (sym c.requires.ends) ∙ over);
      order = omega arith;
    }

pub onward-requires-clause-from : goal.onward-requires-clause-from
onward-requires-clause-from c =
    let q = c.args.sought.now in
    let t = c.args.tables.now in
    let f = c.args.part.front in
    let class = in_chain q.pred.now c.args.chain in
    let rs = t.records.items in
    let m = extent c.args.part (length rs) in
    let stands : Option ℕ → Type 0 = MayStand f class q.g rs m in
    let first : stands c.first.result =
    subst stands (sym (c.first.ensures ∙ ap (first_end f) c.requires.ends)) (stand-first f class q.g rs _ _ m (chain-is t q.pred.now c.args.chain c.requires.chained).indexed) in
    subst stands (sym c.or-at.ensures) (either stands c.close.result c.first.result c.close.ensures first)
