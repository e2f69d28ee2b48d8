use Rattle.std.proofs.Common.{◌∙◌, length, ap, sym, subst, arith}
use Rattle.platoms.specs.Names.{IsTable, Extends}
use Rattle.plcells.specs.Store.{Preserves, bounded_by}
use Rattle.plcells.proofs.Marking.{mark-cells, marked-heap, given-back, own-heap, preserves-under}
use Rattle.plcells.proofs.Renaming.{Preserves-renamed}
use Rattle.plpacked.specs.Putting.{PutsPacked}
use Rattle.plpack.specs.Packing.{packed}
use Rattle.plpacked.proofs.Shifting.{packed-shifted}
use Rattle.plpacked.proofs.Steps.{packed-under}
use Rattle.plpacked.proofs.putting.put_bytes.Goals as goal

pub forget-requires : goal.forget-requires
forget-requires c =
    let w = c.in-Ok.ensures.keeps.within c.mark-mark.result c.mark-mark.ensures.mark.within in
    omega (arith, w.old, mark-cells c.mark-mark.result c.args.heap.now c.mark-mark.new.self c.mark-mark.ensures.now c.mark-mark.ensures.same, c.boundary-boundary.ensures.within)

pub cut_back-requires-clause-old : goal.cut_back-requires-clause-old
cut_back-requires-clause-old c =
    omega (arith, mark-cells c.mark-mark.result c.args.heap.now c.mark-mark.new.self c.mark-mark.ensures.now c.mark-mark.ensures.same, c.boundary-boundary.ensures.within)

pub returns-in-Ok-clause-ok : goal.returns-in-Ok-clause-ok
returns-in-Ok-clause-ok c =
    let h = c.args.heap.now in
    let new = c.put_all.new.heap in
    let bytes = c.args.bytes.now in
    let n = c.args.number in
    let put = c.in-Ok.put in
    let made = subst (λ s. PutsPacked s new bytes n put) c.mark-mark.ensures.same c.in-Ok.ensures.ok in
    let whole = packed-under h new (length h.cells) (omega (arith, c.boundary-boundary.ensures.is, c.boundary-boundary.ensures.within)) bytes n put made in
    subst (λ s. PutsPacked h s bytes n put) (sym (c.forget.ensures ∙ ap (bounded_by new) c.boundary-boundary.ensures.is)) whole

pub returns-in-Ok-clause-boundary : goal.returns-in-Ok-clause-boundary
returns-in-Ok-clause-boundary c = ap (λ s. s.boundary) c.forget.ensures ∙ c.boundary-boundary.ensures.is

pub returns-in-Ok-clause-again : goal.returns-in-Ok-clause-again
returns-in-Ok-clause-again c =
    let p = returns-in-Ok-clause-ok c in
    ap packed p.is ∙ packed-shifted c.args.number p.term ∙ sym p.own

pub returns-in-Ok-clause-preserves : goal.returns-in-Ok-clause-preserves
returns-in-Ok-clause-preserves c =
    let h = c.args.heap.now in
    let new = c.put_all.new.heap in
    let marked = subst (λ s. Preserves s new) c.mark-mark.ensures.same c.in-Ok.ensures.ok.preserves in
    subst (Preserves h) (sym (c.forget.ensures ∙ ap (bounded_by new) c.boundary-boundary.ensures.is)) (preserves-under h new (length h.cells) (omega (arith, c.boundary-boundary.ensures.is, c.boundary-boundary.ensures.within)) marked)

pub returns-in-Err-clause-preserves : goal.returns-in-Err-clause-preserves
returns-in-Err-clause-preserves c =
    let h = c.args.heap.now in
    let m = c.mark-mark.ensures in
    let t = c.put_all.new.heap.names in
    let e = given-back c.mark-mark.result h c.mark-mark.new.self m.now m.same c.put_all.new.heap c.cut_back.new.self _ m.mark c.in-Err.ensures.keeps c.cut_back.ensures.cut c.boundary-boundary.ensures.is in
    let table : IsTable t = subst IsTable (ap (λ x. x.names) e) c.cut_back.ensures.heap.names in
    subst (Preserves h) (sym e) (Preserves-renamed h t (own-heap h (omega (arith, c.boundary-boundary.ensures.is, c.boundary-boundary.ensures.within)) (marked-heap c.mark-mark.result h c.mark-mark.new.self m.now m.same m.mark)) table (subst (λ s. Extends s.names t) m.same c.in-Err.ensures.keeps.names))
