use Rattle.std.proofs.Common.{◌∙◌, length, reverse, ap, sym, subst, arith}
use Rattle.plterm.specs.Reading.{tree_of}
use Rattle.plsubst.specs.Subst.{bind}
use Rattle.platoms.specs.Names.{IsTable, Extends}
use Rattle.plcells.specs.Store.{AreValues, Preserves, bounded_by}
use Rattle.plcells.specs.Putting.{standing, PutsTerm}
use Rattle.plcells.proofs.Marking.{mark-cells, marked-heap, given-back, own-names, own-heap, preserves-under, puts-under}
use Rattle.plcells.proofs.Renaming.{Preserves-renamed}
use Rattle.plcells.proofs.heap.Heap.put_nodes.Goals as goal

pub put_all-requires-clause-values : goal.put_all-requires-clause-values
put_all-requires-clause-values c = subst (λ h. AreValues h c.args.values.now) (sym c.mark-mark.ensures.same) c.requires.values

pub forget-requires : goal.forget-requires
forget-requires c =
    let w = c.in-Ok.ensures.keeps.within c.mark-mark.result c.mark-mark.ensures.mark.within in
    omega (arith, w.old, mark-cells c.mark-mark.result c.args.self.now c.mark-mark.new.self c.mark-mark.ensures.now c.mark-mark.ensures.same, c.boundary-boundary.ensures.is, c.boundary-boundary.ensures.within)

pub cut_back-requires-clause-old : goal.cut_back-requires-clause-old
cut_back-requires-clause-old c =
    omega (arith, mark-cells c.mark-mark.result c.args.self.now c.mark-mark.new.self c.mark-mark.ensures.now c.mark-mark.ensures.same, c.boundary-boundary.ensures.within)

pub cut_back-requires-clause-kept : goal.cut_back-requires-clause-kept
cut_back-requires-clause-kept c = record { old = c.mark-mark.new.self; mark = c.mark-mark.ensures.mark; keeps = c.in-Err.ensures.keeps }

pub returns-in-Ok-clause-ok : goal.returns-in-Ok-clause-ok
returns-in-Ok-clause-ok c =
    let h = c.args.self.now in
    let new = c.put_all.new.self in
    let vs = c.args.values.now in
    let b = length h.cells in
    let v = c.in-Ok.v in
    let t = tree_of (reverse c.args.nodes.now) in
    let made = subst (λ s. PutsTerm s new v (bind (standing s vs) t)) c.mark-mark.ensures.same c.in-Ok.ensures.ok in
    let whole = puts-under h new b (omega (arith, c.boundary-boundary.ensures.is, c.boundary-boundary.ensures.within)) vs v t c.requires.values c.requires.below made in
    subst (λ s. PutsTerm h s v (bind (standing h vs) t)) (sym (c.forget.ensures ∙ ap (bounded_by new) c.boundary-boundary.ensures.is)) whole

pub returns-in-Ok-clause-preserves : goal.returns-in-Ok-clause-preserves
returns-in-Ok-clause-preserves c =
    let h = c.args.self.now in
    let new = c.put_all.new.self in
    let b = length h.cells in
    let marked = subst (λ s. Preserves s new) c.mark-mark.ensures.same c.in-Ok.ensures.ok.adds.preserves in
    subst (Preserves h) (sym (c.forget.ensures ∙ ap (bounded_by new) c.boundary-boundary.ensures.is)) (preserves-under h new b (omega (arith, c.boundary-boundary.ensures.is, c.boundary-boundary.ensures.within)) marked)

pub returns-in-Err-clause-err : goal.returns-in-Err-clause-err
returns-in-Err-clause-err c =
    let h = c.args.self.now in
    let m = c.mark-mark.ensures in
    own-names h c.cut_back.new.self c.put_all.new.self.names (given-back c.mark-mark.result h c.mark-mark.new.self m.now m.same c.put_all.new.self c.cut_back.new.self _ m.mark c.in-Err.ensures.keeps c.cut_back.ensures.cut c.boundary-boundary.ensures.is)

pub returns-in-Err-clause-preserves : goal.returns-in-Err-clause-preserves
returns-in-Err-clause-preserves c =
    let h = c.args.self.now in
    let m = c.mark-mark.ensures in
    let t = c.put_all.new.self.names in
    let e = given-back c.mark-mark.result h c.mark-mark.new.self m.now m.same c.put_all.new.self c.cut_back.new.self _ m.mark c.in-Err.ensures.keeps c.cut_back.ensures.cut c.boundary-boundary.ensures.is in
    let table : IsTable t = subst IsTable (ap (λ x. x.names) e) c.cut_back.ensures.heap.names in
    subst (Preserves h) (sym e) (Preserves-renamed h t (own-heap h (omega (arith, c.boundary-boundary.ensures.is, c.boundary-boundary.ensures.within)) (marked-heap c.mark-mark.result h c.mark-mark.new.self m.now m.same m.mark)) table (subst (λ s. Extends s.names t) m.same c.in-Err.ensures.keeps.names))
