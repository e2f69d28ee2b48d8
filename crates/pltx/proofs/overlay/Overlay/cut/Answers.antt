use Rattle.std.proofs.Common.{◌∙◌, sym, ap, arith, None, drop, take}
use Rattle.std.proofs.Math.Seq.{take-length}
use Rattle.std.proofs.lemmas.List.{length-drop}
use Rattle.std.specs.HashMap.{get}
use Rattle.plevent.specs.Alive.{change_if}
use Rattle.pltx.specs.Own.{erased_in, same_target}
use Rattle.pltx.proofs.Drafting.{tracked-cut}
use Rattle.pltx.proofs.Fronts.{less}
use Rattle.pltx.proofs.overlay.Overlay.cut.Goals as goal

pub returns-clause-tracked : goal.returns-clause-tracked
returns-clause-tracked c =
    let o = c.args.self.now in
    let n = c.args.start in
    let us = c.as_slice.result.now in
    let rest = ap (λ k. take k (drop n us)) (sym (length-drop n us)) ∙ take-length (drop n us) ∙ ap (drop n) c.as_slice.ensures.value in
    tracked-cut o _ n c.requires c.truncate.ensures.items c.cut.ensures (λ t. c.unmark.ensures t ∙ ap (λ us. change_if (erased_in t us) None (get same_target o.marks t)) rest) (less n o.updates.items c.lower-self.result (λ l. c.lower-self.ensures.start (omega (arith, l, c.requires.fronts))) (λ l. c.lower-self.ensures.before (omega (arith, l, c.requires.fronts)) ∙ c.requires.fronts))
