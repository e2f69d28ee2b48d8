use Rattle.std.proofs.Common.{◌≡◌, ◌∙◌, ◌<◌, ◌+◌, ◌++◌, ◌∷◌, [], length, ap, sym, refl, take, nat_eq, arith}
use Rattle.std.proofs.lemmas.List.{take_more}
use Rattle.plevent.specs.Reading.{reading, halted_after}
use Rattle.plhist.specs.Status.{status_of_main, status_after}
use Rattle.plhist.proofs.OneMore.{halted-push, status-push}
use Rattle.plhist.proofs.status.status_of.Goals as goal

pub loop-entry-init : goal.loop-entry-init
unfolding reading
loop-entry-init c = record { halted = refl; main = refl }

pub loop-entry-preserved : goal.loop-entry-preserved
loop-entry-preserved c =
    let e = c.entry-item.result in
    let h = c.as_slice-entries.result.now in
    let i = c.loop-entry.entry-index in
    let below : i < length h = omega arith in
    let more : take (i + 1) h ≡ take i h ++ e ∷ [] = take_more h i e below ∙ ap (λ x. take i h ++ x ∷ []) (sym c.entry-item.is) in
    record {
      halted = c.halted_after-halted.ensures ∙ ap (halted_after e.act) c.loop-entry.invariant.halted
          ∙ sym (ap (λ l. (reading l).standing.halted) more ∙ halted-push (take i h) e);
      main = c.status_after-main.ensures ∙ ap (status_after (nat_eq e.thread 1) e.act) c.loop-entry.invariant.main
          ∙ sym (ap status_of_main more ∙ status-push (take i h) e);
    }
