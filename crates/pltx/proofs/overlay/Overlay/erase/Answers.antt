use Rattle.std.proofs.Common.{◌∙◌, sym, ap}
use Rattle.plevent.specs.Alive.{change_if}
use Rattle.pltx.specs.Own.{added, erasing}
use Rattle.pltx.specs.Overlays.{state_of}
use Rattle.pltx.specs.declared.target.Erasure.TheVariants.{Erased, Gone}
use Rattle.pltx.proofs.Marking.{marked-none, marked-some}
use Rattle.pltx.proofs.overlay.Overlay.erase.Goals as goal

pub returns-in-Some-clause-answer : goal.returns-in-Some-clause-answer
returns-in-Some-clause-answer c =
    let t = c.args.target in
    sym (ap (λ v. change_if v Gone Erased) (marked-some t 0 _ c.args.self.now.updates.items (sym (c.requires.kept.tracked.marks t) ∙ sym c.marked.ensures ∙ c.in-Some.is)))

pub returns-in-Some-clause-erased : goal.returns-in-Some-clause-erased
returns-in-Some-clause-erased c =
    let t = c.args.target in
    let x = state_of c.args.self.now in
    sym (ap (λ v. change_if v x (added (erasing t) x)) (marked-some t 0 _ c.args.self.now.updates.items (sym (c.requires.kept.tracked.marks t) ∙ sym c.marked.ensures ∙ c.in-Some.is)))

pub erase_now-requires-clause-fresh : goal.erase_now-requires-clause-fresh
erase_now-requires-clause-fresh c =
    let t = c.args.target in
    marked-none t 0 c.args.self.now.updates.items (sym (c.requires.kept.tracked.marks t) ∙ sym c.marked.ensures ∙ c.in-None.is)

pub returns-in-None-clause-answer : goal.returns-in-None-clause-answer
returns-in-None-clause-answer c =
    let t = c.args.target in
    sym (ap (λ v. change_if v Gone Erased) (marked-none t 0 c.args.self.now.updates.items (sym (c.requires.kept.tracked.marks t) ∙ sym c.marked.ensures ∙ c.in-None.is)))

pub returns-in-None-clause-erased : goal.returns-in-None-clause-erased
returns-in-None-clause-erased c =
    let t = c.args.target in
    let x = state_of c.args.self.now in
    c.in_ok-erase_now-in-None.ensures.erased ∙ sym (ap (λ v. change_if v x (added (erasing t) x)) (marked-none t 0 c.args.self.now.updates.items (sym (c.requires.kept.tracked.marks t) ∙ sym c.marked.ensures ∙ c.in-None.is)))
