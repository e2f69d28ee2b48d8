use Rattle.std.proofs.Common.{◌∙◌, ap, ap₂, refl, sym, subst, Bool}
use Rattle.pltx.specs.declared.target.Erasure.TheVariants.{Erased, Gone}
use Rattle.plviews.specs.Layers.{Layered}
use Rattle.plstack.specs.State.{State, goals_of}
use Rattle.plmachine.specs.declared.machine.Outcome.TheVariants as outcomes
use Rattle.plmachine.specs.declared.machine.Mode.TheVariants as modes
use Rattle.plmachine.specs.declared.machine.Question.TheVariants as questions
use Rattle.plmachine.specs.Seeking.{ErasesBefore}
use Rattle.plmachine.proofs.Moves.{asks}
use Rattle.plmachine.proofs.Updating.{erase-asked, erased-becomes, erased-moved, gone-becomes, gone-moved}
use Rattle.plmachine.proofs.machine.Machine.erase.Goals as goal

pub returns-then-not-is_open-clause-ok : goal.returns-then-not-is_open-clause-ok
returns-then-not-is_open-clause-ok c P =
    let s = c.args.self.now in
    asks P s _ (questions.Erase c.args.name) c.args.rest tt (ap (λ (st : State). record s { stack = st; mode = modes.Ask (questions.Erase c.args.name) }) c.visit.ensures.is)

pub returns-then-not-is_open-clause-becomes : goal.returns-then-not-is_open-clause-becomes
returns-then-not-is_open-clause-becomes c P =
    let s = c.args.self.now in
    subst (λ (b : Bool). ErasesBefore P b s (record s { stack = c.visit.new.self; mode = modes.Ask (questions.Erase c.args.name) }) c.args.name (goals_of s.stack c.args.rest)) c.if-not-is_open.ensures
    (erase-asked P s _ c.args.name c.args.rest (ap (λ (st : State). record s { stack = st; mode = modes.Ask (questions.Erase c.args.name) }) c.visit.ensures.is))

pub returns-in-Erased-clause-ok : goal.returns-in-Erased-clause-ok
returns-in-Erased-clause-ok c P =
    let s = c.args.self.now in
    erased-moved P s _ c.args.name c.args.rest Erased (sym c.in-Erased.is ∙ c.in_ok-erase.ensures.answer) (sym c.if-not-is_open.ensures) refl c.requires.tied c.visit-in-Erased.ensures.own
    (ap₂ (λ (x : Layered) (st : State). record s { layer = x; stack = st; mode = modes.Visit }) c.in_ok-erase.ensures.erased c.visit-in-Erased.ensures.is)

pub returns-in-Erased-clause-becomes : goal.returns-in-Erased-clause-becomes
returns-in-Erased-clause-becomes c P =
    let s = c.args.self.now in
    subst (λ (b : Bool). ErasesBefore P b s (record s { layer = c.erase.new.self; stack = c.visit-in-Erased.new.self; mode = modes.Visit }) c.args.name (goals_of s.stack c.args.rest)) c.if-not-is_open.ensures
    (erased-becomes P s _ c.args.name c.args.rest Erased (sym c.in-Erased.is ∙ c.in_ok-erase.ensures.answer) (sym c.if-not-is_open.ensures) refl c.requires.tied c.visit-in-Erased.ensures.own
    (ap₂ (λ (x : Layered) (st : State). record s { layer = x; stack = st; mode = modes.Visit }) c.in_ok-erase.ensures.erased c.visit-in-Erased.ensures.is))

pub returns-in-Gone-clause-ok : goal.returns-in-Gone-clause-ok
returns-in-Gone-clause-ok c P =
    let s = c.args.self.now in
    gone-moved P s c.give.new.self c.args.name c.args.rest Gone (sym c.in-Gone.is ∙ c.in_ok-erase.ensures.answer) (sym c.if-not-is_open.ensures) refl
    (c.give.ensures ∙ ap (λ (x : Layered). record s { layer = x; mode = modes.Back outcomes.Fail }) c.in_ok-erase.ensures.erased)

pub returns-in-Gone-clause-becomes : goal.returns-in-Gone-clause-becomes
returns-in-Gone-clause-becomes c P =
    let s = c.args.self.now in
    subst (λ (b : Bool). ErasesBefore P b s c.give.new.self c.args.name (goals_of s.stack c.args.rest)) c.if-not-is_open.ensures
    (gone-becomes P s c.give.new.self c.args.name c.args.rest Gone (sym c.in-Gone.is ∙ c.in_ok-erase.ensures.answer) (sym c.if-not-is_open.ensures) refl
    (c.give.ensures ∙ ap (λ (x : Layered). record s { layer = x; mode = modes.Back outcomes.Fail }) c.in_ok-erase.ensures.erased))
