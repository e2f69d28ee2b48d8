use Rattle.std.proofs.Common.{◌∙◌, ◌∷◌, [], ap, sym}
use Rattle.plviews.specs.Layers.{Layered}
use Rattle.plmachine.specs.declared.machine.Mode.TheVariants as modes
use Rattle.plmachine.proofs.Updating.{makes, publish-closed}
use Rattle.plmachine.proofs.Moves.{moved-as}
use Rattle.plmachine.specs.Machine.{local_of}
use Rattle.plstack.specs.State.{goals_of}
use Rattle.plevent.specs.declared.request.Request.TheVariants.{Publish}
use Rattle.plsearch.specs.Types.{Asking, Await, GoesOn}
use Rattle.plsearch.specs.Moves.{go_on}
use Rattle.plmachine.proofs.machine.Machine.publish_one.Goals as goal

pub returns-then-is_open-clause-ok : goal.returns-then-is_open-clause-ok
returns-then-is_open-clause-ok c P =
    let s = c.args.self.now in
    makes P s c.go_on.new.self (c.args.update ∷ []) c.args.rest (sym c.if-is_open.ensures) c.requires.tied c.go_on.ensures.own
    (c.go_on.ensures.is ∙ ap (λ (x : Layered). record s { layer = x; stack = record s.stack { goals = c.args.rest }; mode = modes.Visit }) c.in_ok-make_one.ensures.made)

pub returns-clause-ok : goal.returns-clause-ok
returns-clause-ok c P =
    let s = c.args.self.now in
    moved-as P s c.ask.new.self _ _ (ap (λ us. go_on (Asking (Await (Publish us) GoesOn) ∷ goals_of s.stack c.args.rest) s.stack.env.count (local_of s)) c.of.ensures ∙ publish-closed (c.args.update ∷ []) (goals_of s.stack c.args.rest) s.stack.env.count (local_of s) (sym c.is_open.ensures ∙ c.if-is_open.false)) (c.ask.ensures P)
