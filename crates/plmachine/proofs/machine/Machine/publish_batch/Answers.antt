use Rattle.std.proofs.Common.{◌∷◌, ◌∙◌, ap, arith, eqb-true, sym, eq-eqb, true≢false}
use Rattle.std.specs.Vec.{vec_len}
use Rattle.plevent.specs.declared.request.Request.TheVariants.{Publish}
use Rattle.plsearch.specs.Types.{Asking, Await, GoesOn}
use Rattle.plsearch.specs.Moves.{go_on}
use Rattle.plstack.specs.State.{goals_of}
use Rattle.plmachine.specs.Machine.{local_of}
use Rattle.plmachine.proofs.Lists.{holds-list, lengthened-grown, lengthened-same}
use Rattle.plmachine.proofs.Moves.{moved-as, went}
use Rattle.plmachine.proofs.Updating.{publish-closed, publishing-none, publishing-some}
use Rattle.plmachine.proofs.machine.Machine.publish_batch.Goals as goal

pub returns-then-is_empty : goal.returns-then-is_empty
returns-then-is_empty c P =
    let s = c.args.self.now in
    let none = eqb-true (vec_len c.args.updates) 0 (sym c.if-is_empty.ensures) in
    moved-as P s c.go_on.new.self _ _
    (ap (λ es. go_on es s.stack.env.count (local_of s)) (publishing-none c.args.updates.items (goals_of s.stack c.args.rest) (omega (arith, none, c.args.updates.ok.0)))
    ∙ publish-closed c.args.updates.items (goals_of s.stack c.args.rest) s.stack.env.count (local_of s) c.requires.closed)
    (went P s c.go_on.new.self s.stack c.args.rest (goals_of s.stack c.args.rest) (lengthened-grown s.stack s.stack (lengthened-same s.stack)) (holds-list s.stack c.args.rest c.requires.rest) c.go_on.ensures.is)

pub returns : goal.returns
returns c P =
    let s = c.args.self.now in
    moved-as P s c.ask.new.self _ _
    (ap (λ us. go_on (Asking (Await (Publish us) GoesOn) ∷ goals_of s.stack c.args.rest) s.stack.env.count (local_of s)) c.new.ensures
    ∙ ap (λ es. go_on es s.stack.env.count (local_of s)) (publishing-some c.args.updates.items (goals_of s.stack c.args.rest) (λ e. true≢false (sym (eq-eqb _ 0 (omega (arith, e, c.args.updates.ok.0))) ∙ sym c.is_empty.ensures ∙ c.if-is_empty.false)))
    ∙ publish-closed c.args.updates.items (goals_of s.stack c.args.rest) s.stack.env.count (local_of s) c.requires.closed)
    (c.ask.ensures P)
