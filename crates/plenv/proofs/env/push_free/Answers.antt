use Rattle.std.proofs.Common.{◌∙◌, ◌+◌, ◌++◌, ◌∷◌, [], ap}
use Rattle.plenv.specs.declared.slot.Slot.TheVariants.{Free}
use Rattle.plenv.specs.Env.{free_from}
use Rattle.plenv.proofs.Freeing.{push-from, front-kept}
use Rattle.plenv.proofs.env.push_free.Goals as goal

pub loop-x-preserved : goal.loop-x-preserved
loop-x-preserved c = push-from c.args.slots.now.items c.loop-x.slots.items c.push.new.self.items c.args.number c.loop-x.x c.loop-x.invariant (c.in_ok-push.ensures.items ∙ ap (λ k. c.loop-x.slots.items ++ Free (c.args.number + k) ∷ []) c.from.ensures)

pub returns-in_err-push-clause-kept : goal.returns-in_err-push-clause-kept
returns-in_err-push-clause-kept c = front-kept c.args.slots.now.items (free_from c.args.number c.loop-x.x) c.push.new.self.items (c.in_err-push.ensures.items ∙ c.loop-x.invariant)

pub returns-clause-kept : goal.returns-clause-kept
returns-clause-kept c = front-kept c.args.slots.now.items (free_from c.args.number c.loop-x.x) c.loop-x.slots.items c.loop-x.invariant
