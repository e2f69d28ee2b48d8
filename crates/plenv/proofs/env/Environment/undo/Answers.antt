use Rattle.std.proofs.Common.{◌∙◌, take, refl, ap}
use Rattle.plenv.specs.Env.{cut}
use Rattle.plenv.proofs.env.Environment.undo.Goals as goal

pub undo-requires : goal.undo-requires
unfolding cut
undo-requires c =
    let m = rw (← c.self.view_is) at c.requires in
    record { within = m.within.heap; heap = m.env.heap }

pub returns : goal.returns
unfolding cut
returns c = rw (← c.self.view_is) (
    let s = c.self.inside in
    let slots = c.truncate.ensures.items ∙ ap (take c.args.mark.slots) c.free.ensures.slots in
    rw (c.undo.ensures, slots, c.free.ensures.noted) refl)

pub invariant_of-self : goal.invariant_of-self
unfolding cut
invariant_of-self c =
    let m = rw (← c.self.view_is) at c.requires in
    let s = c.self.inside in
    let slots = c.truncate.ensures.items ∙ ap (take c.args.mark.slots) c.free.ensures.slots in
    rw (c.undo.ensures, slots, c.free.ensures.noted) m.env.slots
