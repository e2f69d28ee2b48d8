use Rattle.std.proofs.Common.{◌≡◌, ◌∙◌, sym}
use Rattle.std.proofs.lemmas.List.{get_or_read}
use Rattle.plenv.specs.declared.slot.Slot.TheVariants.{Free}
use Rattle.plenv.specs.Env.{Env}
use Rattle.plenv.proofs.Changing.{slot-set}
use Rattle.plenv.proofs.env.Environment.set.Goals as goal

pub returns-clause-ok : goal.returns-clause-ok
returns-clause-ok c =
    let within = rw (← c.self.view_is) at c.requires.within in
    let value = rw (← c.self.view_is) at c.requires.value in
    rw (← c.self.view_is) (λ n free.
    let s = c.self.inside in
    let e : Env = record { heap = s.heap; slots = s.slots.items; noted = s.noted.items; boundary = s.boundary; count = s.count } in
    let read = get_or_read s.slots.items c.args.slot c.index.result.now within c.index.ensures (Free 0) in
    let here : Free c.in-Free.number ≡ Free n = sym c.in-Free.is ∙ read ∙ free in
    let same : c.in-Free.number ≡ n = (cc) in
    rw (c.in_ok-note.ensures.ok, same) (slot-set e c.args.slot n c.args.v c.known.ensures c.self.invariant within free value))
