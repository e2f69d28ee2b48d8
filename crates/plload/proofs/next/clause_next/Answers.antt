use Rattle.std.proofs.Common.{◌∙◌, refl, ap}
use Rattle.plread.specs.Refusals.{start_of}
use Rattle.plload.proofs.next.clause_next.Goals as goal

pub returns-in-None : goal.returns-in-None
returns-in-None c =
    let none = rw (c.in-None.is, c.deref-2.ensures.value) at c.in_ok-read.ensures in
    (c.first_place-first.ensures ∙ ap start_of c.deref.ensures.value, refl, none)
