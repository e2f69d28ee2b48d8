use Rattle.std.proofs.Common.{sym, ap, ◌∙◌, subst}
use Rattle.std.specs.Prelude.{nat_lt}
use Rattle.plcollect.specs.Copies.{kept_of, AreCopies}
use Rattle.plcollect.proofs.Holding.{copies-filter, kept-filter}
use Rattle.plcollect.proofs.collection.Collection.drop_from.Goals as goal

pub trim-requires : goal.trim-requires
trim-requires c =
    let s = c.self.inside in
    subst (AreCopies s.nodes.items) (sym (c.deref.ensures.value ∙ c.leave_below.ensures)) (copies-filter (λ l. nat_lt l c.args.level) s.nodes.items s.held.items c.self.invariant)

pub returns : goal.returns
returns c =
    let s = c.self.inside in
    rw (← c.self.view_is)
    (ap (kept_of c.trim.new.nodes.items) (sym c.deref.ensures.value) ∙ c.trim.ensures.same ∙ ap (kept_of s.nodes.items) (c.deref.ensures.value ∙ c.leave_below.ensures)
    ∙ kept-filter (λ l. nat_lt l c.args.level) s.nodes.items s.held.items)
