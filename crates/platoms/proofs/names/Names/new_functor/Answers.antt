use Rattle.std.proofs.Common.{◌∙◌, sym, ap}
use Rattle.platoms.specs.Evaluable.{operation_of}
use Rattle.platoms.specs.Names.{Table, atom_at}
use Rattle.platoms.proofs.Growing.{table-with_functor, lists-behind}
use Rattle.platoms.proofs.names.Names.new_functor.Goals as goal

pub invariant_of-self-in-Ok : goal.invariant_of-self-in-Ok
invariant_of-self-in-Ok c =
    let t : Table = record { atoms = c.self.inside.atoms; functors = c.self.inside.functors } in
    let k = c.args.functor in
    let is = c.self.invariant in
    let fits = rw (← c.self.view_is) at c.requires.fits in
    let new = rw (← c.self.view_is) at c.requires.new in
    let found = c.of-operation.ensures ∙ ap (λ n. operation_of n k.arity) (c.as_str.ensures ∙ c.atom_name-name.ensures.is ∙ ap (λ t. atom_at t k.name) (sym c.self.view_is)) in
    rw (c.in-Ok.ensures.push, c.in_ok-push.ensures.items) (table-with_functor t k is.0 fits new, lists-behind t c.self.inside.entries.items is.1 k c.of-operation.result found)

pub returns-in-Ok-clause-table : goal.returns-in-Ok-clause-table
returns-in-Ok-clause-table c = (invariant_of-self-in-Ok c).0
