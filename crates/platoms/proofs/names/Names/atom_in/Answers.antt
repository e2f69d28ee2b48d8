use Rattle.platoms.specs.Names.{Table}
use Rattle.platoms.proofs.Growing.{table-with_atom, lists-with_atom}
use Rattle.platoms.proofs.names.Names.atom_in.Goals as goal

pub invariant_of-self-2 : goal.invariant_of-self-2
invariant_of-self-2 c =
    let t : Table = record { atoms = c.self.inside.atoms; functors = c.self.inside.functors } in
    let is = c.self.invariant in
    rw c.in_ok-a.ensures.put (table-with_atom t c.args.name is.0 c.requires.name, lists-with_atom t c.self.inside.entries.items is.1 c.args.name is.0)

pub returns-clause-table : goal.returns-clause-table
returns-clause-table c = (invariant_of-self-2 c).0
