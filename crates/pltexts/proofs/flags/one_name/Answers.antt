use Rattle.std.proofs.Common.{◌≡◌, ◌∷◌, [], Ok, Err, sym, ap, ◌∙◌, rules}
use Rattle.platoms.specs.Names.{atom_at}
use Rattle.plterm.specs.Tree.{atom}
use Rattle.plcells.specs.Store.{value}
use Rattle.plbuiltin.specs.Flags.{one_name}
use Rattle.pltexts.proofs.Named.{no_one}
use Rattle.pltexts.proofs.flags.one_name.Goals as goal

pub returns-in_default : goal.returns-in_default
returns-in_default c =
    let h = c.args.heap.now in
    ap Err c.in_ok-type_error.ensures ∙ sym (no_one h (value h c.args.v) c.shape_of.result c.shape_of.ensures c.in_default.not-Atom)

pub returns : goal.returns
returns c =
    let h = c.args.heap.now in
    let name = atom_at h.names c.in-Atom.name in
    let atomic : value h c.args.v ≡ atom name = search rules in
    let copied : c.in_ok-name.name ≡ name = search rules in
    ap Ok (c.in_ok-vec.ensures.items ∙ ap (λ n. n ∷ []) copied) ∙ sym (ap one_name atomic)
