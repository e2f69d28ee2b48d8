use Rattle.std.proofs.Common.{ap, sym, ◌∙◌, subst, w64}
use Rattle.std.proofs.lemmas.Int.{to_z-of_z}
use Rattle.std.proofs.lemmas.Result.{IfOk-weaker}
use Rattle.plterm.specs.Tree.{atom}
use Rattle.platoms.specs.Names.{atom_at}
use Rattle.plcells.specs.Store.{value}
use Rattle.plarith.specs.Operands.{Opens}
use Rattle.plarith.specs.Values.{IsOperand, tree}
use Rattle.plarith.proofs.Opening.{opens_unbound, opens_integer, opens_atom}
use Rattle.plarith.proofs.value.open_value.Goals as goal

pub returns-in-Ref : goal.returns-in-Ref
returns-in-Ref c =
    let h = c.args.heap.now in
    opens_unbound (tree h) (IsOperand h) (value h c.args.v) c.number-number.result (sym c.root.ensures.same ∙ ap (value h) c.in-Ref.is ∙ c.number-number.ensures.is)

pub returns-in-Atom : goal.returns-in-Atom
returns-in-Atom c =
    let h = c.args.heap.now in
    let name = c.atom_name.result.now in
    let named = c.atom_name.ensures.is ∙ ap (λ t. atom_at t c.in-Atom.a) c.names.ensures in
    let is = sym c.root.ensures.same ∙ ap (value h) c.in-Atom.is ∙ ap atom (sym named) in
    IfOk-weaker _ _ _ (λ o e. subst (Opens (tree h) (IsOperand h) (value h c.args.v)) (sym e) (opens_atom (tree h) (IsOperand h) (value h c.args.v) name is)) c.unknown.ensures

pub returns-in_default : goal.returns-in_default
returns-in_default c =
    let h = c.args.heap.now in
    rw (to_z-of_z w64 c.integer_of.result (record { sfits = c.integer_of.type_inv })) (opens_integer (tree h) (IsOperand h) (value h c.args.v) c.integer_of.result (sym c.root.ensures.same ∙ c.integer_of.ensures))
