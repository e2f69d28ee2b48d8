use Rattle.std.proofs.Common.{◌≡◌, ◌<◌, length, ap, sym, ◌∙◌, subst, w64, FitsSigned, rules}
use Rattle.std.proofs.lemmas.Int.{to_z-of_z}
use Rattle.std.proofs.lemmas.Result.{IfOk-weaker}
use Rattle.platoms.specs.Names.{Table, atom_at}
use Rattle.plcells.specs.Store.{Store}
use Rattle.plenv.specs.Env.{variable}
use Rattle.plenv.specs.Rows.{tree_at}
use Rattle.plarith.specs.declared.operand.Opened.TheVariants.{Known}
use Rattle.plarith.specs.Evaluation.{not_evaluable}
use Rattle.plarith.specs.Operands.{Opens}
use Rattle.plarith.specs.declared.operand.Operand.TheVariants as operands
use Rattle.plexpression.specs.Nodes.{IsOperand, tree}
use Rattle.plexpression.proofs.Clauses.{slot_within, variable_shown, opens_value, opens_int, named_within, opens_name, compound_there, opens_compound}
use Rattle.plexpression.proofs.clause.open_node.Goals as goal

pub slot_of-requires : goal.slot_of-requires
slot_of-requires c = slot_within c.args.env.now c.args.nodes.now c.args.base c.args.at c.in-Var.x c.requires c.in-Var.is

pub open_slot-requires : goal.open_slot-requires
open_slot-requires c = rw c.slot_of.ensures (slot_within c.args.env.now c.args.nodes.now c.args.base c.args.at c.in-Var.x c.requires c.in-Var.is)

pub atom_name-requires : goal.atom_name-requires
atom_name-requires c =
    let within = named_within c.args.env.now c.args.nodes.now c.args.base c.args.at c.in-Atom.a c.requires c.in-Atom.is in
    subst (λ (t : Table). c.in-Atom.a < length t.atoms) (sym (c.names.ensures ∙ ap (λ (h : Store). h.names) c.heap.ensures.is)) within

pub open_block-requires : goal.open_block-requires
open_block-requires c = record {
  compound = (tree_at c.args.env.now.heap.names c.args.nodes.now c.args.at, compound_there c.args.env.now c.args.nodes.now c.args.base c.args.at c.in-Sub.field-0 c.in-Sub.root c.requires c.in-Sub.is);
  few = c.requires.laid.few;
}

pub returns-in-Var : goal.returns-in-Var
returns-in-Var c =
    let e = c.args.env.now in
    let nodes = c.args.nodes.now in
    let base = c.args.base in
    let shown = ap (variable e) c.slot_of.ensures ∙ variable_shown e nodes base c.args.at c.in-Var.x c.requires c.in-Var.is in
    IfOk-weaker _ _ _ (λ o opens. subst (λ t. Opens (tree e nodes base) (IsOperand e nodes base) t o) shown (opens_value e nodes base _ o opens)) c.open_slot.ensures

pub returns-in-Int : goal.returns-in-Int
returns-in-Int c =
    let fits : FitsSigned w64 c.in-Int.i = search rules in
    rw (to_z-of_z w64 c.in-Int.i fits) (opens_int c.args.env.now c.args.nodes.now c.args.base c.args.at c.in-Int.i c.requires c.in-Int.is)

pub returns-in-Atom : goal.returns-in-Atom
returns-in-Atom c =
    let e = c.args.env.now in
    let nodes = c.args.nodes.now in
    let base = c.args.base in
    let a = c.in-Atom.a in
    let named : c.atom_name.result.now ≡ atom_at e.heap.names a = c.atom_name.ensures.is ∙ ap (λ (t : Table). atom_at t a) (c.names.ensures ∙ ap (λ (h : Store). h.names) c.heap.ensures.is) in
    let opens = opens_name e nodes base c.args.at a c.requires c.in-Atom.is in
    IfOk-weaker _ _ _ (λ o is. subst (Opens (tree e nodes base) (IsOperand e nodes base) (tree e nodes base (operands.Node c.args.at))) (sym (is ∙ ap (λ s. Known (not_evaluable s 0)) named)) opens) c.unknown.ensures

pub returns-in-Sub : goal.returns-in-Sub
returns-in-Sub c =
    let e = c.args.env.now in
    let nodes = c.args.nodes.now in
    let base = c.args.base in
    let compound = compound_there e nodes base c.args.at c.in-Sub.field-0 c.in-Sub.root c.requires c.in-Sub.is in
    let opens = opens_compound e nodes base c.args.at c.in-Sub.root c.requires compound in
    IfOk-weaker _ _ _ (λ o is. subst (Opens (tree e nodes base) (IsOperand e nodes base) (tree e nodes base (operands.Node c.args.at))) (sym is) opens) (c.open_block.ensures (tree_at e.heap.names nodes c.args.at) compound)
