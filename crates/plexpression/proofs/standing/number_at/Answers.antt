use Rattle.std.proofs.Common.{ap, ◌∙◌, ◌≡◌, subst, w64, FitsSigned, rules}
use Rattle.std.specs.Prelude.{IfSome}
use Rattle.std.proofs.lemmas.Int.{to_z-of_z}
use Rattle.plterm.specs.Tree.{int}
use Rattle.plsubst.specs.Subst.{bind}
use Rattle.plcode.specs.declared.node.Node.TheVariants as node
use Rattle.plenv.specs.Env.{over, variable}
use Rattle.plexpression.proofs.Clauses.{shows, slot_within, variable_shown}
use Rattle.plexpression.proofs.standing.number_at.Goals as goal

pub slot_of-requires : goal.slot_of-requires
slot_of-requires c = slot_within c.args.env.now c.args.nodes.now c.args.base c.args.at c.in-Var.x c.requires c.in-Var.is

pub number_in_slot-requires : goal.number_in_slot-requires
number_in_slot-requires c = rw c.slot_of.ensures (slot_within c.args.env.now c.args.nodes.now c.args.base c.args.at c.in-Var.x c.requires c.in-Var.is)

pub returns-in-Int : goal.returns-in-Int
unfolding bind
returns-in-Int c =
    let fits : FitsSigned w64 c.in-Int.i = search rules in
    let e = c.args.env.now in
    rw (to_z-of_z w64 c.in-Int.i fits) (ap (bind (over e c.args.base)) (shows e c.args.nodes.now c.args.base c.args.at (node.Int c.in-Int.i) c.requires c.in-Int.is))

pub returns-in-Var : goal.returns-in-Var
returns-in-Var c =
    let e = c.args.env.now in
    let shown = ap (variable e) c.slot_of.ensures ∙ variable_shown e c.args.nodes.now c.args.base c.args.at c.in-Var.x c.requires c.in-Var.is in
    subst (λ t. IfSome c.number_in_slot.result (λ i. t ≡ int i)) shown c.number_in_slot.ensures
