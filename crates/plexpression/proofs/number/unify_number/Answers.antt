use Rattle.std.proofs.Common.{◌≡◌, ◌∙◌, true, false, None, ap, subst, inl, inr, rules, w64, FitsSigned}
use Rattle.std.proofs.lemmas.Int.{to_z-of_z}
use Rattle.std.specs.Prelude.{IfOk}
use Rattle.plsubst.specs.Subst.{bind}
use Rattle.plsubst.specs.Unify.{unify}
use Rattle.plcells.specs.Store.{value}
use Rattle.plenv.specs.Env.{over, variable}
use Rattle.plenv.specs.Changes.{Unifies}
use Rattle.plenv.specs.Rows.{tree_at}
use Rattle.plenv.proofs.Putting.{Stays-refl}
use Rattle.plexpression.proofs.Clauses.{slot_within, variable_shown}
use Rattle.plexpression.proofs.Numbers.{atom-apart, compound-apart, integers-apart, integers-same, number-own, off-heap}
use Rattle.plexpression.proofs.number.unify_number.Goals as goal

pub slot_of-slot-requires : goal.slot_of-slot-requires
slot_of-slot-requires c = slot_within c.args.env.now c.args.nodes.now c.args.base c.args.at c.in-Var.x c.requires.node c.in-Var.is

pub meet_slot-requires-clause-within : goal.meet_slot-requires-clause-within
meet_slot-requires-clause-within c = rw c.slot_of-slot.ensures (slot_within c.args.env.now c.args.nodes.now c.args.base c.args.at c.in-Var.x c.requires.node c.in-Var.is)

pub returns-in-Var-clause-yes : goal.returns-in-Var-clause-yes
returns-in-Var-clause-yes c =
    let e = c.args.env.now in
    let shown = ap (variable e) c.slot_of-slot.ensures ∙ variable_shown e c.args.nodes.now c.args.base c.args.at c.in-Var.x c.requires.node c.in-Var.is in
    subst (λ t. IfOk c.meet_slot.result (λ fits. fits ≡ true → Unifies e c.meet_slot.new.env t (value e.heap c.args.v))) shown c.meet_slot.ensures.yes

pub returns-in-Var-clause-no : goal.returns-in-Var-clause-no
returns-in-Var-clause-no c =
    let e = c.args.env.now in
    let shown = ap (variable e) c.slot_of-slot.ensures ∙ variable_shown e c.args.nodes.now c.args.base c.args.at c.in-Var.x c.requires.node c.in-Var.is in
    subst (λ t. IfOk c.meet_slot.result (λ fits. fits ≡ false → unify t (value e.heap c.args.v) ≡ None)) shown c.meet_slot.ensures.no

pub returns-in-Var-clause-heap : goal.returns-in-Var-clause-heap
returns-in-Var-clause-heap c = off-heap c.args.env.now c.args.nodes.now c.args.base c.args.at c.requires.node c.meet_slot.new.env c.in-Var.x c.slot_of-slot.result c.in-Var.is c.slot_of-slot.ensures c.meet_slot.ensures.free c.meet_slot.ensures.other

pub returns-in-Int-clause-yes : goal.returns-in-Int-clause-yes
returns-in-Int-clause-yes c =
    let e = c.args.env.now in
    let fits : FitsSigned w64 c.in-Int.number = search rules in
    let test = rw (to_z-of_z w64 c.in-Int.number fits, c.heap.ensures.is) at c.is_number.ensures in
    let own = number-own e c.args.nodes.now c.args.base c.args.at c.requires.node c.in-Int.number c.in-Int.is in
    integers-same e (bind (over e c.args.base) (tree_at e.heap.names c.args.nodes.now c.args.at)) (value e.heap c.args.v) c.in-Int.number c.is_number.result own test

pub returns-in-Int-clause-no : goal.returns-in-Int-clause-no
returns-in-Int-clause-no c =
    let e = c.args.env.now in
    let fits : FitsSigned w64 c.in-Int.number = search rules in
    let test = rw (to_z-of_z w64 c.in-Int.number fits, c.heap.ensures.is) at c.is_number.ensures in
    let own = number-own e c.args.nodes.now c.args.base c.args.at c.requires.node c.in-Int.number c.in-Int.is in
    integers-apart (bind (over e c.args.base) (tree_at e.heap.names c.args.nodes.now c.args.at)) (value e.heap c.args.v) c.in-Int.number c.requires.number.0 c.is_number.result own c.requires.number.1 test

pub returns-in-Int-clause-same : goal.returns-in-Int-clause-same
returns-in-Int-clause-same c = λ none. Stays-refl c.args.env.now

pub returns-in-Atom-clause-no : goal.returns-in-Atom-clause-no
returns-in-Atom-clause-no c = λ none.
    let e = c.args.env.now in
    elim c.in-Atom.is [
      | inl a ↦ atom-apart e c.args.nodes.now c.args.base c.args.at c.requires.node a.0 a.1 (value e.heap c.args.v) c.requires.number.0 c.requires.number.1
      | inr s ↦ compound-apart e c.args.nodes.now c.args.base c.args.at c.requires.node s.0 s.1 s.2 (value e.heap c.args.v) c.requires.number.0 c.requires.number.1
    ]

pub returns-in-Atom-clause-same : goal.returns-in-Atom-clause-same
returns-in-Atom-clause-same c = λ none. Stays-refl c.args.env.now
