use Rattle.std.proofs.Common.{◌≡◌, ◌<◌, ◌∙◌, ap, sym, subst, refl, arith}
use Rattle.plterm.specs.Tree.{Tree, var}
use Rattle.plterm.specs.Variables.{AllBelow}
use Rattle.plsubst.specs.Subst.{bind}
use Rattle.plcells.specs.Store.{value}
use Rattle.plcode.specs.declared.node.Node.TheVariants as node
use Rattle.plenv.specs.Env.{over, slot_term, variable}
use Rattle.plenv.specs.Changes.{Unifies}
use Rattle.plenv.specs.Rows.{tree_at}
use Rattle.plhead.proofs.Slots.{keeps-refl}
use Rattle.plhead.proofs.Trees.{tree-at}
use Rattle.plhead.proofs.head.takes.Goals as goal

pub returns-in_default : goal.returns-in_default
returns-in_default c = record { yes = λ q. absurd (cc); no = λ q. refl; keeps = keeps-refl c.args.env.now }

pub slot_of-slot-requires : goal.slot_of-slot-requires
slot_of-slot-requires c =
    let t = c.args.env.now.heap.names in
    let nodes = c.args.nodes.now in
    let is : tree_at t nodes c.args.at ≡ var c.in-Var.x = tree-at t nodes c.requires.sound c.args.at (node.Var c.in-Var.x) c.requires.is.within c.in-Var.is in
    let below : c.in-Var.x < c.requires.is.covers.width = subst (AllBelow c.requires.is.covers.width) is c.requires.is.covers.below in
    omega (arith, below, c.requires.is.covers.within)

pub slot-requires : goal.slot-requires
slot-requires c =
    let t = c.args.env.now.heap.names in
    let nodes = c.args.nodes.now in
    let is : tree_at t nodes c.args.at ≡ var c.in-Var.x = tree-at t nodes c.requires.sound c.args.at (node.Var c.in-Var.x) c.requires.is.within c.in-Var.is in
    let below : c.in-Var.x < c.requires.is.covers.width = subst (AllBelow c.requires.is.covers.width) is c.requires.is.covers.below in
    omega (arith, below, c.requires.is.covers.within, c.slot_of-slot.ensures)

pub returns-in_default-slot-clause-keeps : goal.returns-in_default-slot-clause-keeps
returns-in_default-slot-clause-keeps c = keeps-refl c.args.env.now

pub returns-then-is_younger-clause-keeps : goal.returns-then-is_younger-clause-keeps
returns-then-is_younger-clause-keeps c = keeps-refl c.args.env.now

pub take-requires-clause-within : goal.take-requires-clause-within
take-requires-clause-within c =
    let t = c.args.env.now.heap.names in
    let nodes = c.args.nodes.now in
    let is : tree_at t nodes c.args.at ≡ var c.in-Var.x = tree-at t nodes c.requires.sound c.args.at (node.Var c.in-Var.x) c.requires.is.within c.in-Var.is in
    let below : c.in-Var.x < c.requires.is.covers.width = subst (AllBelow c.requires.is.covers.width) is c.requires.is.covers.below in
    omega (arith, below, c.requires.is.covers.within, c.slot_of-slot.ensures)

pub returns-clause-yes : goal.returns-clause-yes
unfolding bind
returns-clause-yes c = λ q.
    let e = c.args.env.now in
    let nodes = c.args.nodes.now in
    let w = tree_at e.heap.names nodes in
    let is : w c.args.at ≡ var c.in-Var.x = tree-at e.heap.names nodes c.requires.sound c.args.at (node.Var c.in-Var.x) c.requires.is.within c.in-Var.is in
    let same : variable e c.slot_of-slot.result ≡ bind (over e c.args.base) (w c.args.at) = ap (variable e) c.slot_of-slot.ensures ∙ sym (ap (bind (over e c.args.base)) is) in
    let free : variable e c.slot_of-slot.result ≡ var c.in-Free.number = ap (slot_term e.heap) (sym c.slot.ensures.is ∙ c.in-Free.is) in
    subst (λ (s : Tree). Unifies e c.take.new.env s (value e.heap c.args.v)) (sym free ∙ same) c.in_ok-take.ensures.ok
