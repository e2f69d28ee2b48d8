use Rattle.std.proofs.Common.{◌≡◌, ◌<◌, ◌∙◌, ap, sym, subst, arith, None}
use Rattle.plterm.specs.Tree.{Tree, var}
use Rattle.plterm.specs.Variables.{AllBelow}
use Rattle.plsubst.specs.Subst.{bind}
use Rattle.plsubst.specs.Unify.{unify}
use Rattle.plcells.specs.Store.{value}
use Rattle.plcode.specs.declared.node.Node.TheVariants as node
use Rattle.plenv.specs.Env.{over, variable}
use Rattle.plenv.specs.Changes.{Unifies}
use Rattle.plenv.specs.Rows.{tree_at}
use Rattle.plhead.specs.Fitting.{Comes}
use Rattle.plhead.proofs.Trees.{tree-at}
use Rattle.plhead.proofs.Verdicts.{comes-said}
use Rattle.plhead.proofs.head.meet.Goals as goal

pub slot_of-slot-requires : goal.slot_of-slot-requires
slot_of-slot-requires c =
    let t = c.args.env.now.heap.names in
    let nodes = c.args.nodes.now in
    let is : tree_at t nodes c.args.at ≡ var c.in-Var.x = tree-at t nodes c.requires.sound c.args.at (node.Var c.in-Var.x) c.requires.within c.in-Var.is in
    let below : c.in-Var.x < c.requires.covers.width = subst (AllBelow c.requires.covers.width) is c.requires.covers.below in
    omega (arith, below, c.requires.covers.within)

pub meet_slot-requires-clause-within : goal.meet_slot-requires-clause-within
meet_slot-requires-clause-within c =
    let t = c.args.env.now.heap.names in
    let nodes = c.args.nodes.now in
    let is : tree_at t nodes c.args.at ≡ var c.in-Var.x = tree-at t nodes c.requires.sound c.args.at (node.Var c.in-Var.x) c.requires.within c.in-Var.is in
    let below : c.in-Var.x < c.requires.covers.width = subst (AllBelow c.requires.covers.width) is c.requires.covers.below in
    omega (arith, below, c.requires.covers.within, c.slot_of-slot.ensures)

pub returns-in-Var-clause-comes : goal.returns-in-Var-clause-comes
unfolding bind
returns-in-Var-clause-comes c =
    let e = c.args.env.now in
    let new = c.meet_slot.new.env in
    let nodes = c.args.nodes.now in
    let w = tree_at e.heap.names nodes in
    let v = value e.heap c.args.v in
    let is : w c.args.at ≡ var c.in-Var.x = tree-at e.heap.names nodes c.requires.sound c.args.at (node.Var c.in-Var.x) c.requires.within c.in-Var.is in
    let same : variable e c.slot_of-slot.result ≡ bind (over e c.args.base) (w c.args.at) = ap (variable e) c.slot_of-slot.ensures ∙ sym (ap (bind (over e c.args.base)) is) in
    subst (Comes e new nodes w (w c.args.at) (bind (over e c.args.base) (w c.args.at)) v) (sym c.verdict_of.ensures)
    (comes-said e new nodes w (w c.args.at) (bind (over e c.args.base) (w c.args.at)) v c.in_ok-meet_slot.field-0
    (λ q. subst (λ (s : Tree). Unifies e new s v) same (c.in_ok-meet_slot.ensures.yes q))
    (λ q. subst (λ (s : Tree). unify s v ≡ None) same (c.in_ok-meet_slot.ensures.no q)))
