use Rattle.std.proofs.Common.{◌+◌, ◌<◌, length, ap, subst, sym, arith, rules}
use Rattle.std.proofs.lemmas.Int.{to_z-of_z}
use Rattle.std.specs.Int.{w64}
use mir.Val.{to_z, of_z, SFits}
use Rattle.std.proofs.lemmas.Result.{IfOk-weaker, on_err_weaker}
use Rattle.plterm.specs.Tree.{int}
use Rattle.plterm.specs.Variables.{AllBelow}
use Rattle.plsubst.specs.Subst.{bind}
use Rattle.plcells.specs.declared.cell.Cell.TheVariants.{Atom as AtomCell}
use Rattle.plcells.specs.Store.{Store, AddsValue}
use Rattle.plcode.specs.declared.node.Node.TheVariants.{Var, Int, Atom, Sub}
use Rattle.plcode.specs.Nodes.{IsNamed}
use Rattle.plenv.specs.Env.{Env, variable, over, Covers}
use Rattle.plenv.specs.Changes.{Puts, Stays}
use Rattle.plenv.specs.Blocks.{block_at}
use Rattle.plenv.proofs.Keeping.{over_heap}
use Rattle.plenv.proofs.Nodes.{named-at}
use Rattle.plenv.proofs.Putting.{Stays-refl, Puts-there, puts-value}
use Rattle.plenv.proofs.Rows.{tree-is}
use Rattle.plenv.proofs.env.Environment.put_at.Goals as goal

pub put_slot-requires : goal.put_slot-requires
put_slot-requires c =
    let now : Env = c.args.self.now in
    let t = tree-is now.heap.names c.args.nodes.now c.args.at (Var c.in-Var.s) c.requires.laid c.requires.within c.in-Var.is in
    let low : c.in-Var.s < c.requires.covers.width = subst (AllBelow c.requires.covers.width) t c.requires.covers.below in
    let room = c.requires.covers.within in
    record { within = omega (arith, low, room) }

pub put_compound-requires-clause-covers : goal.put_compound-requires-clause-covers
put_compound-requires-clause-covers c =
    let now : Env = c.args.self.now in
    subst (Covers now c.args.base) (tree-is now.heap.names c.args.nodes.now c.args.at (Sub c.in-Sub.from c.in-Sub.root) c.requires.laid c.requires.within c.in-Sub.is) c.requires.covers

pub returns-in-Var-clause-ok : goal.returns-in-Var-clause-ok
unfolding bind
returns-in-Var-clause-ok c =
    let now : Env = c.args.self.now in
    let new : Env = c.put_slot.new.self in
    let t = ap (bind (over now c.args.base)) (tree-is now.heap.names c.args.nodes.now c.args.at (Var c.in-Var.s) c.requires.laid c.requires.within c.in-Var.is) in
    IfOk-weaker c.put_slot.result (λ v. Puts now new v (variable now (c.args.base + c.in-Var.s))) _
    (λ v p. subst (Puts now new v) (sym t) p) c.put_slot.ensures.variable

pub returns-in-Int-clause-ok : goal.returns-in-Int-clause-ok
unfolding bind
returns-in-Int-clause-ok c =
    let laid = rw (← c.self.view_is) at c.requires.laid in
    rw (← c.self.view_is) (
    let s = c.self.inside in
    let e : Env = record { heap = s.heap; slots = s.slots.items; noted = s.noted.items; boundary = s.boundary; count = s.count } in
    let h : Store = c.integer.new.self in
    let t = ap (bind (over e c.args.base)) (tree-is s.heap.names c.args.nodes.now c.args.at (Int c.in-Int.number) laid c.requires.within c.in-Int.is) in
    let fits : SFits w64 c.in-Int.number = search rules in
    let same = to_z-of_z w64 c.in-Int.number fits in
    IfOk-weaker c.integer.result (λ v. AddsValue s.heap h v (int (to_z w64 (of_z w64 c.in-Int.number)))) _
    (λ v p. subst (Puts e (over_heap e h e.count) v) (sym t) (puts-value e h v (int c.in-Int.number) c.self.invariant (subst (λ i. AddsValue s.heap h v (int i)) same p))) c.integer.ensures.ok)

pub returns-in-Int-clause-err : goal.returns-in-Int-clause-err
returns-in-Int-clause-err c = rw (← c.self.view_is) (
    let s = c.self.inside in
    let e : Env = record { heap = s.heap; slots = s.slots.items; noted = s.noted.items; boundary = s.boundary; count = s.count } in
    on_err_weaker c.integer.result (λ same. subst (λ h. Stays e (over_heap e h e.count)) (sym same) (Stays-refl e)) c.integer.ensures.err)

pub returns-in-Atom-clause-ok : goal.returns-in-Atom-clause-ok
unfolding bind
returns-in-Atom-clause-ok c =
    let now : Env = c.args.self.now in
    let nodes = c.args.nodes.now in
    let t = ap (bind (over now c.args.base)) (tree-is now.heap.names nodes c.args.at (Atom c.in-Atom.a) c.requires.laid c.requires.within c.in-Atom.is) in
    let named = named-at now.heap.names nodes c.args.at c.requires.laid.sound.named c.requires.within in
    let there : c.in-Atom.a < length now.heap.names.atoms = subst (IsNamed now.heap.names) c.in-Atom.is named in
    subst (Puts now now (AtomCell c.in-Atom.a)) (sym t) (Puts-there now (AtomCell c.in-Atom.a) there)

pub returns-in-Sub-clause-ok : goal.returns-in-Sub-clause-ok
returns-in-Sub-clause-ok c =
    let now : Env = c.args.self.now in
    let new : Env = c.put_compound.new.self in
    let t = ap (bind (over now c.args.base)) (tree-is now.heap.names c.args.nodes.now c.args.at (Sub c.in-Sub.from c.in-Sub.root) c.requires.laid c.requires.within c.in-Sub.is) in
    IfOk-weaker c.put_compound.result (λ v. Puts now new v (bind (over now c.args.base) (block_at now.heap.names c.args.nodes.now c.in-Sub.root))) _
    (λ v p. subst (Puts now new v) (sym t) p) c.put_compound.ensures.ok
