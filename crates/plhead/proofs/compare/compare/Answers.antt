use Rattle.std.proofs.Common.{◌≡◌, ◌↔◌, IsTrue, ap, rules, sym, subst}
use Rattle.std.proofs.lemmas.Int.{to_z-of_z}
use Rattle.std.specs.Int.{w64}
use mir.Val.{SFits}
use Rattle.plterm.specs.Tree.{Tree, int}
use Rattle.plcells.specs.Store.{value}
use Rattle.plcode.specs.Nodes.{IsNamed}
use Rattle.plcode.specs.declared.node.Node.TheVariants as node
use Rattle.plenv.specs.Rows.{tree_at}
use Rattle.plhead.specs.Fitting.{IsVerdict}
use Rattle.plhead.proofs.Trees.{compound-at, named-at, tree-at}
use Rattle.plhead.proofs.Clashes.{compound-clash}
use Rattle.plhead.proofs.Verdicts.{atom-says, int-says}
use Rattle.plhead.proofs.compare.compare.Goals as goal

pub compare_blocks-requires-clause-node : goal.compare_blocks-requires-clause-node
compare_blocks-requires-clause-node c =
    let h = c.args.heap.now in
    let nodes = c.args.nodes.now in
    (tree_at h.names nodes c.args.at, compound-at h.names nodes c.requires.laid.sound c.requires.packed c.args.at c.in-Sub.field-0 c.in-Sub.root c.requires.within c.in-Sub.is)

pub returns-in-Atom : goal.returns-in-Atom
returns-in-Atom c =
    let h = c.args.heap.now in
    let nodes = c.args.nodes.now in
    let sound = c.requires.laid.sound in
    let named = subst (IsNamed h.names) c.in-Atom.is (named-at h.names nodes sound c.args.at c.requires.within) in
    subst (IsVerdict h nodes (tree_at h.names nodes) (tree_at h.names nodes c.args.at) (value h c.args.v)) (sym c.verdict_of.ensures)
    (atom-says h c.requires.heap nodes (tree_at h.names nodes) c.args.v c.requires.value c.requires.solid c.in-Atom.a (tree_at h.names nodes c.args.at)
    (tree-at h.names nodes sound c.args.at (node.Atom c.in-Atom.a) c.requires.within c.in-Atom.is) named c.is_atom.result c.is_atom.ensures)

pub returns-in-Int : goal.returns-in-Int
returns-in-Int c =
    let h = c.args.heap.now in
    let nodes = c.args.nodes.now in
    let sound = c.requires.laid.sound in
    let fits : SFits w64 c.in-Int.i = search rules in
    let test = subst (λ i. IsTrue c.is_number.result ↔ (value h c.args.v ≡ int i)) (to_z-of_z w64 c.in-Int.i fits) c.is_number.ensures in
    subst (IsVerdict h nodes (tree_at h.names nodes) (tree_at h.names nodes c.args.at) (value h c.args.v)) (sym c.verdict_of-in-Int.ensures)
    (int-says h c.requires.heap nodes (tree_at h.names nodes) c.args.v c.requires.value c.requires.solid c.in-Int.i (tree_at h.names nodes c.args.at)
    (tree-at h.names nodes sound c.args.at (node.Int c.in-Int.i) c.requires.within c.in-Int.is) c.is_number.result test)

pub returns-in-Str : goal.returns-in-Str
returns-in-Str c =
    let h = c.args.heap.now in
    let nodes = c.args.nodes.now in
    let at = compound-at h.names nodes c.requires.laid.sound c.requires.packed c.args.at c.in-Sub.field-0 c.in-Sub.root c.requires.within c.in-Sub.is in
    let says = c.compare_blocks.ensures (tree_at h.names nodes c.args.at) at in
    subst (λ (t : Tree). IsVerdict h nodes (tree_at h.names nodes) (tree_at h.names nodes c.args.at) t c.compare_blocks.result) (ap (value h) (sym c.in-Str.is)) says

pub returns-in_default : goal.returns-in_default
unfolding IsVerdict
returns-in_default c =
    let h = c.args.heap.now in
    let nodes = c.args.nodes.now in
    let at = compound-at h.names nodes c.requires.laid.sound c.requires.packed c.args.at c.in-Sub.field-0 c.in-Sub.root c.requires.within c.in-Sub.is in
    compound-clash h c.requires.heap nodes c.in-Sub.root (tree_at h.names nodes c.args.at) at c.args.v c.requires.value c.requires.solid (λ p e. c.in_default.not-Str p e)
