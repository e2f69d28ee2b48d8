use Rattle.std.proofs.Common.{◌∙◌, ap, ap₂, subst, sym, rules}
use Rattle.std.proofs.lemmas.Int.{to_z-of_z}
use Rattle.std.specs.Int.{w64}
use Rattle.std.specs.Ordering.{int_cmp}
use mir.Val.{SFits}
use Rattle.plterm.specs.Order.{name_order, order}
use Rattle.platoms.specs.Names.{atom_at}
use Rattle.plcells.specs.Store.{value}
use Rattle.plorder.specs.Runs.{IsComparison}
use Rattle.plorder.proofs.Judging.{PairSays, pair-says, atoms-order}
use Rattle.plorder.proofs.compare.judge.Goals as goal

pub returns-in-Variables : goal.returns-in-Variables
unfolding IsComparison PairSays order
returns-in-Variables c =
    let h = c.args.heap.now in
    let said = subst (PairSays h (value h c.args.a) (value h c.args.b)) (sym c.in-Variables.ensures) (pair-says h (value h c.args.a) (value h c.args.b) c.shape_of.result c.shape_of-2.result c.shape_of.ensures c.shape_of-2.ensures) in
    c.cmp.ensures ∙ sym (ap₂ order said.0 said.1)

pub returns-in-Integers : goal.returns-in-Integers
unfolding IsComparison PairSays order
returns-in-Integers c =
    let h = c.args.heap.now in
    let said = subst (PairSays h (value h c.args.a) (value h c.args.b)) (sym c.in-Integers.ensures) (pair-says h (value h c.args.a) (value h c.args.b) c.shape_of.result c.shape_of-2.result c.shape_of.ensures c.shape_of-2.ensures) in
    let f : SFits w64 c.in-Integers.i = search rules in
    let g : SFits w64 c.in-Integers.j = search rules in
    c.cmp-in-Integers.ensures ∙ ap₂ int_cmp (to_z-of_z w64 c.in-Integers.i f) (to_z-of_z w64 c.in-Integers.j g) ∙ sym (ap₂ order said.0 said.1)

pub returns-in-Atoms : goal.returns-in-Atoms
unfolding IsComparison PairSays
returns-in-Atoms c =
    let h = c.args.heap.now in
    let said = subst (PairSays h (value h c.args.a) (value h c.args.b)) (sym c.in-Atoms.ensures) (pair-says h (value h c.args.a) (value h c.args.b) c.shape_of.result c.shape_of-2.result c.shape_of.ensures c.shape_of-2.ensures) in
    atoms-order h (value h c.args.a) (value h c.args.b) c.in-Atoms.f c.in-Atoms.g c.compare_names.result said
    (c.compare_names.ensures ∙ ap (λ t. name_order (atom_at t c.in-Atoms.f) (atom_at t c.in-Atoms.g)) c.names.ensures)

pub returns-in-Apart : goal.returns-in-Apart
unfolding IsComparison PairSays
returns-in-Apart c =
    let h = c.args.heap.now in
    subst (PairSays h (value h c.args.a) (value h c.args.b)) (sym c.in-Apart.ensures) (pair-says h (value h c.args.a) (value h c.args.b) c.shape_of.result c.shape_of-2.result c.shape_of.ensures c.shape_of-2.ensures)
