use Rattle.std.proofs.Common.{◌≡◌, w64, to_z, of_z, Some, sym, ap, ◌∙◌, rules}
use Rattle.plcells.specs.Store.{value}
use Rattle.plbuiltin.specs.Pieces.{count_error}
use Rattle.pltexts.proofs.Errors.{count_below, count_natural, no_count}
use Rattle.pltexts.proofs.pieces.count_error.Goals as goal

pub returns-in-Variable : goal.returns-in-Variable
returns-in-Variable c = sym (ap count_error c.in-Variable.ensures)

pub returns-in_ok-outside_error-in-Integer : goal.returns-in_ok-outside_error-in-Integer
returns-in_ok-outside_error-in-Integer c =
    let i = c.in-Integer.count in
    let given : to_z w64 (of_z w64 i) ≡ i = search rules in
    ap Some c.in_ok-outside_error-in-Integer.ensures ∙ sym (count_below (value c.args.heap.now c.args.v) i c.in-Integer.ensures (rw given at c.if-count-lt0.true))

pub returns-in-Integer-2 : goal.returns-in-Integer-2
returns-in-Integer-2 c =
    let i = c.in-Integer.count in
    let given : to_z w64 (of_z w64 i) ≡ i = search rules in
    sym (count_natural (value c.args.heap.now c.args.v) i c.in-Integer.ensures (rw given at c.if-count-lt0.false))

pub returns-in_ok-type_error-in_default : goal.returns-in_ok-type_error-in_default
returns-in_ok-type_error-in_default c =
    let h = c.args.heap.now in
    ap Some c.in_ok-type_error-in_default.ensures ∙ sym (no_count h (value h c.args.v) c.shape_of.result c.shape_of.ensures c.in_default.not-Variable c.in_default.not-Integer)
