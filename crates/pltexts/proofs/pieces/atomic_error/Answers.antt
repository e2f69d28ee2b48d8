use Rattle.std.proofs.Common.{Some, sym, ap, ◌∙◌, subst}
use Rattle.plcells.specs.Store.{value}
use Rattle.plorder.specs.Shapes.{IsOfShape}
use Rattle.pltexts.proofs.Errors.{atomic, not_atomic}
use Rattle.pltexts.proofs.pieces.atomic_error.Goals as goal

pub returns-in_ok-type_error-in-Compound : goal.returns-in_ok-type_error-in-Compound
returns-in_ok-type_error-in-Compound c =
    let h = c.args.heap.now in
    let t = value h c.args.v in
    ap Some c.in_ok-type_error-in-Compound.ensures ∙ sym (not_atomic h t c.in-Compound.field-0 (subst (IsOfShape h t) c.in-Compound.is c.shape_of.ensures))

pub returns-in_default : goal.returns-in_default
returns-in_default c = let h = c.args.heap.now in sym (atomic h (value h c.args.v) c.shape_of.result c.shape_of.ensures c.in_default.not-Compound)
