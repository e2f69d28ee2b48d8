use Rattle.std.proofs.Common.{arith, refl}
use Rattle.plcells.specs.Store.{value}
use Rattle.plorder.proofs.Looking.{variable-not, looked-leaf, looked-block, shape-ground}
use Rattle.plorder.proofs.variables.look.Goals as goal

pub returns-in-Variable : goal.returns-in-Variable
returns-in-Variable c = variable-not (value c.args.heap.now c.args.v) c.in-Variable.field-0 c.in-Variable.ensures

pub returns-in_ok-push-in-Compound : goal.returns-in_ok-push-in-Compound
returns-in_ok-push-in-Compound c =
    let is = c.in-Compound.ensures in
    looked-block c.args.heap.now c.args.work.now.items c.push.new.self.items (value c.args.heap.now c.args.v) c.in-Compound.block _ is.0 is.1 is.2 (omega arith) refl c.in_ok-push-in-Compound.ensures.items

pub returns-in_default : goal.returns-in_default
returns-in_default c =
    looked-leaf c.args.heap.now c.args.work.now.items (value c.args.heap.now c.args.v)
    (shape-ground c.args.heap.now (value c.args.heap.now c.args.v) c.shape_of.result c.shape_of.ensures c.in_default.not-Variable c.in_default.not-Compound)
