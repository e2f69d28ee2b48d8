use Rattle.std.proofs.Common.{ap}
use Rattle.platoms.specs.Names.{atom_at}
use Rattle.plorder.proofs.Judging.{name_order-same}
use Rattle.plorder.proofs.compare.compare_names.Goals as goal

pub returns-then-a-b : goal.returns-then-a-b
returns-then-a-b c = let t = c.args.names.now in name_order-same (atom_at t c.args.a) (atom_at t c.args.b) (ap (atom_at t) c.if-a-b.true)
