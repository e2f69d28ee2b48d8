use Rattle.std.proofs.Common.{ap}
use Rattle.platoms.specs.Names.{functor_name, functor_arity}
use Rattle.plorder.proofs.Judging.{functor_order-same}
use Rattle.plorder.proofs.compare.compare_functors.Goals as goal

pub returns-then-f-g : goal.returns-then-f-g
returns-then-f-g c =
    let t = c.args.names.now in
    let f = c.args.f in
    let g = c.args.g in
    functor_order-same (functor_name t f) (functor_name t g) (functor_arity t f) (functor_arity t g) (ap (functor_name t) c.if-f-g.true) (ap (functor_arity t) c.if-f-g.true)
