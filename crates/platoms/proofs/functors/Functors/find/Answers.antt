use Rattle.std.proofs.Common.{Some}
use Rattle.platoms.specs.Names.{no_functor, same_functor}
use Rattle.platoms.proofs.Layers.{found, stands-behind}
use Rattle.platoms.proofs.Tables.{same_functor-Decides}
use Rattle.platoms.proofs.functors.Functors.find.Goals as goal

pub returns-clause-some : goal.returns-clause-some
returns-clause-some c =
    let own = c.self.inside.own.keys in
    let place = c.in_ok-place.place in
    let at = found same_functor same_functor-Decides no_functor own c.args.functor (Some place) c.in_ok-place.ensures.index in
    stands-behind same_functor same_functor-Decides no_functor c.self.inside.base own c.args.self.now c.self.inside.below c.args.functor place c.self.view_is c.self.invariant.0 at.0 at.1
