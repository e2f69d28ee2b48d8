use Rattle.std.proofs.Common.{◌≡◌, [], take}
use Rattle.platoms.specs.Names.{same_functor}
use Rattle.indexmap.specs.IndexSet.{insert_all}
use Rattle.platoms.proofs.functors.copied_functors.Given as goal

abbrev pub invariant-loop-functor : goal.invariant-loop-functor
invariant-loop-functor l = l.copy.keys ≡ insert_all same_functor [] (take l.functor-index l.functors.keys)
