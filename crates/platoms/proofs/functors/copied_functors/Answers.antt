use Rattle.std.proofs.Common.{◌∙◌, ap, get_or, length, arith}
use Rattle.platoms.specs.Names.{same_functor}
use Rattle.platoms.proofs.Tables.{same_functor-Decides}
use Rattle.platoms.proofs.Copying.{put_more, put_all}
use Rattle.platoms.proofs.functors.copied_functors.Goals as goal

pub loop-functor-preserved : goal.loop-functor-preserved
loop-functor-preserved c =
    let i = c.loop-functor.functor-index in
    let xs = c.args.functors.now.keys in
    let items = c.as_slice-functor-items.ensures.keys in
    let functor = ap (λ zs. get_or zs i (record { name = 0; arity = 0 })) items in
    c.in_ok-insert.ensures.keys ∙ put_more same_functor same_functor-Decides xs c.loop-functor.copy.keys i (record { name = 0; arity = 0 }) _ (omega (arith, ap length items)) functor c.loop-functor.invariant

pub returns : goal.returns
returns c =
    let items = c.as_slice-functor-items.ensures in
    put_all same_functor same_functor-Decides c.args.functors.now.keys c.loop-functor.copy.keys c.loop-functor.functor-index (omega (arith, ap length items.keys)) items.unique c.loop-functor.invariant
