use Rattle.std.proofs.Common.{◌∙◌, ap₂, map}
use Rattle.std.proofs.lemmas.Result.{IfOk-weaker}
use Rattle.plterm.specs.Tree.{compound, trees}
use Rattle.plcells.specs.Store.{value}
use Rattle.plcells.specs.Putting.{PutsTerm}
use Rattle.plcells.proofs.Putting.{adds-both, adds-renamed, adds-value, values-stay}
use Rattle.plgoals.proofs.Joining.{values-same}
use Rattle.plenv.proofs.named.compound_on.Goals as goal

pub compound-requires-clause-values : goal.compound-requires-clause-values
compound-requires-clause-values c = values-stay c.args.heap.now c.functor_named.new.self c.args.values.now c.in_ok-f.ensures.preserves c.requires.values

pub returns-clause-ok : goal.returns-clause-ok
returns-clause-ok c =
    let old = c.args.heap.now in
    let mid = c.functor_named.new.self in
    let new = c.compound.new.self in
    let vs = c.args.values.now in
    let e = c.in_ok-f.ensures in
    IfOk-weaker c.compound.result _ (λ v. PutsTerm old new v (compound c.args.name.now (trees (map (value old) vs))))
    (λ v adds. record {
      fits = adds.fits;
      is = adds.is ∙ ap₂ (λ s ts. compound s (trees ts)) e.is.name (values-same old mid vs e.preserves c.requires.values);
      adds = adds-both old mid new (adds-renamed old mid e.same e.preserves) (adds-value mid new v _ adds);
    }) c.compound.ensures.ok
