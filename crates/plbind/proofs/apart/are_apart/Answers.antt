use Rattle.std.proofs.Common.{◌≡◌, suc, ◌+◌, sym, ap, ◌∙◌, subst, arith}
use Rattle.plterm.specs.Tree.{compound, trees}
use Rattle.plterm.specs.Shown.{shown}
use Rattle.platoms.specs.Names.{functor_name}
use Rattle.plcells.specs.Store.{terms, value}
use Rattle.plbind.specs.Apart.{AreApart, ListsApart}
use Rattle.plbind.proofs.Clashing.{compounds-apart}
use Rattle.plbind.proofs.apart.are_apart.Goals as goal

pub returns : goal.returns
returns c h =
    let heap = c.args.heap.now in
    let p = c.in-Str.p in
    let block = c.block-count.ensures.block in
    let ts = terms heap (suc p) c.block-count.result.1 in
    let args = c.in-Compound.args in
    let s = c.in-Compound.field-0.now in
    let one : p + 1 ≡ suc p = omega arith in
    let apart = subst (λ j. ListsApart (terms heap j c.block-count.result.1) args) one (c.are_arguments_apart.ensures h) in
    let value_is = sym c.root.ensures.same ∙ ap (value heap) c.in-Str.is ∙ block.is in
    let term_is = ap shown (sym c.in-Compound.is) ∙ c.shape.ensures.shown in
    subst (AreApart (value heap c.args.v)) term_is (subst (λ a. AreApart a (compound s (trees args))) (sym value_is) (compounds-apart (functor_name heap.names c.block-count.result.0) s ts args apart))
