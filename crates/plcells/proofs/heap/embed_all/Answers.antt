use Rattle.std.proofs.Common.{◌≡◌, ◌∙◌, length, ap, sym, subst, below_more}
use Rattle.std.proofs.lemmas.List.{length-map, get_or_default}
use Rattle.plcells.specs.declared.cell.Cell.TheVariants.{Atom}
use Rattle.plcells.specs.Skipping.{plain, IsPlaced}
use Rattle.plcells.proofs.Pushing.{placed-at}
use Rattle.plcells.proofs.heap.embed_all.Goals as goal

pub embed-requires : goal.embed-requires
embed-requires c =
    let l = c.loop-v in
    let len : length l.cells.items ≡ length c.args.cells.now.items = sym (length-map l.cells.items plain) ∙ ap length l.invariant.same ∙ length-map c.args.cells.now.items plain in
    subst (λ n. IsPlaced n c.v-item.result) (sym len)
    (subst (IsPlaced (length c.args.cells.now.items)) (get_or_default c.args.values.now l.v-index (Atom 0) c.v-item.result c.loop-v-test.true ∙ sym c.v-item.is)
    (placed-at (length c.args.cells.now.items) c.args.values.now l.v-index c.requires c.loop-v-test.true))

pub loop-v-preserved : goal.loop-v-preserved
loop-v-preserved c =
    let l = c.loop-v in
    record {
      same = c.embed.ensures.same ∙ l.invariant.same;
      was = λ d p e. l.invariant.was d p (c.embed.ensures.was d p e);
      lone = λ d p e. below_more _ _ (λ k lt. l.invariant.lone d p (c.embed.ensures.was d p e) k lt)
          (λ f. c.embed.ensures.lone d p e (c.v-item.is ∙ sym (get_or_default c.args.values.now l.v-index (Atom 0) c.v-item.result c.loop-v-test.true) ∙ f));
    }
