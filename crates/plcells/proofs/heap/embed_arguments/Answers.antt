use Rattle.std.proofs.Common.{◌≡◌, ◌∙◌, length, ap, sym, subst, arith, inl, inr}
use Rattle.std.proofs.lemmas.List.{length-map, take_all}
use Rattle.plcells.specs.declared.cell.Cell.TheVariants.{Ref}
use Rattle.plcells.specs.Store.{at}
use Rattle.plcells.specs.Blocks.{cells_of}
use Rattle.plcells.specs.Skipping.{plain, IsPlaced}
use Rattle.plcells.proofs.Pushing.{placed-at}
use Rattle.plcells.proofs.Blocks.{value-cell, cells-length, ref-more, argument-same}
use Rattle.plcells.proofs.heap.embed_arguments.Goals.{in-Value, in_default}
use Rattle.plcells.proofs.heap.embed_arguments.Goals as goal

pub embed-requires : goal.embed-requires
embed-requires c =
    let l = c.loop-a in
    let xs = c.args.arguments.now in
    let len : length l.cells.items ≡ length c.args.cells.now.items = sym (length-map l.cells.items plain) ∙ ap length l.invariant.same ∙ length-map c.args.cells.now.items plain in
    subst (λ n. IsPlaced n c.in-Value.v) (sym len)
    (subst (IsPlaced (length c.args.cells.now.items)) (value-cell xs 0 l.a-index _ c.in-Value.v c.loop-a-test.true (sym c.a-item.is ∙ c.in-Value.is))
    (placed-at (length c.args.cells.now.items) (cells_of 0 xs) l.a-index c.requires (omega (arith, cells-length 0 xs, c.loop-a-test.true))))

pub loop-a-preserved : goal.loop-a-preserved
loop-a-preserved c =
    let l = c.loop-a in
    let xs = c.args.arguments.now in
    elim c.match-a.branch [
      | in-Value w ↦ rw w.cells-is (record {
        same = w.embed.ensures.same ∙ l.invariant.same;
        was = λ d p e. l.invariant.was d p (w.embed.ensures.was d p e);
        lone = λ d p e n k f. elim (ref-more xs l.a-index _ _ c.loop-a-test.true (sym c.a-item.is ∙ w.in-Value.is) n k d f) [
          | inl old ↦ l.invariant.lone d p (w.embed.ensures.was d p e) n k old
          | inr here ↦ w.embed.ensures.lone d p e (argument-same w.in-Value.v (Ref d) here)
        ];
      })
      | in_default w ↦ rw w.cells-is (record {
        same = l.invariant.same;
        was = l.invariant.was;
        lone = λ d p e n k f. elim (ref-more xs l.a-index _ _ c.loop-a-test.true (sym c.a-item.is) n k d f) [
          | inl old ↦ l.invariant.lone d p e n k old
          | inr here ↦ w.in_default.not-Value (Ref d) here
        ];
      })
    ]

pub returns-clause-lone : goal.returns-clause-lone
returns-clause-lone c = λ d p e n k f.
    let l = c.loop-a in
    let xs = c.args.arguments.now in
    l.invariant.lone d p e n k (ap (λ ys. at (cells_of n ys) k) (take_all l.a-index xs (omega (arith, c.loop-a-test.false))) ∙ f)
