use Rattle.std.proofs.Common.{◌≡◌, ◌∙◌, ◌+◌, ◌∷◌, [], length, length-append, take, ap, sym, refl, arith, append-nil}
use Rattle.std.proofs.lemmas.List.{length-take}
use Rattle.plcells.specs.declared.cell.Cell.TheVariants.{Free}
use Rattle.plcells.specs.Blocks.{numbers_of}
use Rattle.plcells.proofs.Blocks.{cells-push, numbers-push, numbers-most}
use Rattle.plcells.proofs.heap.push_arguments.Goals.{in-Value+in_ok-push-in-Value, in-Variable+in_ok-push-in-Variable+in_ok-push-in-Variable-2}
use Rattle.plcells.proofs.heap.push_arguments.Goals as goal

pub new-requires : goal.new-requires
new-requires c =
    let l = c.loop-a in
    let xs = take l.a-index c.args.arguments.now in
    let len : length l.numbers.items ≡ length c.args.numbers.now.items + length (numbers_of xs) = ap length l.invariant.numbers ∙ length-append c.args.numbers.now.items (numbers_of xs) in
    omega (arith, c.requires, len, numbers-most xs, length-take l.a-index c.args.arguments.now, c.len-place.ensures, l.numbers.ok.0)

pub loop-a-preserved : goal.loop-a-preserved
loop-a-preserved c = elim c.match-a.branch [
  | in-Value+in_ok-push-in-Value w ↦
      let l = c.loop-a in
      record {
        cells = cells-push c.args.arguments.now l.a-index _ _ c.loop-a-test.true (sym c.a-item.is ∙ w.in-Value.is) c.args.cells.now.items l.cells.items c.match-a.cells.items (length c.args.numbers.now.items) w.in-Value.v l.invariant.cells (ap (λ v. v.items) w.cells-is ∙ w.in_ok-push-in-Value.ensures.items) refl;
        numbers = numbers-push c.args.arguments.now l.a-index _ _ c.loop-a-test.true (sym c.a-item.is ∙ w.in-Value.is) c.args.numbers.now.items l.numbers.items c.match-a.numbers.items l.invariant.numbers (ap (λ v. v.items) w.numbers-is ∙ sym (append-nil l.numbers.items));
      }
  | in-Variable+in_ok-push-in-Variable+in_ok-push-in-Variable-2 w ↦
      let l = c.loop-a in
      let xs = take l.a-index c.args.arguments.now in
      let len : length l.numbers.items ≡ length c.args.numbers.now.items + length (numbers_of xs) = ap length l.invariant.numbers ∙ length-append c.args.numbers.now.items (numbers_of xs) in
      let place : length c.args.numbers.now.items + length (numbers_of xs) ≡ w.new.result = omega (arith, len, w.new.ensures, w.len-place.ensures, l.numbers.ok.0) in
      record {
        cells = cells-push c.args.arguments.now l.a-index _ _ c.loop-a-test.true (sym c.a-item.is ∙ w.in-Variable.is) c.args.cells.now.items l.cells.items c.match-a.cells.items (length c.args.numbers.now.items) (Free w.new.result) l.invariant.cells (ap (λ v. v.items) w.cells-is ∙ w.in_ok-push-in-Variable-2.ensures.items) (ap (λ n. Free n ∷ []) place);
        numbers = numbers-push c.args.arguments.now l.a-index _ _ c.loop-a-test.true (sym c.a-item.is ∙ w.in-Variable.is) c.args.numbers.now.items l.numbers.items c.match-a.numbers.items l.invariant.numbers (ap (λ v. v.items) w.numbers-is ∙ w.in_ok-push-in-Variable.ensures.items);
      }
]
