-- A cut of a cut: an older mark reads the same heap after an undo to a newer one.
use Rattle.std.proofs.Common.{◌≡◌, ℕ, ℤ, zero, suc, ◌≤◌, List, [], ◌∷◌, ◌++◌, length, take, drop, set, refl, sym, ap, ap₂, ◌∙◌, subst, arith, length-take-le}
use Rattle.std.proofs.lemmas.List.{take-take, take-append-drop}
use Rattle.plcells.specs.declared.cell.Cell.{Cell}
use Rattle.plcells.specs.declared.cell.Cell.TheVariants.{Free}
use Rattle.plcells.specs.declared.cell.Mark.{Mark}
use Rattle.plcells.specs.declared.cell.Trailed.{Trailed}
use Rattle.plcells.specs.Store.{Store, IsHeap, reset, cut, IsWithin, IsMark}
use Rattle.plcells.specs.Marks.{IsOlder}
use Rattle.plcells.proofs.Kept.{take-reset, reset-length}

reset-both : (cells : List Cell) (xs ys : List Trailed) → reset cells (xs ++ ys) ≡ reset (reset cells ys) xs
reset-both cells [] ys = refl
reset-both cells (x ∷ xs) ys = ap (λ cs. set cs x.cell (Free x.place)) (reset-both cells xs ys)

drop-split : (m n : ℕ) (xs : List Trailed) → m ≤ n → drop m xs ≡ drop m (take n xs) ++ drop n xs
drop-split zero n xs le = sym (take-append-drop n xs)
drop-split (suc m) zero xs le = absurd (omega arith)
drop-split (suc m) (suc n) [] le = refl
drop-split (suc m) (suc n) (x ∷ xs) le = drop-split m n xs (omega arith)

-- the cells of a cut of a cut
cells-cut : (cells : List Cell) (trail : List Trailed) (c d s t : ℕ) → c ≤ d → s ≤ t →
    take c (reset (take d (reset cells (drop t trail))) (drop s (take t trail))) ≡ take c (reset cells (drop s trail))
cells-cut cells trail c d s t le lt =
    ap (take c) (sym (take-reset d (reset cells (drop t trail)) (drop s (take t trail))))
    ∙ take-take c d (reset (reset cells (drop t trail)) (drop s (take t trail))) le
    ∙ ap (take c) (sym (reset-both cells (drop s (take t trail)) (drop t trail)) ∙ ap (reset cells) (sym (drop-split s t trail lt)))

pub cut-cut : (m n : Mark) (h : Store) → IsOlder m n → cut m (cut n h) ≡ cut m h
unfolding cut
cut-cut m n h o =
    ap₂ (λ cs ns. make cs ns (take m.wide (take n.wide h.wide)) (take m.trail (take n.trail h.trail)))
    (cells-cut h.cells h.trail m.cells n.cells m.trail n.trail o.cells o.trail) (take-take m.numbers n.numbers h.numbers o.numbers)
    ∙ ap₂ (make (take m.cells (reset h.cells (drop m.trail h.trail))) (take m.numbers h.numbers))
    (take-take m.wide n.wide h.wide o.wide) (take-take m.trail n.trail h.trail o.trail)
  where
    make : List Cell → List ℕ → List ℤ → List Trailed → Store
    make cs ns ws ts = record { cells = cs; numbers = ns; wide = ws; trail = ts; boundary = m.cells; names = h.names }

-- how much a cut has
pub cut-cells : (m : Mark) (h : Store) → m.cells ≤ length h.cells → length (cut m h).cells ≡ m.cells
unfolding cut
cut-cells m h le = length-take-le m.cells (reset h.cells (drop m.trail h.trail)) (omega (arith, le, reset-length h.cells (drop m.trail h.trail)))

pub cut-trail : (m : Mark) (h : Store) → m.trail ≤ length h.trail → length (cut m h).trail ≡ m.trail
unfolding cut
cut-trail m h le = length-take-le m.trail h.trail le

pub cut-numbers : (m : Mark) (h : Store) → m.numbers ≤ length h.numbers → length (cut m h).numbers ≡ m.numbers
unfolding cut
cut-numbers m h le = length-take-le m.numbers h.numbers le

pub cut-wide : (m : Mark) (h : Store) → m.wide ≤ length h.wide → length (cut m h).wide ≡ m.wide
unfolding cut
cut-wide m h le = length-take-le m.wide h.wide le

pub cut-boundary : (m : Mark) (h : Store) → (cut m h).boundary ≡ m.cells
unfolding cut
cut-boundary m h = refl

-- an older mark is one after an undo to a newer one too
pub IsWithin-cut : (m n : Mark) (h : Store) → IsWithin n h → IsOlder m n → IsWithin m (cut n h)
IsWithin-cut m n h is o = record {
  old = omega (arith, o.cells, cut-boundary n h);
  cells = omega (arith, o.cells, cut-cells n h is.cells);
  trail = omega (arith, o.trail, cut-trail n h is.trail);
  numbers = omega (arith, o.numbers, cut-numbers n h is.numbers);
  wide = omega (arith, o.wide, cut-wide n h is.wide);
}

pub IsMark-cut : (m n : Mark) (h : Store) → IsMark m h → IsMark n h → IsOlder m n → IsMark m (cut n h)
IsMark-cut m n h im is o = record {
  within = IsWithin-cut m n h is.within o;
  heap = subst IsHeap (sym (cut-cut m n h o)) im.heap;
}
