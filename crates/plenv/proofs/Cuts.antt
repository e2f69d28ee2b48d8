-- A cut of a cut: an older mark reads the same environment after an undo to a newer one.
use Rattle.std.proofs.Common.{◌≡◌, ℕ, zero, suc, ◌≤◌, List, [], ◌∷◌, ◌++◌, length, take, drop, set, refl, sym, ap, ap₂, ◌∙◌, subst, arith, length-take-le}
use Rattle.std.proofs.lemmas.List.{take-take, take-append-drop, length-set}
use Rattle.plcells.specs.Store.{cut as cut_heap}
use Rattle.plcells.proofs.Cuts.{cut-cut as heap_cut-cut, IsWithin-cut as heap_within-cut}
use Rattle.plenv.specs.declared.slot.Slot.{Slot}
use Rattle.plenv.specs.declared.slot.Slot.TheVariants.{Free}
use Rattle.plenv.specs.declared.slot.Noted.{Noted}
use Rattle.plenv.specs.declared.slot.Mark.{Mark}
use Rattle.plenv.specs.Env.{Env, IsEnv, freed, cut, IsWithin, IsMark}
use Rattle.plenv.specs.Marks.{IsOlder}

take_set : (n : ℕ) (xs : List Slot) (i : ℕ) (v : Slot) → take n (set xs i v) ≡ set (take n xs) i v
take_set zero xs i v = refl
take_set (suc n) [] i v = refl
take_set (suc n) (x ∷ xs) zero v = refl
take_set (suc n) (x ∷ xs) (suc i) v = ap (λ ys. x ∷ ys) (take_set n xs i v)

pub take-freed : (n : ℕ) (slots : List Slot) (ns : List Noted) → take n (freed slots ns) ≡ freed (take n slots) ns
take-freed n slots [] = refl
take-freed n slots (x ∷ xs) = take_set n (freed slots xs) x.slot (Free x.number) ∙ ap (λ cs. set cs x.slot (Free x.number)) (take-freed n slots xs)

pub freed-length : (slots : List Slot) (ns : List Noted) → length (freed slots ns) ≡ length slots
freed-length slots [] = refl
freed-length slots (x ∷ xs) = length-set (freed slots xs) x.slot (Free x.number) ∙ freed-length slots xs

pub freed-both : (slots : List Slot) (xs ys : List Noted) → freed slots (xs ++ ys) ≡ freed (freed slots ys) xs
freed-both slots [] ys = refl
freed-both slots (x ∷ xs) ys = ap (λ cs. set cs x.slot (Free x.number)) (freed-both slots xs ys)

drop-split : (m n : ℕ) (xs : List Noted) → m ≤ n → drop m xs ≡ drop m (take n xs) ++ drop n xs
drop-split zero n xs le = sym (take-append-drop n xs)
drop-split (suc m) zero xs le = absurd (omega arith)
drop-split (suc m) (suc n) [] le = refl
drop-split (suc m) (suc n) (x ∷ xs) le = drop-split m n xs (omega arith)

-- the slots of a cut of a cut
slots-cut : (slots : List Slot) (noted : List Noted) (c d s t : ℕ) → c ≤ d → s ≤ t →
    take c (freed (take d (freed slots (drop t noted))) (drop s (take t noted))) ≡ take c (freed slots (drop s noted))
slots-cut slots noted c d s t le lt =
    ap (take c) (sym (take-freed d (freed slots (drop t noted)) (drop s (take t noted))))
    ∙ take-take c d (freed (freed slots (drop t noted)) (drop s (take t noted))) le
    ∙ ap (take c) (sym (freed-both slots (drop s (take t noted)) (drop t noted)) ∙ ap (freed slots) (sym (drop-split s t noted lt)))

pub cut-cut : (m n : Mark) (e : Env) → IsOlder m n → cut m (cut n e) ≡ cut m e
unfolding cut
cut-cut m n e o =
    ap (λ h. record {
      heap = h;
      slots = take m.slots (freed (take n.slots (freed e.slots (drop n.noted e.noted))) (drop m.noted (take n.noted e.noted)));
      noted = take m.noted (take n.noted e.noted);
      boundary = m.slots;
      count = m.count;
    }) (heap_cut-cut m.heap n.heap e.heap o.heap)
    ∙ ap₂ (λ ss ns. record { heap = cut_heap m.heap e.heap; slots = ss; noted = ns; boundary = m.slots; count = m.count })
    (slots-cut e.slots e.noted m.slots n.slots m.noted n.noted o.slots o.noted) (take-take m.noted n.noted e.noted o.noted)

-- how much a cut has
pub cut-slots : (m : Mark) (e : Env) → m.slots ≤ length e.slots → length (cut m e).slots ≡ m.slots
unfolding cut
cut-slots m e le = length-take-le m.slots (freed e.slots (drop m.noted e.noted)) (omega (arith, le, freed-length e.slots (drop m.noted e.noted)))

pub cut-noted : (m : Mark) (e : Env) → m.noted ≤ length e.noted → length (cut m e).noted ≡ m.noted
unfolding cut
cut-noted m e le = length-take-le m.noted e.noted le

pub cut-boundary : (m : Mark) (e : Env) → (cut m e).boundary ≡ m.slots
unfolding cut
cut-boundary m e = refl

pub cut-heap : (m : Mark) (e : Env) → (cut m e).heap ≡ cut_heap m.heap e.heap
unfolding cut
cut-heap m e = refl

pub cut-count : (m : Mark) (e : Env) → (cut m e).count ≡ m.count
unfolding cut
cut-count m e = refl

-- an older mark is one after an undo to a newer one too
pub IsWithin-cut : (m n : Mark) (e : Env) → IsWithin n e → IsOlder m n → IsWithin m (cut n e)
unfolding cut
IsWithin-cut m n e is o = record {
  heap = heap_within-cut m.heap n.heap e.heap is.heap o.heap;
  old = o.slots;
  noted = omega (arith, o.noted, cut-noted n e is.noted);
}

pub IsMark-cut : (m n : Mark) (e : Env) → IsMark m e → IsMark n e → IsOlder m n → IsMark m (cut n e)
IsMark-cut m n e im is o = record {
  within = IsWithin-cut m n e is.within o;
  env = subst IsEnv (sym (cut-cut m n e o)) im.env;
}

-- an order
pub older-trans : (l m n : Mark) → IsOlder l m → IsOlder m n → IsOlder l n
older-trans l m n a b = record {
  heap = record {
    cells = omega (arith, a.heap.cells, b.heap.cells);
    trail = omega (arith, a.heap.trail, b.heap.trail);
    numbers = omega (arith, a.heap.numbers, b.heap.numbers);
    wide = omega (arith, a.heap.wide, b.heap.wide);
  };
  slots = omega (arith, a.slots, b.slots);
  noted = omega (arith, a.noted, b.noted);
}

pub cut-names : (m : Mark) (e : Env) → (cut m e).heap.names ≡ e.heap.names
unfolding cut cut_heap
cut-names m e = refl
