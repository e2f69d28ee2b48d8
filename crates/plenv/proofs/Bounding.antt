-- An environment of which more is old, and the mark of all that is there.
use Rattle.std.proofs.Common.{◌≡◌, ℕ, ◌≤◌, ◌<◌, max, length, take, drop, subst, refl, sym, ap, ◌∙◌, arith, le_trans, le_refl}
use Rattle.std.proofs.lemmas.List.{take-take}
use Rattle.std.proofs.Math.Nat.{le-max_right}
use Rattle.platoms.proofs.Extending.{Extends-refl}
use Rattle.plcells.specs.Store.{cut as cut_heap}
use Rattle.plcells.proofs.Cuts.{cut-cells as heap_cells, cut-trail as heap_trail, cut-numbers as heap_numbers, cut-wide as heap_wide}
use Rattle.plcells.proofs.Committing.{value-noted}
use Rattle.plenv.specs.declared.slot.Slot.{Slot}
use Rattle.plenv.specs.declared.slot.Slot.TheVariants.{Free, Set}
use Rattle.plenv.specs.declared.slot.Mark.{Mark}
use Rattle.plenv.specs.Env.{Env, IsEnv, IsSlot, slot_at, slot_term, variable, freed, cut, IsWithin, IsMark}
use Rattle.plenv.specs.Changes.{bounded, released, Keeps, Extends}
use Rattle.plenv.specs.Marks.{IsOlder}
use Rattle.plenv.proofs.Cuts.{take-freed, cut-heap, cut-boundary, cut-noted}

slot-bounded : (e : Env) (cells slots : ℕ) (s : Slot) → IsSlot e s → slot_term (bounded cells slots e).heap s ≡ slot_term e.heap s
slot-bounded e cells slots (Free n) f = refl
slot-bounded e cells slots (Set v) f = (value-noted e.heap e.heap.trail cells v f).1

module _ (e : Env) (is : IsEnv e) (cells slots : ℕ) where
  pub variable-bounded : (i : ℕ) → i < length e.slots → variable (bounded cells slots e) i ≡ variable e i
  variable-bounded i lt = slot-bounded e cells slots (slot_at e.slots i) (is.slots.fit i lt)

module _ (e : Env) (is : IsEnv e) (cells slots : ℕ) (more_cells : e.heap.boundary ≤ cells) (more_slots : e.boundary ≤ slots) where
  keeps-bounded : Keeps e (bounded cells slots e)
  unfolding cut cut_heap
  keeps-bounded = record {
    within = λ m w. record {
      heap = record { old = le_trans w.heap.old more_cells; cells = w.heap.cells; trail = w.heap.trail; numbers = w.heap.numbers; wide = w.heap.wide };
      old = le_trans w.old more_slots;
      noted = w.noted;
    };
    kept = λ m w. refl;
    names = Extends-refl e.heap.names;
  }

  pub extends-bounded : Extends e (bounded cells slots e)
  extends-bounded = record {
    values = λ v f. value-noted e.heap e.heap.trail cells v f;
    slots = le_refl _;
    variables = variable-bounded e is cells slots;
    count = le_refl _;
    keeps = keeps-bounded;
  }

-- all that is there is old
pub extends-marked : (e : Env) → IsEnv e → Extends e (bounded (length e.heap.cells) (length e.slots) e)
extends-marked e is = extends-bounded e is (length e.heap.cells) (length e.slots) is.heap.bounded is.slots.bounded

-- a mark of all that is there is not older than any other
module _ (m n : Mark) (e : Env) (is : IsMark n e) (now : cut n e ≡ e) (w : IsWithin m e) where
  heap_now : cut_heap n.heap e.heap ≡ e.heap
  heap_now = sym (cut-heap n e) ∙ ap (λ x. x.heap) now

  pub older-now : IsOlder m n
  older-now = record {
    heap = record {
      cells = omega (arith, w.heap.cells, heap_cells n.heap e.heap is.within.heap.cells, ap (λ h. length h.cells) heap_now);
      trail = omega (arith, w.heap.trail, heap_trail n.heap e.heap is.within.heap.trail, ap (λ h. length h.trail) heap_now);
      numbers = omega (arith, w.heap.numbers, heap_numbers n.heap e.heap is.within.heap.numbers, ap (λ h. length h.numbers) heap_now);
      wide = omega (arith, w.heap.wide, heap_wide n.heap e.heap is.within.heap.wide, ap (λ h. length h.wide) heap_now);
    };
    slots = omega (arith, w.old, cut-boundary n e, ap (λ x. x.boundary) now);
    noted = omega (arith, w.noted, cut-noted n e is.within.noted, ap (λ x. length x.noted) now);
  }

-- slots behind those of the marks in use are given back
module _ (base : ℕ) (m : Mark) (e : Env) (is : IsMark m e) where
  abbrev kept : ℕ
  kept = max base e.boundary

  old-slots : m.slots ≤ kept
  old-slots = omega (arith, is.within.old, le-max_right base e.boundary)

  pub cut-released : cut m (released base e) ≡ cut m e
  unfolding cut
  cut-released =
      ap (λ ss. record { heap = cut_heap m.heap e.heap; slots = ss; noted = take m.noted e.noted; boundary = m.slots; count = m.count })
      (ap (take m.slots) (sym (take-freed kept e.slots (drop m.noted e.noted))) ∙ take-take m.slots kept (freed e.slots (drop m.noted e.noted)) old-slots)

  pub IsMark-released : IsMark m (released base e)
  IsMark-released = record {
    within = record { heap = is.within.heap; old = is.within.old; noted = is.within.noted };
    env = subst IsEnv (sym cut-released) is.env;
  }

pub extends_refl : (e : Env) → Extends e e
unfolding cut cut_heap
extends_refl e = record {
  values = λ v f. (f, refl);
  slots = le_refl _;
  variables = λ i lt. refl;
  count = le_refl _;
  keeps = record { within = λ m w. w; kept = λ m w. refl; names = Extends-refl e.heap.names };
}
