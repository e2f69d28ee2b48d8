-- Marks: what a change of the heap and of the slots keeps.
use Rattle.std.proofs.Common.{◌≡◌, ℕ, ◌≤◌, nat_lt, List, ◌++◌, length, take, drop, set, refl, sym, ap, ap₂, ◌∙◌, subst, arith}
use Rattle.std.proofs.lemmas.List.{take_all, drop_all}
use Rattle.platoms.proofs.Extending.{Extends-refl, Extends-trans}
use Rattle.plcells.specs.Store.{Store, IsHeap, cut as cut_heap, renamed as renamed_heap, Keeps as KeepsHeap, IsMark as IsHeapMark}
use Rattle.plenv.specs.declared.slot.Slot.{Slot}
use Rattle.plenv.specs.declared.slot.Slot.TheVariants.{Free}
use Rattle.plenv.specs.declared.slot.Noted.{Noted}
use Rattle.plenv.specs.declared.slot.Mark.{Mark}
use Rattle.plenv.specs.Env.{Env, cut, renamed, slot_at, freed, noted_if, AreSlots, IsEnv, IsMark}
use Rattle.plenv.specs.Changes.{Keeps}
use Rattle.plenv.proofs.Freeing.{slots-noted, take-noted, noted-longer, slots-behind}

-- what is noted brings the slots below the boundary back
pub record KeepsSlots (old new : Env) : Type 0 where
  pub boundary : new.boundary ≡ old.boundary
  pub longer : length old.noted ≤ length new.noted
  pub noted : (k : ℕ) → k ≤ length old.noted → take k new.noted ≡ take k old.noted
  pub slots : (k s : ℕ) → k ≤ length old.noted → s ≤ old.boundary → take s (freed new.slots (drop k new.noted)) ≡ take s (freed old.slots (drop k old.noted))

pub keeps-both : (old new : Env) → KeepsHeap old.heap new.heap → KeepsSlots old new → Keeps old new
unfolding cut
keeps-both old new h s = record {
  within = λ m w. record { heap = h.within m.heap w.heap; old = omega (arith, w.old, s.boundary); noted = omega (arith, w.noted, s.longer) };
  kept = λ m w.
      ap₂ (λ x y. record { heap = x; slots = y; noted = take m.noted new.noted; boundary = m.slots; count = m.count }) (h.kept m.heap w.heap) (s.slots m.noted m.slots w.noted w.old)
      ∙ ap (λ ns. record { heap = renamed_heap (cut_heap m.heap old.heap) new.heap.names; slots = take m.slots (freed old.slots (drop m.noted old.noted)); noted = ns; boundary = m.slots; count = m.count }) (s.noted m.noted w.noted);
  names = h.names;
}

pub Keeps-refl : (e : Env) → Keeps e e
unfolding cut cut_heap
Keeps-refl e = record { within = λ m w. w; kept = λ m w. refl; names = Extends-refl e.heap.names }

pub Keeps-trans : (a b c : Env) → Keeps a b → Keeps b c → Keeps a c
Keeps-trans a b c k l = record {
  within = λ m w. l.within m (k.within m w);
  kept = λ m w. l.kept m (k.within m w) ∙ ap (λ e. renamed e c.heap.names) (k.kept m w);
  names = Extends-trans a.heap.names b.heap.names c.heap.names k.names l.names;
}

-- with another heap, and another count
abbrev pub over_heap : Env → Store → ℕ → Env
over_heap e h n = record { heap = h; slots = e.slots; noted = e.noted; boundary = e.boundary; count = n }

pub same-slots : (e : Env) (h : Store) (n : ℕ) → KeepsSlots e (over_heap e h n)
same-slots e h n = record { boundary = refl; longer = omega arith; noted = λ k le. refl; slots = λ k s le few. refl }

-- with a slot that is set, over another heap
abbrev pub with_slot : Env → Store → ℕ → ℕ → Slot → Env
with_slot e h i n s = record { heap = h; slots = set e.slots i s; noted = noted_if (nat_lt i e.boundary) e.noted (record { slot = i; number = n }); boundary = e.boundary; count = e.count }

pub keeps-slot : (e : Env) (h : Store) (i n : ℕ) (s : Slot) → slot_at e.slots i ≡ Free n → KeepsSlots e (with_slot e h i n s)
keeps-slot e h i n s free = record {
  boundary = refl;
  longer = noted-longer e.noted (record { slot = i; number = n }) (nat_lt i e.boundary);
  noted = λ k le. take-noted e.noted (record { slot = i; number = n }) k le (nat_lt i e.boundary);
  slots = λ k t le few. slots-noted e.slots i n s free e.boundary e.noted k t le few (nat_lt i e.boundary) refl;
}

-- with slots behind the others
abbrev pub with_slots : Env → List Slot → ℕ → Env
with_slots e more n = record { heap = e.heap; slots = e.slots ++ more; noted = e.noted; boundary = e.boundary; count = n }

pub keeps-slots : (e : Env) (more : List Slot) (n : ℕ) → e.boundary ≤ length e.slots → KeepsSlots e (with_slots e more n)
keeps-slots e more n le = record {
  boundary = refl;
  longer = omega arith;
  noted = λ k few. refl;
  slots = λ k s few low. slots-behind e.slots more (drop k e.noted) s (omega (arith, low, le));
}

-- ---- a mark of all there is
pub mark-now : (m : Mark) (e : Env) → cut_heap m.heap e.heap ≡ e.heap → m.slots ≡ length e.slots → m.noted ≡ length e.noted → m.count ≡ e.count → e.boundary ≡ length e.slots → cut m e ≡ e
unfolding cut
mark-now m e heap s n c b =
    let make : Store → List Slot → List Noted → ℕ → ℕ → Env = λ (x : Store) (y : List Slot) (z : List Noted) (i j : ℕ). record { heap = x; slots = y; noted = z; boundary = i; count = j } in
    ap (λ ns. make (cut_heap m.heap e.heap) (take m.slots (freed e.slots ns)) (take m.noted e.noted) m.slots m.count) (drop_all m.noted e.noted (omega (arith, n)))
    ∙ ap₂ (λ x y. make x y (take m.noted e.noted) m.slots m.count) heap (take_all m.slots e.slots (omega (arith, s)))
    ∙ ap₂ (λ z i. make e.heap e.slots z i m.count) (take_all m.noted e.noted (omega (arith, n))) (s ∙ sym b)
    ∙ ap (make e.heap e.slots e.noted e.boundary) c

pub mark-is : (m : Mark) (e : Env) → IsHeapMark m.heap e.heap → IsHeap e.heap → AreSlots e → m.slots ≡ length e.slots → m.noted ≡ length e.noted → e.boundary ≡ length e.slots → cut m e ≡ e → IsMark m e
mark-is m e heap is slots s n b now = record {
  within = record { heap = heap.within; old = omega (arith, s, b); noted = omega (arith, n) };
  env = subst IsEnv (sym now) (record { heap = is; slots = slots });
}
