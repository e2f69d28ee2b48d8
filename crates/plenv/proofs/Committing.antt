-- A choice that is given up.
use Rattle.std.proofs.Common.{◌≡◌, ℕ, List, ◌++◌, length, take, drop, refl, sym, ap, ap₂, ◌∙◌, subst, arith, inl, inr}
use Rattle.std.proofs.lemmas.Bool.{cases_lt}
use Rattle.std.proofs.lemmas.List.{get_or_past}
use Rattle.plcells.specs.Store.{Store, cut as cut_heap}
use Rattle.plcells.specs.Committing.{Commits as CommitsHeap}
use Rattle.plenv.specs.declared.slot.Slot.{Slot}
use Rattle.plenv.specs.declared.slot.Slot.TheVariants.{Free, Set}
use Rattle.plenv.specs.declared.slot.Noted.{Noted}
use Rattle.plenv.specs.declared.slot.Mark.{Mark}
use Rattle.plenv.specs.Env.{Env, cut, slot_at, slot_term, variable, freed, IsSlot, AreSlots, IsEnv, IsWithin}
use Rattle.plenv.specs.Changes.{older, IsBelow, Commits}
use Rattle.plenv.proofs.Freeing.{left-slots, left-notes, left-longer}

module _ (e : Env) (h : Store) (since : Mark) (cells slots : ℕ) (is : AreSlots e) (old : IsWithin since e) (heap : CommitsHeap e.heap h since.heap.trail cells) where
  abbrev left : List Noted
  left = take since.noted e.noted ++ older slots (drop since.noted e.noted)

  abbrev new : Env
  new = record { heap = h; slots = e.slots; noted = take since.noted e.noted ++ older slots (drop since.noted e.noted); boundary = slots; count = e.count }

  term_of : (s : Slot) → IsSlot e s → slot_term h s ≡ slot_term e.heap s
  term_of (Free n) f = refl
  term_of (Set v) f = (heap.values v f).1

  variable_of : (i : ℕ) → variable (record { heap = h; slots = e.slots; noted = take since.noted e.noted ++ older slots (drop since.noted e.noted); boundary = slots; count = e.count }) i ≡ variable e i
  variable_of i = elim (cases_lt i (length e.slots)) [
    | inl lt ↦ term_of (slot_at e.slots i) (is.fit i lt)
    | inr le ↦ let none = get_or_past e.slots i (Free 0) le in ap (slot_term h) none ∙ sym (ap (slot_term e.heap) none)
  ]

  cut_of : (m : Mark) → IsWithin m e → IsBelow m since cells slots → cut m (record { heap = h; slots = e.slots; noted = take since.noted e.noted ++ older slots (drop since.noted e.noted); boundary = slots; count = e.count }) ≡ cut m e
  unfolding cut
  cut_of m w b =
      ap₂ (λ x y. record { heap = x; slots = y; noted = take m.noted (take since.noted e.noted ++ older slots (drop since.noted e.noted)); boundary = m.slots; count = m.count })
      (heap.same m.heap (record { trail = b.trail; cells = b.cells_within }) w.heap)
      (left-slots e.noted since.noted slots old.noted e.slots m.noted m.slots b.noted b.slots_within)
      ∙ ap (λ ns. record { heap = cut_heap m.heap e.heap; slots = take m.slots (freed e.slots (drop m.noted e.noted)); noted = ns; boundary = m.slots; count = m.count }) (left-notes e.noted since.noted slots old.noted m.noted b.noted)

  pub commits : Commits since cells slots e (record { heap = h; slots = e.slots; noted = take since.noted e.noted ++ older slots (drop since.noted e.noted); boundary = slots; count = e.count })
  commits = record {
    values = heap.values;
    same_slots = refl;
    variables = variable_of;
    count = refl;
    names = ap (λ x. x.names) heap.is;
    cells_old = ap (λ x. x.boundary) heap.is;
    slots_old = refl;
    marks = λ m mark b. (
      record {
        within = record {
          heap = heap.within m.heap (record { trail = b.trail; cells = b.cells_within }) mark.within.heap;
          old = b.slots_within;
          noted = omega (arith, b.noted, left-longer e.noted since.noted slots old.noted);
        };
        env = subst IsEnv (sym (cut_of m mark.within b)) mark.env;
      },
      cut_of m mark.within b,
    );
  }
