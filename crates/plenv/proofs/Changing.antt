-- What is put for variables, and what is put behind the others.
use Rattle.std.proofs.Common.{◌≡◌, ℕ, ◌+◌, ◌-◌, ◌^◌, ◌<◌, ◌≤◌, true, false, nat_eq, List, ◌++◌, length, length-append, set, refl, sym, ap, ◌∙◌, subst, arith, inl, inr}
use Rattle.std.proofs.lemmas.Bool.{cases_eq, cases_lt}
use Rattle.std.proofs.lemmas.List.{length-set, get_or-set_same, get_or-set_other, get_or_append_left, get_or-append_right}
use Rattle.plterm.specs.Tree.{Tree, var}
use Rattle.plsubst.specs.Subst.{bind, put, put_if}
use Rattle.plcells.specs.declared.cell.Cell.{Cell}
use Rattle.plcells.specs.declared.cell.Cell.TheVariants.{Free as CellFree, Lone, Ref, Int, Wide, Atom, Str, Fun, Ground}
use Rattle.plcells.specs.Store.{Store, IsHeap, IsValue, IsFresh, term, value}
use Rattle.plcells.proofs.Absence.{bind_put-same, occurs-none}
use Rattle.plenv.specs.declared.slot.Slot.{Slot}
use Rattle.plenv.specs.declared.slot.Slot.TheVariants.{Free, Set}
use Rattle.plenv.specs.Env.{Env, slot_at, slot_term, variable, free_from, IsSlot, AreSlots}
use Rattle.plenv.specs.Changes.{Enters, Substitutes}
use Rattle.plenv.proofs.Freeing.{length-free_from, at-free_from}
use Rattle.plcells.proofs.Kept.{Keeps-refl as Keeps-refl-heap}
use Rattle.plenv.proofs.Keeping.{over_heap, with_slot, with_slots, keeps-both, keeps-slot, keeps-slots}

-- ---- another heap
module _ (e : Env) (h : Store) (values : (v : Cell) → IsValue e.heap v → IsValue h v) where
  slot_over : (c : ℕ) → ((n : ℕ) → IsFresh e.heap n → IsFresh h n) → e.count ≤ c → (s : Slot) → IsSlot e s → IsSlot (over_heap e h c) s
  slot_over c fresh le (Free n) f = (fresh n f.0, omega (arith, f.1, le))
  slot_over c fresh le (Set v) f = values v f

  pub slots-over : ((n : ℕ) → IsFresh e.heap n → IsFresh h n) → AreSlots e → AreSlots (over_heap e h e.count)
  slots-over fresh is = record {
    fit = λ i lt. slot_over e.count fresh (omega arith) (slot_at e.slots i) (is.fit i lt);
    once = is.once;
    low = λ n le. fresh n (is.low n le);
    bounded = is.bounded;
    few = is.few;
  }

-- what is put for variables, also in slots
module _ (e : Env) (h : Store) (σ : ℕ → Tree) (values : (v : Cell) → IsValue e.heap v → value h v ≡ bind σ (value e.heap v)) (apart : (n : ℕ) → IsFresh e.heap n → σ n ≡ var n) where
  pub slot-put : (s : Slot) → IsSlot e s → slot_term h s ≡ bind σ (slot_term e.heap s)
  unfolding bind
  slot-put (Free n) f = sym (apart n f.0)
  slot-put (Set v) f = values v f

  pub variable-put : AreSlots e → (i : ℕ) → i < length e.slots → variable (over_heap e h e.count) i ≡ bind σ (variable e i)
  variable-put is i lt = slot-put (slot_at e.slots i) (is.fit i lt)

-- ---- a slot that is set
module _ (e : Env) (h : Store) (i n : ℕ) (v : Cell) (is : AreSlots e) (within : i < length e.slots) (free : slot_at e.slots i ≡ Free n) where
  abbrev new : Env
  new = with_slot e h i n (Set v)

  set_at : (j : ℕ) → j ≡ i → slot_at (set e.slots i (Set v)) j ≡ Set v
  set_at j same = ap (slot_at (set e.slots i (Set v))) same ∙ get_or-set_same e.slots i (Set v) (Free 0) within

  pub set-other : (j : ℕ) → (j ≡ i → ⊥) → slot_at (set e.slots i (Set v)) j ≡ slot_at e.slots j
  set-other j ne = get_or-set_other e.slots i j (Set v) (Free 0) ne

  -- another slot's variable is another
  apart_from : (j m : ℕ) → (j ≡ i → ⊥) → j < length e.slots → slot_at e.slots j ≡ Free m → m ≡ n → ⊥
  apart_from j m ne lt at same = ne (is.once j i m lt within at (free ∙ ap Free (sym same)))

  pub was-free : (j m : ℕ) → slot_at (set e.slots i (Set v)) j ≡ Free m → slot_at e.slots j ≡ Free m
  was-free j m at = elim (cases_eq j i) [
    | inl same ↦ absurd (let no : Set v ≡ Free m = sym (set_at j same) ∙ at in (cc))
    | inr ne ↦ sym (set-other j ne) ∙ at
  ]

  module _ (values : (w : Cell) → IsValue e.heap w → IsValue h w) (fresh : (m : ℕ) → IsFresh e.heap m → (m ≡ n → ⊥) → IsFresh h m) (fits : IsValue h v) where
    slot_still : (s : Slot) → IsSlot e s → ((m : ℕ) → s ≡ Free m → m ≡ n → ⊥) → IsSlot (with_slot e h i n (Set v)) s
    slot_still (Free m) f other = (fresh m f.0 (other m refl), f.1)
    slot_still (Set w) f other = values w f

    fit_at : (j : ℕ) → j < length (set e.slots i (Set v)) → IsSlot (with_slot e h i n (Set v)) (slot_at (set e.slots i (Set v)) j)
    fit_at j lt = elim (cases_eq j i) [
      | inl same ↦ subst (IsSlot (with_slot e h i n (Set v))) (sym (set_at j same)) fits
      | inr ne ↦
          let old : j < length e.slots = omega (arith, lt, length-set e.slots i (Set v)) in
          subst (IsSlot (with_slot e h i n (Set v))) (sym (set-other j ne)) (slot_still (slot_at e.slots j) (is.fit j old) (λ m at. apart_from j m ne old at))
    ]

    below : IsSlot e (Free n)
    below = subst (IsSlot e) free (is.fit i within)

    pub slots-set : AreSlots (with_slot e h i n (Set v))
    slots-set = record {
      fit = fit_at;
      once = λ j k m jl kl ej ek. is.once j k m (omega (arith, jl, length-set e.slots i (Set v))) (omega (arith, kl, length-set e.slots i (Set v))) (was-free j m ej) (was-free k m ek);
      low = λ m le. fresh m (is.low m le) (λ same. let b = below in omega (arith, b.1, le, same));
      bounded = omega (arith, is.bounded, length-set e.slots i (Set v));
      few = omega (arith, is.few, length-set e.slots i (Set v));
    }

  module _ (σ : ℕ → Tree) (values : (w : Cell) → IsValue e.heap w → value h w ≡ bind σ (value e.heap w)) (apart : (m : ℕ) → IsFresh e.heap m → (m ≡ n → ⊥) → σ m ≡ var m) (at : value h v ≡ σ n) where
    slot_gets : (s : Slot) → IsSlot e s → ((m : ℕ) → s ≡ Free m → m ≡ n → ⊥) → slot_term h s ≡ bind σ (slot_term e.heap s)
    unfolding bind
    slot_gets (Free m) f other = sym (apart m f.0 (other m refl))
    slot_gets (Set w) f other = values w f

    pub variable-set : (j : ℕ) → j < length e.slots → variable (with_slot e h i n (Set v)) j ≡ bind σ (variable e j)
    unfolding bind
    variable-set j lt = elim (cases_eq j i) [
      | inl same ↦ ap (slot_term h) (set_at j same) ∙ at ∙ sym (ap (λ s. bind σ (slot_term e.heap s)) (ap (slot_at e.slots) same ∙ free))
      | inr ne ↦ ap (slot_term h) (set-other j ne) ∙ slot_gets (slot_at e.slots j) (is.fit j lt) (λ m at. apart_from j m ne lt at)
    ]

-- ---- slots behind the others
module _ (e : Env) (width : ℕ) (is : AreSlots e) (room : length e.slots + width < 2 ^ 32) where
  abbrev more : List Slot
  more = free_from e.count width

  long : length (e.slots ++ free_from e.count width) ≡ length e.slots + width
  long = length-append e.slots (free_from e.count width) ∙ ap (λ k. length e.slots + k) (length-free_from e.count width)

  older_at : (i : ℕ) → i < length e.slots → slot_at (e.slots ++ free_from e.count width) i ≡ slot_at e.slots i
  older_at i lt = get_or_append_left e.slots (free_from e.count width) (Free 0) i lt

  new_at : (x : ℕ) → x < width → slot_at (e.slots ++ free_from e.count width) (length e.slots + x) ≡ Free (e.count + x)
  new_at x lt =
      let back : length e.slots + x - length e.slots ≡ x = omega arith in
      get_or-append_right e.slots (free_from e.count width) (length e.slots) (length e.slots + x) (Free 0) refl (omega arith)
      ∙ ap (slot_at (free_from e.count width)) back
      ∙ at-free_from e.count width x lt

  behind_at : (i : ℕ) → length e.slots ≤ i → i < length e.slots + width → slot_at (e.slots ++ free_from e.count width) i ≡ Free (e.count + (i - length e.slots))
  behind_at i le lt =
      let sum : length e.slots + (i - length e.slots) ≡ i = omega (arith, le) in
      ap (slot_at (e.slots ++ free_from e.count width)) (sym sum) ∙ new_at (i - length e.slots) (omega (arith, le, lt))

  slot_more : (s : Slot) → IsSlot e s → IsSlot (with_slots e (free_from e.count width) (e.count + width)) s
  slot_more (Free n) f = (f.0, omega (arith, f.1))
  slot_more (Set v) f = f

  fit_more : (i : ℕ) → i < length (e.slots ++ free_from e.count width) → IsSlot (with_slots e (free_from e.count width) (e.count + width)) (slot_at (e.slots ++ free_from e.count width) i)
  fit_more i lt = elim (cases_lt i (length e.slots)) [
    | inl old ↦ subst (IsSlot (with_slots e (free_from e.count width) (e.count + width))) (sym (older_at i old)) (slot_more (slot_at e.slots i) (is.fit i old))
    | inr le ↦
        let within : i < length e.slots + width = omega (arith, lt, long) in
        subst (IsSlot (with_slots e (free_from e.count width) (e.count + width))) (sym (behind_at i le within)) (is.low (e.count + (i - length e.slots)) (omega arith), omega (arith, within, le))
  ]

  number_old : (i n : ℕ) → i < length e.slots → slot_at (e.slots ++ free_from e.count width) i ≡ Free n → (slot_at e.slots i ≡ Free n) × (n < e.count)
  number_old i n lt at =
      let was : slot_at e.slots i ≡ Free n = sym (older_at i lt) ∙ at in
      let f : IsSlot e (Free n) = subst (IsSlot e) was (is.fit i lt) in
      (was, f.1)

  number_new : (i n : ℕ) → length e.slots ≤ i → i < length e.slots + width → slot_at (e.slots ++ free_from e.count width) i ≡ Free n → n ≡ e.count + (i - length e.slots)
  number_new i n le lt at = let same : Free n ≡ Free (e.count + (i - length e.slots)) = sym at ∙ behind_at i le lt in (cc)

  once_more : (i j n : ℕ) → i < length (e.slots ++ free_from e.count width) → j < length (e.slots ++ free_from e.count width)
      → slot_at (e.slots ++ free_from e.count width) i ≡ Free n → slot_at (e.slots ++ free_from e.count width) j ≡ Free n → i ≡ j
  once_more i j n il jl ei ej = elim (cases_lt i (length e.slots)) [
    | inl io ↦ elim (cases_lt j (length e.slots)) [
      | inl jo ↦ is.once i j n io jo (number_old i n io ei).0 (number_old j n jo ej).0
      | inr jn ↦ let a = number_old i n io ei in let b = number_new j n jn (omega (arith, jl, long)) ej in absurd (omega (arith, a.1, b))
    ]
    | inr in_new ↦ elim (cases_lt j (length e.slots)) [
      | inl jo ↦ let a = number_old j n jo ej in let b = number_new i n in_new (omega (arith, il, long)) ei in absurd (omega (arith, a.1, b))
      | inr jn ↦
          let a = number_new i n in_new (omega (arith, il, long)) ei in
          let b = number_new j n jn (omega (arith, jl, long)) ej in
          omega (arith, a, b, in_new, jn)
    ]
  ]

  pub slots-entered : AreSlots (with_slots e (free_from e.count width) (e.count + width))
  slots-entered = record { fit = fit_more; once = once_more; low = λ n le. is.low n (omega (arith, le)); bounded = omega (arith, is.bounded, long); few = omega (arith, room, long) }

  pub entered : Enters e (with_slots e (free_from e.count width) (e.count + width)) (length e.slots) width
  entered = record {
    place = refl;
    heap = refl;
    slots = long;
    variables = λ x lt. ap (slot_term e.heap) (new_at x lt);
    older = λ i lt. ap (slot_term e.heap) (older_at i lt);
    count = refl;
    keeps = keeps-both e (with_slots e (free_from e.count width) (e.count + width)) (Keeps-refl-heap e.heap) (keeps-slots e (free_from e.count width) (e.count + width) is.bounded);
  }

-- ---- a value for the variable of a free slot, which is on no cell
put-at : (n : ℕ) (t : Tree) → put n t n ≡ t
put-at n t = ap (λ b. put_if b n t) (self n)
  where
    self : (k : ℕ) → nat_eq k k ≡ true
    self k = grind arith

put-other : (n m : ℕ) (t : Tree) → (m ≡ n → ⊥) → put n t m ≡ var m
put-other n m t ne = ap (λ b. put_if b m t) (other n m ne)
  where
    other : (a b : ℕ) → (b ≡ a → ⊥) → nat_eq a b ≡ false
    other a b ne = grind (arith, ne)

module _ (h : Store) (is : IsHeap h) (n : ℕ) (t : Tree) (fresh : IsFresh h n) where
  absent : (c : ℕ) → c < length h.cells → bind (put n t) (term h c) ≡ term h c
  absent c lt = bind_put-same n t (term h c) (occurs-none h is n (λ d. Unit {0}) (λ i d l p r. tt) (λ i p l q e same. fresh i p l e same) c lt tt)

  value-absent : (v : Cell) → IsValue h v → value h v ≡ bind (put n t) (value h v)
  unfolding bind
  value-absent (CellFree p) f = absurd f
  value-absent (Lone p) f = absurd f
  value-absent (Ref j) f = sym (absent j f.0)
  value-absent (Int k) f = refl
  value-absent (Wide p) f = refl
  value-absent (Atom a) f = refl
  value-absent (Str p) f = sym (absent p f.0)
  value-absent (Fun g) f = absurd f
  value-absent (Ground g) f = absurd f

pub slot-set : (e : Env) (i n : ℕ) (v : Cell) → IsHeap e.heap → AreSlots e → i < length e.slots → slot_at e.slots i ≡ Free n → IsValue e.heap v → Substitutes e (with_slot e e.heap i n (Set v)) (put n (value e.heap v))
slot-set e i n v heap is within free fits = record {
  values = λ w f. (f, value-absent e.heap heap n (value e.heap v) lone w f);
  slots = length-set e.slots i (Set v);
  variables = variable-set e e.heap i n v is within free (put n (value e.heap v)) (λ w f. value-absent e.heap heap n (value e.heap v) lone w f) (λ m f ne. put-other n m (value e.heap v) ne) (sym (put-at n (value e.heap v)));
  count = refl;
  keeps = keeps-both e (with_slot e e.heap i n (Set v)) (Keeps-refl-heap e.heap) (keeps-slot e e.heap i n (Set v) free);
}
  where
    lone : IsFresh e.heap n
    lone = let f : IsSlot e (Free n) = subst (IsSlot e) free (is.fit i within) in f.0
