-- Slots that move down to the place of others.
use Rattle.std.proofs.Common.{◌≡◌, ℕ, ◌+◌, ◌-◌, ◌<◌, ◌≤◌, List, ◌++◌, length, length-append, length-drop, take, drop, sym, ap, ◌∙◌, subst, arith, inl, inr}
use Rattle.std.specs.List.{copy_within}
use Rattle.std.proofs.lemmas.Bool.{cases_lt}
use Rattle.std.proofs.lemmas.List.{length-take-le, get_or_append_left, get_or-append-add, get_or-take, get_or-drop, take-append-le, take-append-drop, take-take, take_all}
use Rattle.std.proofs.lemmas.List.Edits.{take-paste}
use Rattle.plcells.specs.Store.{cut as cut_heap}
use Rattle.plenv.specs.declared.slot.Slot.{Slot}
use Rattle.plenv.specs.declared.slot.Slot.TheVariants.{Free}
use Rattle.plenv.specs.declared.slot.Mark.{Mark}
use Rattle.plenv.specs.Env.{Env, IsEnv, IsSlot, AreSlots, slot_at, slot_term, variable, over, freed, cut, IsMark}
use Rattle.plenv.specs.Changes.{lowered}
use Rattle.plenv.proofs.Freeing.{take-freed}

-- ---- the slots
module _ (xs : List Slot) (at base : ℕ) (down : at ≤ base) (within : base ≤ length xs) where
  abbrev ys : List Slot
  ys = take at xs ++ drop base xs

  front : length (take at xs) ≡ at
  front = length-take-le at xs (omega (arith, down, within))

  pub length-lowered : length (take at xs ++ drop base xs) ≡ at + (length xs - base)
  length-lowered = omega (arith, length-append (take at xs) (drop base xs), front, length-drop base xs)

  -- those below the place are as they were
  pub slot-below : (i : ℕ) → i < at → slot_at (take at xs ++ drop base xs) i ≡ slot_at xs i
  slot-below i lt = get_or_append_left (take at xs) (drop base xs) (Free 0) i (omega (arith, front, lt)) ∙ get_or-take at xs i (Free 0) lt

  -- the others have moved
  pub slot-moved : (x : ℕ) → slot_at (take at xs ++ drop base xs) (at + x) ≡ slot_at xs (base + x)
  slot-moved x =
      ap (λ n. slot_at (take at xs ++ drop base xs) (n + x)) (sym front)
      ∙ get_or-append-add (take at xs) (drop base xs) x (Free 0)
      ∙ get_or-drop base xs x (Free 0)

  slot-above : (i : ℕ) → at ≤ i → slot_at (take at xs ++ drop base xs) i ≡ slot_at xs (base + (i - at))
  slot-above i le =
      let there : i ≡ at + (i - at) = omega (arith, le) in
      ap (slot_at (take at xs ++ drop base xs)) there ∙ slot-moved (i - at)

  -- those that are there no more are passed over
  within-above : (i : ℕ) → at ≤ i → i < length (take at xs ++ drop base xs) → base + (i - at) < length xs
  within-above i le lt = omega (arith, le, lt, length-lowered, within)

  within-below : (i : ℕ) → i < at → i < length xs
  within-below i lt = omega (arith, lt, down, within)

-- ---- the environment
module _ (e : Env) (at base : ℕ) (down : at ≤ base) (within : base ≤ length e.slots) (is : AreSlots e) where
  long : length (take at e.slots ++ drop base e.slots) ≡ at + (length e.slots - base)
  long = length-lowered e.slots at base down within

  fit : (i : ℕ) → i < length (take at e.slots ++ drop base e.slots) → IsSlot e (slot_at (take at e.slots ++ drop base e.slots) i)
  fit i lt = elim (cases_lt i at) [
    | inl low ↦ subst (IsSlot e) (sym (slot-below e.slots at base down within i low)) (is.fit i (within-below e.slots at base down within i low))
    | inr high ↦ subst (IsSlot e) (sym (slot-above e.slots at base down within i high)) (is.fit (base + (i - at)) (within-above e.slots at base down within i high lt))
  ]

  once : (i j n : ℕ) → i < length (take at e.slots ++ drop base e.slots) → j < length (take at e.slots ++ drop base e.slots)
      → slot_at (take at e.slots ++ drop base e.slots) i ≡ Free n → slot_at (take at e.slots ++ drop base e.slots) j ≡ Free n → i ≡ j
  once i j n il jl ei ej = elim (cases_lt i at) [
    | inl low ↦ elim (cases_lt j at) [
      | inl other ↦ is.once i j n (within-below e.slots at base down within i low) (within-below e.slots at base down within j other) (below i low ei) (below j other ej)
      | inr high ↦
          let same : i ≡ base + (j - at) = is.once i (base + (j - at)) n (within-below e.slots at base down within i low) (within-above e.slots at base down within j high jl) (below i low ei) (above j high ej) in
          absurd (omega (arith, same, low, down))
    ]
    | inr high ↦ elim (cases_lt j at) [
      | inl other ↦
          let same : base + (i - at) ≡ j = is.once (base + (i - at)) j n (within-above e.slots at base down within i high il) (within-below e.slots at base down within j other) (above i high ei) (below j other ej) in
          absurd (omega (arith, same, other, down))
      | inr behind ↦
          let same : base + (i - at) ≡ base + (j - at) = is.once (base + (i - at)) (base + (j - at)) n (within-above e.slots at base down within i high il) (within-above e.slots at base down within j behind jl) (above i high ei) (above j behind ej) in
          omega (arith, same, high, behind)
    ]
  ]
    where
      below : (k : ℕ) → k < at → slot_at (take at e.slots ++ drop base e.slots) k ≡ Free n → slot_at e.slots k ≡ Free n
      below k lt q = sym (slot-below e.slots at base down within k lt) ∙ q

      above : (k : ℕ) → at ≤ k → slot_at (take at e.slots ++ drop base e.slots) k ≡ Free n → slot_at e.slots (base + (k - at)) ≡ Free n
      above k le q = sym (slot-above e.slots at base down within k le) ∙ q

  pub slots-lowered : e.boundary ≤ at → AreSlots (lowered at base e)
  slots-lowered old = record {
    fit = fit;
    once = once;
    low = is.low;
    bounded = omega (arith, old, long);
    few = omega (arith, is.few, long, down, within);
  }

  -- what they stand for
  pub variable-below : (i : ℕ) → i < at → variable (lowered at base e) i ≡ variable e i
  variable-below i lt = ap (slot_term e.heap) (slot-below e.slots at base down within i lt)

  pub over-lowered : (x : ℕ) → over (lowered at base e) at x ≡ over e base x
  over-lowered x = ap (slot_term e.heap) (slot-moved e.slots at base down within x)

-- where they stay, nothing changes
pub lowered-same : (base : ℕ) (e : Env) → lowered base base e ≡ e
lowered-same base e = ap (λ ss. record { heap = e.heap; slots = ss; noted = e.noted; boundary = e.boundary; count = e.count }) (take-append-drop base e.slots)

-- a mark reads no slot that has moved
module _ (at base : ℕ) (m : Mark) (e : Env) (is : IsMark m e) (down : at ≤ base) (within : base ≤ length e.slots) (old : e.boundary ≤ at) where
  same-slots : take m.slots (take at e.slots ++ drop base e.slots) ≡ take m.slots e.slots
  same-slots =
      take-append-le m.slots (take at e.slots) (drop base e.slots) (omega (arith, is.within.old, old, length-take-le at e.slots (omega (arith, down, within))))
      ∙ take-take m.slots at e.slots (omega (arith, is.within.old, old))

  pub cut-lowered : cut m (lowered at base e) ≡ cut m e
  unfolding cut
  cut-lowered =
      ap (λ ss. record { heap = cut_heap m.heap e.heap; slots = ss; noted = take m.noted e.noted; boundary = m.slots; count = m.count })
      (take-freed m.slots (take at e.slots ++ drop base e.slots) (drop m.noted e.noted)
      ∙ ap (λ ss. freed ss (drop m.noted e.noted)) same-slots
      ∙ sym (take-freed m.slots e.slots (drop m.noted e.noted)))

  pub IsMark-lowered : IsMark m (lowered at base e)
  IsMark-lowered = record {
    within = record { heap = is.within.heap; old = is.within.old; noted = is.within.noted };
    env = subst IsEnv (sym cut-lowered) is.env;
  }

-- ---- the list that was moved
pub moved-down : (xs : List Slot) (at base n : ℕ) → at ≤ base → base ≤ length xs → n ≡ length xs → take (at + (n - base)) (copy_within xs base n at) ≡ take at xs ++ drop base xs
moved-down xs at base n down within all =
    take-paste xs at (drop base xs) (n - base) (omega (arith, down, within)) (omega (arith, all, length-drop base xs))
    ∙ ap (λ ss. take at xs ++ ss) (take_all (n - base) (drop base xs) (omega (arith, all, length-drop base xs)))
