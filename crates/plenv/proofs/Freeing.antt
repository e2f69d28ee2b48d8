-- Slots that are set and freed again.
use Rattle.std.proofs.Common.{◌≡◌, ℕ, zero, suc, ◌+◌, ◌-◌, ◌<◌, ◌≤◌, Bool, true, false, cond, nat_lt, List, [], ◌∷◌, ◌++◌, length, length-append, take, drop, set, refl, sym, ap, ◌∙◌, arith, append_assoc, length-drop}
use Rattle.std.proofs.lemmas.List.{length-set, set-set, set-get_or, set_past, take-append-le, drop-append-le, take-set-le, take-take, length-take-le, take-append-drop, take_all}
use Rattle.plenv.specs.declared.slot.Slot.{Slot}
use Rattle.plenv.specs.declared.slot.Slot.TheVariants.{Free}
use Rattle.plenv.specs.declared.slot.Noted.{Noted}
use Rattle.plenv.specs.Env.{slot_at, freed, free_from, noted_if}
use Rattle.plenv.specs.Changes.{older}

take_set : (k : ℕ) (xs : List Slot) (i : ℕ) (s : Slot) → take k (set xs i s) ≡ set (take k xs) i s
take_set zero xs i s = refl
take_set (suc k) [] i s = refl
take_set (suc k) (x ∷ xs) zero s = refl
take_set (suc k) (x ∷ xs) (suc i) s = ap (λ ys. x ∷ ys) (take_set k xs i s)

pub take-freed : (k : ℕ) (xs : List Slot) (ns : List Noted) → take k (freed xs ns) ≡ freed (take k xs) ns
take-freed k xs [] = refl
take-freed k xs (n ∷ ns) = take_set k (freed xs ns) n.slot (Free n.number) ∙ ap (λ ys. set ys n.slot (Free n.number)) (take-freed k xs ns)

pub freed-length : (xs : List Slot) (ns : List Noted) → length (freed xs ns) ≡ length xs
freed-length xs [] = refl
freed-length xs (n ∷ ns) = length-set (freed xs ns) n.slot (Free n.number) ∙ freed-length xs ns

pub freed-append : (xs : List Slot) (ns : List Noted) (n : Noted) → freed xs (ns ++ n ∷ []) ≡ freed (set xs n.slot (Free n.number)) ns
freed-append xs [] n = refl
freed-append xs (m ∷ ns) n = ap (λ ys. set ys m.slot (Free m.number)) (freed-append xs ns n)

freed-both : (xs : List Slot) (ms ns : List Noted) → freed xs (ms ++ ns) ≡ freed (freed xs ns) ms
freed-both xs [] ns = refl
freed-both xs (m ∷ ms) ns = ap (λ ys. set ys m.slot (Free m.number)) (freed-both xs ms ns)

-- ---- a slot that is set
module _ (xs : List Slot) (i n : ℕ) (v : Slot) (free : slot_at xs i ≡ Free n) where
  abbrev now : Noted
  now = record { slot = i; number = n }

  back : set (set xs i v) i (Free n) ≡ xs
  back = set-set xs i v (Free n) ∙ ap (set xs i) (sym free) ∙ set-get_or xs i (Free 0)

  pub slots-noted : (b : ℕ) (ns : List Noted) (k s : ℕ) → k ≤ length ns → s ≤ b → (q : Bool) → nat_lt i b ≡ q →
      take s (freed (set xs i v) (drop k (noted_if q ns (record { slot = i; number = n })))) ≡ take s (freed xs (drop k ns))
  slots-noted b ns k s le few true is =
      ap (λ ms. take s (freed (set xs i v) ms)) (drop-append-le k ns (record { slot = i; number = n } ∷ []) le)
      ∙ ap (take s) (freed-append (set xs i v) (drop k ns) (record { slot = i; number = n }) ∙ ap (λ ys. freed ys (drop k ns)) back)
  slots-noted b ns k s le few false is =
      let at : b ≤ i = grind (arith, is) in
      take-freed s (set xs i v) (drop k ns)
      ∙ ap (λ ys. freed ys (drop k ns)) (take-set-le s xs i v (omega (arith, at, few)))
      ∙ sym (take-freed s xs (drop k ns))

pub take-noted : (ns : List Noted) (n : Noted) (k : ℕ) → k ≤ length ns → (q : Bool) → take k (noted_if q ns n) ≡ take k ns
take-noted ns n k le true = take-append-le k ns (n ∷ []) le
take-noted ns n k le false = refl

pub noted-longer : (ns : List Noted) (n : Noted) (q : Bool) → length ns ≤ length (noted_if q ns n)
noted-longer ns n true = omega (arith, length-append ns (n ∷ []))
noted-longer ns n false = omega arith

-- ---- a step of an undo
pub free-step : (xs : List Slot) (all rest : List Noted) (n : Noted) (keep : ℕ) → all ≡ rest ++ n ∷ [] → keep ≤ length rest → freed (set xs n.slot (Free n.number)) (drop keep rest) ≡ freed xs (drop keep all)
free-step xs all rest n keep e le =
    sym (freed-append xs (drop keep rest) n)
    ∙ ap (freed xs) (sym (drop-append-le keep rest (n ∷ []) le) ∙ ap (drop keep) (sym e))

pub free-notes : (all rest : List Noted) (n : Noted) (keep : ℕ) → all ≡ rest ++ n ∷ [] → keep ≤ length rest → take keep rest ≡ take keep all
free-notes all rest n keep e le = sym (take-append-le keep rest (n ∷ []) le) ∙ ap (take keep) (sym e)

-- ---- slots behind the others
pub length-free_from : (n k : ℕ) → length (free_from n k) ≡ k
length-free_from n zero = refl
length-free_from n (suc k) = ap suc (length-free_from (suc n) k)

pub free_from-more : (n k : ℕ) → free_from n (suc k) ≡ free_from n k ++ Free (n + k) ∷ []
free_from-more n zero = let e : n ≡ n + 0 = omega arith in ap (λ m. Free m ∷ []) e
free_from-more n (suc k) =
    let e : suc n + k ≡ n + suc k = omega arith in
    ap (λ xs. Free n ∷ xs) (free_from-more (suc n) k ∙ ap (λ m. free_from (suc n) k ++ Free m ∷ []) e)

pub at-free_from : (n k i : ℕ) → i < k → slot_at (free_from n k) i ≡ Free (n + i)
at-free_from n zero i lt = absurd (omega arith)
at-free_from n (suc k) zero lt = let e : n ≡ n + 0 = omega arith in ap Free e
at-free_from n (suc k) (suc i) lt = let e : suc n + i ≡ n + suc i = omega arith in at-free_from (suc n) k i (omega arith) ∙ ap Free e

pub slots-behind : (xs more : List Slot) (ns : List Noted) (s : ℕ) → s ≤ length xs → take s (freed (xs ++ more) ns) ≡ take s (freed xs ns)
slots-behind xs more ns s le = take-freed s (xs ++ more) ns ∙ ap (λ ys. freed ys ns) (take-append-le s xs more le) ∙ sym (take-freed s xs ns)

-- ---- notes that are left

-- the notes of other slots do nothing to these
freed-older : (xs : List Slot) (b : ℕ) (ns : List Noted) → length xs ≤ b → freed xs (older b ns) ≡ freed xs ns
freed-older xs b [] le = refl
freed-older xs b (n ∷ ns) le = by (freed-older xs b ns le) (nat_lt n.slot b) refl
  where
    by : freed xs (older b ns) ≡ freed xs ns → (q : Bool) → nat_lt n.slot b ≡ q → freed xs (cond q (n ∷ older b ns) (older b ns)) ≡ freed xs (n ∷ ns)
    by rest true e = ap (λ ys. set ys n.slot (Free n.number)) rest
    by rest false e =
        let past : b ≤ n.slot = grind (arith, e) in
        rest ∙ sym (set_past (freed xs ns) n.slot (Free n.number) (omega (arith, le, past, freed-length xs ns)))

module _ (ns : List Noted) (k b : ℕ) (room : k ≤ length ns) where
  front : length (take k ns) ≡ k
  front = length-take-le k ns room

  pub left-slots : (xs : List Slot) (j s : ℕ) → j ≤ k → s ≤ b → take s (freed xs (drop j (take k ns ++ older b (drop k ns)))) ≡ take s (freed xs (drop j ns))
  left-slots xs j s le few =
      let short : length (take s xs) ≤ b = omega (arith, shorter s xs) in
      let at : j ≤ length (take k ns) = omega (arith, front, le) in
      take-freed s xs (drop j (take k ns ++ older b (drop k ns)))
      ∙ ap (freed (take s xs)) (drop-append-le j (take k ns) (older b (drop k ns)) at)
      ∙ freed-both (take s xs) (drop j (take k ns)) (older b (drop k ns))
      ∙ ap (λ ys. freed ys (drop j (take k ns))) (freed-older (take s xs) b (drop k ns) short)
      ∙ sym (freed-both (take s xs) (drop j (take k ns)) (drop k ns))
      ∙ ap (freed (take s xs)) (sym (drop-append-le j (take k ns) (drop k ns) at) ∙ ap (drop j) (take-append-drop k ns))
      ∙ sym (take-freed s xs (drop j ns))
    where
      shorter : (s : ℕ) (ys : List Slot) → length (take s ys) ≤ s
      shorter zero ys = omega arith
      shorter (suc s) [] = omega arith
      shorter (suc s) (y ∷ ys) = omega (arith, shorter s ys)

  pub left-notes : (j : ℕ) → j ≤ k → take j (take k ns ++ older b (drop k ns)) ≡ take j ns
  left-notes j le = take-append-le j (take k ns) (older b (drop k ns)) (omega (arith, front, le)) ∙ take-take j k ns le

  pub left-longer : k ≤ length (take k ns ++ older b (drop k ns))
  left-longer = omega (arith, front, length-append (take k ns) (older b (drop k ns)))

-- what stands behind the front was moved up
taken-both : (k n : ℕ) (a m p q : List Noted) → length a ≡ k → n ≤ length m → take (k + n) ((a ++ (m ++ p)) ++ q) ≡ a ++ take n m
taken-both k n [] m p q e le =
    (let s : k + n ≡ n = omega (arith, e) in ap (λ i. take i ((m ++ p) ++ q)) s)
    ∙ take-append-le n (m ++ p) q (omega (arith, le, length-append m p))
    ∙ take-append-le n m p le
taken-both k n (x ∷ xs) m p q e le =
    (let s : k + n ≡ suc (length xs + n) = omega (arith, e) in ap (λ i. take i (((x ∷ xs) ++ (m ++ p)) ++ q)) s)
    ∙ ap (λ ys. x ∷ ys) (taken-both (length xs) n xs m p q refl le)

pub left-older : (items read moved behind rest : List Noted) (k n l b : ℕ) → read ≡ items → l ≡ length items → k ≤ length items → length moved ≡ length items - k → n ≤ length moved →
    take n moved ≡ older b (take (length read - k) (drop k read)) → take (k + n) (take l ((take k read ++ (moved ++ behind)) ++ rest)) ≡ take k items ++ older b (drop k items)
left-older items read moved behind rest k n l b same all room len few is =
    let len_drop : length (drop k read) ≤ length read - k = omega (arith, length-drop k read) in
    take-take (k + n) l ((take k read ++ (moved ++ behind)) ++ rest) (omega (arith, all, len, few, room))
    ∙ taken-both k n (take k read) moved behind rest (length-take-le k read (omega (arith, room, ap length same))) few
    ∙ ap (λ ts. take k read ++ ts) (is ∙ ap (older b) (take_all (length read - k) (drop k read) len_drop))
    ∙ ap (λ ts. take k ts ++ older b (drop k ts)) same

-- ---- what was put behind
pub push-from : (old xs new : List Slot) (n k : ℕ) → xs ≡ old ++ free_from n k → new ≡ xs ++ Free (n + k) ∷ [] → new ≡ old ++ free_from n (k + 1)
push-from old xs new n k e is =
    let next : suc k ≡ k + 1 = omega arith in
    is ∙ ap (λ ys. ys ++ Free (n + k) ∷ []) e ∙ append_assoc old (free_from n k) (Free (n + k) ∷ [])
    ∙ ap (λ ys. old ++ ys) (sym (free_from-more n k) ∙ ap (free_from n) next)

pub front-kept : (old more new : List Slot) → new ≡ old ++ more → take (length old) new ≡ old
front-kept old more new e = ap (take (length old)) e ∙ take-append-le (length old) old more (omega arith) ∙ take_all (length old) old (omega arith)
