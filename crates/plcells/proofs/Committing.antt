-- A choice that is given up.
use Rattle.std.proofs.Common.{◌≡◌, ℕ, zero, suc, ◌+◌, ◌-◌, ◌≤◌, Bool, true, false, cond, nat_lt, List, [], ◌∷◌, ◌++◌, length, length-append, length-drop, take, drop, set, refl, sym, ap, ap₂, ◌∙◌, subst, arith}
use Rattle.std.proofs.lemmas.List.{set_past, take_all, take-append-drop, take-append-le, drop-append-le, take-take, length-take-le}
use Rattle.plcells.specs.declared.cell.Cell.{Cell}
use Rattle.plcells.specs.declared.cell.Cell.TheVariants.{Free, Lone, Ref, Int, Wide, Atom, Str, Fun, Ground}
use Rattle.plcells.specs.declared.cell.Mark.{Mark}
use Rattle.plcells.specs.declared.cell.Trailed.{Trailed}
use Rattle.plcells.specs.Store.{Store, at, term_in, term, value, IsValue, IsHeap, AllBelow, reset, cut, IsWithin, noted_by}
use Rattle.plcells.specs.Skipping.{IsInside}
use Rattle.plcells.specs.Committing.{older, committed, IsUpTo, Commits}
use Rattle.plcells.proofs.Terms.{shown-same}
use Rattle.plcells.proofs.Kept.{take-reset, reset-length, below-drop, IsHeap-noted}

-- terms do not depend on the bindings to take off, nor on the boundary
module _ (h : Store) (ts : List Trailed) (b : ℕ) where
  term_in-noted : (n c : ℕ) → term_in (noted_by h ts b) n c ≡ term_in h n c
  unfolding term_in
  term_in-noted zero c = refl
  term_in-noted (suc n) c = shown-same h (term_in (noted_by h ts b) n) (term_in h n) c (at h.cells c) (λ d r. term_in-noted n d)

  pub term-noted : (c : ℕ) → term (noted_by h ts b) c ≡ term h c
  unfolding term
  term-noted c = term_in-noted (length h.cells) c

  pub value-noted : (v : Cell) → IsValue h v → IsValue (noted_by h ts b) v × (value (noted_by h ts b) v ≡ value h v)
  value-noted (Free p) f = absurd f
  value-noted (Lone p) f = absurd f
  value-noted (Ref j) f = (f, term-noted j)
  value-noted (Int n) f = (f, refl)
  value-noted (Wide p) f = (f, refl)
  value-noted (Atom a) f = (f, refl)
  value-noted (Str p) f = (f, term-noted p)
  value-noted (Fun g) f = absurd f
  value-noted (Ground g) f = absurd f

-- nor does what a heap holds beside its terms
pub inside-noted : (h : Store) (ts : List Trailed) (b : ℕ) (cells : List Cell) (closed : List ℕ) → AllBelow (length h.cells) ts → b ≤ length h.cells → IsInside h cells closed → IsInside (noted_by h ts b) cells closed
inside-noted h ts b cells closed below le inside = record {
  heap = IsHeap-noted h ts b inside.heap below le;
  lone = inside.lone;
  prefixes = λ j lt. let old = inside.prefixes j lt in record { within = old.within; closed = old.closed };
  rising = inside.rising;
}

reset-both : (cells : List Cell) (ts us : List Trailed) → reset cells (ts ++ us) ≡ reset (reset cells us) ts
reset-both cells [] us = refl
reset-both cells (t ∷ ts) us = ap (λ cs. set cs t.cell (Free t.place)) (reset-both cells ts us)

-- the bindings of other cells do nothing to these
reset-older : (cells : List Cell) (b : ℕ) (ts : List Trailed) → length cells ≤ b → reset cells (older b ts) ≡ reset cells ts
reset-older cells b [] le = refl
reset-older cells b (t ∷ ts) le = by (reset-older cells b ts le) (nat_lt t.cell b) refl
  where
    by : reset cells (older b ts) ≡ reset cells ts → (q : Bool) → nat_lt t.cell b ≡ q → reset cells (cond q (t ∷ older b ts) (older b ts)) ≡ reset cells (t ∷ ts)
    by rest true e = ap (λ cs. set cs t.cell (Free t.place)) rest
    by rest false e =
        let past : b ≤ t.cell = grind (arith, e) in
        rest ∙ sym (set_past (reset cells ts) t.cell (Free t.place) (omega (arith, le, past, reset-length cells ts)))

-- what stands behind the front was moved up
taken-both : (k n : ℕ) (a m p q : List Trailed) → length a ≡ k → n ≤ length m → take (k + n) ((a ++ (m ++ p)) ++ q) ≡ a ++ take n m
taken-both k n [] m p q e le =
    (let s : k + n ≡ n = omega (arith, e) in ap (λ i. take i ((m ++ p) ++ q)) s)
    ∙ take-append-le n (m ++ p) q (omega (arith, le, length-append m p))
    ∙ take-append-le n m p le
taken-both k n (x ∷ xs) m p q e le =
    (let s : k + n ≡ suc (length xs + n) = omega (arith, e) in ap (λ i. take i (((x ∷ xs) ++ (m ++ p)) ++ q)) s)
    ∙ ap (λ ys. x ∷ ys) (taken-both (length xs) n xs m p q refl le)

pub left-older : (items read moved behind rest : List Trailed) (k n l b : ℕ) → read ≡ items → l ≡ length items → k ≤ length items → length moved ≡ length items - k → n ≤ length moved →
    take n moved ≡ older b (take (length read - k) (drop k read)) → take (k + n) (take l ((take k read ++ (moved ++ behind)) ++ rest)) ≡ take k items ++ older b (drop k items)
left-older items read moved behind rest k n l b same all room len few is =
    let len_drop : length (drop k read) ≤ length read - k = omega (arith, length-drop k read) in
    take-take (k + n) l ((take k read ++ (moved ++ behind)) ++ rest) (omega (arith, all, len, few, room))
    ∙ taken-both k n (take k read) moved behind rest (length-take-le k read (omega (arith, room, ap length same))) few
    ∙ ap (λ ts. take k read ++ ts) (is ∙ ap (older b) (take_all (length read - k) (drop k read) len_drop))
    ∙ ap (λ ts. take k ts ++ older b (drop k ts)) same

below-older : (n b : ℕ) (ts : List Trailed) → AllBelow n ts → AllBelow n (older b ts)
below-older n b [] below = tt
below-older n b (t ∷ ts) below = by (below-older n b ts below.1) (nat_lt t.cell b)
  where
    by : AllBelow n (older b ts) → (q : Bool) → AllBelow n (cond q (t ∷ older b ts) (older b ts))
    by rest true = (below.0, rest)
    by rest false = rest

below-joined : (n : ℕ) (ts us : List Trailed) → AllBelow n ts → AllBelow n us → AllBelow n (ts ++ us)
below-joined n [] us a b = b
below-joined n (t ∷ ts) us a b = (a.0, below-joined n ts us a.1 b)

below-take : (n k : ℕ) (ts : List Trailed) → AllBelow n ts → AllBelow n (take k ts)
below-take n zero ts b = tt
below-take n (suc k) [] b = tt
below-take n (suc k) (t ∷ ts) b = (b.0, below-take n k ts b.1)

module _ (h : Store) (k b : ℕ) (room : k ≤ length h.trail) where
  abbrev left : List Trailed
  left = take k h.trail ++ older b (drop k h.trail)

  abbrev old : List Trailed
  old = take k h.trail

  old_length : length (take k h.trail) ≡ k
  old_length = length-take-le k h.trail room

  same_cells : (m : Mark) → IsUpTo k b m → m.cells ≤ length h.cells → take m.cells (reset h.cells (drop m.trail (take k h.trail ++ older b (drop k h.trail)))) ≡ take m.cells (reset h.cells (drop m.trail h.trail))
  same_cells m up le =
      let few : length (take m.cells h.cells) ≤ b = omega (arith, length-take-le m.cells h.cells le, up.cells) in
      let noted : m.trail ≤ length (take k h.trail) = omega (arith, old_length, up.trail) in
      take-reset m.cells h.cells (drop m.trail (take k h.trail ++ older b (drop k h.trail)))
      ∙ ap (reset (take m.cells h.cells)) (drop-append-le m.trail (take k h.trail) (older b (drop k h.trail)) noted)
      ∙ reset-both (take m.cells h.cells) (drop m.trail (take k h.trail)) (older b (drop k h.trail))
      ∙ ap (λ cs. reset cs (drop m.trail (take k h.trail))) (reset-older (take m.cells h.cells) b (drop k h.trail) few)
      ∙ sym (reset-both (take m.cells h.cells) (drop m.trail (take k h.trail)) (drop k h.trail))
      ∙ ap (reset (take m.cells h.cells)) (sym (drop-append-le m.trail (take k h.trail) (drop k h.trail) noted) ∙ ap (drop m.trail) (take-append-drop k h.trail))
      ∙ sym (take-reset m.cells h.cells (drop m.trail h.trail))

  same_trail : (m : Mark) → IsUpTo k b m → take m.trail (take k h.trail ++ older b (drop k h.trail)) ≡ take m.trail h.trail
  same_trail m up = take-append-le m.trail (take k h.trail) (older b (drop k h.trail)) (omega (arith, old_length, up.trail)) ∙ take-take m.trail k h.trail up.trail

  cut-committed : (m : Mark) → IsUpTo k b m → IsWithin m h → cut m (committed h k b) ≡ cut m h
  unfolding cut
  cut-committed m up w = ap₂ (λ cs ts. record { cells = cs; numbers = take m.numbers h.numbers; wide = take m.wide h.wide; trail = ts; boundary = m.cells; names = h.names }) (same_cells m up w.cells) (same_trail m up)

  within-committed : (m : Mark) → IsUpTo k b m → IsWithin m h → IsWithin m (committed h k b)
  within-committed m up w = record {
    old = up.cells;
    cells = w.cells;
    trail = omega (arith, up.trail, old_length, length-append (take k h.trail) (older b (drop k h.trail)));
    numbers = w.numbers;
    wide = w.wide;
  }

  pub commits : Commits h (committed h k b) k b
  commits = record {
    is = refl;
    terms = λ c lt. term-noted h (take k h.trail ++ older b (drop k h.trail)) b c;
    values = λ v f. value-noted h (take k h.trail ++ older b (drop k h.trail)) b v f;
    within = within-committed;
    same = cut-committed;
    marks = λ m up is. record { within = within-committed m up is.within; heap = subst IsHeap (sym (cut-committed m up is.within)) is.heap };
  }

  pub inside-committed : (cells : List Cell) (closed : List ℕ) → b ≤ h.boundary → IsInside h cells closed → IsInside (committed h k b) cells closed
  inside-committed cells closed few inside = inside-noted h (take k h.trail ++ older b (drop k h.trail)) b cells closed
      (below-joined (length h.cells) (take k h.trail) (older b (drop k h.trail)) (below-take (length h.cells) k h.trail inside.heap.trailed) (below-older (length h.cells) b (drop k h.trail) (below-drop (length h.cells) k h.trail inside.heap.trailed)))
      (omega (arith, few, inside.heap.bounded)) inside
