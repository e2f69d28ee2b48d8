-- What is put behind the cells of a heap.
use Rattle.std.proofs.Common.{◌≡◌, ℕ, ℤ, pos, zero, suc, ◌+◌, ◌-◌, ◌<◌, ◌≤◌, ◌^◌, Bool, true, false, nat_lt, List, [], ◌∷◌, length, length-append, refl, sym, ap, ◌∙◌, subst, arith, inl, inr}
use Rattle.std.proofs.lemmas.Bool.{cases_lt}
use Rattle.std.proofs.lemmas.List.{get_or_append_left, get_or-append_right}
use Rattle.plterm.specs.Tree.{Tree, var, int}
use Rattle.plcells.specs.declared.cell.Cell.{Cell}
use Rattle.plcells.specs.declared.cell.Trailed.{Trailed}
use Rattle.plcells.specs.declared.cell.Cell.TheVariants.{Free, Lone, Ref, Int, Wide, Atom, Str, Fun, Ground}
use Rattle.plcells.specs.Store.{Store, at, number_at, shown_by, term, Refers, IsHead, IsGround, IsSolid, HasArguments, Fits, IsHeap, AllBelow, IsValue, value, grown, IsFresh, Grows}
use Rattle.plcells.proofs.Ranks.{lower_count, count_below, count_lower}
use Rattle.plcells.proofs.Terms.{Reads, term-solved, term-at, refers-within}
use Rattle.plcells.proofs.Kept.{Keeps-grown}

abbrev pick : Bool → ℕ → ℕ → ℕ
pick true a b = a
pick false a b = b

module _ (h : Store) (cs : List Cell) (ns : List ℕ) (ws : List ℤ) (is : IsHeap h) where
  abbrev all : ℕ
  all = length h.cells

  len : length (grown h cs ns ws).cells ≡ length h.cells + length cs
  len = length-append h.cells cs

  pub at-old : (i : ℕ) → i < length h.cells → at (grown h cs ns ws).cells i ≡ at h.cells i
  at-old i lt = get_or_append_left h.cells cs (Atom 0) i lt

  pub at-new : (i : ℕ) → length h.cells ≤ i → at (grown h cs ns ws).cells i ≡ at cs (i - length h.cells)
  at-new i le = get_or-append_right h.cells cs (length h.cells) i (Atom 0) refl le

  head_old : (j : ℕ) → j < length h.cells → IsHead (at h.cells j) → IsHead (at (grown h cs ns ws).cells j)
  head_old j lt head = subst IsHead (sym (at-old j lt)) head

  plain_old : (j : ℕ) → j < length h.cells → (IsHead (at h.cells j) → ⊥) → IsHead (at (grown h cs ns ws).cells j) → ⊥
  plain_old j lt plain head = plain (subst IsHead (at-old j lt) head)

  ground_within : (cells : List Cell) (j : ℕ) → IsGround (at cells j) → j < length cells
  ground_within [] j g = absurd g
  ground_within (c ∷ cells) zero g = omega arith
  ground_within (c ∷ cells) (suc j) g = let r = ground_within cells j g in omega (arith, r)

  pub solid-old : (m : Cell) → IsSolid h.cells m → IsSolid (grown h cs ns ws).cells m
  solid-old (Free q) s = absurd s
  solid-old (Lone q) s = absurd s
  solid-old (Ref j) s = absurd s
  solid-old (Int k) s = tt
  solid-old (Wide q) s = tt
  solid-old (Atom a) s = tt
  solid-old (Str q) s = subst IsGround (sym (at-old q (ground_within h.cells q s))) s
  solid-old (Fun f) s = absurd s
  solid-old (Ground f) s = absurd s

  arguments_old : (i f : ℕ) → HasArguments h i f → HasArguments (grown h cs ns ws) i f
  arguments_old i f a = record { functor = a.functor; within = omega (arith, a.within, len); plain = λ d lt le. plain_old d (omega (arith, a.within, le)) (a.plain d lt le) }

  pub fits-old : (i : ℕ) (m : Cell) → Fits h i m → Fits (grown h cs ns ws) i m
  fits-old i (Free q) f = omega (arith, f, length-append h.numbers ns)
  fits-old i (Lone q) f = f
  fits-old i (Ref j) f = (omega (arith, f.0, len), plain_old j f.0 f.1)
  fits-old i (Int k) f = f
  fits-old i (Wide q) f = omega (arith, f, length-append h.wide ws)
  fits-old i (Atom a) f = f
  fits-old i (Str q) f = (omega (arith, f.0, len), head_old q f.0 f.1)
  fits-old i (Fun g) f = arguments_old i g f
  fits-old i (Ground g) f = record {
    arguments = arguments_old i g f.arguments;
    solid = λ d lt le. subst (IsSolid (grown h cs ns ws).cells) (sym (at-old d (let w = f.arguments.within in omega (arith, w, le)))) (solid-old (at h.cells d) (f.solid d lt le));
  }

  pub value-old : (m : Cell) → IsValue h m → IsValue (grown h cs ns ws) m
  value-old (Free q) f = f
  value-old (Lone q) f = f
  value-old (Ref j) f = (omega (arith, f.0, len), plain_old j f.0 f.1)
  value-old (Int k) f = f
  value-old (Wide q) f = omega (arith, f, length-append h.wide ws)
  value-old (Atom a) f = f
  value-old (Str q) f = (omega (arith, f.0, len), head_old q f.0 f.1)
  value-old (Fun g) f = f
  value-old (Ground g) f = f

  number_old : (p : ℕ) → p < length h.numbers → number_at (grown h cs ns ws) p ≡ number_at h p
  number_old p lt = get_or_append_left h.numbers ns 0 p lt

  shown_old : (w : ℕ → Tree) (i : ℕ) (m : Cell) → Fits h i m → shown_by h w i m ≡ shown_by (grown h cs ns ws) w i m
  shown_old w i (Free q) f = ap var (sym (number_old q f))
  shown_old w i (Lone q) f = absurd f
  shown_old w i (Ref j) f = refl
  shown_old w i (Int k) f = refl
  shown_old w i (Wide q) f = ap int (sym (get_or_append_left h.wide ws (pos 0) q f))
  shown_old w i (Atom a) f = refl
  shown_old w i (Str q) f = refl
  shown_old w i (Fun g) f = refl
  shown_old w i (Ground g) f = refl

  abbrev old_rank : ℕ → ℕ
  old_rank c = lower_count is.rank (length h.cells) (is.rank c)

  old_reads : Reads (grown h cs ns ws) (length h.cells) is.rank
  old_reads = record {
    within = λ i d lt r. refers-within h i d (at h.cells i) (is.fits i lt) (subst (λ m. Refers h.names i m d) (at-old i lt) r);
    lower = λ i d lt r. is.ranked i d lt (subst (λ m. Refers h.names i m d) (at-old i lt) r);
  }

  pub term-old : (c : ℕ) → c < length h.cells → term (grown h cs ns ws) c ≡ term h c
  term-old = term-solved (grown h cs ns ws) (length h.cells) is.rank old_reads (omega (arith, len)) (term h) (λ i lt.
      term-at h i is lt ∙ shown_old (term h) i (at h.cells i) (is.fits i lt) ∙ ap (shown_by (grown h cs ns ws) (term h) i) (sym (at-old i lt)))

  pub value-same : (m : Cell) → IsValue h m → value (grown h cs ns ws) m ≡ value h m
  value-same (Free q) f = absurd f
  value-same (Lone q) f = absurd f
  value-same (Ref j) f = term-old j f.0
  value-same (Int k) f = refl
  value-same (Wide q) f = ap int (get_or_append_left h.wide ws (pos 0) q f)
  value-same (Atom a) f = refl
  value-same (Str q) f = term-old q f.0
  value-same (Fun g) f = absurd f
  value-same (Ground g) f = absurd f

  pub Grows-grown : Grows h (grown h cs ns ws)
  Grows-grown = record { longer = omega (arith, len); terms = term-old; values = λ v f. (value-old v f, value-same v f); keeps = Keeps-grown h cs ns ws; names = refl }

  below_old : (n : ℕ) (ts : List Trailed) → AllBelow n ts → (m : ℕ) → n ≤ m → AllBelow m ts
  below_old n [] b m le = tt
  below_old n (t ∷ ts) b m le = (omega (arith, b.0, le), below_old n ts b.1 m le)

  module _ (rank : ℕ → ℕ)
      (fits_new : (j : ℕ) → j < length cs → Fits (grown h cs ns ws) (length h.cells + j) (at cs j))
      (lower_new : (j d : ℕ) → j < length cs → Refers h.names (length h.cells + j) (at cs j) d → length h.cells ≤ d → rank (d - length h.cells) < rank j)
      (fresh : (j p : ℕ) → j < length cs → at cs j ≡ Free p → IsFresh h (number_at (grown h cs ns ws) p))
      (apart : (j k p q : ℕ) → j < length cs → k < length cs → at cs j ≡ Free p → at cs k ≡ Free q → number_at (grown h cs ns ws) p ≡ number_at (grown h cs ns ws) q → j ≡ k)
      (few : length h.cells + length cs < 2 ^ 32) where
    abbrev new_rank : ℕ → ℕ
    new_rank c = pick (nat_lt c (length h.cells)) (lower_count is.rank (length h.cells) (is.rank c)) (length h.cells + rank (c - length h.cells))

    low : (c : ℕ) → c < length h.cells → new_rank c ≡ lower_count is.rank (length h.cells) (is.rank c)
    low c lt = let e : nat_lt c (length h.cells) ≡ true = grind (arith, lt) in ap (λ b. pick b (lower_count is.rank (length h.cells) (is.rank c)) (length h.cells + rank (c - length h.cells))) e

    high : (c : ℕ) → length h.cells ≤ c → new_rank c ≡ length h.cells + rank (c - length h.cells)
    high c ge = let e : nat_lt c (length h.cells) ≡ false = grind (arith, ge) in ap (λ b. pick b (lower_count is.rank (length h.cells) (is.rank c)) (length h.cells + rank (c - length h.cells))) e

    cell_new : (i : ℕ) → length h.cells ≤ i → i < length (grown h cs ns ws).cells → (i - length h.cells < length cs) × (length h.cells + (i - length h.cells) ≡ i)
    cell_new i ge lt = (omega (arith, lt, len, ge), omega (arith, ge))

    ranked_new : (i d : ℕ) → i < length (grown h cs ns ws).cells → Refers h.names i (at (grown h cs ns ws).cells i) d → new_rank d < new_rank i
    ranked_new i d lt r = elim (cases_lt i (length h.cells)) [
      | inl il ↦
          let q : Refers h.names i (at h.cells i) d = subst (λ m. Refers h.names i m d) (at-old i il) r in
          let dl = refers-within h i d (at h.cells i) (is.fits i il) q in
          omega (arith, low i il, low d dl, count_lower is.rank (length h.cells) i d dl (is.ranked i d il q))
      | inr ge ↦ elim (cases_lt d (length h.cells)) [
        | inl dl ↦ omega (arith, high i ge, low d dl, count_below is.rank (length h.cells) d dl)
        | inr dg ↦
            let n = cell_new i ge lt in
            let q : Refers h.names i (at cs (i - length h.cells)) d = subst (λ m. Refers h.names i m d) (at-new i ge) r in
            let l = lower_new (i - length h.cells) d n.0 (subst (λ k. Refers h.names k (at cs (i - length h.cells)) d) (sym n.1) q) dg in
            omega (arith, high i ge, high d dg, l)
      ]
    ]

    place_old : (i p : ℕ) → i < length h.cells → at h.cells i ≡ Free p → p < length h.numbers
    place_old i p lt e = let f : Fits h i (Free p) = subst (Fits h i) e (is.fits i lt) in f

    once_new : (i j p q : ℕ) → i < length (grown h cs ns ws).cells → j < length (grown h cs ns ws).cells → at (grown h cs ns ws).cells i ≡ Free p → at (grown h cs ns ws).cells j ≡ Free q → number_at (grown h cs ns ws) p ≡ number_at (grown h cs ns ws) q → i ≡ j
    once_new i j p q il jl ei ej same = elim (cases_lt i (length h.cells)) [
      | inl io ↦
          let fi = sym (at-old i io) ∙ ei in
          elim (cases_lt j (length h.cells)) [
            | inl jo ↦
                let fj = sym (at-old j jo) ∙ ej in
                is.once i j p q io jo fi fj (sym (number_old p (place_old i p io fi)) ∙ same ∙ number_old q (place_old j q jo fj))
            | inr jg ↦
                let n = cell_new j jg jl in
                absurd (fresh (j - length h.cells) q n.0 (sym (at-new j jg) ∙ ej) i p io fi (sym (number_old p (place_old i p io fi)) ∙ same))
          ]
      | inr ig ↦
          let m = cell_new i ig il in
          let fi = sym (at-new i ig) ∙ ei in
          elim (cases_lt j (length h.cells)) [
            | inl jo ↦
                let fj = sym (at-old j jo) ∙ ej in
                absurd (fresh (i - length h.cells) p m.0 fi j q jo fj (sym (number_old q (place_old j q jo fj)) ∙ sym same))
            | inr jg ↦
                let n = cell_new j jg jl in
                let e = apart (i - length h.cells) (j - length h.cells) p q m.0 n.0 fi (sym (at-new j jg) ∙ ej) same in
                omega (arith, e, m.1, n.1)
          ]
    ]

    pub IsHeap-grown : IsHeap (grown h cs ns ws)
    IsHeap-grown = record {
      fits = λ i lt. elim (cases_lt i (length h.cells)) [
        | inl il ↦ subst (Fits (grown h cs ns ws) i) (sym (at-old i il)) (fits-old i (at h.cells i) (is.fits i il))
        | inr ge ↦
            let n = cell_new i ge lt in
            subst (Fits (grown h cs ns ws) i) (sym (at-new i ge)) (subst (λ k. Fits (grown h cs ns ws) k (at cs (i - length h.cells))) n.1 (fits_new (i - length h.cells) n.0))
      ];
      rank = new_rank;
      ranked = ranked_new;
      once = once_new;
      trailed = below_old (length h.cells) h.trail is.trailed (length (grown h cs ns ws).cells) (omega (arith, len));
      bounded = omega (arith, is.bounded, len);
      few = omega (arith, few, len);
      names = is.names;
    }
