-- A block behind the cells of a heap: a head, and arguments that are values or new variables.
use Rattle.std.proofs.Common.{◌≡◌, ℕ, zero, suc, ◌+◌, ◌-◌, ◌<◌, ◌≤◌, ◌⊎◌, ◌^◌, Bool, true, false, List, [], ◌∷◌, ◌++◌, length, length-append, append_assoc, get_or, take, map, refl, sym, ap, ap₂, ◌∙◌, subst, arith, inl, inr}
use Rattle.std.proofs.lemmas.Bool.{cases_lt}
use Rattle.std.proofs.lemmas.List.{get_or_append_left, get_or-append_right, map-append, length-map, get_or_past, take_more}
use Rattle.plterm.specs.Tree.{Tree, var, compound, trees}
use Rattle.platoms.specs.Names.{functor_name, functor_arity}
use Rattle.plcells.specs.declared.cell.Cell.{Cell}
use Rattle.plcells.specs.declared.cell.Cell.TheVariants.{Free, Lone, Ref, Atom, Str, Fun, Ground}
use Rattle.plcells.specs.Store.{Store, at, number_at, spread, term, shown, Refers, IsHead, IsSolid, HasArguments, Fits, IsHeap, IsValue, value, grown, IsFresh, frees, one, AreDistinct, AddsBlock, IsFunctorOf, AreValues, AddsValue}
use Rattle.plcells.specs.declared.cell.Argument.{Argument}
use Rattle.plcells.specs.declared.cell.Argument.TheVariants.{Value, Variable}
use Rattle.plcells.specs.Blocks.{cells_of, numbers_of, stands_for, AreParts, AreSolid}
use Rattle.plcells.specs.Skipping.{plain, IsInside, AllPlaced}
use Rattle.plcells.proofs.Terms.{term-at, refers-within}
use Rattle.plcells.proofs.Values.{at-plain, value-shown, value-fits, value-head, value-free, plain-same}
use Rattle.plcells.proofs.Inside.{value-lone, refers-target, refers-variable, value-placed}
use Rattle.plcells.proofs.Growing.{at-old, at-new, value-old, value-same, solid-old, Grows-grown, IsHeap-grown}
use Rattle.plcells.proofs.Pushing.{inside-grown, frees-append, value-frees, value-at-list, values-frees}

-- an argument's cell: a value, or a new variable, whose number stands among the new ones
abbrev pub IsPart : Store → List ℕ → Cell → Tree → Type 0
IsPart h ns m t = (IsValue h m × (value h m ≡ t)) ⊎ ((i : ℕ) × (m ≡ Free (length h.numbers + i)) × (i < length ns) × (var (get_or ns i 0) ≡ t))

-- a block's head: of a ground one, when nothing among the arguments can hold a variable
abbrev pub IsHeadOf : Store → ℕ → List Cell → Cell → Type 0
IsHeadOf h f cs m = (m ≡ Fun f) ⊎ ((m ≡ Ground f) × ((k : ℕ) → k < length cs → IsSolid h.cells (at cs k)))

module _ (h : Store) (f : ℕ) (m : Cell) (cs : List Cell) (ns : List ℕ) (ts : List Tree)
    (is : IsHeap h) (functor : IsFunctorOf h.names f (length cs)) (head : IsHeadOf h f cs m)
    (len : length ts ≡ length cs) (parts : (k : ℕ) → k < length cs → IsPart h ns (at cs k) (get_or ts k (var 0)))
    (apart : (j k i : ℕ) → j < length cs → k < length cs → at cs j ≡ Free (length h.numbers + i) → at cs k ≡ Free (length h.numbers + i) → j ≡ k)
    (fresh : (i : ℕ) → i < length ns → IsFresh h (get_or ns i 0)) (distinct : AreDistinct ns)
    (count : frees cs ≡ length ns)
    (few : length h.cells + suc (length cs) < 2 ^ 32) where
  abbrev new : Store
  new = grown h (m ∷ cs) ns []

  new_len : length new.cells ≡ length h.cells + suc (length cs)
  new_len = length-append h.cells (m ∷ cs)

  is_head : IsHead m
  is_head = elim head [ inl e ↦ (let g : IsHead (Fun f) = tt in subst IsHead (sym e) g) | inr e ↦ (let g : IsHead (Ground f) = tt in subst IsHead (sym e.0) g) ]

  at_head : at new.cells (length h.cells) ≡ m
  at_head = at-new h (m ∷ cs) ns [] is (length h.cells) (omega arith) ∙ (let e : length h.cells - length h.cells ≡ 0 = omega arith in ap (at (m ∷ cs)) e)

  at_argument : (k d : ℕ) → d ≡ suc (length h.cells + k) → at new.cells d ≡ at cs k
  at_argument k d e =
      let s : d - length h.cells ≡ suc k = omega (arith, e) in
      at-new h (m ∷ cs) ns [] is d (omega (arith, e)) ∙ ap (at (m ∷ cs)) s

  behind : (d : ℕ) → length h.cells < d → d ≤ length h.cells + functor_arity h.names f → (k : ℕ) × (d ≡ suc (length h.cells + k)) × (k < length cs)
  behind d lt le = (d - suc (length h.cells), omega (arith, lt), omega (arith, lt, le, functor.arity))

  head_refers : (i d : ℕ) → Refers h.names i m d → (i < d) × (d ≤ i + functor_arity h.names f)
  head_refers i d r = elim head [
    | inl e ↦ (let g : Refers h.names i (Fun f) d = subst (λ n. Refers h.names i n d) e r in g)
    | inr e ↦ (let g : Refers h.names i (Ground f) d = subst (λ n. Refers h.names i n d) e.0 r in g)
  ]

  free_plain : (p : ℕ) (n : Cell) → n ≡ Free p → IsHead n → ⊥
  free_plain p n e g = let z : IsHead (Free p) = subst IsHead e g in z

  part_plain : (k : ℕ) → k < length cs → IsHead (at cs k) → ⊥
  part_plain k lt g = elim (parts k lt) [ inl v ↦ value-head h (at cs k) v.0 g | inr v ↦ free_plain _ (at cs k) v.1 g ]

  new_arguments : HasArguments new (length h.cells) f
  new_arguments = record {
    functor = functor.within;
    within = omega (arith, new_len, functor.arity);
    plain = λ d lt le g. let k = behind d lt le in part_plain k.0 k.2 (subst IsHead (at_argument k.0 d k.1) g);
  }

  head_fits : Fits new (length h.cells) m
  head_fits = elim head [
    | inl e ↦ subst (Fits new (length h.cells)) (sym e) new_arguments
    | inr e ↦ subst (Fits new (length h.cells)) (sym e.0) (record {
      arguments = new_arguments;
      solid = λ d lt le. let k = behind d lt le in subst (IsSolid new.cells) (sym (at_argument k.0 d k.1)) (solid-old h (m ∷ cs) ns [] is (at cs k.0) (e.1 k.0 k.2));
    })
  ]

  part_fits : (i k : ℕ) → k < length cs → Fits new i (at cs k)
  part_fits i k lt = elim (parts k lt) [
    | inl v ↦ value-fits new i (at cs k) (value-old h (m ∷ cs) ns [] is (at cs k) v.0)
    | inr v ↦ (let g : length h.numbers + v.0 < length new.numbers = omega (arith, length-append h.numbers ns, v.2) in subst (Fits new i) (sym v.1) g)
  ]

  block_fits : (j : ℕ) → j < suc (length cs) → Fits new (length h.cells + j) (at (m ∷ cs) j)
  block_fits zero lt = let e : length h.cells + 0 ≡ length h.cells = omega arith in subst (λ i. Fits new i m) (sym e) head_fits
  block_fits (suc j) lt = part_fits (length h.cells + suc j) j (omega arith)

  abbrev head_high : ℕ → ℕ
  head_high zero = 1
  head_high (suc j) = 0

  part_old : (k i d : ℕ) → k < length cs → Refers h.names i (at cs k) d → d < length h.cells
  part_old k i d lt r = elim (parts k lt) [
    | inl v ↦ refers-within h i d (at cs k) (value-fits h i (at cs k) v.0) r
    | inr v ↦ (let z : Refers h.names i (Free (length h.numbers + v.0)) d = subst (λ n. Refers h.names i n d) v.1 r in absurd z)
  ]

  block_lower : (j d : ℕ) → j < suc (length cs) → Refers h.names (length h.cells + j) (at (m ∷ cs) j) d → length h.cells ≤ d → head_high (d - length h.cells) < head_high j
  block_lower zero d lt r ge =
      let q = head_refers (length h.cells + 0) d r in
      let k = behind d (omega (arith, q.0)) (omega (arith, q.1)) in
      let s : d - length h.cells ≡ suc k.0 = omega (arith, k.1) in
      omega (arith, ap head_high s)
  block_lower (suc j) d lt r ge = let w = part_old j (length h.cells + suc j) d (omega arith) r in absurd (omega (arith, w, ge))

  free_same : (p q : ℕ) (n : Cell) → n ≡ Free p → n ≡ Free q → p ≡ q
  free_same p q n e g = cc

  -- which new number a new variable has
  free_part : (j p : ℕ) → j < suc (length cs) → at (m ∷ cs) j ≡ Free p → (k : ℕ) × (j ≡ suc k) × (k < length cs) × (i : ℕ) × (p ≡ length h.numbers + i) × (i < length ns) × (at cs k ≡ Free (length h.numbers + i))
  free_part zero p lt e = absurd (free_plain p m e is_head)
  free_part (suc k) p lt e = elim (parts k (omega arith)) [
    | inl v ↦ absurd (value-free h (at cs k) p v.0 e)
    | inr v ↦ (k, refl, omega arith, v.0, free_same p (length h.numbers + v.0) (at cs k) e v.1, v.2, v.1)
  ]

  number_new : (p i : ℕ) → p ≡ length h.numbers + i → number_at new p ≡ get_or ns i 0
  number_new p i e = get_or-append_right h.numbers ns (length h.numbers) p 0 refl (omega (arith, e)) ∙ (let s : p - length h.numbers ≡ i = omega (arith, e) in ap (λ j. get_or ns j 0) s)

  pub block-heap : IsHeap new
  block-heap = IsHeap-grown h (m ∷ cs) ns [] is head_high block_fits block_lower
      (λ j p lt e. let r = free_part j p lt e in subst (IsFresh h) (sym (number_new p r.3 r.4)) (fresh r.3 r.5))
      (λ j k p q jl kl ej ek same.
      let r = free_part j p jl ej in
      let s = free_part k q kl ek in
      let i = r.3 in
      let e : r.3 ≡ s.3 = distinct r.3 s.3 r.5 s.5 (sym (number_new p r.3 r.4) ∙ same ∙ number_new q s.3 s.4) in
      let a = apart r.0 s.0 s.3 r.2 s.2 (r.6 ∙ ap (λ n. Free (length h.numbers + n)) e) s.6 in
      omega (arith, a, r.1, s.1))
      few

  head_one : one m ≡ 0
  head_one = elim head [ inl e ↦ ap one e | inr e ↦ ap one e.0 ]

  spread_terms : (us : List Tree) (w : ℕ → Tree) (c : ℕ) → ((k : ℕ) → k < length us → w (c + k) ≡ get_or us k (var 0)) → spread w c (length us) ≡ us
  spread_terms [] w c each = refl
  spread_terms (u ∷ us) w c each =
      ap₂ (λ t rest. t ∷ rest) (ap w (omega arith) ∙ each 0 (omega arith))
      (spread_terms us w (suc c) (λ k lt. ap w (omega arith) ∙ each (suc k) (omega arith)))

  part_shown : (i k : ℕ) → k < length cs → shown new i (at cs k) ≡ get_or ts k (var 0)
  part_shown i k lt = elim (parts k lt) [
    | inl v ↦ value-shown new i (at cs k) (value-old h (m ∷ cs) ns [] is (at cs k) v.0) ∙ value-same h (m ∷ cs) ns [] is (at cs k) v.0 ∙ v.1
    | inr v ↦ ap (shown new i) v.1 ∙ ap var (number_new (length h.numbers + v.0) v.0 refl) ∙ v.3
  ]

  argument_is : (k : ℕ) → k < length cs → term new (suc (length h.cells) + k) ≡ get_or ts k (var 0)
  argument_is k lt =
      term-at new (suc (length h.cells) + k) block-heap (omega (arith, new_len, lt))
      ∙ ap (shown new (suc (length h.cells) + k)) (at_argument k (suc (length h.cells) + k) (omega arith))
      ∙ part_shown (suc (length h.cells) + k) k lt

  head_shown : (i : ℕ) → shown new i m ≡ compound (functor_name h.names f) (trees (spread (term new) (suc i) (functor_arity h.names f)))
  head_shown i = elim head [ inl e ↦ ap (shown new i) e | inr e ↦ ap (shown new i) e.0 ]

  pub block-added : AddsBlock h new (length h.cells) (functor_name h.names f) ts ns
  block-added = record {
    place = refl;
    fits = (omega (arith, new_len), subst IsHead (sym at_head) is_head);
    is =
        term-at new (length h.cells) block-heap (omega (arith, new_len))
        ∙ ap (shown new (length h.cells)) at_head
        ∙ head_shown (length h.cells)
        ∙ ap (λ k. compound (functor_name h.names f) (trees (spread (term new) (suc (length h.cells)) k))) (functor.arity ∙ sym len)
        ∙ ap (λ us. compound (functor_name h.names f) (trees us)) (spread_terms ts (term new) (suc (length h.cells)) (λ k lt. argument_is k (omega (arith, lt, len))));
    arguments = λ k lt.
        let kl : k < length cs = omega (arith, lt, len) in
        ((omega (arith, new_len, kl), λ g. part_plain k kl (subst IsHead (at_argument k (suc (length h.cells) + k) (omega arith)) g)), argument_is k kl);
    grows = Grows-grown h (m ∷ cs) ns [] is;
    length = omega (arith, new_len, len);
    fresh = λ n none other i p lt e same. elim (cases_lt i (length h.cells)) [
      | inl il ↦
          let g = sym (at-old h (m ∷ cs) ns [] is i il) ∙ e in
          let pl : p < length h.numbers = let z : Fits h i (Free p) = subst (Fits h i) g (is.fits i il) in z in
          none i p il g (sym (get_or_append_left h.numbers ns 0 p pl) ∙ same)
      | inr ig ↦
          let r = free_part (i - length h.cells) p (omega (arith, lt, ig, new_len)) (sym (at-new h (m ∷ cs) ns [] is i ig) ∙ e) in
          other r.3 r.5 (sym (number_new p r.3 r.4) ∙ same)
    ];
    frees = frees-append h.cells (m ∷ cs) ∙ omega (arith, count, head_one);
  }

  module _ (cells after : List Cell) (closed : List ℕ) (same : h.cells ≡ map plain cells) (inside : IsInside h cells closed)
      (same_after : map plain after ≡ map plain (cells ++ m ∷ cs))
      (was : (d p : ℕ) → at after d ≡ Lone p → at (cells ++ m ∷ cs) d ≡ Lone p)
      (alone : (d p : ℕ) → at after d ≡ Lone p → (k : ℕ) → k < length cs → at cs k ≡ Ref d → ⊥) where
    cells_len : length h.cells ≡ length cells
    cells_len = ap length same ∙ length-map cells plain

    head_lone : (p : ℕ) → m ≡ Lone p → ⊥
    head_lone p e = let g : IsHead (Lone p) = subst IsHead e is_head in g

    part_lone : (k p : ℕ) → k < length cs → at cs k ≡ Lone p → ⊥
    part_lone k p lt e = elim (parts k lt) [ inl v ↦ value-lone h (at cs k) p v.0 e | inr v ↦ (let z = sym v.1 ∙ e in grind (arith, z)) ]

    head_same : plain m ≡ m
    head_same = plain-same m head_lone

    parts_same : (us : List Cell) → ((k p : ℕ) → k < length us → at us k ≡ Lone p → ⊥) → map plain us ≡ us
    parts_same [] none = refl
    parts_same (u ∷ us) none = ap₂ (λ x xs. x ∷ xs) (plain-same u (λ p e. none 0 p (omega arith) e)) (parts_same us (λ k p lt e. none (suc k) p (omega arith) e))

    pub block-cells : map plain after ≡ h.cells ++ m ∷ cs
    block-cells = same_after ∙ map-append plain cells (m ∷ cs) ∙ ap₂ (λ xs ys. xs ++ ys) (sym same) (ap₂ (λ x xs. x ∷ xs) head_same (parts_same cs part_lone))

    block_lone : (j p : ℕ) → at (m ∷ cs) j ≡ Lone p → ⊥
    block_lone zero p e = head_lone p e
    block_lone (suc j) p e = elim (cases_lt j (length cs)) [
      | inl lt ↦ part_lone j p lt e
      | inr ge ↦ let z = sym (get_or_past cs j (Atom 0) ge) ∙ e in grind (arith, z)
    ]

    was_old : (d p : ℕ) → at after d ≡ Lone p → at cells d ≡ Lone p
    was_old d p e = elim (cases_lt d (length cells)) [
      | inl dl ↦ sym (get_or_append_left cells (m ∷ cs) (Atom 0) d dl) ∙ was d p e
      | inr dg ↦ absurd (block_lone (d - length cells) p (sym (get_or-append_right cells (m ∷ cs) (length cells) d (Atom 0) refl dg) ∙ was d p e))
    ]

    seen_old : (d p : ℕ) → at cells d ≡ Lone p → at h.cells d ≡ Free p
    seen_old d p e = ap (λ xs. at xs d) same ∙ at-plain cells d ∙ ap plain e

    block_refers : (j i d p : ℕ) → j < suc (length cs) → i ≡ length h.cells + j → Refers h.names i (at (m ∷ cs) j) d → at after d ≡ Lone p → ⊥
    block_refers zero i d p lt ie r e =
        let dl : d < length cells = elim (cases_lt d (length cells)) [ inl dl ↦ dl | inr dg ↦ absurd (let z = sym (get_or_past cells d (Atom 0) dg) ∙ was_old d p e in grind (arith, z)) ] in
        let q = head_refers i d r in
        omega (arith, q.0, ie, dl, cells_len)
    block_refers (suc j) i d p lt ie r e = elim (parts j (omega arith)) [
      | inl v ↦ alone d p e j (omega arith) (refers-variable h d p (at cs j) v.0 (refers-target h i d (at cs j) v.0 r) (seen_old d p (was_old d p e)))
      | inr v ↦ (let z : Refers h.names i (Free (length h.numbers + v.0)) d = subst (λ n. Refers h.names i n d) v.1 r in z)
    ]

    pub block-inside : IsInside new after closed
    block-inside = inside-grown h (m ∷ cs) ns [] cells closed inside block-heap after (λ i d p lt r e. elim (cases_lt i (length h.cells)) [
      | inl il ↦ inside.lone i d p il (subst (λ n. Refers h.names i n d) (at-old h (m ∷ cs) ns [] is i il) r) (was_old d p e)
      | inr ig ↦ block_refers (i - length h.cells) i d p (omega (arith, lt, ig, new_len)) (omega (arith, ig)) (subst (λ n. Refers h.names i n d) (at-new h (m ∷ cs) ns [] is i ig) r) e
    ])

-- a compound of values
values_parts : (h : Store) (vs : List Cell) → AreValues h vs → (k : ℕ) → k < length vs → IsPart h [] (at vs k) (get_or (map (value h) vs) k (var 0))
values_parts h [] are k lt = absurd (omega arith)
values_parts h (v ∷ vs) are zero lt = inl (are.0, refl)
values_parts h (v ∷ vs) are (suc k) lt = values_parts h vs are.1 k (omega arith)

module _ (h : Store) (f : ℕ) (vs : List Cell) (is : IsHeap h) (functor : IsFunctorOf h.names f (length vs)) (are : AreValues h vs) (few : length h.cells + suc (length vs) < 2 ^ 32) where
  values_apart : (j k i : ℕ) → j < length vs → k < length vs → at vs j ≡ Free (length h.numbers + i) → at vs k ≡ Free (length h.numbers + i) → j ≡ k
  values_apart j k i jl kl e g = absurd (value-free h (at vs j) (length h.numbers + i) (value-at-list h vs j are jl) e)

  pub compound-added : AddsValue h (grown h (Fun f ∷ vs) [] []) (Str (length h.cells)) (compound (functor_name h.names f) (trees (map (value h) vs)))
  compound-added =
      let a = block-added h f (Fun f) vs [] (map (value h) vs) is functor (inl refl) (length-map vs (value h)) (values_parts h vs are) values_apart (λ i lt. absurd (omega (arith, lt))) (λ j k jl kl e. absurd (omega (arith, jl))) (values-frees h vs are) few in
      record { fits = a.fits; is = a.is; grows = a.grows; fresh = λ m free. a.fresh m free (λ k lt. absurd (omega (arith, lt))); frees = omega (arith, a.frees) }

  module _ (cells after : List Cell) (closed : List ℕ) (same : h.cells ≡ map plain cells) (inside : IsInside h cells closed)
      (same_after : map plain after ≡ map plain (cells ++ Fun f ∷ vs))
      (was : (d p : ℕ) → at after d ≡ Lone p → at (cells ++ Fun f ∷ vs) d ≡ Lone p)
      (alone : (d p : ℕ) → at after d ≡ Lone p → (k : ℕ) → k < length vs → at vs k ≡ Ref d → ⊥) where
    pub compound-cells : map plain after ≡ h.cells ++ Fun f ∷ vs
    compound-cells =
        block-cells h f (Fun f) vs [] (map (value h) vs) is functor (inl refl) (length-map vs (value h)) (values_parts h vs are) values_apart (λ i lt. absurd (omega (arith, lt))) (λ j k jl kl e. absurd (omega (arith, jl))) (values-frees h vs are) few
        cells after closed same inside same_after was alone

    pub compound-inside : IsInside (grown h (Fun f ∷ vs) [] []) after closed
    compound-inside =
        block-inside h f (Fun f) vs [] (map (value h) vs) is functor (inl refl) (length-map vs (value h)) (values_parts h vs are) values_apart (λ i lt. absurd (omega (arith, lt))) (λ j k jl kl e. absurd (omega (arith, jl))) (values-frees h vs are) few
        cells after closed same inside same_after was alone

-- arguments one behind another
pub cells-append : (n : ℕ) (xs bs : List Argument) → cells_of n (xs ++ bs) ≡ cells_of n xs ++ cells_of (n + length (numbers_of xs)) bs
cells-append n [] bs = ap (λ k. cells_of k bs) (omega arith)
cells-append n (Value v ∷ xs) bs = ap (λ cs. v ∷ cs) (cells-append n xs bs)
cells-append n (Variable x ∷ xs) bs = ap (λ cs. Free n ∷ cs) (cells-append (suc n) xs bs ∙ ap (λ k. cells_of (suc n) xs ++ cells_of k bs) (omega arith))

pub numbers-append : (xs bs : List Argument) → numbers_of (xs ++ bs) ≡ numbers_of xs ++ numbers_of bs
numbers-append [] bs = refl
numbers-append (Value v ∷ xs) bs = numbers-append xs bs
numbers-append (Variable x ∷ xs) bs = ap (λ ns. x ∷ ns) (numbers-append xs bs)

pub numbers-most : (xs : List Argument) → length (numbers_of xs) ≤ length xs
numbers-most [] = omega arith
numbers-most (Value v ∷ xs) = omega (arith, numbers-most xs)
numbers-most (Variable x ∷ xs) = omega (arith, numbers-most xs)

pub cells-length : (n : ℕ) (xs : List Argument) → length (cells_of n xs) ≡ length xs
cells-length n [] = refl
cells-length n (Value v ∷ xs) = ap suc (cells-length n xs)
cells-length n (Variable x ∷ xs) = ap suc (cells-length (suc n) xs)

-- one more argument
module _ (xs : List Argument) (i : ℕ) (d a : Argument) (lt : i < length xs) (got : get_or xs i d ≡ a) where
  one_more : take (i + 1) xs ≡ take i xs ++ a ∷ []
  one_more = take_more xs i d lt ∙ ap (λ b. take i xs ++ b ∷ []) got

  pub cells-push : (old cells after : List Cell) (n : ℕ) (c : Cell) → cells ≡ old ++ cells_of n (take i xs) → after ≡ cells ++ c ∷ [] → cells_of (n + length (numbers_of (take i xs))) (a ∷ []) ≡ c ∷ [] → after ≡ old ++ cells_of n (take (i + 1) xs)
  cells-push old cells after n c so_far e is =
      e ∙ ap (λ ys. ys ++ c ∷ []) so_far ∙ append_assoc old (cells_of n (take i xs)) (c ∷ [])
      ∙ ap (λ ys. old ++ ys) (ap (λ zs. cells_of n (take i xs) ++ zs) (sym is) ∙ sym (cells-append n (take i xs) (a ∷ [])) ∙ ap (cells_of n) (sym one_more))

  pub numbers-push : (old numbers after : List ℕ) → numbers ≡ old ++ numbers_of (take i xs) → after ≡ numbers ++ numbers_of (a ∷ []) → after ≡ old ++ numbers_of (take (i + 1) xs)
  numbers-push old numbers after so_far e =
      e ∙ ap (λ ys. ys ++ numbers_of (a ∷ [])) so_far ∙ append_assoc old (numbers_of (take i xs)) (numbers_of (a ∷ []))
      ∙ ap (λ ys. old ++ ys) (sym (numbers-append (take i xs) (a ∷ [])) ∙ ap numbers_of (sym one_more))

  only_ref : (b : Argument) (n j c : ℕ) → at (cells_of n (b ∷ [])) j ≡ Ref c → b ≡ Value (Ref c)
  only_ref (Value v) n zero c e = ap Value e
  only_ref (Value v) n (suc j) c e = absurd (grind (arith, e))
  only_ref (Variable x) n zero c e = absurd (grind (arith, e))
  only_ref (Variable x) n (suc j) c e = absurd (grind (arith, e))

  -- what refers to a cell is among the first arguments, or the next one
  pub ref-more : (n k c : ℕ) → at (cells_of n (take (i + 1) xs)) k ≡ Ref c → (at (cells_of n (take i xs)) k ≡ Ref c) ⊎ (a ≡ Value (Ref c))
  ref-more n k c e =
      let whole : cells_of n (take (i + 1) xs) ≡ cells_of n (take i xs) ++ cells_of (n + length (numbers_of (take i xs))) (a ∷ []) = ap (cells_of n) one_more ∙ cells-append n (take i xs) (a ∷ []) in
      let f = sym (ap (λ cs. at cs k) whole) ∙ e in
      elim (cases_lt k (length (cells_of n (take i xs)))) [
        | inl lt ↦ inl (sym (get_or_append_left (cells_of n (take i xs)) (cells_of (n + length (numbers_of (take i xs))) (a ∷ [])) (Atom 0) k lt) ∙ f)
        | inr ge ↦ inr (only_ref a (n + length (numbers_of (take i xs))) (k - length (cells_of n (take i xs))) c
            (sym (get_or-append_right (cells_of n (take i xs)) (cells_of (n + length (numbers_of (take i xs))) (a ∷ [])) (length (cells_of n (take i xs))) k (Atom 0) refl ge) ∙ f))
      ]

pub argument-same : (u v : Cell) → Value u ≡ Value v → u ≡ v
argument-same u v e = cc

-- the cell of a value
pub value-cell : (xs : List Argument) (n i : ℕ) (d : Argument) (v : Cell) → i < length xs → get_or xs i d ≡ Value v → at (cells_of n xs) i ≡ v
value-cell [] n i d v lt e = absurd (omega arith)
value-cell (Value u ∷ xs) n zero d v lt e = argument-same u v e
value-cell (Variable x ∷ xs) n zero d v lt e = absurd (grind (arith, e))
value-cell (Value u ∷ xs) n (suc i) d v lt e = value-cell xs n i d v (omega arith) e
value-cell (Variable x ∷ xs) n (suc i) d v lt e = value-cell xs (suc n) i d v (omega arith) e

pub parts-placed : (h : Store) (m n : ℕ) (xs : List Argument) → AreParts h xs → length h.cells ≤ m → AllPlaced m (cells_of n xs)
parts-placed h m n [] are le = tt
parts-placed h m n (Value v ∷ xs) are le = (value-placed h m v are.0 le, parts-placed h m n xs are.1 le)
parts-placed h m n (Variable x ∷ xs) are le = (tt, parts-placed h m (suc n) xs are.1 le)

pub solid-at : (h : Store) (n : ℕ) (xs : List Argument) → AreSolid h xs → (k : ℕ) → k < length (cells_of n xs) → IsSolid h.cells (at (cells_of n xs) k)
solid-at h n [] are k lt = absurd (omega arith)
solid-at h n (Value v ∷ xs) are zero lt = are.0
solid-at h n (Value v ∷ xs) are (suc k) lt = solid-at h n xs are.1 k (omega arith)
solid-at h n (Variable x ∷ xs) are k lt = absurd are

pub parts-fresh : (h : Store) (xs : List Argument) → AreParts h xs → (i : ℕ) → i < length (numbers_of xs) → IsFresh h (get_or (numbers_of xs) i 0)
parts-fresh h [] are i lt = absurd (omega arith)
parts-fresh h (Value v ∷ xs) are i lt = parts-fresh h xs are.1 i lt
parts-fresh h (Variable x ∷ xs) are zero lt = are.0
parts-fresh h (Variable x ∷ xs) are (suc i) lt = parts-fresh h xs are.1 i (omega arith)

pub parts-frees : (h : Store) (n : ℕ) (xs : List Argument) → AreParts h xs → frees (cells_of n xs) ≡ length (numbers_of xs)
parts-frees h n [] are = refl
parts-frees h n (Value v ∷ xs) are = omega (arith, value-frees h v are.0, parts-frees h n xs are.1)
parts-frees h n (Variable x ∷ xs) are = omega (arith, parts-frees h (suc n) xs are.1)

part_from : (h : Store) (n : ℕ) (xs : List Argument) → AreParts h xs → (k : ℕ) → k < length (cells_of n xs) →
    (IsValue h (at (cells_of n xs) k) × (value h (at (cells_of n xs) k) ≡ get_or (map (stands_for h) xs) k (var 0)))
    ⊎ ((i : ℕ) × (at (cells_of n xs) k ≡ Free (n + i)) × (i < length (numbers_of xs)) × (var (get_or (numbers_of xs) i 0) ≡ get_or (map (stands_for h) xs) k (var 0)))
part_from h n [] are k lt = absurd (omega arith)
part_from h n (Value v ∷ xs) are zero lt = inl (are.0, refl)
part_from h n (Value v ∷ xs) are (suc k) lt = part_from h n xs are.1 k (omega arith)
part_from h n (Variable x ∷ xs) are zero lt = inr (0, ap Free (omega arith), omega arith, refl)
part_from h n (Variable x ∷ xs) are (suc k) lt = elim (part_from h (suc n) xs are.1 k (omega arith)) [
  | inl v ↦ inl v
  | inr v ↦ inr (suc v.0, v.1 ∙ ap Free (omega arith), omega (arith, v.2), v.3)
]

pub part-at : (h : Store) (xs : List Argument) → AreParts h xs → (k : ℕ) → k < length (cells_of (length h.numbers) xs) → IsPart h (numbers_of xs) (at (cells_of (length h.numbers) xs) k) (get_or (map (stands_for h) xs) k (var 0))
part-at h xs are k lt = part_from h (length h.numbers) xs are k lt

place_own : (a b : ℕ) → Free a ≡ Free b → a ≡ b
place_own a b e = cc

place_high : (h : Store) (n : ℕ) (xs : List Argument) → AreParts h xs → (j p : ℕ) → j < length (cells_of n xs) → at (cells_of n xs) j ≡ Free p → n ≤ p
place_high h n [] are j p lt e = absurd (omega arith)
place_high h n (Value v ∷ xs) are zero p lt e = absurd (value-free h v p are.0 e)
place_high h n (Value v ∷ xs) are (suc j) p lt e = place_high h n xs are.1 j p (omega arith) e
place_high h n (Variable x ∷ xs) are zero p lt e = let same = place_own n p e in omega (arith, same)
place_high h n (Variable x ∷ xs) are (suc j) p lt e = omega (arith, place_high h (suc n) xs are.1 j p (omega arith) e)

pub parts-apart : (h : Store) (n : ℕ) (xs : List Argument) → AreParts h xs → (j k p : ℕ) → j < length (cells_of n xs) → k < length (cells_of n xs) → at (cells_of n xs) j ≡ Free p → at (cells_of n xs) k ≡ Free p → j ≡ k
parts-apart h n [] are j k p jl kl e f = absurd (omega arith)
parts-apart h n (Value v ∷ xs) are zero k p jl kl e f = absurd (value-free h v p are.0 e)
parts-apart h n (Value v ∷ xs) are (suc j) zero p jl kl e f = absurd (value-free h v p are.0 f)
parts-apart h n (Value v ∷ xs) are (suc j) (suc k) p jl kl e f = ap suc (parts-apart h n xs are.1 j k p (omega arith) (omega arith) e f)
parts-apart h n (Variable x ∷ xs) are zero zero p jl kl e f = refl
parts-apart h n (Variable x ∷ xs) are zero (suc k) p jl kl e f = absurd (omega (arith, place_own n p e, place_high h (suc n) xs are.1 k p (omega arith) f))
parts-apart h n (Variable x ∷ xs) are (suc j) zero p jl kl e f = absurd (omega (arith, place_own n p f, place_high h (suc n) xs are.1 j p (omega arith) e))
parts-apart h n (Variable x ∷ xs) are (suc j) (suc k) p jl kl e f = ap suc (parts-apart h (suc n) xs are.1 j k p (omega arith) (omega arith) e f)

-- a block of arguments
module _ (h : Store) (f : ℕ) (ground : Bool) (m : Cell) (xs : List Argument) (is : IsHeap h) (functor : IsFunctorOf h.names f (length xs)) (are : AreParts h xs) (distinct : AreDistinct (numbers_of xs))
    (solid : ground ≡ true → AreSolid h xs) (yes_is : ground ≡ true → m ≡ Ground f) (no_is : ground ≡ false → m ≡ Fun f) (few : length h.cells + suc (length xs) < 2 ^ 32) where
  abbrev cs : List Cell
  cs = cells_of (length h.numbers) xs

  cs_len : length (cells_of (length h.numbers) xs) ≡ length xs
  cs_len = cells-length (length h.numbers) xs

  functor_is : IsFunctorOf h.names f (length (cells_of (length h.numbers) xs))
  functor_is = record { within = functor.within; arity = functor.arity ∙ sym cs_len }

  head_is : IsHeadOf h f (cells_of (length h.numbers) xs) m
  head_is = by_ground ground refl
    where
      by_ground : (b : Bool) → ground ≡ b → IsHeadOf h f (cells_of (length h.numbers) xs) m
      by_ground true e = inr (yes_is e, solid-at h (length h.numbers) xs (solid e))
      by_ground false e = inl (no_is e)

  terms_len : length (map (stands_for h) xs) ≡ length (cells_of (length h.numbers) xs)
  terms_len = length-map xs (stands_for h) ∙ sym cs_len

  room : length h.cells + suc (length (cells_of (length h.numbers) xs)) < 2 ^ 32
  room = omega (arith, few, cs_len)

  apart_is : (j k i : ℕ) → j < length (cells_of (length h.numbers) xs) → k < length (cells_of (length h.numbers) xs) → at (cells_of (length h.numbers) xs) j ≡ Free (length h.numbers + i) → at (cells_of (length h.numbers) xs) k ≡ Free (length h.numbers + i) → j ≡ k
  apart_is j k i jl kl e f = parts-apart h (length h.numbers) xs are j k (length h.numbers + i) jl kl e f

  pub build-added : AddsBlock h (grown h (m ∷ cells_of (length h.numbers) xs) (numbers_of xs) []) (length h.cells) (functor_name h.names f) (map (stands_for h) xs) (numbers_of xs)
  build-added = block-added h f m cs (numbers_of xs) (map (stands_for h) xs) is functor_is head_is terms_len (part-at h xs are) apart_is (parts-fresh h xs are) distinct (parts-frees h (length h.numbers) xs are) room

  module _ (cells after : List Cell) (closed : List ℕ) (same : h.cells ≡ map plain cells) (inside : IsInside h cells closed)
      (same_after : map plain after ≡ map plain (cells ++ m ∷ cells_of (length h.numbers) xs))
      (was : (d p : ℕ) → at after d ≡ Lone p → at (cells ++ m ∷ cells_of (length h.numbers) xs) d ≡ Lone p)
      (alone : (d p : ℕ) → at after d ≡ Lone p → (n k : ℕ) → at (cells_of n xs) k ≡ Ref d → ⊥) where
    pub build-cells : map plain after ≡ h.cells ++ m ∷ cells_of (length h.numbers) xs
    build-cells = block-cells h f m cs (numbers_of xs) (map (stands_for h) xs) is functor_is head_is terms_len (part-at h xs are) apart_is (parts-fresh h xs are) distinct (parts-frees h (length h.numbers) xs are) room
        cells after closed same inside same_after was (λ d p e k lt. alone d p e (length h.numbers) k)

    pub build-inside : IsInside (grown h (m ∷ cells_of (length h.numbers) xs) (numbers_of xs) []) after closed
    build-inside = block-inside h f m cs (numbers_of xs) (map (stands_for h) xs) is functor_is head_is terms_len (part-at h xs are) apart_is (parts-fresh h xs are) distinct (parts-frees h (length h.numbers) xs are) room
        cells after closed same inside same_after was (λ d p e k lt. alone d p e (length h.numbers) k)
