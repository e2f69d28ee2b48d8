-- New variables and integers.
use Rattle.std.proofs.Common.{◌≡◌, ℕ, ℤ, pos, zero, suc, ◌+◌, ◌<◌, ◌≤◌, ◌^◌, List, [], ◌∷◌, ◌++◌, length, length-append, get_or, map, refl, sym, ap, ap₂, ◌∙◌, subst, arith, inl, inr, append-nil}
use Rattle.std.proofs.lemmas.Bool.{cases_lt}
use Rattle.std.proofs.lemmas.List.{get_or_append_left, get_or_push, length-map}
use Rattle.plterm.specs.Tree.{var, int}
use Rattle.plcells.specs.declared.cell.Cell.{Cell}
use Rattle.plcells.specs.declared.cell.Cell.TheVariants.{Free, Lone, Ref, Int, Wide, Atom, Str, Fun, Ground}
use Rattle.plcells.specs.Store.{Store, at, number_at, shown, Refers, IsHead, Fits, IsHeap, IsValue, grown, IsFresh, Grows, frees, one, AreValues, AddsVariable, AddsValue, IsVariable}
use Rattle.plcells.specs.Skipping.{plain, AreLone, IsClosed, AreClosed, AreRising, IsInside, IsPlaced, AllPlaced, IsClosing}
use Rattle.plcells.proofs.Terms.{term-at, refers-within}
use Rattle.plcells.proofs.Kept.{Keeps-refl}
use Rattle.plcells.proofs.Inside.{value-placed}
use Rattle.plcells.proofs.Growing.{at-old, Grows-grown, IsHeap-grown}

pub Grows-refl : (h : Store) → Grows h h
Grows-refl h = record { longer = omega arith; terms = λ c lt. refl; values = λ v f. (f, refl); keeps = Keeps-refl h; names = refl }

-- the stores that the fields make
pub as-grown : (h : Store) (cs : List Cell) (ns : List ℕ) (ws : List ℤ) (cells : List Cell) (numbers : List ℕ) (wide : List ℤ) → cells ≡ h.cells ++ cs → numbers ≡ h.numbers ++ ns → wide ≡ h.wide ++ ws →
    record { cells = cells; numbers = numbers; wide = wide; trail = h.trail; boundary = h.boundary; names = h.names } ≡ grown h cs ns ws
as-grown h cs ns ws cells numbers wide a b c =
    let make : List Cell → List ℕ → List ℤ → Store = λ (x : List Cell) (y : List ℕ) (z : List ℤ). record { cells = x; numbers = y; wide = z; trail = h.trail; boundary = h.boundary; names = h.names } in
    ap₂ (λ x y. make x y wide) a b ∙ ap (make (h.cells ++ cs) (h.numbers ++ ns)) c

-- closed prefixes
module _ (h : Store) (is : IsHeap h) where
  whole : IsClosed h (length h.cells)
  whole = record { within = omega arith; closed = λ i d lt r. refers-within h i d (at h.cells i) (is.fits i lt) r }

  closing_closed : (old new : List ℕ) → AreClosed h old → IsClosing old new (length h.cells) → AreClosed h new
  closing_closed old new closed step = elim step [
    | inl e ↦ subst (AreClosed h) (sym e) closed
    | inr r ↦ λ k lt. elim (cases_lt k (length old)) [
      | inl kl ↦ subst (IsClosed h) (sym (ap (λ xs. get_or xs k 0) r.0 ∙ get_or_append_left old (length h.cells ∷ []) 0 k kl)) (closed k kl)
      | inr kg ↦ subst (IsClosed h) (sym (ap (λ xs. get_or xs k 0) r.0 ∙ get_or_push old (length h.cells) 0 k (omega (arith, lt, kg, ap length r.0, length-append old (length h.cells ∷ []))))) whole
    ]
  ]

closing_rising : (n : ℕ) (old new : List ℕ) → AreRising old → IsClosing old new n → AreRising new
closing_rising n old new rising step = elim step [
  | inl e ↦ subst AreRising (sym e) rising
  | inr r ↦ λ j k le lt.
      let len : length new ≡ length old + 1 = ap length r.0 ∙ length-append old (n ∷ []) in
      elim (cases_lt k (length old)) [
        | inl kl ↦
            let a : get_or new j 0 ≡ get_or old j 0 = ap (λ xs. get_or xs j 0) r.0 ∙ get_or_append_left old (n ∷ []) 0 j (omega arith) in
            let b : get_or new k 0 ≡ get_or old k 0 = ap (λ xs. get_or xs k 0) r.0 ∙ get_or_append_left old (n ∷ []) 0 k kl in
            omega (arith, a, b, rising j k le kl)
        | inr kg ↦
            let b : get_or new k 0 ≡ n = ap (λ xs. get_or xs k 0) r.0 ∙ get_or_push old n 0 k (omega (arith, lt, kg, len)) in
            elim (cases_lt j (length old)) [
              | inl jl ↦
                  let a : get_or new j 0 ≡ get_or old j 0 = ap (λ xs. get_or xs j 0) r.0 ∙ get_or_append_left old (n ∷ []) 0 j jl in
                  omega (arith, a, b, r.1 j jl)
              | inr jg ↦
                  let same : j ≡ k = omega (arith, le, lt, jg, len) in
                  omega (arith, ap (λ i. get_or new i 0) same)
            ]
      ]
]

pub inside-closing : (h : Store) (cells : List Cell) (old new : List ℕ) → IsInside h cells old → IsClosing old new (length h.cells) → IsInside h cells new
inside-closing h cells old new inside step = record {
  heap = inside.heap;
  lone = inside.lone;
  prefixes = closing_closed h inside.heap old new inside.prefixes step;
  rising = closing_rising (length h.cells) old new inside.rising step;
}

module _ (h : Store) (cs : List Cell) (ns : List ℕ) (ws : List ℤ) (cells : List Cell) (closed : List ℕ) (inside : IsInside h cells closed) (heap : IsHeap (grown h cs ns ws)) where
  pub inside-grown : (after : List Cell) → AreLone (grown h cs ns ws) after → IsInside (grown h cs ns ws) after closed
  inside-grown after lone = record {
    heap = heap;
    lone = lone;
    prefixes = λ k lt.
        let old = inside.prefixes k lt in
        record {
          within = omega (arith, old.within, length-append h.cells cs);
          closed = λ i d il r. old.closed i d il (subst (λ m. Refers h.names i m d) (at-old h cs ns ws inside.heap i (let w = old.within in omega (arith, w, il))) r);
        };
    rising = inside.rising;
  }

  -- what refers to a lone variable of old
  old_refers : (i d p : ℕ) → i < length h.cells → Refers h.names i (at (grown h cs ns ws).cells i) d → at cells d ≡ Lone p → ⊥
  old_refers i d p lt r e = inside.lone i d p lt (subst (λ m. Refers h.names i m d) (at-old h cs ns ws inside.heap i lt) r) e

pub frees-append : (xs ys : List Cell) → frees (xs ++ ys) ≡ frees xs + frees ys
frees-append [] ys = omega arith
frees-append (x ∷ xs) ys = omega (arith, frees-append xs ys)

-- a variable
module _ (h : Store) (n : ℕ) (is : IsHeap h) (fresh : IsFresh h n) (few : length h.cells + 1 < 2 ^ 32) where
  abbrev cs : List Cell
  cs = Free (length h.numbers) ∷ []

  abbrev made : Store
  made = grown h (Free (length h.numbers) ∷ []) (n ∷ []) []

  number_made : number_at (grown h (Free (length h.numbers) ∷ []) (n ∷ []) []) (length h.numbers) ≡ n
  number_made = get_or_push h.numbers n 0 (length h.numbers) refl

  variable_fits : (j : ℕ) → j < 1 → Fits (grown h (Free (length h.numbers) ∷ []) (n ∷ []) []) (length h.cells + j) (at (Free (length h.numbers) ∷ []) j)
  variable_fits zero lt = omega (arith, length-append h.numbers (n ∷ []))
  variable_fits (suc j) lt = absurd (omega arith)

  variable_refers : (j i d : ℕ) → j < 1 → Refers h.names i (at (Free (length h.numbers) ∷ []) j) d → ⊥
  variable_refers zero i d lt r = r
  variable_refers (suc j) i d lt r = omega arith

  variable_place : (j p : ℕ) → j < 1 → at (Free (length h.numbers) ∷ []) j ≡ Free p → length h.numbers ≡ p
  variable_place zero p lt e = cc
  variable_place (suc j) p lt e = absurd (omega arith)

  pub variable-heap : IsHeap (grown h (Free (length h.numbers) ∷ []) (n ∷ []) [])
  variable-heap = IsHeap-grown h (Free (length h.numbers) ∷ []) (n ∷ []) [] is (λ j. 0)
      variable_fits
      (λ j d lt r ge. absurd (variable_refers j (length h.cells + j) d lt r))
      (λ j p lt e. subst (IsFresh h) (sym (ap (number_at (grown h (Free (length h.numbers) ∷ []) (n ∷ []) [])) (sym (variable_place j p lt e)) ∙ number_made)) fresh)
      (λ j k p q jl kl ej ek same. omega arith)
      few

  at_made : at (grown h (Free (length h.numbers) ∷ []) (n ∷ []) []).cells (length h.cells) ≡ Free (length h.numbers)
  at_made = get_or_push h.cells (Free (length h.numbers)) (Atom 0) (length h.cells) refl

  pub variable-added : AddsVariable h (grown h (Free (length h.numbers) ∷ []) (n ∷ []) []) (length h.cells) n
  variable-added = record {
    place = refl;
    fits = (omega (arith, length-append h.cells (Free (length h.numbers) ∷ [])), λ head. let f : IsHead (Free (length h.numbers)) = subst IsHead at_made head in f);
    end = let v : IsVariable (Free (length h.numbers)) = tt in subst IsVariable (sym at_made) v;
    is =
        term-at (grown h (Free (length h.numbers) ∷ []) (n ∷ []) []) (length h.cells) variable-heap (omega (arith, length-append h.cells (Free (length h.numbers) ∷ [])))
        ∙ ap (shown (grown h (Free (length h.numbers) ∷ []) (n ∷ []) []) (length h.cells)) at_made
        ∙ ap var number_made;
    grows = Grows-grown h (Free (length h.numbers) ∷ []) (n ∷ []) [] is;
    length = omega (arith, length-append h.cells (Free (length h.numbers) ∷ []));
    fresh = λ m none other i p lt e same. elim (cases_lt i (length h.cells)) [
      | inl il ↦
          let f = sym (at-old h (Free (length h.numbers) ∷ []) (n ∷ []) [] is i il) ∙ e in
          let pl : p < length h.numbers = let g : Fits h i (Free p) = subst (Fits h i) f (is.fits i il) in g in
          none i p il f (sym (get_or_append_left h.numbers (n ∷ []) 0 p pl) ∙ same)
      | inr ig ↦
          let last : i ≡ length h.cells = omega (arith, lt, ig, length-append h.cells (Free (length h.numbers) ∷ [])) in
          let f : Free (length h.numbers) ≡ Free p = sym at_made ∙ ap (at (grown h (Free (length h.numbers) ∷ []) (n ∷ []) []).cells) (sym last) ∙ e in
          let q : length h.numbers ≡ p = cc in
          other (sym same ∙ ap (number_at (grown h (Free (length h.numbers) ∷ []) (n ∷ []) [])) (sym q) ∙ number_made)
    ];
    frees = frees-append h.cells (Free (length h.numbers) ∷ []) ∙ omega arith;
  }

  pub variable-inside : (cells : List Cell) (closed : List ℕ) → h.cells ≡ map plain cells → IsInside h cells closed → IsInside (grown h (Free (length h.numbers) ∷ []) (n ∷ []) []) (cells ++ Lone (length h.numbers) ∷ []) closed
  variable-inside cells closed same inside =
      let len : length h.cells ≡ length cells = ap length same ∙ length-map cells plain in
      inside-grown h (Free (length h.numbers) ∷ []) (n ∷ []) [] cells closed inside variable-heap (cells ++ Lone (length h.numbers) ∷ []) (λ i d p lt r e. elim (cases_lt i (length h.cells)) [
        | inl il ↦
            let q = subst (λ m. Refers h.names i m d) (at-old h (Free (length h.numbers) ∷ []) (n ∷ []) [] is i il) r in
            let dl = refers-within h i d (at h.cells i) (is.fits i il) q in
            inside.lone i d p il q (sym (get_or_append_left cells (Lone (length h.numbers) ∷ []) (Atom 0) d (omega (arith, dl, len))) ∙ e)
        | inr ig ↦
            let last : i ≡ length h.cells = omega (arith, lt, ig, length-append h.cells (Free (length h.numbers) ∷ [])) in
            let f : Refers h.names i (Free (length h.numbers)) d = subst (λ m. Refers h.names i m d) (ap (at (grown h (Free (length h.numbers) ∷ []) (n ∷ []) []).cells) last ∙ at_made) r in
            f
      ])

-- values
pub value-at-list : (h : Store) (vs : List Cell) (k : ℕ) → AreValues h vs → k < length vs → IsValue h (at vs k)
value-at-list h [] k are lt = absurd (omega arith)
value-at-list h (v ∷ vs) zero are lt = are.0
value-at-list h (v ∷ vs) (suc k) are lt = value-at-list h vs k are.1 (omega arith)

pub all-placed : (h : Store) (n : ℕ) (vs : List Cell) → AreValues h vs → length h.cells ≤ n → AllPlaced n vs
all-placed h n [] are le = tt
all-placed h n (v ∷ vs) are le = (value-placed h n v are.0 le, all-placed h n vs are.1 le)

pub placed-at : (n : ℕ) (vs : List Cell) (k : ℕ) → AllPlaced n vs → k < length vs → IsPlaced n (at vs k)
placed-at n [] k are lt = absurd (omega arith)
placed-at n (v ∷ vs) zero are lt = are.0
placed-at n (v ∷ vs) (suc k) are lt = placed-at n vs k are.1 (omega arith)

pub value-frees : (h : Store) (v : Cell) → IsValue h v → one v ≡ 0
value-frees h (Free p) f = absurd f
value-frees h (Lone p) f = absurd f
value-frees h (Ref j) f = refl
value-frees h (Int n) f = refl
value-frees h (Wide p) f = refl
value-frees h (Atom a) f = refl
value-frees h (Str p) f = refl
value-frees h (Fun f) g = absurd g
value-frees h (Ground f) g = absurd g

pub values-frees : (h : Store) (vs : List Cell) → AreValues h vs → frees vs ≡ 0
values-frees h [] are = refl
values-frees h (v ∷ vs) are = omega (arith, value-frees h v are.0, values-frees h vs are.1)

-- an integer
pub small-added : (h : Store) (i : ℤ) → AddsValue h h (Int i) (int i)
small-added h i = record { fits = tt; is = refl; grows = Grows-refl h; fresh = λ m none. none; frees = refl }

pub wide-added : (h : Store) (i : ℤ) → IsHeap h → AddsValue h (grown h [] [] (i ∷ [])) (Wide (length h.wide)) (int i)
wide-added h i is = record {
  fits = omega (arith, length-append h.wide (i ∷ []));
  is = ap int (get_or_push h.wide i (pos 0) (length h.wide) refl);
  grows = Grows-grown h [] [] (i ∷ []) is;
  fresh = λ m none j p lt e same. none j p (omega (arith, lt, length-append h.cells [])) (ap (λ xs. at xs j) (sym (append-nil h.cells)) ∙ e) (ap (λ xs. get_or xs p 0) (sym (append-nil h.numbers)) ∙ same);
  frees = ap frees (append-nil h.cells);
}
