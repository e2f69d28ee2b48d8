-- What a heap holds beside its terms: which variables are lone, and which prefixes are closed.
use Rattle.std.proofs.Common.{◌≡◌, ℕ, zero, suc, ◌+◌, ◌<◌, ◌≤◌, List, [], ◌∷◌, length, length-take, map, get_or, set, take, drop, refl, sym, ap, ap₂, ◌∙◌, subst, arith, inl, inr, lit<}
use Rattle.std.proofs.lemmas.Bool.{cases_lt, cases_eq}
use Rattle.std.proofs.lemmas.List.{get_or-take, map-set, set-get_or, length-set, get_or-set_same, get_or-set_other, length-map, get_or_past}
use Rattle.plcells.proofs.Values.{at-plain, read-plain}
use Rattle.platoms.specs.Names.{Table, IsTable}
use Rattle.plcells.specs.declared.cell.Cell.{Cell}
use Rattle.plcells.specs.declared.cell.Cell.TheVariants.{Free, Lone, Ref, Int, Wide, Atom, Str, Fun, Ground}
use Rattle.plcells.specs.declared.cell.Mark.{Mark}
use Rattle.plcells.specs.declared.cell.Trailed.{Trailed}
use Rattle.plcells.specs.Store.{Store, at, Refers, IsHead, IsValue, IsBinding, reset, cut, IsMark}
use Rattle.plcells.specs.Skipping.{plain, AreLone, IsClosed, AreClosed, AreRising, IsInside, IsPlaced, IsTarget}
use Rattle.plcells.proofs.Binding.{IsHeap-linked, linked}
use Rattle.plcells.proofs.Kept.{reset-length}

abbrev empty : Table → Store
empty t = record { cells = []; numbers = []; wide = []; trail = []; boundary = 0; names = t }

pub inside-empty : (t : Table) → IsTable t → IsInside (record { cells = []; numbers = []; wide = []; trail = []; boundary = 0; names = t }) [] []
inside-empty t is = record {
  heap = record {
    fits = λ i lt. absurd (omega arith);
    rank = λ i. i;
    ranked = λ i d lt r. absurd (omega arith);
    once = λ i j p q il jl e f g. absurd (omega arith);
    trailed = tt;
    bounded = omega arith;
    few = lit< tt;
    names = is;
  };
  lone = λ i d p lt r e. absurd (omega arith);
  prefixes = λ k lt. absurd (omega arith);
  rising = λ j k le lt. absurd (omega arith);
}

pub taken-own : (xs ys : List ℕ) (k : ℕ) → ys ≡ take k xs → ys ≡ take (length ys) xs
taken-own xs ys k e = e ∙ sym (own k xs) ∙ ap (λ zs. take (length zs) xs) (sym e)
  where
    own : (k : ℕ) (xs : List ℕ) → take (length (take k xs)) xs ≡ take k xs
    own zero xs = refl
    own (suc k) [] = refl
    own (suc k) (x ∷ xs) = ap (λ ys. x ∷ ys) (own k xs)

-- of rising numbers those up to one are no larger
pub below-taken : (xs ys : List ℕ) (n x : ℕ) → AreRising xs → n < length xs → ys ≡ take (n + 1) xs → get_or xs n 0 ≤ x → (k : ℕ) → k < length ys → get_or ys k 0 ≤ x
below-taken xs ys n x rising lt e le k kl =
    let few : k < n + 1 = omega (arith, kl, ap length e, length-take (n + 1) xs) in
    let same : get_or ys k 0 ≡ get_or xs k 0 = ap (λ zs. get_or zs k 0) e ∙ get_or-take (n + 1) xs k 0 few in
    omega (arith, same, rising k n (omega arith) lt, le)

-- a lone variable that is one no more
pub embedded : (cells : List Cell) (c p : ℕ) → at cells c ≡ Lone p → map plain (set cells c (Free p)) ≡ map plain cells
embedded cells c p e =
    map-set plain cells c (Free p)
    ∙ ap (set (map plain cells) c) (sym (at-plain cells c ∙ ap plain e))
    ∙ set-get_or (map plain cells) c (Atom 0)

pub plain-value : (h : Store) (v : Cell) → IsValue h v → plain v ≡ v
plain-value h (Free p) f = absurd f
plain-value h (Lone p) f = absurd f
plain-value h (Ref j) f = refl
plain-value h (Int n) f = refl
plain-value h (Wide p) f = refl
plain-value h (Atom a) f = refl
plain-value h (Str p) f = refl
plain-value h (Fun g) f = absurd f
plain-value h (Ground g) f = absurd f

pub value-lone : (h : Store) (v : Cell) (p : ℕ) → IsValue h v → v ≡ Lone p → ⊥
value-lone h (Free q) p f e = absurd f
value-lone h (Lone q) p f e = absurd f
value-lone h (Ref j) p f e = grind (arith, e)
value-lone h (Int n) p f e = grind (arith, e)
value-lone h (Wide q) p f e = grind (arith, e)
value-lone h (Atom a) p f e = grind (arith, e)
value-lone h (Str q) p f e = grind (arith, e)
value-lone h (Fun g) p f e = absurd f
value-lone h (Ground g) p f e = absurd f

pub value-placed : (h : Store) (n : ℕ) (v : Cell) → IsValue h v → length h.cells ≤ n → IsPlaced n v
value-placed h n (Free q) f le = tt
value-placed h n (Lone q) f le = tt
value-placed h n (Ref j) f le = omega (arith, f.0, le)
value-placed h n (Int k) f le = tt
value-placed h n (Wide q) f le = tt
value-placed h n (Atom a) f le = tt
value-placed h n (Str q) f le = tt
value-placed h n (Fun g) f le = tt
value-placed h n (Ground g) f le = tt

-- what a value refers to, wherever it stands
pub refers-target : (h : Store) (i d : ℕ) (v : Cell) → IsValue h v → Refers h.names i v d → IsTarget v d
refers-target h i d (Free q) f r = absurd f
refers-target h i d (Lone q) f r = absurd f
refers-target h i d (Ref j) f r = r
refers-target h i d (Int n) f r = absurd r
refers-target h i d (Wide q) f r = absurd r
refers-target h i d (Atom a) f r = absurd r
refers-target h i d (Str q) f r = r
refers-target h i d (Fun g) f r = absurd f
refers-target h i d (Ground g) f r = absurd f

-- a value refers to a variable by a reference alone
pub refers-variable : (h : Store) (d q : ℕ) (v : Cell) → IsValue h v → IsTarget v d → at h.cells d ≡ Free q → v ≡ Ref d
refers-variable h d q (Free p) f t e = absurd f
refers-variable h d q (Lone p) f t e = absurd f
refers-variable h d q (Ref j) f t e = ap Ref (sym t)
refers-variable h d q (Int n) f t e = absurd t
refers-variable h d q (Wide p) f t e = absurd t
refers-variable h d q (Atom a) f t e = absurd t
refers-variable h d q (Str p) f t e = let g : IsHead (Free q) = subst IsHead (ap (at h.cells) (sym t) ∙ e) f.1 in absurd g
refers-variable h d q (Fun g) f t e = absurd f
refers-variable h d q (Ground g) f t e = absurd f

rising-taken : (xs ys : List ℕ) → AreRising xs → ys ≡ take (length ys) xs → AreRising ys
rising-taken xs ys rising e j k le lt =
    let all : length ys ≤ length xs = omega (arith, ap length e, length-take (length ys) xs) in
    let a : get_or ys j 0 ≡ get_or xs j 0 = ap (λ zs. get_or zs j 0) e ∙ get_or-take (length ys) xs j 0 (omega arith) in
    let b : get_or ys k 0 ≡ get_or xs k 0 = ap (λ zs. get_or zs k 0) e ∙ get_or-take (length ys) xs k 0 lt in
    omega (arith, a, b, rising j k le (omega arith))

closed-taken : (h : Store) (xs ys : List ℕ) → AreClosed h xs → ys ≡ take (length ys) xs → AreClosed h ys
closed-taken h xs ys closed e k lt =
    let all : length ys ≤ length xs = omega (arith, ap length e, length-take (length ys) xs) in
    subst (IsClosed h) (sym (ap (λ zs. get_or zs k 0) e ∙ get_or-take (length ys) xs k 0 lt)) (closed k (omega arith))

-- a binding
module _ (h : Store) (x p : ℕ) (v : Cell) (cells after : List Cell) (closed left : List ℕ)
    (is : h.cells ≡ map plain cells) (inside : IsInside h cells closed) (may : IsBinding h x p v)
    (same : map plain after ≡ map plain cells)
    (was : (d q : ℕ) → at after d ≡ Lone q → at cells d ≡ Lone q)
    (alone : (d q : ℕ) → at after d ≡ Lone q → v ≡ Ref d → ⊥)
    (kept : left ≡ take (length left) closed)
    (below : (d : ℕ) → IsTarget v d → x < d → (k : ℕ) → k < length left → get_or left k 0 ≤ x) where
  in_after : x < length after
  in_after = omega (arith, may.within, ap length is, length-map cells plain, ap length same, length-map after plain)

  now-at : at (linked h x p v).cells x ≡ v
  now-at = get_or-set_same h.cells x v (Atom 0) may.within

  now-other : (i : ℕ) → (i ≡ x → ⊥) → at (linked h x p v).cells i ≡ at h.cells i
  now-other i ne = get_or-set_other h.cells x i v (Atom 0) ne

  lone-seen : (d q : ℕ) → at cells d ≡ Lone q → at h.cells d ≡ Free q
  lone-seen d q e = ap (λ cs. at cs d) is ∙ at-plain cells d ∙ ap plain e

  lone_linked : AreLone (linked h x p v) (set after x v)
  lone_linked i d q lt r e = elim (cases_eq d x) [
    | inl dx ↦ value-lone h v q may.fits (sym (get_or-set_same after x v (Atom 0) in_after) ∙ ap (at (set after x v)) (sym dx) ∙ e)
    | inr dn ↦
        let lone : at after d ≡ Lone q = sym (get_or-set_other after x d v (Atom 0) dn) ∙ e in
        elim (cases_eq i x) [
          | inl ix ↦
              let to : IsTarget v d = refers-target h i d v may.fits (subst (λ m. Refers h.names i m d) (ap (at (linked h x p v).cells) ix ∙ now-at) r) in
              alone d q lone (refers-variable h d q v may.fits to (lone-seen d q (was d q lone)))
          | inr ine ↦ inside.lone i d q (omega (arith, lt, length-set h.cells x v)) (subst (λ m. Refers h.names i m d) (now-other i ine) r) (was d q lone)
        ]
  ]

  closed_linked : AreClosed (linked h x p v) left
  closed_linked k lt =
      let old = closed-taken h closed left inside.prefixes kept k lt in
      record {
        within = omega (arith, old.within, length-set h.cells x v);
        closed = λ i d il r. elim (cases_eq i x) [
          | inl ix ↦
              let to : IsTarget v d = refers-target h i d v may.fits (subst (λ m. Refers h.names i m d) (ap (at (linked h x p v).cells) ix ∙ now-at) r) in
              elim (cases_lt d (get_or left k 0)) [
                | inl dl ↦ dl
                | inr dg ↦ absurd (let b = below d to (omega (arith, il, dg, ix)) k lt in omega (arith, b, il, ix))
              ]
          | inr ine ↦ old.closed i d il (subst (λ m. Refers h.names i m d) (now-other i ine) r)
        ];
      }

  pub inside-linked : IsInside (linked h x p v) (set after x v) left
  inside-linked = record {
    heap = IsHeap-linked h x p v inside.heap may;
    lone = lone_linked;
    prefixes = closed_linked;
    rising = rising-taken closed left inside.rising kept;
  }

  pub cells-linked : map plain (set after x v) ≡ (linked h x p v).cells
  cells-linked = map-set plain after x v ∙ ap₂ (λ cs m. set cs x m) (same ∙ sym is) (plain-value h v may.fits)

-- an undo
plain-reset : (cells : List Cell) (ts : List Trailed) → map plain (reset cells ts) ≡ reset (map plain cells) ts
plain-reset cells [] = refl
plain-reset cells (t ∷ ts) = map-set plain (reset cells ts) t.cell (Free t.place) ∙ ap (λ cs. set cs t.cell (Free t.place)) (plain-reset cells ts)

plain-take : (n : ℕ) (cells : List Cell) → map plain (take n cells) ≡ take n (map plain cells)
plain-take zero cells = refl
plain-take (suc n) [] = refl
plain-take (suc n) (c ∷ cs) = ap (λ ds. plain c ∷ ds) (plain-take n cs)

-- a cell after an undo: as it was, or a variable
reset-at : (cells : List Cell) (ts : List Trailed) (i : ℕ) (m : Cell) → at (reset cells ts) i ≡ m → ((q : ℕ) → m ≡ Free q → ⊥) → at cells i ≡ m
reset-at cells [] i m e other = e
reset-at cells (t ∷ ts) i m e other = elim (cases_eq i t.cell) [
  | inl same ↦ elim (cases_lt i (length (reset cells ts))) [
    | inl lt ↦ absurd (other t.place (sym e ∙ ap (at (set (reset cells ts) t.cell (Free t.place))) same ∙ get_or-set_same (reset cells ts) t.cell (Free t.place) (Atom 0) (omega (arith, lt, same))))
    | inr ge ↦ reset-at cells ts i m (get_or_past (reset cells ts) i (Atom 0) ge ∙ sym (get_or_past (set (reset cells ts) t.cell (Free t.place)) i (Atom 0) (omega (arith, ge, length-set (reset cells ts) t.cell (Free t.place)))) ∙ e) other
  ]
  | inr ne ↦ reset-at cells ts i m (sym (get_or-set_other (reset cells ts) t.cell i (Free t.place) (Atom 0) ne) ∙ e) other
]

refers-other : (t : Table) (i d : ℕ) (m : Cell) → Refers t i m d → (q : ℕ) → m ≡ Free q → ⊥
refers-other t i d m r q e = let f : Refers t i (Free q) d = subst (λ n. Refers t i n d) e r in f

-- what refers to a cell after an undo did before
refers-before : (t : Table) (cells : List Cell) (ts : List Trailed) (n i d : ℕ) → i < n → Refers t i (at (take n (reset cells ts)) i) d → Refers t i (at cells i) d
refers-before t cells ts n i d lt r =
    let m : Cell = at (take n (reset cells ts)) i in
    subst (λ c. Refers t i c d) (sym (reset-at cells ts i (at (take n (reset cells ts)) i) (sym (get_or-take n (reset cells ts) i (Atom 0) lt)) (refers-other t i d m r))) r

lone-before : (cells : List Cell) (ts : List Trailed) (n d q : ℕ) → at (take n (reset cells ts)) d ≡ Lone q → at cells d ≡ Lone q
lone-before cells ts n d q e = elim (cases_lt d n) [
  | inl lt ↦ reset-at cells ts d (Lone q) (sym (get_or-take n (reset cells ts) d (Atom 0) lt) ∙ e) (λ p f. grind (arith, f))
  | inr ge ↦ absurd (let z = sym (get_or_past (take n (reset cells ts)) d (Atom 0) (omega (arith, ge, length-take n (reset cells ts)))) ∙ e in grind (arith, z))
]

module _ (m : Mark) (h : Store) (cells : List Cell) (closed left : List ℕ)
    (is : h.cells ≡ map plain cells) (inside : IsInside h cells closed) (mark : IsMark m h)
    (kept : left ≡ take (length left) closed)
    (below : (k : ℕ) → k < length left → get_or left k 0 ≤ m.cells) where
  pub cells-cut : map plain (take m.cells (reset cells (drop m.trail h.trail))) ≡ take m.cells (reset h.cells (drop m.trail h.trail))
  cells-cut = plain-take m.cells (reset cells (drop m.trail h.trail)) ∙ ap (take m.cells) (plain-reset cells (drop m.trail h.trail) ∙ ap (λ cs. reset cs (drop m.trail h.trail)) (sym is))

  length-cut : length (cut m h).cells ≡ m.cells
  unfolding cut
  length-cut = omega (arith, length-take m.cells (reset h.cells (drop m.trail h.trail)), reset-length h.cells (drop m.trail h.trail), mark.within.cells)

  pub inside-cut : IsInside (cut m h) (take m.cells (reset cells (drop m.trail h.trail))) left
  unfolding cut
  inside-cut = record {
    heap = mark.heap;
    lone = λ i d q lt r e.
        let il : i < m.cells = omega (arith, lt, length-cut) in
        inside.lone i d q (omega (arith, il, mark.within.cells)) (refers-before h.names h.cells (drop m.trail h.trail) m.cells i d il r) (lone-before cells (drop m.trail h.trail) m.cells d q e);
    prefixes = λ k lt.
        let old = closed-taken h closed left inside.prefixes kept k lt in
        record {
          within = omega (arith, below k lt, length-cut);
          closed = λ i d il r. old.closed i d il (refers-before h.names h.cells (drop m.trail h.trail) m.cells i d (let b = below k lt in omega (arith, b, il)) r);
        };
    rising = rising-taken closed left inside.rising kept;
  }

pub same-place : (m : Cell) (p q : ℕ) → m ≡ Free p → m ≡ Free q → p ≡ q
same-place m p q e f = cc

-- the place that was found is the variable's
pub found-place : (cells : List Cell) (x p q : ℕ) (m : Cell) → x < length cells → m ≡ get_or cells x m → plain m ≡ Free q → at (map plain cells) x ≡ Free p → q ≡ p
found-place cells x p q m lt read e f = same-place (at (map plain cells) x) q p (read-plain cells x m lt read ∙ e) f
