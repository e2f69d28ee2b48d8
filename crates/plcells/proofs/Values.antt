-- Values, and the cells as callers see them.
use Rattle.std.proofs.Common.{◌≡◌, ℕ, zero, suc, ◌<◌, ◌≤◌, List, [], ◌∷◌, length, map, get_or, refl, sym, ap, ◌∙◌, subst, arith, inl, inr}
use Rattle.std.proofs.lemmas.Bool.{cases_lt}
use Rattle.std.proofs.lemmas.List.{get_or_read}
use Rattle.plterm.specs.Tree.{var}
use Rattle.plcells.specs.declared.cell.Cell.{Cell}
use Rattle.plcells.specs.declared.cell.Cell.TheVariants.{Free, Lone, Ref, Int, Wide, Atom, Str, Fun, Ground}
use Rattle.plcells.specs.Store.{Store, at, number_at, term, shown, Refers, IsHead, Fits, IsHeap, IsValue, value, IsEnd, IsVariable}
use Rattle.plcells.specs.Skipping.{plain}
use Rattle.plcells.proofs.Terms.{term-at, Reads, heap-reads, lowered}
use Rattle.plcells.proofs.Ranks.{lower_count, count_below}

pub at-plain : (cells : List Cell) (i : ℕ) → at (map plain cells) i ≡ plain (at cells i)
at-plain [] i = refl
at-plain (c ∷ cs) zero = refl
at-plain (c ∷ cs) (suc i) = at-plain cs i

-- what a read found
pub read-at : (cells : List Cell) (i : ℕ) (m : Cell) → i < length cells → m ≡ get_or cells i m → at cells i ≡ m
read-at cells i m lt e = sym (get_or_read cells i m lt e (Atom 0))

pub read-plain : (cells : List Cell) (i : ℕ) (m : Cell) → i < length cells → m ≡ get_or cells i m → at (map plain cells) i ≡ plain m
read-plain cells i m lt e = at-plain cells i ∙ ap plain (read-at cells i m lt e)

pub plain-same : (m : Cell) → ((p : ℕ) → m ≡ Lone p → ⊥) → plain m ≡ m
plain-same (Free p) l = refl
plain-same (Lone p) l = absurd (l p refl)
plain-same (Ref j) l = refl
plain-same (Int n) l = refl
plain-same (Wide p) l = refl
plain-same (Atom a) l = refl
plain-same (Str p) l = refl
plain-same (Fun f) l = refl
plain-same (Ground f) l = refl

-- a cell that is no variable and begins no block is a value
pub value-at : (h : Store) (i : ℕ) (m : Cell) → Fits h i m → (IsHead m → ⊥) → ((p : ℕ) → m ≡ Free p → ⊥) → IsValue h m
value-at h i (Free p) f head free = free p refl
value-at h i (Lone p) f head free = f
value-at h i (Ref j) f head free = f
value-at h i (Int n) f head free = f
value-at h i (Wide p) f head free = f
value-at h i (Atom a) f head free = f
value-at h i (Str p) f head free = f
value-at h i (Fun g) f head free = head tt
value-at h i (Ground g) f head free = head tt

-- where a value stands does not matter
pub value-shown : (h : Store) (i : ℕ) (m : Cell) → IsValue h m → shown h i m ≡ value h m
value-shown h i (Free p) f = absurd f
value-shown h i (Lone p) f = absurd f
value-shown h i (Ref j) f = refl
value-shown h i (Int n) f = refl
value-shown h i (Wide p) f = refl
value-shown h i (Atom a) f = refl
value-shown h i (Str p) f = refl
value-shown h i (Fun g) f = absurd f
value-shown h i (Ground g) f = absurd f

-- a value begins no block
pub value-head : (h : Store) (v : Cell) → IsValue h v → IsHead v → ⊥
value-head h (Free p) f head = head
value-head h (Lone p) f head = head
value-head h (Ref j) f head = head
value-head h (Int n) f head = head
value-head h (Wide p) f head = head
value-head h (Atom a) f head = head
value-head h (Str p) f head = head
value-head h (Fun g) f head = f
value-head h (Ground g) f head = f

-- and is no variable's cell
pub value-free : (h : Store) (v : Cell) (p : ℕ) → IsValue h v → v ≡ Free p → ⊥
value-free h v p f e = let g : IsValue h (Free p) = subst (IsValue h) e f in g

-- but can stand as an argument
pub value-fits : (h : Store) (i : ℕ) (m : Cell) → IsValue h m → Fits h i m
value-fits h i (Free q) f = absurd f
value-fits h i (Lone q) f = absurd f
value-fits h i (Ref j) f = f
value-fits h i (Int k) f = f
value-fits h i (Wide q) f = f
value-fits h i (Atom a) f = f
value-fits h i (Str q) f = f
value-fits h i (Fun g) f = absurd f
value-fits h i (Ground g) f = absurd f

pub end-at : (h : Store) (m : Cell) → IsValue h m → ((j : ℕ) → m ≡ Ref j → ⊥) → IsEnd h m
end-at h (Free p) f ref = absurd f
end-at h (Lone p) f ref = absurd f
end-at h (Ref j) f ref = absurd (ref j refl)
end-at h (Int n) f ref = tt
end-at h (Wide p) f ref = tt
end-at h (Atom a) f ref = tt
end-at h (Str p) f ref = tt
end-at h (Fun g) f ref = absurd f
end-at h (Ground g) f ref = absurd f

-- the place of a variable
pub variable-place : (m : Cell) → IsVariable m → (p : ℕ) × (m ≡ Free p)
variable-place (Free p) v = (p, refl)
variable-place (Lone p) v = absurd v
variable-place (Ref j) v = absurd v
variable-place (Int n) v = absurd v
variable-place (Wide p) v = absurd v
variable-place (Atom a) v = absurd v
variable-place (Str p) v = absurd v
variable-place (Fun g) v = absurd v
variable-place (Ground g) v = absurd v

free-head : (m : Cell) → IsVariable m → IsHead m → ⊥
free-head (Free p) v head = head
free-head (Lone p) v head = head
free-head (Ref j) v head = head
free-head (Int n) v head = head
free-head (Wide p) v head = head
free-head (Atom a) v head = head
free-head (Str p) v head = head
free-head (Fun g) v head = v
free-head (Ground g) v head = v

past : (cells : List Cell) (c : ℕ) → length cells ≤ c → IsVariable (at cells c) → ⊥
past [] c le v = v
past (m ∷ ms) zero le v = absurd (omega arith)
past (m ∷ ms) (suc c) le v = past ms c (omega arith) v

pub variable-within : (cells : List Cell) (c : ℕ) → IsVariable (at cells c) → c < length cells
variable-within cells c v = elim (cases_lt c (length cells)) [ inl lt ↦ lt | inr ge ↦ absurd (past cells c ge v) ]

-- a variable's cell
module _ (h : Store) (is : IsHeap h) (c : ℕ) (m : Cell) (lt : c < length h.cells) (here : at h.cells c ≡ plain m) where
  pub argument-variable : (p : ℕ) → plain m ≡ Free p → IsValue h (Ref c) × (value h (Ref c) ≡ term h c) × IsEnd h (Ref c)
  argument-variable p e = (
    (lt, λ head. let f : IsHead (Free p) = subst IsHead (here ∙ e) head in f),
    refl,
    let v : IsVariable (Free p) = tt in subst IsVariable (sym (here ∙ e)) v,
  )

  module _ (plain_here : IsHead (at h.cells c) → ⊥) (free : (p : ℕ) → m ≡ Free p → ⊥) (lone : (p : ℕ) → m ≡ Lone p → ⊥) where
    is_m : at h.cells c ≡ m
    is_m = here ∙ plain-same m lone

    pub argument-value : IsValue h m × (value h m ≡ term h c)
    argument-value =
        let f : IsValue h m = value-at h c m (subst (Fits h c) is_m (is.fits c lt)) (subst (λ n. IsHead n → ⊥) is_m plain_here) free in
        (f, sym (value-shown h c m f) ∙ ap (shown h c) (sym is_m) ∙ sym (term-at h c is lt))

  pub number-term : (p : ℕ) → plain m ≡ Free p → term h c ≡ var (number_at h p)
  number-term p e = term-at h c is lt ∙ ap (shown h c) (here ∙ e)

-- how long a chain of references is
abbrev link : (ℕ → ℕ) → Cell → ℕ
link f (Free p) = 0
link f (Lone p) = 0
link f (Ref j) = suc (f j)
link f (Int n) = 0
link f (Wide p) = 0
link f (Atom a) = 0
link f (Str p) = 0
link f (Fun g) = 0
link f (Ground g) = 0

unfoldable chain_in : List Cell → ℕ → ℕ → ℕ
chain_in cells zero c = 0
chain_in cells (suc n) c = link (chain_in cells n) (at cells c)

unfoldable pub chain : List Cell → ℕ → ℕ
unfolding chain_in
chain cells = chain_in cells (length cells)

-- how far a value is from where its references end
abbrev pub distance : List Cell → Cell → ℕ
distance cells v = link (chain cells) v

module _ (h : Store) (is : IsHeap h) where
  reads : Reads h (length h.cells) (λ c. lower_count is.rank (length h.cells) (is.rank c))
  reads = lowered h (length h.cells) is.rank (heap-reads h is)

  rank : ℕ → ℕ
  rank c = lower_count is.rank (length h.cells) (is.rank c)

  link-same : (f g : ℕ → ℕ) (i : ℕ) (m : Cell) → ((d : ℕ) → Refers h.names i m d → f d ≡ g d) → link f m ≡ link g m
  link-same f g i (Free p) same = refl
  link-same f g i (Lone p) same = refl
  link-same f g i (Ref j) same = ap suc (same j refl)
  link-same f g i (Int n) same = refl
  link-same f g i (Wide p) same = refl
  link-same f g i (Atom a) same = refl
  link-same f g i (Str p) same = refl
  link-same f g i (Fun k) same = refl
  link-same f g i (Ground k) same = refl

  chain_stable : (m c : ℕ) → c < length h.cells → lower_count is.rank (length h.cells) (is.rank c) < m → chain_in h.cells (suc m) c ≡ chain_in h.cells m c
  unfolding chain_in
  chain_stable zero c lt below = absurd (omega arith)
  chain_stable (suc m) c lt below =
      link-same (chain_in h.cells (suc m)) (chain_in h.cells m) c (at h.cells c) (λ d r. chain_stable m d (reads.within c d lt r) (let l = reads.lower c d lt r in omega (arith, l, below)))

  pub chain-at : (c : ℕ) → c < length h.cells → chain h.cells c ≡ link (chain h.cells) (at h.cells c)
  unfolding chain chain_in
  chain-at c lt = sym (chain_stable (length h.cells) c lt (count_below is.rank (length h.cells) c lt))

  -- a step along a reference
  pub root-nearer : (c : ℕ) (m : Cell) → c < length h.cells → at h.cells c ≡ m → distance h.cells m < distance h.cells (Ref c)
  root-nearer c m lt e = let s : chain h.cells c ≡ link (chain h.cells) m = chain-at c lt ∙ ap (link (chain h.cells)) e in omega (arith, s)

pub place-within : (h : Store) → IsHeap h → (c p : ℕ) → c < length h.cells → at h.cells c ≡ Free p → p < length h.numbers
place-within h is c p lt e = let f : Fits h c (Free p) = subst (Fits h c) e (is.fits c lt) in f
