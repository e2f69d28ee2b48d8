-- Why cells may be left out of a search for a variable, and what a search has found.
use Rattle.std.proofs.Common.{◌≡◌, ℕ, zero, suc, ◌+◌, ◌<◌, ◌≤◌, ◌⊎◌, Bool, true, false, ◌||◌, nat_eq, Option, Some, None, List, [], ◌∷◌, ◌++◌, length, map, get_or, refl, sym, ap, ap₂, ◌∙◌, subst, arith, inl, inr}
use Rattle.std.proofs.lemmas.Bool.{cases_eq}
use Rattle.std.proofs.lemmas.List.{get_or_read}
use Rattle.plterm.specs.Tree.{Tree, var, int, atom, compound, none, trees}
use Rattle.plsubst.specs.Subst.{occurs, occurs_in}
use Rattle.platoms.specs.Names.{functor_arity, functor_name}
use Rattle.plcells.specs.declared.cell.Cell.{Cell}
use Rattle.plcells.specs.declared.cell.Cell.TheVariants.{Free, Lone, Ref, Int, Wide, Atom, Str, Fun, Ground}
use Rattle.plcells.specs.Store.{Store, at, number_at, spread, term, terms, shown, value, Refers, IsHead, IsGround, IsSolid, Fits, IsHeap, IsValue, IsEnd, HasTerms, HasArguments, HasSolid, IsBlock, IsBinding}
use Rattle.plcells.specs.Skipping.{plain, AreLone, IsClosed, AreClosed}
use Rattle.plcells.specs.Walking.{weight, weights, weigh, occurs_any, AreBlocks}
use Rattle.plcells.proofs.Terms.{term-at}
use Rattle.plcells.proofs.Absence.{occurs-none, spread-some}
use Rattle.plcells.proofs.Values.{variable-place, variable-within}

var-number : (m n : ℕ) → var m ≡ var n → m ≡ n
var-number m n e = cc

-- the variable of a cell, and its number
module _ (h : Store) (is : IsHeap h) (x n : ℕ) (end : IsEnd h (Ref x)) (numbered : term h x ≡ var n) where
  within : x < length h.cells
  within = variable-within h.cells x end

  -- no other cell is a variable of the number
  alone : (i p : ℕ) → i < length h.cells → at h.cells i ≡ Free p → number_at h p ≡ n → i ≡ x
  alone i p lt e same =
      let q = variable-place (at h.cells x) end in
      let f : var (number_at h q.0) ≡ var n = sym (term-at h x is within ∙ ap (shown h x) q.1) ∙ numbered in
      is.once i x p q.0 lt within e q.1 (same ∙ sym (var-number (number_at h q.0) n f))

  pub closed-none : (b : ℕ) → IsClosed h b → b ≤ x → (c : ℕ) → c < b → occurs n (term h c) ≡ false
  closed-none b closed le c lt =
      occurs-none h is n (λ i. i < b) (λ i d il in_b r. closed.closed i d in_b r)
      (λ i p il in_b e same. let f = alone i p il e same in omega (arith, in_b, le, f))
      c (let w = closed.within in omega (arith, lt, w)) lt

  pub lone-none : (cells : List Cell) (q : ℕ) → AreLone h cells → at cells x ≡ Lone q → (c : ℕ) → c < length h.cells → (c ≡ x → ⊥) → occurs n (term h c) ≡ false
  lone-none cells q lone here c lt ne =
      occurs-none h is n (λ i. i ≡ x → ⊥) (λ i d il other r e. lone i d q il r (ap (at cells) e ∙ here))
      (λ i p il other e same. other (alone i p il e same))
      c lt ne

  -- another variable
  pub other-none : (c : ℕ) → IsEnd h (Ref c) → (c ≡ x → ⊥) → occurs n (term h c) ≡ false
  unfolding occurs
  other-none c end_c ne =
      let q = variable-place (at h.cells c) end_c in
      let lt = variable-within h.cells c end_c in
      let no_same : number_at h q.0 ≡ n → ⊥ = λ same. ne (alone c q.0 lt q.1 same) in
      ap (occurs n) (term-at h c is lt ∙ ap (shown h c) q.1) ∙ apart (number_at h q.0) no_same
    where
      apart : (m : ℕ) → (m ≡ n → ⊥) → occurs n (var m) ≡ false
      apart m ne = grind (arith, ne)

  pub same-some : (c : ℕ) → c ≡ x → occurs n (term h c) ≡ true
  unfolding occurs
  same-some c e = ap (λ d. occurs n (term h d)) e ∙ ap (occurs n) numbered ∙ self n
    where
      self : (m : ℕ) → occurs m (var m) ≡ true
      self m = grind arith

-- a block without variables
solid_refers : (h : Store) (i d : ℕ) (m : Cell) → IsSolid h.cells m → Refers h.names i m d → IsGround (at h.cells d)
solid_refers h i d (Free p) s r = absurd s
solid_refers h i d (Lone p) s r = absurd s
solid_refers h i d (Ref j) s r = absurd s
solid_refers h i d (Int k) s r = absurd r
solid_refers h i d (Wide p) s r = absurd r
solid_refers h i d (Atom a) s r = absurd r
solid_refers h i d (Str p) s r = subst (λ j. IsGround (at h.cells j)) (sym r) s
solid_refers h i d (Fun f) s r = absurd s
solid_refers h i d (Ground f) s r = absurd s

ground_refers : (h : Store) (i d : ℕ) (m : Cell) → Fits h i m → IsGround m → Refers h.names i m d → IsSolid h.cells (at h.cells d)
ground_refers h i d (Free p) f g r = absurd g
ground_refers h i d (Lone p) f g r = absurd g
ground_refers h i d (Ref j) f g r = absurd g
ground_refers h i d (Int k) f g r = absurd g
ground_refers h i d (Wide p) f g r = absurd g
ground_refers h i d (Atom a) f g r = absurd g
ground_refers h i d (Str p) f g r = absurd g
ground_refers h i d (Fun k) f g r = absurd g
ground_refers h i d (Ground k) f g r = f.solid d r.0 r.1

pub ground-none : (h : Store) → IsHeap h → (n c : ℕ) → c < length h.cells → IsGround (at h.cells c) → occurs n (term h c) ≡ false
ground-none h is n c lt ground =
    occurs-none h is n (λ i. IsGround (at h.cells i) ⊎ IsSolid h.cells (at h.cells i))
    (λ i d il in_p r. elim in_p [
      | inl g ↦ inr (ground_refers h i d (at h.cells i) (is.fits i il) g r)
      | inr s ↦ inl (solid_refers h i d (at h.cells i) s r)
    ])
    (λ i p il in_p e same. elim in_p [
      | inl g ↦ let f : IsGround (Free p) = subst IsGround e g in f
      | inr s ↦ let f : IsSolid h.cells (Free p) = subst (IsSolid h.cells) e s in f
    ])
    c lt (inl ground)

pub ground-head : (m : Cell) → IsHead m → ((f : ℕ) → m ≡ Fun f → ⊥) → IsGround m
ground-head (Free p) head other = absurd head
ground-head (Lone p) head other = absurd head
ground-head (Ref j) head other = absurd head
ground-head (Int k) head other = absurd head
ground-head (Wide p) head other = absurd head
ground-head (Atom a) head other = absurd head
ground-head (Str p) head other = absurd head
ground-head (Fun f) head other = absurd (other f refl)
ground-head (Ground f) head other = tt

pub has-terms : (h : Store) (p f : ℕ) → IsHeap h → p < length h.cells → at h.cells p ≡ Fun f → HasTerms h p (functor_arity h.names f)
has-terms h p f is lt e =
    let a : HasArguments h p f = subst (Fits h p) e (is.fits p lt) in
    record { name = functor_name h.names f; within = a.within; plain = a.plain; is = term-at h p is lt ∙ ap (shown h p) e; few = is.few }

-- lists of terms
or-assoc : (p q r : Bool) → ((p || q) || r) ≡ (p || (q || r))
or-assoc true q r = refl
or-assoc false q r = refl

pub or-none : (p : Bool) → (p || false) ≡ p
or-none true = refl
or-none false = refl

pub or-all : (p : Bool) → (p || true) ≡ true
or-all true = refl
or-all false = refl

any-append : (n : ℕ) (ts us : List Tree) → occurs_in n (trees (ts ++ us)) ≡ (occurs_in n (trees ts) || occurs_in n (trees us))
unfolding occurs
any-append n [] us = refl
any-append n (t ∷ ts) us = ap (λ q. occurs n t || q) (any-append n ts us) ∙ sym (or-assoc (occurs n t) (occurs_in n (trees ts)) (occurs_in n (trees us)))

one-any : (n : ℕ) (t : Tree) → occurs_in n (trees (t ∷ [])) ≡ occurs n t
unfolding occurs
one-any n t = or-none (occurs n t)

weights-append : (ts us : List Tree) → weights (trees (ts ++ us)) ≡ weights (trees ts) + weights (trees us)
unfolding weight
weights-append [] us = omega arith
weights-append (t ∷ ts) us = omega (arith, weights-append ts us)

one-weight : (t : Tree) → weights (trees (t ∷ [])) ≡ weight t
unfolding weight
one-weight t = omega arith

pub weight-some : (t : Tree) → 0 < weight t
unfolding weight
weight-some (var x) = omega arith
weight-some (int i) = omega arith
weight-some (atom f) = omega arith
weight-some (compound f ts) = omega arith

pub spread-more : (w : ℕ → Tree) (c k : ℕ) → spread w c (k + 1) ≡ spread w c k ++ w (c + k) ∷ []
spread-more w c zero = ap (λ d. w d ∷ []) (omega arith)
spread-more w c (suc k) = let e : suc k + 1 ≡ suc (k + 1) = omega arith in ap (spread w c) e ∙ ap (λ ts. w c ∷ ts) (spread-more w (suc c) k ∙ ap (λ d. spread w (suc c) k ++ w d ∷ []) (omega arith))

map-push : (h : Store) (cs : List ℕ) (c : ℕ) → map (term h) (cs ++ c ∷ []) ≡ map (term h) cs ++ term h c ∷ []
map-push h [] c = refl
map-push h (d ∷ cs) c = ap (λ ts. term h d ∷ ts) (map-push h cs c)

pub any-push : (n : ℕ) (h : Store) (cs : List ℕ) (c : ℕ) → occurs_any n h (cs ++ c ∷ []) ≡ (occurs_any n h cs || occurs n (term h c))
any-push n h cs c = ap (λ ts. occurs_in n (trees ts)) (map-push h cs c) ∙ any-append n (map (term h) cs) (term h c ∷ []) ∙ ap (λ q. occurs_any n h cs || q) (one-any n (term h c))

pub weigh-push : (h : Store) (cs : List ℕ) (c : ℕ) → weigh h (cs ++ c ∷ []) ≡ weigh h cs + weight (term h c)
weigh-push h cs c = ap (λ ts. weights (trees ts)) (map-push h cs c) ∙ weights-append (map (term h) cs) (term h c ∷ []) ∙ ap (λ k. weigh h cs + k) (one-weight (term h c))

pub any-more : (n : ℕ) (h : Store) (c k : ℕ) → occurs_in n (trees (terms h c (k + 1))) ≡ (occurs_in n (trees (terms h c k)) || occurs n (term h (c + k)))
any-more n h c k = ap (λ ts. occurs_in n (trees ts)) (spread-more (term h) c k) ∙ any-append n (terms h c k) (term h (c + k) ∷ []) ∙ ap (λ q. occurs_in n (trees (terms h c k)) || q) (one-any n (term h (c + k)))

pub weights-more : (h : Store) (c k : ℕ) → weights (trees (terms h c (k + 1))) ≡ weights (trees (terms h c k)) + weight (term h (c + k))
weights-more h c k = ap (λ ts. weights (trees ts)) (spread-more (term h) c k) ∙ weights-append (terms h c k) (term h (c + k) ∷ []) ∙ ap (λ j. weights (trees (terms h c k)) + j) (one-weight (term h (c + k)))

pub blocks-push : (h : Store) (cs : List ℕ) (c : ℕ) → AreBlocks h cs → c < length h.cells → IsHead (at h.cells c) → AreBlocks h (cs ++ c ∷ [])
blocks-push h [] c b lt head = ((lt, head), tt)
blocks-push h (d ∷ cs) c b lt head = (b.0, blocks-push h cs c b.1 lt head)

pub blocks-pop : (h : Store) (cs : List ℕ) (c : ℕ) → AreBlocks h (cs ++ c ∷ []) → AreBlocks h cs × ((c < length h.cells) × IsHead (at h.cells c))
blocks-pop h [] c b = (tt, b.0)
blocks-pop h (d ∷ cs) c b = let r = blocks-pop h cs c b.1 in ((b.0, r.0), r.1)

-- the arguments of a block up to one more
module _ (h : Store) (p j d : ℕ) (old stack : List ℕ) (is : d ≡ suc p + j) where
  next_any : (n : ℕ) → occurs_in n (trees (terms h (suc p) (j + 1))) ≡ (occurs_in n (trees (terms h (suc p) j)) || occurs n (term h d))
  next_any n = any-more n h (suc p) j ∙ ap (λ c. occurs_in n (trees (terms h (suc p) j)) || occurs n (term h c)) (sym is)

  next_weight : weights (trees (terms h (suc p) (j + 1))) ≡ weights (trees (terms h (suc p) j)) + weight (term h d)
  next_weight = weights-more h (suc p) j ∙ ap (λ c. weights (trees (terms h (suc p) j)) + weight (term h c)) (sym is)

  module _ (lighter : weigh h stack ≤ weigh h old + weights (trees (terms h (suc p) j))) where
    pub skipped-lighter : weigh h stack ≤ weigh h old + weights (trees (terms h (suc p) (j + 1)))
    skipped-lighter = omega (arith, lighter, next_weight)

    pub pushed-lighter : (q : ℕ) → term h q ≡ term h d → weigh h (stack ++ q ∷ []) ≤ weigh h old + weights (trees (terms h (suc p) (j + 1)))
    pushed-lighter q e = omega (arith, lighter, next_weight, weigh-push h stack q, ap weight e)

  module _ (n : ℕ) (left : occurs_any n h stack ≡ (occurs_any n h old || occurs_in n (trees (terms h (suc p) j)))) where
    pub skipped-left : occurs n (term h d) ≡ false → occurs_any n h stack ≡ (occurs_any n h old || occurs_in n (trees (terms h (suc p) (j + 1))))
    skipped-left misses = left ∙ ap (λ b. occurs_any n h old || b) (sym (next_any n ∙ ap (λ b. occurs_in n (trees (terms h (suc p) j)) || b) misses ∙ or-none (occurs_in n (trees (terms h (suc p) j)))))

    pub pushed-left : (q : ℕ) → term h q ≡ term h d → occurs_any n h (stack ++ q ∷ []) ≡ (occurs_any n h old || occurs_in n (trees (terms h (suc p) (j + 1))))
    pushed-left q e =
        any-push n h stack q
        ∙ ap₂ (λ a b. a || b) left (ap (occurs n) e)
        ∙ or-assoc (occurs_any n h old) (occurs_in n (trees (terms h (suc p) j))) (occurs n (term h d))
        ∙ ap (λ b. occurs_any n h old || b) (sym (next_any n))

-- it stands in a block if in one of the arguments
pub some-argument : (h : Store) (p k j d n : ℕ) → HasTerms h p k → d ≡ suc p + j → j < k → occurs n (term h d) ≡ true → occurs n (term h p) ≡ true
unfolding occurs
some-argument h p k j d n block is lt found = ap (occurs n) block.is ∙ spread-some n (term h) (suc p) k d (omega (arith, is)) (omega (arith, is, lt)) found

pub none-argument : (h : Store) (p k n : ℕ) → HasTerms h p k → occurs n (term h p) ≡ occurs_in n (trees (terms h (suc p) k))
unfolding occurs
none-argument h p k n block = ap (occurs n) block.is

pub block-weight : (h : Store) (p k : ℕ) → HasTerms h p k → weight (term h p) ≡ suc (weights (trees (terms h (suc p) k)))
unfolding weight
block-weight h p k block = ap weight block.is

-- a value that is no reference and no compound
pub leaf : (h : Store) (n : ℕ) (m : Cell) → IsValue h m → ((j : ℕ) → m ≡ Ref j → ⊥) → ((p : ℕ) → m ≡ Str p → ⊥) → occurs n (value h m) ≡ false
unfolding occurs
leaf h n (Free p) f ref str = absurd f
leaf h n (Lone p) f ref str = absurd f
leaf h n (Ref j) f ref str = absurd (ref j refl)
leaf h n (Int k) f ref str = refl
leaf h n (Wide p) f ref str = refl
leaf h n (Atom a) f ref str = refl
leaf h n (Str p) f ref str = absurd (str p refl)
leaf h n (Fun g) f ref str = absurd f
leaf h n (Ground g) f ref str = absurd f

pub plain-fun : (m : Cell) (f : ℕ) → plain m ≡ Fun f → m ≡ Fun f
plain-fun (Free p) f e = absurd (grind (arith, e))
plain-fun (Lone p) f e = absurd (grind (arith, e))
plain-fun (Ref j) f e = e
plain-fun (Int k) f e = e
plain-fun (Wide p) f e = e
plain-fun (Atom a) f e = e
plain-fun (Str p) f e = e
plain-fun (Fun g) f e = e
plain-fun (Ground g) f e = e

pub some-same : (a b : ℕ) → Some a ≡ Some b → a ≡ b
some-same a b e = cc

pub none-some : (a : ℕ) → let n : Option ℕ = None in n ≡ Some a → ⊥
none-some a e = grind (arith, e)

pub start-left : (n : ℕ) (h : Store) (cs : List ℕ) → occurs_any n h cs ≡ (occurs_any n h cs || occurs_in n none)
unfolding occurs
start-left n h cs = sym (or-none (occurs_any n h cs))

pub start-lighter : (h : Store) (cs : List ℕ) → weigh h cs ≤ weigh h cs + weights none
unfolding weight
start-lighter h cs = omega arith

pub one-block : (h : Store) (p : ℕ) → p < length h.cells → IsHead (at h.cells p) → AreBlocks h (p ∷ [])
one-block h p lt head = ((lt, head), tt)

pub one-occurs : (n : ℕ) (h : Store) (p : ℕ) → occurs n (term h p) ≡ occurs_any n h (p ∷ [])
one-occurs n h p = sym (one-any n (term h p))

-- whether a variable is another
pub variable-occurs : (h : Store) → IsHeap h → (x n : ℕ) → IsEnd h (Ref x) → term h x ≡ var n → (c : ℕ) → IsEnd h (Ref c) → nat_eq c x ≡ occurs n (term h c)
variable-occurs h is x n end numbered c end_c = elim (cases_eq c x) [
  | inl e ↦ yes_eq c x e ∙ sym (same-some h is x n end numbered c e)
  | inr ne ↦ no_eq c x ne ∙ sym (other-none h is x n end numbered c end_c ne)
]
  where
    yes_eq : (a b : ℕ) → a ≡ b → nat_eq a b ≡ true
    yes_eq a b e = grind (arith, e)

    no_eq : (a b : ℕ) → (a ≡ b → ⊥) → nat_eq a b ≡ false
    no_eq a b ne = grind (arith, ne)

pub empty-none : (n : ℕ) (h : Store) (cs : List ℕ) → length cs ≡ 0 → occurs_any n h cs ≡ false
unfolding occurs
empty-none n h [] e = refl
empty-none n h (c ∷ cs) e = absurd (omega (arith, e))

pub block-at : (h : Store) (p f : ℕ) (m : Cell) → IsHeap h → p < length h.cells → at h.cells p ≡ plain m → (m ≡ Fun f) ⊎ (m ≡ Ground f) → IsBlock h p f (functor_arity h.names f)
block-at h p f m is lt e which = elim which [
  | inl g ↦
      let here = e ∙ ap plain g in
      let a : HasArguments h p f = subst (Fits h p) here (is.fits p lt) in
      record { functor = a.functor; arity = refl; within = a.within; plain = a.plain; is = term-at h p is lt ∙ ap (shown h p) here; few = is.few }
  | inr g ↦
      let here = e ∙ ap plain g in
      let a : HasSolid h p f = subst (Fits h p) here (is.fits p lt) in
      record { functor = a.arguments.functor; arity = refl; within = a.arguments.within; plain = a.arguments.plain; is = term-at h p is lt ∙ ap (shown h p) here; few = is.few }
]

-- a number is one cell's
pub number-once : (h : Store) → IsHeap h → (x y n : ℕ) → IsEnd h (Ref x) → IsEnd h (Ref y) → term h x ≡ var n → term h y ≡ var n → x ≡ y
number-once h is x y n ex ey tx ty =
    let q = variable-place (at h.cells y) ey in
    let lt = variable-within h.cells y ey in
    let f : var (number_at h q.0) ≡ var n = sym (term-at h y is lt ∙ ap (shown h y) q.1) ∙ ty in
    sym (alone h is x n ex tx y q.0 lt q.1 (var-number (number_at h q.0) n f))

-- what a binding asks for
pub binding-of : (h : Store) → IsHeap h → (x n : ℕ) (v : Cell) → IsEnd h (Ref x) → term h x ≡ var n → IsValue h v → occurs n (value h v) ≡ false → (p : ℕ) × IsBinding h x p v × (number_at h p ≡ n)
binding-of h is x n v ex tx fits apart =
    let q = variable-place (at h.cells x) ex in
    let lt = variable-within h.cells x ex in
    let f : var (number_at h q.0) ≡ var n = sym (term-at h x is lt ∙ ap (shown h x) q.1) ∙ tx in
    let same = var-number (number_at h q.0) n f in
    (q.0, record { within = lt; free = q.1; fits = fits; apart = ap (λ k. occurs k (value h v)) same ∙ apart }, same)

-- a closed prefix that was read
pub closed-read : (h : Store) (closed : List ℕ) (k b : ℕ) → AreClosed h closed → k < length closed → b ≡ get_or closed k b → IsClosed h b
closed-read h closed k b are lt e = subst (IsClosed h) (sym (get_or_read closed k b lt e 0)) (are k lt)
