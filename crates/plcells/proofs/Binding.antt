-- What a binding makes of a heap.
use Rattle.std.proofs.Common.{◌≡◌, ℕ, zero, suc, ◌+◌, ◌<◌, ◌≤◌, Bool, true, false, nat_eq, nat_lt, List, [], ◌∷◌, ◌++◌, length, set, refl, sym, ap, ◌∙◌, subst, arith, inl, inr, le_refl}
use Rattle.std.proofs.lemmas.Bool.{cases_eq}
use Rattle.std.proofs.lemmas.List.{length-set, get_or-set_same, get_or-set_other}
use Rattle.plterm.specs.Tree.{Tree, var, compound, more, trees}
use Rattle.plsubst.specs.Subst.{bind, bind_all, put, put_if, occurs}
use Rattle.platoms.specs.Names.{functor_name, functor_arity}
use Rattle.plcells.specs.declared.cell.Cell.{Cell}
use Rattle.plcells.specs.declared.cell.Trailed.{Trailed}
use Rattle.plcells.specs.declared.cell.Cell.TheVariants.{Free, Lone, Ref, Int, Wide, Atom, Str, Fun, Ground}
use Rattle.plcells.specs.Store.{Store, at, number_at, spread, shown_by, term, shown, Refers, IsHead, IsGround, IsSolid, HasArguments, Fits, IsHeap, AllBelow, IsValue, value, trailed_if, IsBinding}
use Rattle.plcells.proofs.Terms.{Solves, term-solved, heap-reads, term-at}
use Rattle.plcells.proofs.Values.{value-head, value-free, value-fits}
use Rattle.plcells.proofs.Absence.{bind_put-same, occurs-up}

-- with the variable of the cell x, whose number is at p, bound to a value
abbrev pub linked : Store → ℕ → ℕ → Cell → Store
linked h x p v = record {
  cells = set h.cells x v;
  numbers = h.numbers;
  wide = h.wide;
  trail = trailed_if (nat_lt x h.boundary) h.trail (record { cell = x; place = p });
  boundary = h.boundary;
  names = h.names;
}

-- what a substitution makes of a run
bind-spread : (σ : ℕ → Tree) (w : ℕ → Tree) (c k : ℕ) → bind_all σ (trees (spread w c k)) ≡ trees (spread (λ d. bind σ (w d)) c k)
unfolding bind
bind-spread σ w c zero = refl
bind-spread σ w c (suc k) = ap (λ ts. more (bind σ (w c)) ts) (bind-spread σ w (suc c) k)

-- what a substitution makes of a cell that is no variable to which it does anything
bind-shown : (h : Store) (σ : ℕ → Tree) (w : ℕ → Tree) (i : ℕ) (m : Cell) → Fits h i m → ((p : ℕ) → m ≡ Free p → σ (number_at h p) ≡ var (number_at h p)) → bind σ (shown_by h w i m) ≡ shown_by h (λ d. bind σ (w d)) i m
unfolding bind
bind-shown h σ w i (Free p) f same = same p refl
bind-shown h σ w i (Lone p) f same = absurd f
bind-shown h σ w i (Ref j) f same = refl
bind-shown h σ w i (Int n) f same = refl
bind-shown h σ w i (Wide p) f same = refl
bind-shown h σ w i (Atom a) f same = refl
bind-shown h σ w i (Str p) f same = refl
bind-shown h σ w i (Fun g) f same = ap (compound (functor_name h.names g)) (bind-spread σ w (suc i) (functor_arity h.names g))
bind-shown h σ w i (Ground g) f same = ap (compound (functor_name h.names g)) (bind-spread σ w (suc i) (functor_arity h.names g))

-- the rank of what a value refers to
abbrev target_rank : (ℕ → ℕ) → Cell → ℕ
target_rank rank (Free p) = 0
target_rank rank (Lone p) = 0
target_rank rank (Ref j) = rank j
target_rank rank (Int n) = 0
target_rank rank (Wide p) = 0
target_rank rank (Atom a) = 0
target_rank rank (Str p) = rank p
target_rank rank (Fun f) = 0
target_rank rank (Ground f) = 0

abbrev raised : Bool → ℕ → ℕ → ℕ
raised true k r = r + k
raised false k r = r

below_more : (n : ℕ) (ts : List Trailed) (t : Trailed) → AllBelow n ts → t.cell < n → AllBelow n (ts ++ t ∷ [])
below_more n [] t b lt = (lt, tt)
below_more n (s ∷ ts) t b lt = (b.0, below_more n ts t b.1 lt)

below_if : (b : Bool) (n : ℕ) (ts : List Trailed) (t : Trailed) → AllBelow n ts → t.cell < n → AllBelow n (trailed_if b ts t)
below_if true n ts t b lt = below_more n ts t b lt
below_if false n ts t b lt = b

module _ (h : Store) (x p : ℕ) (v : Cell) (is : IsHeap h) (may : IsBinding h x p v) where
  abbrev n : ℕ
  n = number_at h p

  abbrev t : Tree
  t = value h v

  abbrev new : Store
  new = linked h x p v

  len : length (linked h x p v).cells ≡ length h.cells
  len = length-set h.cells x v

  at-bound : at (linked h x p v).cells x ≡ v
  at-bound = get_or-set_same h.cells x v (Atom 0) may.within

  at-other : (i : ℕ) → (i ≡ x → ⊥) → at (linked h x p v).cells i ≡ at h.cells i
  at-other i ne = get_or-set_other h.cells x i v (Atom 0) ne

  -- no head and no solid cell is the one that is bound
  head_ne : (j : ℕ) → IsHead (at h.cells j) → j ≡ x → ⊥
  head_ne j head e = let f : IsHead (Free p) = subst IsHead (ap (at h.cells) e ∙ may.free) head in f

  ground_ne : (j : ℕ) → IsGround (at h.cells j) → j ≡ x → ⊥
  ground_ne j ground e = let f : IsGround (Free p) = subst IsGround (ap (at h.cells) e ∙ may.free) ground in f

  solid_ne : (j : ℕ) → IsSolid h.cells (at h.cells j) → j ≡ x → ⊥
  solid_ne j solid e = let f : IsSolid h.cells (Free p) = subst (IsSolid h.cells) (ap (at h.cells) e ∙ may.free) solid in f

  head_still : (j : ℕ) → IsHead (at h.cells j) → IsHead (at (linked h x p v).cells j)
  head_still j head = subst IsHead (sym (at-other j (head_ne j head))) head

  pub plain_still : (j : ℕ) → (IsHead (at h.cells j) → ⊥) → IsHead (at (linked h x p v).cells j) → ⊥
  plain_still j plain head = elim (cases_eq j x) [
    | inl e ↦ value-head h v may.fits (subst IsHead (ap (at (linked h x p v).cells) e ∙ at-bound) head)
    | inr ne ↦ plain (subst IsHead (at-other j ne) head)
  ]

  solid_same : (m : Cell) → IsSolid h.cells m → IsSolid (linked h x p v).cells m
  solid_same (Free q) s = absurd s
  solid_same (Lone q) s = absurd s
  solid_same (Ref j) s = absurd s
  solid_same (Int k) s = tt
  solid_same (Wide q) s = tt
  solid_same (Atom a) s = tt
  solid_same (Str q) s = subst IsGround (sym (at-other q (ground_ne q s))) s
  solid_same (Fun f) s = absurd s
  solid_same (Ground f) s = absurd s

  solid_still : (j : ℕ) → IsSolid h.cells (at h.cells j) → IsSolid (linked h x p v).cells (at (linked h x p v).cells j)
  solid_still j s = subst (IsSolid (linked h x p v).cells) (sym (at-other j (solid_ne j s))) (solid_same (at h.cells j) s)

  arguments_still : (i f : ℕ) → HasArguments h i f → HasArguments (linked h x p v) i f
  arguments_still i f a = record { functor = a.functor; within = omega (arith, a.within, len); plain = λ d lt le. plain_still d (a.plain d lt le) }

  fits_still : (i : ℕ) (m : Cell) → Fits h i m → Fits (linked h x p v) i m
  fits_still i (Free q) f = f
  fits_still i (Lone q) f = f
  fits_still i (Ref j) f = (omega (arith, f.0, len), plain_still j f.1)
  fits_still i (Int k) f = f
  fits_still i (Wide q) f = f
  fits_still i (Atom a) f = f
  fits_still i (Str q) f = (omega (arith, f.0, len), head_still q f.1)
  fits_still i (Fun g) f = arguments_still i g f
  fits_still i (Ground g) f = record { arguments = arguments_still i g f.arguments; solid = λ d lt le. solid_still d (f.solid d lt le) }

  fits_linked : (i : ℕ) → i < length (linked h x p v).cells → Fits (linked h x p v) i (at (linked h x p v).cells i)
  fits_linked i lt = elim (cases_eq i x) [
    | inl e ↦ subst (Fits (linked h x p v) i) (sym (ap (at (linked h x p v).cells) e ∙ at-bound)) (fits_still i v (value-fits h i v may.fits))
    | inr ne ↦ subst (Fits (linked h x p v) i) (sym (at-other i ne)) (fits_still i (at h.cells i) (is.fits i (omega (arith, lt, len))))
  ]

  term_x : term h x ≡ var (number_at h p)
  term_x = term-at h x is may.within ∙ ap (shown h x) may.free

  occurs_x : occurs (number_at h p) (term h x) ≡ true
  unfolding occurs
  occurs_x = ap (occurs (number_at h p)) term_x ∙ self (number_at h p)
    where
      self : (k : ℕ) → nat_eq k k ≡ true
      self k = grind arith

  -- what a value refers to has no more than its rank, and not the variable
  target : (m : Cell) (d : ℕ) → IsValue h m → Refers h.names x m d → (value h m ≡ term h d) × (is.rank d ≤ target_rank is.rank m)
  target (Free q) d f r = absurd f
  target (Lone q) d f r = absurd f
  target (Ref j) d f r = (ap (term h) (sym r), omega (arith, ap is.rank r))
  target (Int k) d f r = absurd r
  target (Wide q) d f r = absurd r
  target (Atom a) d f r = absurd r
  target (Str q) d f r = (ap (term h) (sym r), omega (arith, ap is.rank r))
  target (Fun g) d f r = absurd f
  target (Ground g) d f r = absurd f

  abbrev step : ℕ
  step = suc (target_rank is.rank v)

  abbrev rank_now : ℕ → ℕ
  rank_now c = raised (occurs (number_at h p) (term h c)) (suc (target_rank is.rank v)) (is.rank c)

  raised_most : (b : Bool) (k r : ℕ) → raised b k r ≤ r + k
  raised_most true k r = omega arith
  raised_most false k r = omega arith

  raised_least : (b : Bool) (k r : ℕ) → r ≤ raised b k r
  raised_least true k r = omega arith
  raised_least false k r = omega arith

  raised_lt : (b c : Bool) (k r s : ℕ) → (b ≡ true → c ≡ true) → r < s → raised b k r < raised c k s
  raised_lt true c k r s up lt = let e : raised c k s ≡ s + k = ap (λ b. raised b k s) (up refl) in omega (arith, e, lt)
  raised_lt false c k r s up lt = omega (arith, lt, raised_least c k s)

  ranked_linked : (i d : ℕ) → i < length (linked h x p v).cells → Refers h.names i (at (linked h x p v).cells i) d → rank_now d < rank_now i
  ranked_linked i d lt r = elim (cases_eq i x) [
    | inl e ↦
        let q : Refers h.names x v d = subst (λ j. Refers h.names j v d) e (subst (λ m. Refers h.names i m d) (ap (at (linked h x p v).cells) e ∙ at-bound) r) in
        let to = target v d may.fits q in
        let misses : occurs (number_at h p) (term h d) ≡ false = ap (occurs (number_at h p)) (sym to.0) ∙ may.apart in
        let low : rank_now d ≡ is.rank d = ap (λ b. raised b (suc (target_rank is.rank v)) (is.rank d)) misses in
        let high : rank_now i ≡ is.rank i + suc (target_rank is.rank v) = ap (λ b. raised b (suc (target_rank is.rank v)) (is.rank i)) (ap (λ j. occurs (number_at h p) (term h j)) e ∙ occurs_x) in
        omega (arith, low, high, to.1)
    | inr ne ↦
        let il : i < length h.cells = omega (arith, lt, len) in
        let q : Refers h.names i (at h.cells i) d = subst (λ m. Refers h.names i m d) (at-other i ne) r in
        raised_lt (occurs (number_at h p) (term h d)) (occurs (number_at h p) (term h i)) (suc (target_rank is.rank v)) (is.rank d) (is.rank i) (occurs-up h (number_at h p) i d is il q) (is.ranked i d il q)
  ]

  pub free_old : (i q : ℕ) → at (linked h x p v).cells i ≡ Free q → at h.cells i ≡ Free q
  free_old i q e = elim (cases_eq i x) [
    | inl same ↦ absurd (value-free h v q may.fits (sym at-bound ∙ ap (at (linked h x p v).cells) (sym same) ∙ e))
    | inr ne ↦ sym (at-other i ne) ∙ e
  ]

  pub IsHeap-linked : IsHeap (linked h x p v)
  IsHeap-linked = record {
    fits = fits_linked;
    rank = rank_now;
    ranked = ranked_linked;
    once = λ i j a b il jl ei ej same. is.once i j a b (omega (arith, il, len)) (omega (arith, jl, len)) (free_old i a ei) (free_old j b ej) same;
    trailed = subst (λ k. AllBelow k (linked h x p v).trail) (sym len) (below_if (nat_lt x h.boundary) (length h.cells) h.trail (record { cell = x; place = p }) is.trailed may.within);
    bounded = omega (arith, is.bounded, len);
    few = omega (arith, is.few, len);
    names = is.names;
  }

  put-same : put (number_at h p) (value h v) (number_at h p) ≡ value h v
  put-same = ap (λ b. put_if b (number_at h p) (value h v)) (self (number_at h p))
    where
      self : (k : ℕ) → nat_eq k k ≡ true
      self k = grind arith

  put-other : (k : ℕ) → (number_at h p ≡ k → ⊥) → put (number_at h p) (value h v) k ≡ var k
  put-other k ne = ap (λ b. put_if b k (value h v)) (other (number_at h p) k ne)
    where
      other : (a b : ℕ) → (a ≡ b → ⊥) → nat_eq a b ≡ false
      other a b ne = grind (arith, ne)

  abbrev bound : ℕ → Tree
  bound c = bind (put (number_at h p) (value h v)) (term h c)

  value_same : (m : Cell) → m ≡ v → IsValue h m → shown_by h bound x m ≡ value h m
  unfolding bind
  value_same (Free q) e f = absurd f
  value_same (Lone q) e f = absurd f
  value_same (Ref j) e f = bind_put-same (number_at h p) (value h v) (term h j) (ap (λ c. occurs (number_at h p) (value h c)) e ∙ may.apart)
  value_same (Int k) e f = refl
  value_same (Wide q) e f = refl
  value_same (Atom a) e f = refl
  value_same (Str j) e f = bind_put-same (number_at h p) (value h v) (term h j) (ap (λ c. occurs (number_at h p) (value h c)) e ∙ may.apart)
  value_same (Fun g) e f = absurd f
  value_same (Ground g) e f = absurd f

  solves : Solves (linked h x p v) (length (linked h x p v).cells) bound
  unfolding bind
  solves i lt = elim (cases_eq i x) [
    | inl e ↦
        ap bound e ∙ ap (bind (put (number_at h p) (value h v))) term_x ∙ put-same
        ∙ sym (value_same v refl may.fits)
        ∙ ap (λ m. shown_by h bound x m) (sym at-bound)
        ∙ ap (λ j. shown_by h bound j (at (linked h x p v).cells j)) (sym e)
    | inr ne ↦
        let il : i < length h.cells = omega (arith, lt, len) in
        ap (bind (put (number_at h p) (value h v))) (term-at h i is il)
        ∙ bind-shown h (put (number_at h p) (value h v)) (term h) i (at h.cells i) (is.fits i il) (λ q e. put-other (number_at h q) (λ same. ne (is.once i x q p il may.within e may.free (sym same))))
        ∙ ap (λ m. shown_by h bound i m) (sym (at-other i ne))
  ]

  pub term-linked : (c : ℕ) → c < length h.cells → term (linked h x p v) c ≡ bind (put (number_at h p) (value h v)) (term h c)
  term-linked c lt = term-solved (linked h x p v) (length (linked h x p v).cells) (IsHeap-linked.rank) (heap-reads (linked h x p v) IsHeap-linked) (le_refl _) bound solves c (omega (arith, lt, len))

  pub value-linked : (m : Cell) → IsValue h m → IsValue (linked h x p v) m × (value (linked h x p v) m ≡ bind (put (number_at h p) (value h v)) (value h m))
  unfolding bind
  value-linked (Free q) f = absurd f
  value-linked (Lone q) f = absurd f
  value-linked (Ref j) f = ((omega (arith, f.0, len), plain_still j f.1), term-linked j f.0)
  value-linked (Int k) f = (tt, refl)
  value-linked (Wide q) f = (f, refl)
  value-linked (Atom a) f = (f, refl)
  value-linked (Str q) f = ((omega (arith, f.0, len), head_still q f.1), term-linked q f.0)
  value-linked (Fun g) f = absurd f
  value-linked (Ground g) f = absurd f
