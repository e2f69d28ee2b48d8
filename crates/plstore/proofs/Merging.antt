-- Two chains that have each clause that is sought are walked as that of the procedure is.
use Rattle.std.proofs.Common.{◌≡◌, ◌≢◌, ◌-◌, ◌⊎◌, inl, inr, refl, sym, ◌∙◌, ap, ap₂, subst, arith, ℕ, suc, zero, ◌<◌, ◌≤◌, Bool, true, false, cond, List, [], Option, Some, None, length, get_or, nat_eq, nat_lt}
use Rattle.std.specs.Prelude.{◌&&◌, not, IfSome}
use Rattle.std.proofs.lemmas.Bool.Decides.{nat_tests}
use Rattle.plterm.specs.declared.indicator.Indicator.{Indicator}
use Rattle.plevent.specs.declared.key.Key.{Key}
use Rattle.plevent.specs.declared.key.Key.TheVariants.{Any, Int, Atom, Functor}
use Rattle.plevent.specs.Keys.{first_key, may_fit}
use Rattle.plevent.specs.declared.update.ClauseName.{ClauseName}
use Rattle.plevent.specs.Alive.{change_if, is_of, or_else}
use Rattle.plstore.specs.declared.chain.Chain.{Chain}
use Rattle.plstore.specs.declared.chain.Chain.TheVariants.{Procedure, Slot}
use Rattle.plrecords.specs.declared.ends.Ends.{Ends}
use Rattle.plrecords.specs.declared.links.Links.{Links}
use Rattle.plrecords.specs.declared.record.Record.{Record}
use Rattle.plstore.specs.declared.tables.Tables.{Tables}
use Rattle.plstore.specs.Chains.{in_chain, IsChain}
use Rattle.plrecords.specs.Kept.{seen, picked, walk}
use Rattle.plstore.specs.Like.{fits, first_like, is_met, past, suits}
use Rattle.plrecords.specs.Links.{first_end, back_of, backs, down, last_below, up, Class, IsIndexed, Marked}
use Rattle.plstore.specs.declared.chain.Merged.{Merged}
use Rattle.plrecords.specs.declared.part.Part.{Part}
use Rattle.plstore.specs.declared.sought.Sought.{Sought}
use Rattle.plstore.specs.Merged.{found, found_after, Covers, IsMerged, MayStand}
use Rattle.plrecords.specs.Parts.{after, comes, extent, extent_behind, first_head, is_behind, left, marks, moved, reaches, side}
use Rattle.plrecords.specs.Rising.{OneIs}
use Rattle.plrecords.specs.Runs.{end_at, no_place}
use Rattle.plstore.specs.Tables.{chain_ends, links_in, Chained}
use Rattle.plrecords.proofs.Law.{cons_if, own}
use Rattle.plrecords.proofs.Bits.{cases, last-none, last-some}
use Rattle.plrecords.proofs.Chains.{drop-records, like-cons, some-record}
use Rattle.plstore.proofs.Leading.{after-within, mark-in, marks-is, over-within, side_of, stand-first, step-order, step-stands}
use Rattle.plstore.proofs.Same.{left-true, right-true, nat-same, nat-self}
use Rattle.plstore.proofs.Visible.{down-list, up-list, first-is, shown-front, shown-back}

pub chain-is : (t : Tables) (p : Indicator) (ch : Chain) → Chained t → IsChain (in_chain p ch) t.records.items (links_in t ch) (chain_ends t p ch)
chain-is t p Procedure h = h.procedures p
chain-is t p (Slot n) h = h.slots n

pub chain-at : (t : Tables) (p : Indicator) (ch : Chain) (l : Links) → Chained t → l ≡ links_in t ch → IsChain (in_chain p ch) t.records.items l (chain_ends t p ch)
chain-at t p ch l h e = subst (λ l. IsChain (in_chain p ch) t.records.items l (chain_ends t p ch)) (sym e) (chain-is t p ch h)

-- what a walk has left from a record on
pub side-at : (f : Bool) (c : Class) (g : ℕ) (rs : List Record) (i : ℕ) (d : Record) → i < length rs →
    side f c g rs (suc (after f (length rs) i)) ≡ cons_if (seen g (get_or rs i d) && side_of f c (get_or rs i d)) (own (get_or rs i d)) (side f c g rs (after f (length rs) i))
side-at true c g rs i d l = down-list c g rs i d l
side-at false c g rs i d l =
    let here : length rs - suc (length rs - suc i) ≡ i = omega (arith, l) in
    let next : length rs - (length rs - suc i) ≡ suc i = omega (arith, l) in
    let w = seen g (get_or rs i d) && back_of c (get_or rs i d) in
    ap (λ n. up c g rs n) here ∙ up-list c g rs i d l ∙ ap (λ n. cons_if w (own (get_or rs i d)) (up c g rs n)) (sym next)

side-none : (f : Bool) (c : Class) (g : ℕ) (rs : List Record) → side f c g rs 0 ≡ []
side-none true c g rs = refl
side-none false c g rs = ap (picked (back_of c) g) (drop-records rs (length rs - 0) (omega arith))

-- the record to which a walk comes with so many behind it
abbrev at-after : Bool → ℕ → ℕ → ℕ
at-after true n m = m
at-after false n m = n - suc m

after-at : (f : Bool) (n m : ℕ) → m < n → after f n (at-after f n m) ≡ m
after-at true n m l = refl
after-at false n m l = omega (arith, l)

at-within : (f : Bool) (n m : ℕ) → m < n → at-after f n m < n
at-within true n m l = l
at-within false n m l = omega (arith, l)

-- a clause of a side that is sought
abbrev pub is_sought : Bool → Indicator → Key → ℕ → Record → Bool
is_sought f p k g r = (seen g r && side_of f (is_of p) r) && fits k (own r)

module _ (f : Bool) (p : Indicator) (k : Key) (g : ℕ) (rs : List Record) where
  pub like-at : (i : ℕ) (d : Record) (v : Bool) → i < length rs → is_sought f p k g (get_or rs i d) ≡ v →
      first_like k (side f (is_of p) g rs (suc (after f (length rs) i))) ≡ cond v (Some (get_or rs i d).name) (first_like k (side f (is_of p) g rs (after f (length rs) i)))
  like-at i d v l e =
      let r = get_or rs i d in
      ap (first_like k) (side-at f (is_of p) g rs i d l)
      ∙ like-cons (fits k) (seen g r && side_of f (is_of p) r) (own r) (side f (is_of p) g rs (after f (length rs) i))
      ∙ ap (λ v. cond v (Some r.name) (first_like k (side f (is_of p) g rs (after f (length rs) i)))) e

  -- what is not sought is passed over
  pub skip : (m low : ℕ) → low ≤ m → m ≤ length rs → ((j : ℕ) → j < length rs → is_sought f p k g (get_or rs j some-record) ≡ true → after f (length rs) j < m → after f (length rs) j < low) →
      first_like k (side f (is_of p) g rs m) ≡ first_like k (side f (is_of p) g rs low)
  skip zero low lo hi none = let e : 0 ≡ low = omega arith in ap (λ m. first_like k (side f (is_of p) g rs m)) e
  skip (suc m) low lo hi none = elim (cases low (suc m)) [
    | inl lt ↦
        let i = at-after f (length rs) m in
        let b : i < length rs = at-within f (length rs) m (omega arith) in
        let at : after f (length rs) i ≡ m = after-at f (length rs) m (omega arith) in
        ap (λ m. first_like k (side f (is_of p) g rs (suc m))) (sym at)
        ∙ like-at i some-record false b (not-sought i b at (is_sought f p k g (get_or rs i some-record)) refl lt)
        ∙ ap (λ m. first_like k (side f (is_of p) g rs m)) at
        ∙ skip m low (omega arith) (omega arith) (λ j w s l. none j w s (omega arith))
    | inr o ↦ elim o [ inl e ↦ ap (λ m. first_like k (side f (is_of p) g rs m)) (sym e) | inr gt ↦ absurd (omega arith) ]
  ]
    where
      not-sought : (i : ℕ) → i < length rs → after f (length rs) i ≡ m → (v : Bool) → is_sought f p k g (get_or rs i some-record) ≡ v → low < suc m → is_sought f p k g (get_or rs i some-record) ≡ false
      not-sought i b at true e lt = let l = none i b e (omega (arith, at)) in absurd (omega (arith, l, at, lt))
      not-sought i b at false e lt = e

  pub skip-all : (m : ℕ) → m ≤ length rs → ((j : ℕ) → j < length rs → is_sought f p k g (get_or rs j some-record) ≡ true → after f (length rs) j < m → after f (length rs) j < 0) → first_like k (side f (is_of p) g rs m) ≡ None
  skip-all m hi none = skip m 0 (omega arith) hi none ∙ ap (first_like k) (side-none f (is_of p) g rs)

-- the parts of what is sought
split-sought : (f : Bool) (p : Indicator) (k : Key) (g : ℕ) (r : Record) → is_sought f p k g r ≡ true → (seen g r ≡ true) × (side_of f (is_of p) r ≡ true) × (fits k (own r) ≡ true)
split-sought f p k g r h =
    let a = left-true (seen g r && side_of f (is_of p) r) (fits k (own r)) h in (
      left-true (seen g r) (side_of f (is_of p) r) a,
      right-true (seen g r) (side_of f (is_of p) r) a,
      right-true (seen g r && side_of f (is_of p) r) (fits k (own r)) h,
    )

side-flag : (f : Bool) (c d : Class) (r : Record) → side_of f c r ≡ true → d r.clause ≡ true → side_of f d r ≡ true
side-flag true c d r h e = ap₂ (λ u v. u && v) (left-true r.front (c r.clause) h) e
side-flag false c d r h e = ap₂ (λ u v. u && v) (left-true (not r.front) (c r.clause) h) e

side-class : (f : Bool) (c : Class) (r : Record) → side_of f c r ≡ true → c r.clause ≡ true
side-class true c r h = right-true r.front (c r.clause) h
side-class false c r h = right-true (not r.front) (c r.clause) h

and-both : (a b : Bool) → a ≡ true → b ≡ true → a && b ≡ true
and-both a b h e = ap₂ (λ u v. u && v) h e

-- met on its side is sought there, and what is not met is not
met-sought : (s d o t : Bool) → (d ≡ true → o ≡ true → t ≡ true) → (t ≡ true → o ≡ true) → s && (d && o) ≡ (s && t) && d
met-sought false d o t h k = refl
met-sought true true true true h k = refl
met-sought true true true false h k = let z : false ≡ true = h refl refl in absurd (cc)
met-sought true true false true h k = let z : false ≡ true = k refl in absurd (cc)
met-sought true true false false h k = refl
met-sought true false o true h k = refl
met-sought true false o false h k = refl

-- the heads of two chains
some-same : {a b : ℕ} → Some a ≡ Some b → a ≡ b
some-same e = cc

lt-true : (a b : ℕ) → nat_lt a b ≡ true → a < b
lt-true a b e = grind (arith, nat_tests)

lt-false : (a b : ℕ) → nat_lt a b ≡ false → b ≤ a
lt-false a b e = grind (arith, nat_tests)

pub comes-before : (f : Bool) (n i j : ℕ) → comes f i j ≡ true → j < n → after f n j < after f n i
comes-before true n i j e l = lt-true j i e
comes-before false n i j e l = let b = lt-true i j e in omega (arith, b, l)

pub comes-not : (f : Bool) (n i j : ℕ) → comes f i j ≡ false → after f n i ≤ after f n j
comes-not true n i j e = lt-false j i e
comes-not false n i j e = let b = lt-false i j e in omega (arith, b)

after-order : (f : Bool) (n i j : ℕ) → comes f i j ≡ true → after f n j ≤ after f n i
after-order true n i j e = let b = lt-true j i e in omega (arith, b)
after-order false n i j e = let b = lt-true i j e in omega (arith, b)

after-same : (f : Bool) (n i j : ℕ) → i < n → j < n → after f n i ≡ after f n j → i ≡ j
after-same true n i j l m e = e
after-same false n i j l m e = omega (arith, l, m, e)

pub in-part : (f : Bool) (n : ℕ) (o : Option ℕ) (j : ℕ) → is_behind f o j ≡ true → j < n → suc (after f n j) ≤ extent_behind f n o
in-part f n None j e l = after-within f n j l
in-part f n (Some i) j e l = comes-before f n i j e l

pub before-part : (f : Bool) (n : ℕ) (o : Option ℕ) (j : ℕ) → is_behind f o j ≡ false → extent_behind f n o ≤ after f n j
before-part f n None j e = absurd (cc)
before-part f n (Some i) j e = comes-not f n i j e

-- a walk is over behind the newest one of those put behind
none-newest : (bs : List Bool) (n : ℕ) (e o : Option ℕ) → e ≡ last_below bs n → reaches (record { front = false; behind = o }) e ≡ false → (j : ℕ) → j < n → get_or bs j false ≡ true → extent_behind false n o ≤ after false n j
none-newest bs n None o e h j l m = let z = last-none bs n (sym e) j l in absurd (cc)
none-newest bs n (Some i) o e h j l m =
    let b = last-some bs n i (sym e) in
    let p = before-part false n o i h in
    elim (cases i j) [
      | inl lt ↦ let z = b.above j lt l in absurd (cc)
      | inr q ↦ omega (arith, p, elim q as (λ _. j ≤ i) [ inl r ↦ omega arith | inr r ↦ omega arith ])
    ]

pub stand-over : (f : Bool) (c : Class) (g : ℕ) (rs : List Record) (next : List (Option ℕ)) (e : Ends) (o : Option ℕ) → not f ≡ true → IsIndexed c rs next e → reaches (record { front = f; behind = o }) e.newest_back ≡ false →
    MayStand f c g rs (extent_behind f (length rs) o) None
stand-over true c g rs next e o k ix h = absurd (cc)
stand-over false c g rs next e o k ix h = record {
  mark = tt;
  passed = λ j d w m s l. let b = none-newest (backs c rs) (length rs) e.newest_back o ix.newest h j w m in absurd (omega (arith, b, l));
}

pub record IsFirst (f : Bool) (n : ℕ) (x y : Option ℕ) (i : ℕ) : Type 0 where
  pub one : (x ≡ Some i) ⊎ (y ≡ Some i)
  pub own : left f n x ≤ suc (after f n i)
  pub any : left f n y ≤ suc (after f n i)

pub first-some : (f : Bool) (n : ℕ) (x y : Option ℕ) (i : ℕ) → first_head f x y ≡ Some i → IsFirst f n x y i
first-some f n None None i e = absurd (cc)
first-some f n None (Some b) i e = let q : b ≡ i = some-same e in subst (IsFirst f n None (Some b)) q (record { one = inr refl; own = omega arith; any = omega arith })
first-some f n (Some a) None i e = let q : a ≡ i = some-same e in subst (IsFirst f n (Some a) None) q (record { one = inl refl; own = omega arith; any = omega arith })
first-some f n (Some a) (Some b) i e = by-test (comes f b a) refl (some-same e)
  where
    by-test : (v : Bool) → comes f b a ≡ v → change_if v b a ≡ i → IsFirst f n (Some a) (Some b) i
    by-test true t q = let l = after-order f n b a t in subst (IsFirst f n (Some a) (Some b)) q (record { one = inr refl; own = omega (arith, l); any = omega arith })
    by-test false t q = let l = comes-not f n b a t in subst (IsFirst f n (Some a) (Some b)) q (record { one = inl refl; own = omega arith; any = omega (arith, l) })

pub first-left : (f : Bool) (n m : ℕ) (x y : Option ℕ) → left f n x ≤ m → left f n y ≤ m → left f n (first_head f x y) ≤ m
first-left f n m None y h k = k
first-left f n m (Some a) None h k = h
first-left f n m (Some a) (Some b) h k = elim (comes f b a) as (λ v. left f n (Some (change_if v b a)) ≤ m) [ true ↦ k | false ↦ h ]

pub first-none : (f : Bool) (x y : Option ℕ) → first_head f x y ≡ None → (x ≡ None) × (y ≡ None)
first-none f None None e = (refl, refl)
first-none f None (Some b) e = absurd (cc)
first-none f (Some a) None e = absurd (cc)
first-none f (Some a) (Some b) e = absurd (cc)

pub not-some : (at : Option ℕ) → ((i : ℕ) → at ≡ Some i → ⊥) → at ≡ None
not-some None h = refl
not-some (Some i) h = absurd (h i refl)

-- a search along two chains
pub record Seek (f : Bool) (p : Indicator) (k : Key) (g : ℕ) (rs : List Record) (c d : Class) (x y : Option ℕ) (all : Option ClauseName) : Type 0 where
  pub m : ℕ
  pub within : m ≤ length rs
  pub own : MayStand f c g rs m x
  pub own_left : left f (length rs) x ≤ m
  pub any : MayStand f d g rs m y
  pub any_left : left f (length rs) y ≤ m
  pub same : first_like k (side f (is_of p) g rs m) ≡ all

-- the head of a chain behind a record that is passed
move : (f : Bool) (c : Class) (g : ℕ) (rs : List Record) (m i : ℕ) (x link : Option ℕ) → i < length rs → MayStand f c g rs m x → left f (length rs) x ≤ suc (after f (length rs) i) → suc (after f (length rs) i) ≤ m →
    (x ≡ Some i → MayStand f c g rs (after f (length rs) i) link × (left f (length rs) link ≤ after f (length rs) i)) →
    MayStand f c g rs (after f (length rs) i) (moved i link x) × (left f (length rs) (moved i link x) ≤ after f (length rs) i)
move f c g rs m i None link w st l hi here = (record { mark = tt; passed = λ j d b h s lt. st.passed j d b h s (omega (arith, lt, hi)) }, omega arith)
move f c g rs m i (Some a) link w st l hi here = by-test (nat_eq a i) refl
  where
    by-test : (v : Bool) → nat_eq a i ≡ v → MayStand f c g rs (after f (length rs) i) (change_if v link (Some a)) × (left f (length rs) (change_if v link (Some a)) ≤ after f (length rs) i)
    by-test true t = here (ap Some (nat-same a i t))
    by-test false t =
        let b : a < length rs = mark-in f c rs a st.mark in
        let other : a ≢ i = λ q. let z : true ≡ false = sym (nat-self i) ∙ ap (λ n. nat_eq n i) (sym q) ∙ t in absurd (cc) in
        let apart : after f (length rs) a ≢ after f (length rs) i = λ q. other (after-same f (length rs) a i b w q) in (
          record { mark = st.mark; passed = λ j d b h s lt. st.passed j d b h s (omega (arith, lt, hi)) },
          omega (arith, l, apart),
        )

module _ (f : Bool) (p : Indicator) (k : Key) (g : ℕ) (rs : List Record) (c d : Class) (x y : Option ℕ) (all : Option ClauseName) (all-in : Covers c d p k rs) (w : Seek f p k g rs c d x y all) where
  covered : (j : ℕ) (r : Record) → j < length rs → suits p k (own (get_or rs j r)) ≡ true → (c (get_or rs j r).clause ≡ true) ⊎ (d (get_or rs j r).clause ≡ true)
  unfolding Covers
  covered = all-in

  -- what is sought is still before the walk
  ahead : (n : ℕ) → left f (length rs) x ≤ n → left f (length rs) y ≤ n → (j : ℕ) → j < length rs → is_sought f p k g (get_or rs j some-record) ≡ true → after f (length rs) j < w.m → after f (length rs) j < n
  ahead n lx ly j b h lt =
      let r = get_or rs j some-record in
      let s = split-sought f p k g r h in
      let marked : (e : Class) → e r.clause ≡ true → get_or (marks f e rs) j false ≡ true = λ e i. marks-is f e rs j some-record b ∙ side-flag f (is_of p) e r s.1 i in
      elim (covered j some-record b (and-both (fits k (own r)) (is_of p r.clause) s.2 (side-class f (is_of p) r s.1))) [
        | inl i ↦ let l = w.own.passed j some-record b (marked c i) s.0 lt in omega (arith, l, lx)
        | inr i ↦ let l = w.any.passed j some-record b (marked d i) s.0 lt in omega (arith, l, ly)
      ]

  module _ (i : ℕ) (e : first_head f x y ≡ Some i) where
    one : IsFirst f (length rs) x y i
    one = first-some f (length rs) x y i e

    in-one : (get_or (marks f c rs) i false ≡ true) ⊎ (get_or (marks f d rs) i false ≡ true)
    in-one = elim one.one [ inl q ↦ inl (subst (Marked (marks f c rs)) q w.own.mark) | inr q ↦ inr (subst (Marked (marks f d rs)) q w.any.mark) ]

    pub first-within : i < length rs
    first-within = elim in-one [ inl h ↦ mark-in f c rs i h | inr h ↦ mark-in f d rs i h ]

    room : suc (after f (length rs) i) ≤ w.m
    room = elim one.one [
      | inl q ↦ let l : left f (length rs) (Some i) ≤ w.m = subst (λ x. left f (length rs) x ≤ w.m) q w.own_left in l
      | inr q ↦ let l : left f (length rs) (Some i) ≤ w.m = subst (λ x. left f (length rs) x ≤ w.m) q w.any_left in l
    ]

    from-here : first_like k (side f (is_of p) g rs (suc (after f (length rs) i))) ≡ all
    from-here = sym (skip f p k g rs w.m (suc (after f (length rs) i)) room w.within (ahead (suc (after f (length rs) i)) one.own one.any)) ∙ w.same

    on-side : (r : Record) → is_of p (get_or rs i r).clause ≡ true → side_of f (is_of p) (get_or rs i r) ≡ true
    on-side r h = elim in-one [
      | inl q ↦ side-flag f c (is_of p) (get_or rs i r) (sym (marks-is f c rs i r first-within) ∙ q) h
      | inr q ↦ side-flag f d (is_of p) (get_or rs i r) (sym (marks-is f d rs i r first-within) ∙ q) h
    ]

    sought-is : (r : Record) → is_met g p k (get_or rs i r) ≡ is_sought f p k g (get_or rs i r)
    sought-is r = let q = get_or rs i r in met-sought (seen g q) (fits k (own q)) (is_of p q.clause) (side_of f (is_of p) q) (λ _ h. on-side r h) (side-class f (is_of p) q)

    pub seek-found : (r : Record) → r ≡ get_or rs i r → is_met g p k r ≡ true → Some r.name ≡ all
    seek-found r er h = ap (λ (r : Record). Some r.name) er ∙ sym (like-at f p k g rs i r true first-within (sym (sought-is r) ∙ ap (is_met g p k) (sym er) ∙ h)) ∙ from-here

    -- both chains have the same links
    module _ (l : Links) (u v : Ends) (own-chain : IsChain c rs l u) (any-chain : IsChain d rs l v) where
      pub end-within : end_at g i (get_or l.places.items i no_place).run < length l.next.items
      end-within = elim in-one [ inl h ↦ over-within f c g rs l u own-chain i h | inr h ↦ over-within f d g rs l v any-chain i h ]

      module _ (link a b : Option ℕ) (t : link ≡ get_or l.next.items (end_at g i (get_or l.places.items i no_place).run) None) (ea : a ≡ moved i link x) (eb : b ≡ moved i link y) where
        to : (e : Class) (z : Ends) → IsChain e rs l z → (o : Option ℕ) → Marked (marks f e rs) o → o ≡ Some i → MayStand f e g rs (after f (length rs) i) link × (left f (length rs) link ≤ after f (length rs) i)
        to e z ch o m q =
            let mark = subst (Marked (marks f e rs)) q m in
            (step-stands f e g rs l z ch i mark link t (after f (length rs) i) (omega arith), step-order f e g rs l z ch i mark link t)

        own-moved : MayStand f c g rs (after f (length rs) i) a × (left f (length rs) a ≤ after f (length rs) i)
        own-moved = subst (λ a. MayStand f c g rs (after f (length rs) i) a × (left f (length rs) a ≤ after f (length rs) i)) (sym ea)
            (move f c g rs w.m i x link first-within w.own one.own room (to c u own-chain x w.own.mark))

        any-moved : MayStand f d g rs (after f (length rs) i) b × (left f (length rs) b ≤ after f (length rs) i)
        any-moved = subst (λ b. MayStand f d g rs (after f (length rs) i) b × (left f (length rs) b ≤ after f (length rs) i)) (sym eb)
            (move f d g rs w.m i y link first-within w.any one.any room (to d v any-chain y w.any.mark))

        pub seek-more : (r : Record) → r ≡ get_or rs i r → is_met g p k r ≡ false → Seek f p k g rs c d a b all
        seek-more r er h = record {
          m = after f (length rs) i;
          within = omega (arith, room, w.within);
          own = own-moved.0;
          own_left = own-moved.1;
          any = any-moved.0;
          any_left = any-moved.1;
          same = sym (like-at f p k g rs i r false first-within (sym (sought-is r) ∙ ap (is_met g p k) (sym er) ∙ h)) ∙ from-here;
        }

        pub seek-smaller : left f (length rs) (first_head f a b) < left f (length rs) (first_head f x y)
        seek-smaller =
            let l = first-left f (length rs) (after f (length rs) i) a b own-moved.1 any-moved.1 in
            subst (λ o. left f (length rs) (first_head f a b) < left f (length rs) o) (sym e) (omega (arith, l))

  pub seek-over : first_head f x y ≡ None → None ≡ all
  seek-over e =
      let none = first-none f x y e in
      sym (skip-all f p k g rs w.m w.within (ahead 0 (nothing x none.0) (nothing y none.1))) ∙ w.same
    where
      nothing : (z : Option ℕ) → z ≡ None → left f (length rs) z ≤ 0
      nothing z q = subst (λ z. left f (length rs) z ≤ 0) (sym q) (omega arith)

-- where neither chain has a record on a side, none is found there
extent-within : (part : Part) (n : ℕ) → IfSome part.behind (λ i. i < n) → extent part n ≤ n
extent-within part n w = by part.behind w
  where
    by : (o : Option ℕ) → IfSome o (λ i. i < n) → extent_behind part.front n o ≤ n
    by None w = omega arith
    by (Some i) w = omega (arith, after-within part.front n i w)

pub none-found : (t : Tables) (s : Sought) (m : Merged) (part : Part) → Chained t → IsMerged s.pred.now s.key.now t.records.items m → first_end part.front (chain_ends t s.pred.now m.own) ≡ None →
    first_end part.front (chain_ends t s.pred.now m.any) ≡ None → IfSome part.behind (λ i. i < length t.records.items) → None ≡ found s t.records.items part
none-found t s m part chained merged own any within =
    let f = part.front in
    let rs = t.records.items in
    let p = s.pred.now in
    let n = extent part (length rs) in
    let stands : (ch : Chain) → first_end f (chain_ends t p ch) ≡ None → MayStand f (in_chain p ch) s.g rs n None =
    λ ch e. subst (MayStand f (in_chain p ch) s.g rs n) e (stand-first f (in_chain p ch) s.g rs _ _ n (chain-is t p ch chained).indexed) in
    seek-over _ _ _ _ _ _ _ _ _ _ merged.covers (record {
      m = n;
      within = extent-within part (length rs) within;
      own = stands m.own own;
      own_left = omega arith;
      any = stands m.any any;
      any_left = omega arith;
      same = refl;
    }) refl

-- what is found behind a clause that is shown, and from the beginning
all-behind : (p : Indicator) (k : Key) (g : ℕ) (rs : List Record) → first_like k (side false (is_of p) g rs (length rs)) ≡ first_like k (up (is_of p) g rs 0)
all-behind p k g rs = let e : length rs - length rs ≡ 0 = omega arith in ap (λ n. first_like k (up (is_of p) g rs n)) e

pub found-first : (g : ℕ) (p : Indicator) (k : Key) (rs : List Record) (o : Option ClauseName) → o ≡ or_else (first_like k (side true (is_of p) g rs (length rs))) (first_like k (side false (is_of p) g rs (length rs))) → o ≡ first_like k (walk g p rs)
found-first g p k rs o e = first-is g p k rs o (e ∙ ap (or_else (first_like k (down (is_of p) g rs (length rs)))) (all-behind p k g rs))

pub found-behind : (f : Bool) (g : ℕ) (p : Indicator) (k : Key) (x : ClauseName) (rs : List Record) (i : ℕ) (r : Record) (o : Option ClauseName) → OneIs x rs i → r ≡ get_or rs i r → seen g r && is_of p r.clause ≡ true → r.front ≡ f →
    o ≡ found_after f (first_like k (side f (is_of p) g rs (after f (length rs) i))) (first_like k (side false (is_of p) g rs (length rs))) → o ≡ first_like k (past x (walk g p rs))
found-behind true g p k x rs i r o one is shown front e = shown-front g p k x rs i r o one is shown front (e ∙ ap (or_else (first_like k (down (is_of p) g rs i))) (all-behind p k g rs))
found-behind false g p k x rs i r o one is shown front e =
    let q : length rs - (length rs - suc i) ≡ suc i = omega (arith, one.within) in
    shown-back g p k x rs i r o one is shown front (e ∙ ap (λ n. first_like k (up (is_of p) g rs n)) q)

-- ---- along one chain

add-same : {A : Type 0} (b : Bool) (x : A) → change_if b x x ≡ x
add-same true x = refl
add-same false x = refl

pub first-one : (f : Bool) (x : Option ℕ) → first_head f x x ≡ x
first-one f None = refl
first-one f (Some i) = ap Some (add-same (comes f i i) i)

pub moved-one : (i : ℕ) (link x : Option ℕ) → x ≡ Some i → link ≡ moved i link x
moved-one i link x e = sym (ap (moved i link) e ∙ ap (λ b. change_if b link (Some i)) (nat-self i))

and-true : (b : Bool) → b && true ≡ b
and-true true = refl
and-true false = refl

any-fits : (k : Key) → may_fit Any k ≡ true
any-fits Any = refl
any-fits (Int j) = refl
any-fits (Atom r) = refl
any-fits (Functor r m) = refl

-- a record of the procedure suits a goal of any key
pub any-suits : (f : Bool) (p : Indicator) (k : Key) (g : ℕ) (rs : List Record) (i : ℕ) (r : Record) → k ≡ Any → get_or (marks f (is_of p) rs) i false ≡ true → r ≡ get_or rs i r → is_met g p k r ≡ seen g r
any-suits f p k g rs i r any mark er =
    let at : is_of p (get_or rs i r).clause ≡ true = side-class f (is_of p) (get_or rs i r) (sym (marks-is f (is_of p) rs i r (mark-in f (is_of p) rs i mark)) ∙ mark) in
    let of : is_of p r.clause ≡ true = subst (λ (z : Record). is_of p z.clause ≡ true) (sym er) at in
    let fit : fits k (own r) ≡ true = ap (λ (q : Key). fits q (own r)) any ∙ any-fits (first_key r.clause.head) in
    ap₂ (λ a b. seen g r && (a && b)) fit of ∙ and-true (seen g r)
