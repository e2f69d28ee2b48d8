-- The names of the clauses alive, after updates whose names rise.
use Rattle.std.specs.Prelude.{ℕ, Bool, true, false, ◌||◌, ◌&&◌, not, List, [], ◌∷◌, ◌++◌, filter, fold, nat_lt, Option, Some, None, cond}
use Rattle.std.proofs.Common.{◌≡◌, ◌⊎◌, inl, inr, refl, sym, ◌∙◌, ap, ap₂, subst, arith}
use Rattle.std.proofs.lemmas.Bool.{false≢true}
use Rattle.std.proofs.lemmas.Bool.Decides.{nat_tests}
use Rattle.std.specs.List.{list_any}
use Rattle.plterm.specs.declared.indicator.Indicator.{Indicator}
use Rattle.plclause.specs.Clause.{Clause}
use Rattle.plevent.specs.declared.update.Update.{Update}
use Rattle.plevent.specs.declared.update.Update.TheVariants.{First, Last, Erase, EraseOwn, Declare}
use Rattle.plevent.specs.declared.update.ClauseName.{ClauseName}
use Rattle.plevent.specs.declared.update.Living.{Living}
use Rattle.plevent.specs.Alive.{Stamped, same_name, is_of, named, change_if, lives_as, without, changed, change, living, before, exists, names, is_alive, lives, clause_named, made_in, clause_in, or_else}
use Rattle.plrecords.specs.Rising.{less, AllAfter, Ordered}
use Rattle.plstore.specs.Looking.{NoneNamed, Apart, Tells, clause_alive}
use Rattle.plstore.proofs.Search.{less-other, less-other-back}
use Rattle.plrecords.proofs.Law.{same-swap}
use Rattle.plstore.proofs.Visible.{name-true}
use Rattle.plstore.proofs.Whole.{or-none, or-assoc-3, or-nothing}

-- updates that are filtered stay in order
after-filter : (t : Stamped → Bool) (x : ClauseName) (us : List Stamped) → AllAfter x us → AllAfter x (filter t us)
after-filter t x [] h = tt
after-filter t x (s ∷ us) h = elim (t s) as (λ v. AllAfter x (cond v (s ∷ filter t us) (filter t us))) [ true ↦ (h.0, after-filter t x us h.1) | false ↦ after-filter t x us h.1 ]

ordered-filter : (t : Stamped → Bool) (us : List Stamped) → Ordered us → Ordered (filter t us)
ordered-filter t [] o = tt
ordered-filter t (s ∷ us) o = elim (t s) as (λ v. Ordered (cond v (s ∷ filter t us) (filter t us))) [ true ↦ (after-filter t s.at us o.0, ordered-filter t us o.1) | false ↦ ordered-filter t us o.1 ]

pub before-ordered : (g : ℕ) (us : List Stamped) → Ordered us → Ordered (before g us)
unfolding before
before-ordered g us o = ordered-filter (λ s. nat_lt s.at.place g) us o

-- each name of a list is below those of the updates
abbrev Earlier : List Living → List Stamped → Type 0
Earlier [] us = Unit {0}
Earlier (y ∷ ys) us = AllAfter y.name us × Earlier ys us

earlier-next : (xs : List Living) (s : Stamped) (us : List Stamped) → Earlier xs (s ∷ us) → Earlier xs us
earlier-next [] s us h = tt
earlier-next (y ∷ ys) s us h = (h.0.1, earlier-next ys s us h.1)

earlier-filter : (t : Living → Bool) (xs : List Living) (us : List Stamped) → Earlier xs us → Earlier (filter t xs) us
earlier-filter t [] us h = tt
earlier-filter t (y ∷ ys) us h = elim (t y) as (λ v. Earlier (cond v (y ∷ filter t ys) (filter t ys)) us) [ true ↦ (h.0, earlier-filter t ys us h.1) | false ↦ earlier-filter t ys us h.1 ]

earlier-last : (xs : List Living) (y : Living) (us : List Stamped) → Earlier xs us → AllAfter y.name us → Earlier (xs ++ y ∷ []) us
earlier-last [] y us h a = (a, tt)
earlier-last (x ∷ xs) y us h a = (h.0, earlier-last xs y us h.1 a)

earlier-changed : (p : Indicator) (s : Stamped) (xs : List Living) (us : List Stamped) → Earlier xs us → AllAfter s.at us → Earlier (change p xs s) us
earlier-changed p s xs us h a = by-case s.update
  where
    by-case : (u : Update) → Earlier (changed p s.at u xs) us
    by-case (First c) = elim (is_of p c) as (λ v. Earlier (change_if v (lives_as s.at c ∷ xs) xs) us) [ true ↦ (a, h) | false ↦ h ]
    by-case (Last c) = elim (is_of p c) as (λ v. Earlier (change_if v (xs ++ lives_as s.at c ∷ []) xs) us) [ true ↦ earlier-last xs (lives_as s.at c) us h a | false ↦ h ]
    by-case (Erase y) = earlier-filter (λ x. not (same_name x.name y)) xs us h
    by-case (EraseOwn k) = earlier-filter (λ x. not (same_name x.name (named s.at.place k))) xs us h
    by-case (Declare q) = h

-- no two clauses alive have one name
none-filter : (t : Living → Bool) (x : ClauseName) (ys : List Living) → NoneNamed x ys → NoneNamed x (filter t ys)
none-filter t x [] h = tt
none-filter t x (y ∷ ys) h = elim (t y) as (λ v. NoneNamed x (cond v (y ∷ filter t ys) (filter t ys))) [ true ↦ (h.0, none-filter t x ys h.1) | false ↦ none-filter t x ys h.1 ]

apart-filter : (t : Living → Bool) (xs : List Living) → Apart xs → Apart (filter t xs)
apart-filter t [] h = tt
apart-filter t (y ∷ ys) h = elim (t y) as (λ v. Apart (cond v (y ∷ filter t ys) (filter t ys))) [ true ↦ (none-filter t y.name ys h.0, apart-filter t ys h.1) | false ↦ apart-filter t ys h.1 ]

none-earlier : (xs : List Living) (s : Stamped) (us : List Stamped) → Earlier xs (s ∷ us) → NoneNamed s.at xs
none-earlier [] s us h = tt
none-earlier (y ∷ ys) s us h = (less-other-back y.name s.at h.0.0, none-earlier ys s us h.1)

none-last : (x : ClauseName) (ys : List Living) (y : Living) → NoneNamed x ys → same_name x y.name ≡ false → NoneNamed x (ys ++ y ∷ [])
none-last x [] y h e = (e, tt)
none-last x (z ∷ ys) y h e = (h.0, none-last x ys y h.1 e)

apart-last : (xs : List Living) (s : Stamped) (c : Clause) (us : List Stamped) → Apart xs → Earlier xs (s ∷ us) → Apart (xs ++ lives_as s.at c ∷ [])
apart-last [] s c us a h = (tt, tt)
apart-last (x ∷ xs) s c us a h = (none-last x.name xs (lives_as s.at c) a.0 (less-other x.name s.at h.0.0), apart-last xs s c us a.1 h.1)

apart-changed : (p : Indicator) (s : Stamped) (xs : List Living) (us : List Stamped) → Apart xs → Earlier xs (s ∷ us) → Apart (change p xs s)
apart-changed p s xs us a h = by-case s.update
  where
    by-case : (u : Update) → Apart (changed p s.at u xs)
    by-case (First c) = elim (is_of p c) as (λ v. Apart (change_if v (lives_as s.at c ∷ xs) xs)) [ true ↦ (none-earlier xs s us h, a) | false ↦ a ]
    by-case (Last c) = elim (is_of p c) as (λ v. Apart (change_if v (xs ++ lives_as s.at c ∷ []) xs)) [ true ↦ apart-last xs s c us a h | false ↦ a ]
    by-case (Erase y) = apart-filter (λ x. not (same_name x.name y)) xs a
    by-case (EraseOwn k) = apart-filter (λ x. not (same_name x.name (named s.at.place k))) xs a
    by-case (Declare q) = a

apart-fold : (p : Indicator) (xs : List Living) (us : List Stamped) → Apart xs → Earlier xs us → Ordered us → Apart (fold (change p) xs us)
apart-fold p xs [] a h o = a
apart-fold p xs (s ∷ us) a h o = apart-fold p (change p xs s) us (apart-changed p s xs us a h) (earlier-changed p s xs us (earlier-next xs s us h) o.0) o.1

pub apart-alive : (p : Indicator) (us : List Stamped) → Ordered us → Apart (living us p)
unfolding living
apart-alive p us o = apart-fold p [] us tt tt o

-- a procedure with a clause is there
none-fold : (p : Indicator) (us : List Stamped) → list_any (λ s. names p s.update) us ≡ false → fold (change p) [] us ≡ []
none-fold p [] h = refl
none-fold p (s ∷ us) h = ap (λ l. fold (change p) l us) (by-case s.update (left-false (names p s.update) (list_any (λ s. names p s.update) us) h)) ∙ none-fold p us (right-false (names p s.update) (list_any (λ s. names p s.update) us) h)
  where
    left-false : (a b : Bool) → a || b ≡ false → a ≡ false
    left-false true b e = e
    left-false false b e = refl

    right-false : (a b : Bool) → a || b ≡ false → b ≡ false
    right-false true b e = absurd (false≢true (sym e))
    right-false false b e = e

    by-case : (u : Update) → names p u ≡ false → changed p s.at u [] ≡ []
    by-case (First c) e = ap (λ v. change_if v (lives_as s.at c ∷ []) []) e
    by-case (Last c) e = ap (λ v. change_if v (lives_as s.at c ∷ []) []) e
    by-case (Erase y) e = refl
    by-case (EraseOwn k) e = refl
    by-case (Declare q) e = refl

pub exists-alive : (p : Indicator) (y : Living) (ys : List Living) (us : List Stamped) → living us p ≡ y ∷ ys → exists us p ≡ true
unfolding living exists
exists-alive p y ys us h = by-case (list_any (λ s. names p s.update) us) refl
  where
    by-case : (v : Bool) → list_any (λ s. names p s.update) us ≡ v → list_any (λ s. names p s.update) us ≡ true
    by-case true e = e
    by-case false e = let q : [] ≡ y ∷ ys = sym (none-fold p us e) ∙ h in absurd (cc)

-- the clause that is found under a name
less-same : (x y z : ClauseName) → same_name x y ≡ true → less x z ≡ true → less y z ≡ true
less-same x y z h k = grind (arith, nat_tests)

after-same : (x y : ClauseName) (us : List Stamped) → same_name x y ≡ true → AllAfter x us → AllAfter y us
after-same x y [] e h = tt
after-same x y (s ∷ us) e h = (less-same x y s.at e h.0, after-same x y us e h.1)

-- under a name the list has a clause that is alive, and this one
abbrev Knows : ClauseName → Bool → Option Clause → List Living → Type 0
Knows x a o [] = Unit {0}
Knows x a o (y ∷ ys) = (same_name x y.name ≡ true → (a ≡ true) × (o ≡ Some y.clause)) × Knows x a o ys

-- the name was not made yet, or no update behind makes it
abbrev Fresh : ClauseName → Option Clause → List Stamped → Type 0
Fresh x o us = (o ≡ None) ⊎ AllAfter x us

abbrev Step : Bool → Option Clause → Bool → Option Clause → Type 0
Step a o b q = (c : Clause) → (a ≡ true) × (o ≡ Some c) → (b ≡ true) × (q ≡ Some c)

knows-map : (x : ClauseName) (a b : Bool) (o q : Option Clause) (xs : List Living) → Step a o b q → Knows x a o xs → Knows x b q xs
knows-map x a b o q [] f h = tt
knows-map x a b o q (y ∷ ys) f h = ((λ e. f y.clause (h.0 e)), knows-map x a b o q ys f h.1)

knows-last : (x : ClauseName) (a : Bool) (o : Option Clause) (xs : List Living) (y : Living) → Knows x a o xs → (same_name x y.name ≡ true → (a ≡ true) × (o ≡ Some y.clause)) → Knows x a o (xs ++ y ∷ [])
knows-last x a o [] y h k = (k, tt)
knows-last x a o (z ∷ xs) y h k = (h.0, knows-last x a o xs y h.1 k)

-- an update that makes a clause
step-made : (x : ClauseName) (at : ClauseName) (c : Clause) (a : Bool) (o : Option Clause) → Step a o ((a || same_name at x) && true) (or_else o (change_if (same_name at x) (Some c) None))
step-made x at c a o d h = (ap (λ v. (v || same_name at x) && true) h.0, ap (λ r. or_else r (change_if (same_name at x) (Some c) None)) h.1)

fresh-none : (x : ClauseName) (s : Stamped) (o : Option Clause) (us : List Stamped) → Fresh x o (s ∷ us) → same_name s.at x ≡ true → o ≡ None
fresh-none x s o us f e = elim f [
  | inl n ↦ n
  | inr a ↦ absurd (false≢true (sym (less-other-back x s.at a.0) ∙ e))
]

new-made : (x : ClauseName) (s : Stamped) (c : Clause) (a : Bool) (o : Option Clause) (us : List Stamped) → Fresh x o (s ∷ us) → same_name x s.at ≡ true →
    ((a || same_name s.at x) && true ≡ true) × (or_else o (change_if (same_name s.at x) (Some c) None) ≡ Some c)
new-made x s c a o us f e =
    let t = name-true s.at x e in
    (ap (λ v. (a || v) && true) t ∙ or-true a, ap₂ (λ r v. or_else r (change_if v (Some c) None)) (fresh-none x s o us f t) t)
  where
    or-true : (a : Bool) → (a || true) && true ≡ true
    or-true true = refl
    or-true false = refl

-- one that makes none
step-kept : (v : Bool) (a e : Bool) (o : Option Clause) → e ≡ false → Step a o ((a || false) && not e) (or_else o (change_if v None None))
step-kept v a e o h c k = (ap₂ (λ p q. (p || false) && not q) k.0 h, sym (or-none v o) ∙ k.1)

knows-erase : (x y : ClauseName) (v a : Bool) (o : Option Clause) (xs : List Living) → Knows x a o xs → Knows x ((a || false) && not (same_name x y)) (or_else o (change_if v None None)) (without y xs)
knows-erase x y v a o [] h = tt
knows-erase x y v a o (z ∷ xs) h = by-case (same_name z.name y) refl (knows-erase x y v a o xs h.1)
  where
    b : Bool
    b = (a || false) && not (same_name x y)

    q : Option Clause
    q = or_else o (change_if v None None)

    by-case : (t : Bool) → same_name z.name y ≡ t → Knows x b q (without y xs) → Knows x b q (cond (not t) (z ∷ without y xs) (without y xs))
    by-case true e r = r
    by-case false e r = ((λ k. step-kept v a (same_name x y) o (same-swap x z.name y k ∙ e) z.clause (h.0 k)), r)

knows-changed : (x : ClauseName) (p : Indicator) (a : Bool) (o : Option Clause) (s : Stamped) (xs : List Living) (us : List Stamped) → Fresh x o (s ∷ us) → Knows x a o xs →
    Knows x (lives x a s) (or_else o (made_in x s)) (change p xs s)
knows-changed x p a o s xs us f h = by-case s.update
  where
    by-case : (u : Update) → Knows x (lives x a (record { at = s.at; update = u })) (or_else o (made_in x (record { at = s.at; update = u }))) (changed p s.at u xs)
    by-case (First c) =
        let old = knows-map x a ((a || same_name s.at x) && true) o (or_else o (change_if (same_name s.at x) (Some c) None)) xs (step-made x s.at c a o) h in
        elim (is_of p c) as (λ v. Knows x ((a || same_name s.at x) && true) (or_else o (change_if (same_name s.at x) (Some c) None)) (change_if v (lives_as s.at c ∷ xs) xs)) [
          | true ↦ (new-made x s c a o us f, old)
          | false ↦ old
        ]
    by-case (Last c) =
        let old = knows-map x a ((a || same_name s.at x) && true) o (or_else o (change_if (same_name s.at x) (Some c) None)) xs (step-made x s.at c a o) h in
        elim (is_of p c) as (λ v. Knows x ((a || same_name s.at x) && true) (or_else o (change_if (same_name s.at x) (Some c) None)) (change_if v (xs ++ lives_as s.at c ∷ []) xs)) [
          | true ↦ knows-last x ((a || same_name s.at x) && true) (or_else o (change_if (same_name s.at x) (Some c) None)) xs (lives_as s.at c) old (new-made x s c a o us f)
          | false ↦ old
        ]
    by-case (Erase y) = knows-erase x y (same_name s.at x) a o xs h
    by-case (EraseOwn k) = knows-erase x (named s.at.place k) (same_name s.at x) a o xs h
    by-case (Declare q) = knows-map x a ((a || false) && true) o (or_else o (change_if (same_name s.at x) None None)) xs (step-kept (same_name s.at x) a false o refl) h

fresh-next : (x : ClauseName) (o : Option Clause) (s : Stamped) (us : List Stamped) → AllAfter s.at us → Fresh x o (s ∷ us) → Fresh x (or_else o (made_in x s)) us
fresh-next x o s us a f = elim f [
  | inl n ↦ by-case (same_name s.at x) refl n
  | inr b ↦ inr b.1
]
  where
    by-case : (v : Bool) → same_name s.at x ≡ v → o ≡ None → Fresh x (or_else o (made_in x s)) us
    by-case true e n = inr (after-same s.at x us e a)
    by-case false e n = inl (ap₂ (λ q v. or_else q (change_if v (clause_in s.update) None)) n e)

knows-fold : (x : ClauseName) (p : Indicator) (a : Bool) (o : Option Clause) (xs : List Living) (us : List Stamped) → Fresh x o us → Ordered us → Knows x a o xs →
    Knows x (fold (lives x) a us) (or_else o (clause_named x us)) (fold (change p) xs us)
knows-fold x p a o xs [] f r h = subst (λ q. Knows x a q xs) (or-nothing o) h
knows-fold x p a o xs (s ∷ us) f r h =
    let q = or_else o (made_in x s) in
    subst (λ w. Knows x (fold (lives x) (lives x a s) us) w (fold (change p) (change p xs s) us)) (or-assoc-3 o (made_in x s) (clause_named x us))
    (knows-fold x p (lives x a s) q (change p xs s) us (fresh-next x o s us r.0 f) r.1 (knows-changed x p a o s xs us f h))

tells-known : (x : ClauseName) (a : Bool) (o : Option Clause) (xs : List Living) → Knows x a o xs → Tells x (change_if a o None) xs
tells-known x a o [] h = tt
tells-known x a o (y ∷ ys) h = ((λ e. ap (λ v. change_if v o None) (h.0 e).0 ∙ (h.0 e).1), tells-known x a o ys h.1)

pub tells-alive : (x : ClauseName) (p : Indicator) (us : List Stamped) → Ordered us → Tells x (clause_alive x us) (living us p)
unfolding living is_alive
tells-alive x p us o = tells-known x (fold (lives x) false us) (clause_named x us) (fold (change p) [] us) (knows-fold x p false None [] us (inl refl) o tt)
