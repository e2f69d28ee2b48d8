-- What is seen: its order, and the clauses alive in it.
use Rattle.std.proofs.Common.{◌≡◌, ◌<◌, refl, sym, ◌∙◌, ap, ap₂, subst, arith, ℕ, suc, length, Bool, true, false, cond, List, [], ◌∷◌, ◌++◌, filter, Some, append_assoc}
use Rattle.std.proofs.Math.Seq.{take-length}
use Rattle.std.proofs.lemmas.Bool.Decides.{nat_tests}
use Rattle.std.proofs.lemmas.List.{append-nil}
use Rattle.plterm.specs.declared.indicator.Indicator.{Indicator}
use Rattle.plevent.specs.declared.update.ClauseName.{ClauseName}
use Rattle.plevent.specs.declared.update.Living.{Living}
use Rattle.plevent.specs.declared.update.Update.{Update}
use Rattle.plevent.specs.Alive.{Stamped, stamped, named, same_name, change_if, living}
use Rattle.plrecords.specs.declared.record.Cursor.{Cursor}
use Rattle.plstore.specs.Like.{past, rest}
use Rattle.plstore.specs.Looking.{clause_alive, Apart, NoneNamed, Tells}
use Rattle.plrecords.specs.Rising.{less, AllAfter, AllUnder, Ordered}
use Rattle.plstore.proofs.Names.{apart-alive, tells-alive}
use Rattle.pltx.specs.Walks.{cursor_at, not_erased, own_backs, own_fronts}
use Rattle.pltx.proofs.Layers.{living-layers}
use Rattle.plviews.specs.declared.lookup.Reach.{Reach}
use Rattle.plviews.specs.declared.lookup.Reach.TheVariants.{Front, Base, Back}
use Rattle.plviews.specs.Views.{own_part, whole, Sight, WithoutOwn}
use Rattle.plviews.specs.Lookups.{base_rest, rest_at}

-- names rise
above-own : (b j k : ℕ) → j < k → less (named b j) (named b k) ≡ true
above-own b j k h = grind (arith, nat_tests)

above-below : (x : ClauseName) (b k : ℕ) → x.place < b → less x (named b k) ≡ true
above-below x b k h = grind (arith, nat_tests)

after-own : (b j k : ℕ) (us : List Update) → j < k → AllAfter (named b j) (stamped b k us)
after-own b j k [] h = tt
after-own b j k (u ∷ us) h = (above-own b j k h, after-own b j (suc k) us (omega (arith, h)))

ordered-own : (b k : ℕ) (us : List Update) → Ordered (stamped b k us)
ordered-own b k [] = tt
ordered-own b k (u ∷ us) = (after-own b k (suc k) us (omega arith), ordered-own b (suc k) us)

after-below : (x : ClauseName) (b k : ℕ) (us : List Update) → x.place < b → AllAfter x (stamped b k us)
after-below x b k [] h = tt
after-below x b k (u ∷ us) h = (above-below x b k h, after-below x b (suc k) us h)

after-append : (x : ClauseName) (us vs : List Stamped) → AllAfter x us → AllAfter x vs → AllAfter x (us ++ vs)
after-append x [] vs h k = k
after-append x (s ∷ us) vs h k = (h.0, after-append x us vs h.1 k)

ordered-append : (b : ℕ) (us : List Stamped) (own : List Update) → Ordered us → AllUnder b us → Ordered (us ++ stamped b 0 own)
ordered-append b [] own o un = ordered-own b 0 own
ordered-append b (s ∷ us) own o un = (after-append s.at us (stamped b 0 own) o.0 (after-below s.at b 0 own un.0), ordered-append b us own o.1 un.1)

pub ordered-whole : (s : Sight) → Ordered s.below → AllUnder s.place s.below → Ordered (whole s)
ordered-whole s o un = ordered-append s.place s.below s.on_top o un

-- the three parts of the clauses alive
pub parts : (s : Sight) (p : Indicator) → AllUnder s.place s.below →
    living (whole s) p ≡ (own_fronts (own_part s) p ++ not_erased s.on_top (living s.below p)) ++ own_backs (own_part s) p
parts s p un =
    subst (λ own. living (s.below ++ stamped s.place 0 own) p ≡ (own_fronts (stamped s.place 0 own) p ++ not_erased own (living s.below p)) ++ own_backs (stamped s.place 0 own) p)
    (take-length s.on_top) (living-layers s.place (length s.on_top) s.below s.on_top p un)

pub from-start : (s : Sight) (p : Indicator) → AllUnder s.place s.below → rest_at s p (Front Rattle.pltx.specs.declared.own.OwnCursor.OwnCursor.Start) ≡ living (whole s) p
from-start s p un = sym (append_assoc (own_fronts (own_part s) p) (not_erased s.on_top (living s.below p)) (own_backs (own_part s) p)) ∙ sym (parts s p un)

-- a view without own updates
pub whole-journal : (s : Sight) → WithoutOwn s → whole s ≡ s.below
whole-journal s h = ap (λ own. s.below ++ stamped s.place 0 own) h ∙ append-nil s.below

pub none-erased : (xs : List Living) → not_erased [] xs ≡ xs
none-erased [] = refl
none-erased (x ∷ xs) = ap (λ l. x ∷ l) (none-erased xs)

pub no-backs : (b : ℕ) (p : Indicator) → own_backs (stamped b 0 []) p ≡ []
unfolding living
no-backs b p = refl

pub no-fronts : (b : ℕ) (p : Indicator) → own_fronts (stamped b 0 []) p ≡ []
unfolding living
no-fronts b p = refl

pub rest-journal : (s : Sight) (p : Indicator) (c : Cursor) → WithoutOwn s → base_rest s p c ≡ rest c (living s.below p)
rest-journal s p c h =
    ap (λ own. not_erased own (rest c (living s.below p)) ++ own_backs (stamped s.place 0 own) p) h
    ∙ ap₂ (λ a b. a ++ b) (none-erased (rest c (living s.below p))) (no-backs s.place p) ∙ append-nil (rest c (living s.below p))

-- each clause of a list is the one that is alive under its name
abbrev pub AllKnown : List Stamped → List Living → Type 0
AllKnown us [] = Unit {0}
AllKnown us (x ∷ xs) = (clause_alive x.name us ≡ Some x.clause) × AllKnown us xs

pub name-self : (x : ClauseName) → same_name x x ≡ true
name-self x = grind (arith, nat_tests)

known-from : (us : List Stamped) (xs : List Living) → ((x : ClauseName) → Tells x (clause_alive x us) xs) → AllKnown us xs
known-from us [] h = tt
known-from us (y ∷ ys) h = ((h y.name).0 (name-self y.name), known-from us ys (λ x. (h x).1))

pub known-filter : (us : List Stamped) (t : Living → Bool) (xs : List Living) → AllKnown us xs → AllKnown us (filter t xs)
known-filter us t [] all = tt
known-filter us t (x ∷ xs) all = elim (t x) as (λ v. AllKnown us (cond v (x ∷ filter t xs) (filter t xs))) [ true ↦ (all.0, known-filter us t xs all.1) | false ↦ known-filter us t xs all.1 ]

known-left : (us : List Stamped) (xs ys : List Living) → AllKnown us (xs ++ ys) → AllKnown us xs
known-left us [] ys all = tt
known-left us (x ∷ xs) ys all = (all.0, known-left us xs ys all.1)

known-right : (us : List Stamped) (xs ys : List Living) → AllKnown us (xs ++ ys) → AllKnown us ys
known-right us [] ys all = all
known-right us (x ∷ xs) ys all = known-right us xs ys all.1

known-append : (us : List Stamped) (xs ys : List Living) → AllKnown us xs → AllKnown us ys → AllKnown us (xs ++ ys)
known-append us [] ys h k = k
known-append us (x ∷ xs) ys h k = (h.0, known-append us xs ys h.1 k)

-- behind a cursor
known-past : (us : List Stamped) (t : Living → Bool) (z : ClauseName) (xs : List Living) → AllKnown us (filter t xs) → AllKnown us (filter t (past z xs))
known-past us t z [] all = tt
known-past us t z (x ∷ xs) all =
    let h = tail (t x) all in
    elim (same_name z x.name) as (λ v. AllKnown us (filter t (change_if v xs (past z xs)))) [ true ↦ h | false ↦ known-past us t z xs h ]
  where
    tail : (v : Bool) → AllKnown us (cond v (x ∷ filter t xs) (filter t xs)) → AllKnown us (filter t xs)
    tail true h = h.1
    tail false h = h

known-rest : (us : List Stamped) (t : Living → Bool) (c : Cursor) (xs : List Living) → AllKnown us (filter t xs) → AllKnown us (filter t (rest c xs))
known-rest us t Cursor.Start xs all = all
known-rest us t (Cursor.After z) xs all = known-past us t z xs all

every : Living → Bool
every x = true

filter-every : (xs : List Living) → filter every xs ≡ xs
unfolding every
filter-every [] = refl
filter-every (x ∷ xs) = ap (λ l. x ∷ l) (filter-every xs)

known-behind : (us : List Stamped) (c : Cursor) (xs : List Living) → AllKnown us xs → AllKnown us (rest c xs)
known-behind us c xs all = subst (AllKnown us) (filter-every (rest c xs)) (known-rest us every c xs (subst (AllKnown us) (sym (filter-every xs)) all))

pub rest-known : (s : Sight) (p : Indicator) (r : Reach) → Ordered s.below → AllUnder s.place s.below → AllKnown (whole s) (rest_at s p r)
rest-known s p r o un = by-reach r
  where
    us : List Stamped
    us = whole s

    fs : List Living
    fs = own_fronts (own_part s) p

    xs : List Living
    xs = living s.below p

    bs : List Living
    bs = own_backs (own_part s) p

    all : AllKnown us ((fs ++ not_erased s.on_top xs) ++ bs)
    all = subst (AllKnown us) (parts s p un) (known-from us (living us p) (λ x. tells-alive x p us (ordered-whole s o un)))

    in_base : (c : Cursor) → AllKnown us (not_erased s.on_top (rest c xs) ++ bs)
    in_base c =
        known-append us (not_erased s.on_top (rest c xs)) bs
        (known-rest us (λ x. Rattle.std.specs.Prelude.not (Rattle.pltx.specs.Own.erased_in (Rattle.pltx.specs.declared.target.Target.TheVariants.Committed x.name) s.on_top)) c xs
        (known-right us fs (not_erased s.on_top xs) (known-left us (fs ++ not_erased s.on_top xs) bs all)))
        (known-right us (fs ++ not_erased s.on_top xs) bs all)

    by-reach : (r : Reach) → AllKnown us (rest_at s p r)
    by-reach (Front c) =
        known-append us (rest (cursor_at s.place c) fs) (not_erased s.on_top xs ++ bs)
        (known-behind us (cursor_at s.place c) fs (known-left us fs (not_erased s.on_top xs) (known-left us (fs ++ not_erased s.on_top xs) bs all))) (in_base Cursor.Start)
    by-reach (Base c) = in_base c
    by-reach (Back c) = known-behind us (cursor_at s.place c) bs (known-right us (fs ++ not_erased s.on_top xs) bs all)

-- no two have one name
none-left : (x : ClauseName) (xs ys : List Living) → NoneNamed x (xs ++ ys) → NoneNamed x xs
none-left x [] ys h = tt
none-left x (y ∷ xs) ys h = (h.0, none-left x xs ys h.1)

apart-left : (xs ys : List Living) → Apart (xs ++ ys) → Apart xs
apart-left [] ys a = tt
apart-left (x ∷ xs) ys a = (none-left x.name xs ys a.0, apart-left xs ys a.1)

apart-right : (xs ys : List Living) → Apart (xs ++ ys) → Apart ys
apart-right [] ys a = a
apart-right (x ∷ xs) ys a = apart-right xs ys a.1

apart-parts : (s : Sight) (p : Indicator) → Ordered s.below → AllUnder s.place s.below → Apart ((own_fronts (own_part s) p ++ not_erased s.on_top (living s.below p)) ++ own_backs (own_part s) p)
apart-parts s p o un = subst Apart (parts s p un) (apart-alive p (whole s) (ordered-whole s o un))

pub apart-fronts : (s : Sight) (p : Indicator) → Ordered s.below → AllUnder s.place s.below → Apart (own_fronts (own_part s) p)
apart-fronts s p o un =
    let fs = own_fronts (own_part s) p in
    let xs = not_erased s.on_top (living s.below p) in
    apart-left fs xs (apart-left (fs ++ xs) (own_backs (own_part s) p) (apart-parts s p o un))

pub apart-backs : (s : Sight) (p : Indicator) → Ordered s.below → AllUnder s.place s.below → Apart (own_backs (own_part s) p)
apart-backs s p o un = apart-right (own_fronts (own_part s) p ++ not_erased s.on_top (living s.below p)) (own_backs (own_part s) p) (apart-parts s p o un)
