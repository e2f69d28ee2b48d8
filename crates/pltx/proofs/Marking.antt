-- The marks of what own updates erase.
use Rattle.std.proofs.Common.{◌≡◌, ◌+◌, ◌<◌, ◌≤◌, refl, sym, ◌∙◌, ap, arith, ℕ, zero, suc, Bool, true, false, List, [], ◌∷◌, ◌++◌, Option, Some, None, length, take, nat_lt}
use Rattle.std.specs.Prelude.{◌||◌}
use Rattle.std.proofs.lemmas.Bool.Decides.{nat_tests}
use Rattle.plevent.specs.declared.update.Update.{Update}
use Rattle.plevent.specs.declared.update.Update.TheVariants.{First, Last, Erase, EraseOwn, Declare}
use Rattle.plevent.specs.Alive.{change_if, or_else}
use Rattle.pltx.specs.declared.target.Target.{Target}
use Rattle.pltx.specs.declared.target.Target.TheVariants.{Committed, Own}
use Rattle.pltx.specs.Own.{erased_in, erasing, is_target, target_of, IsAddition}
use Rattle.pltx.specs.Overlays.{mark_of, OnceEach}
use Rattle.pltx.proofs.Targets.{target-same}

abbrev hit : Target → Update → Bool
hit t u = is_target t (target_of u)

or-left : (a b : Bool) → a || b ≡ false → a ≡ false
or-left true b h = h
or-left false b h = refl

or-right : (a b : Bool) → a || b ≡ false → b ≡ false
or-right true b h = absurd (cc)
or-right false b h = h

or-assoc : (a b c : Bool) → a || (b || c) ≡ (a || b) || c
or-assoc true b c = refl
or-assoc false b c = refl

pub erased-append : (t : Target) (us vs : List Update) → erased_in t (us ++ vs) ≡ erased_in t us || erased_in t vs
erased-append t [] vs = refl
erased-append t (u ∷ us) vs = ap (λ v. hit t u || v) (erased-append t us vs) ∙ or-assoc (hit t u) (erased_in t us) (erased_in t vs)

-- there is a mark exactly where some update erases
pub none-marked : (t : Target) (k : ℕ) (us : List Update) → erased_in t us ≡ false → mark_of t k us ≡ None
none-marked t k [] h = refl
none-marked t k (u ∷ us) h = ap (λ v. change_if v (Some k) (mark_of t (suc k) us)) (or-left (hit t u) (erased_in t us) h) ∙ none-marked t (suc k) us (or-right (hit t u) (erased_in t us) h)

pub marked-none : (t : Target) (k : ℕ) (us : List Update) → mark_of t k us ≡ None → erased_in t us ≡ false
marked-none t k [] h = refl
marked-none t k (u ∷ us) h = by-case (hit t u) h (λ h. marked-none t (suc k) us h)
  where
    by-case : (v : Bool) → change_if v (Some k) (mark_of t (suc k) us) ≡ None → (mark_of t (suc k) us ≡ None → erased_in t us ≡ false) → v || erased_in t us ≡ false
    by-case true h rest = absurd (cc)
    by-case false h rest = rest h

pub marked-some : (t : Target) (k n : ℕ) (us : List Update) → mark_of t k us ≡ Some n → erased_in t us ≡ true
marked-some t k n us h = by-case (erased_in t us) refl
  where
    by-case : (v : Bool) → erased_in t us ≡ v → erased_in t us ≡ true
    by-case true e = e
    by-case false e = let z : None ≡ Some n = sym (none-marked t k us e) ∙ h in absurd (cc)

-- one more update
or-nothing : (o : Option ℕ) → or_else o None ≡ o
or-nothing None = refl
or-nothing (Some n) = refl

mark-append : (t : Target) (k : ℕ) (us vs : List Update) → mark_of t k (us ++ vs) ≡ or_else (mark_of t k us) (mark_of t (k + length us) vs)
mark-append t k [] vs = ap (λ n. mark_of t n vs) (omega arith)
mark-append t k (u ∷ us) vs = ap (change_if (hit t u) (Some k)) (mark-append t (suc k) us vs ∙ ap (λ n. or_else (mark_of t (suc k) us) (mark_of t n vs)) (omega arith)) ∙ out (hit t u)
  where
    out : (v : Bool) → change_if v (Some k) (or_else (mark_of t (suc k) us) (mark_of t (k + suc (length us)) vs)) ≡ or_else (change_if v (Some k) (mark_of t (suc k) us)) (mark_of t (k + suc (length us)) vs)
    out true = refl
    out false = refl

pub mark-more : (t : Target) (n : ℕ) (us : List Update) (u : Update) → n ≡ length us → (hit t u ≡ true → erased_in t us ≡ false) → change_if (hit t u) (Some n) (mark_of t 0 us) ≡ mark_of t 0 (us ++ u ∷ [])
mark-more t n us u e fresh = by-case (hit t u) fresh ∙ ap (λ n. or_else (mark_of t 0 us) (change_if (hit t u) (Some n) None)) (omega (arith, e)) ∙ sym (mark-append t 0 us (u ∷ []))
  where
    by-case : (v : Bool) → (v ≡ true → erased_in t us ≡ false) → change_if v (Some n) (mark_of t 0 us) ≡ or_else (mark_of t 0 us) (change_if v (Some n) None)
    by-case true h = ap (λ o. or_else o (Some n)) (sym (none-marked t 0 us (h refl)))
    by-case false h = sym (or-nothing (mark_of t 0 us))

-- of the first m
abbrev pub number_below : ℕ → Option ℕ → Bool
number_below g None = false
number_below g (Some n) = nat_lt n g

lt-true : (a b : ℕ) → a < b → nat_lt a b ≡ true
lt-true a b h = grind (arith, nat_tests)

lt-false : (a b : ℕ) → b ≤ a → nat_lt a b ≡ false
lt-false a b h = grind (arith, nat_tests)

none-below : (t : Target) (g k : ℕ) (us : List Update) → g ≤ k → number_below g (mark_of t k us) ≡ false
none-below t g k [] l = refl
none-below t g k (u ∷ us) l = by-case (hit t u) (none-below t g (suc k) us (omega arith))
  where
    by-case : (v : Bool) → number_below g (mark_of t (suc k) us) ≡ false → number_below g (change_if v (Some k) (mark_of t (suc k) us)) ≡ false
    by-case true h = lt-false k g l
    by-case false h = h

pub mark-below : (t : Target) (g k m : ℕ) (us : List Update) → g ≡ k + m → number_below g (mark_of t k us) ≡ erased_in t (take m us)
mark-below t g k zero us e = none-below t g k us (omega arith)
mark-below t g k (suc m) [] e = refl
mark-below t g k (suc m) (u ∷ us) e = by-case (hit t u) (mark-below t g (suc k) m us (omega arith))
  where
    by-case : (v : Bool) → number_below g (mark_of t (suc k) us) ≡ erased_in t (take m us) → number_below g (change_if v (Some k) (mark_of t (suc k) us)) ≡ v || erased_in t (take m us)
    by-case true h = lt-true k g (omega arith)
    by-case false h = h

-- updates that are cut off
pub mark-cut : (t : Target) (k : ℕ) (us vs : List Update) → OnceEach (us ++ vs) → change_if (erased_in t vs) None (mark_of t k (us ++ vs)) ≡ mark_of t k us
mark-cut t k [] vs once = by-case (erased_in t vs) refl
  where
    by-case : (v : Bool) → erased_in t vs ≡ v → change_if v None (mark_of t k vs) ≡ None
    by-case true e = refl
    by-case false e = none-marked t k vs e
mark-cut t k (u ∷ us) vs once = by-case (hit t u) refl (mark-cut t (suc k) us vs once.1)
  where
    by-case : (v : Bool) → hit t u ≡ v → change_if (erased_in t vs) None (mark_of t (suc k) (us ++ vs)) ≡ mark_of t (suc k) us →
        change_if (erased_in t vs) None (change_if v (Some k) (mark_of t (suc k) (us ++ vs))) ≡ change_if v (Some k) (mark_of t (suc k) us)
    by-case true e rest = ap (λ w. change_if w None (Some k)) (or-right (erased_in t us) (erased_in t vs) (sym (erased-append t us vs) ∙ once.0 t e))
    by-case false e rest = rest

pub once-cut : (us vs : List Update) → OnceEach (us ++ vs) → OnceEach us
once-cut [] vs once = tt
once-cut (u ∷ us) vs once = (λ t h. or-left (erased_in t us) (erased_in t vs) (sym (erased-append t us vs) ∙ once.0 t h), once-cut us vs once.1)

pub once-more : (us : List Update) (u : Update) → OnceEach us → ((t : Target) → hit t u ≡ true → erased_in t us ≡ false) → OnceEach (us ++ u ∷ [])
once-more [] u once fresh = (λ t h. refl, tt)
once-more (x ∷ us) u once fresh = (
  λ t h. erased-append t us (u ∷ []) ∙ ap (λ v. v || (hit t u || false)) (once.0 t h) ∙ by-case t h (hit t u) refl,
  once-more us u once.1 (λ t h. or-right (hit t x) (erased_in t us) (fresh t h)),
)
  where
    by-case : (t : Target) → hit t x ≡ true → (v : Bool) → hit t u ≡ v → v || false ≡ false
    by-case t h true e = let z : true ≡ false = sym h ∙ or-left (hit t x) (erased_in t us) (fresh t e) in absurd (cc)
    by-case t h false e = refl

-- an addition erases nothing, and an erasure what it says
pub addition-none : (u : Update) → IsAddition u → target_of u ≡ None
addition-none (First c) h = refl
addition-none (Last c) h = refl
addition-none (Declare q) h = refl
addition-none (Erase y) h = absurd h
addition-none (EraseOwn k) h = absurd h

pub erasing-some : (t : Target) → target_of (erasing t) ≡ Some t
erasing-some (Committed y) = refl
erasing-some (Own k) = refl

pub fresh-erasing : (s : Target) (us : List Update) → erased_in s us ≡ false → (t : Target) → hit t (erasing s) ≡ true → erased_in t us ≡ false
fresh-erasing s us h t e = ap (λ t. erased_in t us) (sym (target-same s t (ap (is_target t) (sym (erasing-some s)) ∙ e))) ∙ h
