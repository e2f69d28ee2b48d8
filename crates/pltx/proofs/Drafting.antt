-- Own updates as a draft keeps them.
use Rattle.std.proofs.Common.{◌≡◌, ◌+◌, ◌<◌, ◌≤◌, refl, sym, ◌∙◌, ap, ap₂, subst, arith, ℕ, zero, suc, Bool, true, false, cond, List, [], ◌∷◌, ◌++◌, Some, None, length, take, drop, nat_lt, fold, append_assoc}
use Rattle.std.specs.Prelude.{◌||◌}
use Rattle.std.specs.HashMap.{get, IsEmpty}
use Rattle.std.specs.Map.{lookup}
use Rattle.std.specs.List.{list_any}
use Rattle.std.proofs.lemmas.Bool.Decides.{nat_tests}
use Rattle.std.proofs.lemmas.List.{append-nil, take-append-drop}
use Rattle.std.proofs.lemmas.List.Sums.{fold-append}
use Rattle.plterm.specs.declared.indicator.Indicator.{Indicator}
use Rattle.plevent.specs.declared.update.Update.{Update}
use Rattle.plevent.specs.declared.update.Update.TheVariants.{First, Last, Erase, EraseOwn, Declare}
use Rattle.plevent.specs.Alive.{Stamped, stamped, named, change_if, before, exists, names}
use Rattle.plstore.specs.Cut.{cut}
use Rattle.plrecords.specs.Kept.{Kept, keep, nothing}
use Rattle.plrecords.specs.Rising.{AllUnder, Rises}
use Rattle.plstore.proofs.Cutting.{cut-is, under-cut}
use Rattle.pltx.specs.declared.overlay.Overlay.{Overlay}
use Rattle.pltx.specs.declared.target.Target.{Target}
use Rattle.pltx.specs.Own.{erased_in, is_target, same_target, target_of, IsAddition}
use Rattle.pltx.specs.Walks.{before_first}
use Rattle.pltx.specs.Overlays.{drafts, drafted, mark_of, IsTracked, OnceEach}
use Rattle.pltx.proofs.Marking.{mark-cut, mark-more, once-cut, once-more}

lt-true : (a b : ℕ) → a < b → nat_lt a b ≡ true
lt-true a b h = grind (arith, nat_tests)

lt-false : (a b : ℕ) → b ≤ a → nat_lt a b ≡ false
lt-false a b h = grind (arith, nat_tests)

pub drafts-addition : (k : ℕ) (u : Update) → IsAddition u → drafts k u ≡ stamped k 0 (u ∷ [])
drafts-addition k (First c) h = refl
drafts-addition k (Last c) h = refl
drafts-addition k (Declare q) h = refl
drafts-addition k (Erase y) h = absurd h
drafts-addition k (EraseOwn j) h = absurd h

drafted-push : (k n : ℕ) (us : List Update) (u : Update) → n ≡ k + length us → drafted k (us ++ u ∷ []) ≡ drafted k us ++ drafts n u
drafted-push k n [] u e = append-nil (drafts k u) ∙ ap (λ k. drafts k u) (omega arith)
drafted-push k n (v ∷ us) u e = ap (λ l. drafts k v ++ l) (drafted-push (suc k) n us u (omega arith)) ∙ sym (append_assoc (drafts k v) (drafted (suc k) us) (drafts n u))

-- places rise with the numbers
drafts-rise : (b k : ℕ) (u : Update) (ss : List Stamped) → b ≤ k → Rises b ss → Rises k ss → Rises b (drafts k u ++ ss)
drafts-rise b k (First c) ss l low up = (l, up)
drafts-rise b k (Last c) ss l low up = (l, up)
drafts-rise b k (Declare q) ss l low up = (l, up)
drafts-rise b k (EraseOwn j) ss l low up = (l, up)
drafts-rise b k (Erase y) ss l low up = low

drafted-rises : (b k : ℕ) (us : List Update) → b ≤ k → Rises b (drafted k us)
drafted-rises b k [] l = tt
drafted-rises b k (u ∷ us) l = drafts-rise b k u (drafted (suc k) us) l (drafted-rises b (suc k) us (omega arith)) (drafted-rises k (suc k) us (omega arith))

pub rises : (us : List Update) → Rises 0 (drafted 0 us)
rises us = drafted-rises 0 0 us (omega arith)

drafts-under : (g k : ℕ) (u : Update) (ss : List Stamped) → k < g → AllUnder g ss → AllUnder g (drafts k u ++ ss)
drafts-under g k (First c) ss l h = (l, h)
drafts-under g k (Last c) ss l h = (l, h)
drafts-under g k (Declare q) ss l h = (l, h)
drafts-under g k (EraseOwn j) ss l h = (l, h)
drafts-under g k (Erase y) ss l h = h

drafted-under : (g k : ℕ) (us : List Update) → k + length us ≤ g → AllUnder g (drafted k us)
drafted-under g k [] l = tt
drafted-under g k (u ∷ us) l = drafts-under g k u (drafted (suc k) us) (omega arith) (drafted-under g (suc k) us (omega arith))

-- the first m
before-append : (g : ℕ) (ss ts : List Stamped) → before g (ss ++ ts) ≡ before g ss ++ before g ts
unfolding before
before-append g [] ts = refl
before-append g (s ∷ ss) ts = ap (λ l. cond (nat_lt s.at.place g) (s ∷ l) l) (before-append g ss ts) ∙ out (nat_lt s.at.place g)
  where
    out : (v : Bool) → cond v (s ∷ (before g ss ++ before g ts)) (before g ss ++ before g ts) ≡ cond v (s ∷ before g ss) (before g ss) ++ before g ts
    out true = refl
    out false = refl

one-before : (g : ℕ) (s : Stamped) (v : Bool) → nat_lt s.at.place g ≡ v → before g (s ∷ []) ≡ cond v (s ∷ []) []
unfolding before
one-before g s v e = ap (λ v. cond v (s ∷ []) []) e

none-before : (g : ℕ) → before g [] ≡ []
unfolding before
none-before g = refl

drafts-before : (g k : ℕ) (u : Update) → k < g → before g (drafts k u) ≡ drafts k u
drafts-before g k (First c) l = one-before g (record { at = named k 0; update = First c }) true (lt-true k g l)
drafts-before g k (Last c) l = one-before g (record { at = named k 0; update = Last c }) true (lt-true k g l)
drafts-before g k (Declare q) l = one-before g (record { at = named k 0; update = Declare q }) true (lt-true k g l)
drafts-before g k (EraseOwn j) l = one-before g (record { at = named k 0; update = Erase (named j 0) }) true (lt-true k g l)
drafts-before g k (Erase y) l = none-before g

drafts-behind : (g k : ℕ) (u : Update) → g ≤ k → before g (drafts k u) ≡ []
drafts-behind g k (First c) l = one-before g (record { at = named k 0; update = First c }) false (lt-false k g l)
drafts-behind g k (Last c) l = one-before g (record { at = named k 0; update = Last c }) false (lt-false k g l)
drafts-behind g k (Declare q) l = one-before g (record { at = named k 0; update = Declare q }) false (lt-false k g l)
drafts-behind g k (EraseOwn j) l = one-before g (record { at = named k 0; update = Erase (named j 0) }) false (lt-false k g l)
drafts-behind g k (Erase y) l = none-before g

behind-all : (g k : ℕ) (us : List Update) → g ≤ k → before g (drafted k us) ≡ []
behind-all g k [] l = none-before g
behind-all g k (u ∷ us) l = before-append g (drafts k u) (drafted (suc k) us) ∙ ap₂ (λ a b. a ++ b) (drafts-behind g k u l) (behind-all g (suc k) us (omega arith))

before-drafted : (g k m : ℕ) (us : List Update) → g ≡ k + m → before g (drafted k us) ≡ drafted k (take m us)
before-drafted g k zero us e = behind-all g k us (omega arith)
before-drafted g k (suc m) [] e = none-before g
before-drafted g k (suc m) (u ∷ us) e = before-append g (drafts k u) (drafted (suc k) us) ∙ ap₂ (λ a b. a ++ b) (drafts-before g k u (omega arith)) (before-drafted g (suc k) m us (omega arith))

pub first-drafted : (m : ℕ) (us : List Update) → before m (drafted 0 us) ≡ drafted 0 (take m us)
first-drafted m us = before-drafted m 0 m us (omega arith)

-- the draft of more updates, and of fewer
pub draft-above : (n : ℕ) (us : List Update) (k : Kept) → n ≡ length us → k ≡ fold keep nothing (drafted 0 us) → cut n k ≡ k
draft-above n us k e is = ap (cut n) is ∙ under-cut n (drafted 0 us) (drafted-under n 0 us (omega (arith, e))) ∙ sym is

draft-cut : (n : ℕ) (us : List Update) (k k' : Kept) → k ≡ fold keep nothing (drafted 0 us) → k' ≡ cut n k → k' ≡ fold keep nothing (drafted 0 (take n us))
draft-cut n us k k' is new = new ∙ ap (cut n) is ∙ cut-is n (drafted 0 us) (rises us) ∙ ap (fold keep nothing) (first-drafted n us)

pub tracked-more : (o p : Overlay) (n : ℕ) (u : Update) → IsTracked o → n ≡ length o.updates.items → p.updates.items ≡ o.updates.items ++ u ∷ [] → p.draft ≡ fold keep o.draft (drafts n u) →
    ((t : Target) → get same_target p.marks t ≡ change_if (is_target t (target_of u)) (Some n) (get same_target o.marks t)) → ((t : Target) → is_target t (target_of u) ≡ true → erased_in t o.updates.items ≡ false) → p.before_fronts ≡ before_first (o.updates.items ++ u ∷ []) → IsTracked p
tracked-more o p n u was size updates draft marks fresh fronts =
    let us = o.updates.items in
    record {
      draft = draft ∙ ap (λ k. fold keep k (drafts n u)) was.draft ∙ sym (fold-append keep nothing (drafted 0 us) (drafts n u)) ∙ ap (fold keep nothing) (sym (drafted-push 0 n us u (omega (arith, size))) ∙ ap (drafted 0) (sym updates));
      marks = λ t. marks t ∙ ap (change_if (is_target t (target_of u)) (Some n)) (was.marks t) ∙ mark-more t n us u size (fresh t) ∙ ap (mark_of t 0) (sym updates);
      once = subst OnceEach (sym updates) (once-more us u was.once fresh);
      fronts = fronts ∙ ap before_first (sym updates);
    }

pub tracked-cut : (o p : Overlay) (n : ℕ) → IsTracked o → p.updates.items ≡ take n o.updates.items → p.draft ≡ cut n o.draft →
    ((t : Target) → get same_target p.marks t ≡ change_if (erased_in t (drop n o.updates.items)) None (get same_target o.marks t)) → p.before_fronts ≡ before_first (take n o.updates.items) → IsTracked p
tracked-cut o p n was updates draft marks fronts =
    let us = o.updates.items in
    let whole = take-append-drop n us in
    let once : OnceEach (take n us ++ drop n us) = subst OnceEach (sym whole) was.once in
    record {
      draft = draft-cut n us o.draft p.draft was.draft draft ∙ ap (λ us. fold keep nothing (drafted 0 us)) (sym updates);
      marks = λ t. marks t ∙ ap (change_if (erased_in t (drop n us)) None) (was.marks t ∙ ap (mark_of t 0) (sym whole)) ∙ mark-cut t 0 (take n us) (drop n us) once ∙ ap (mark_of t 0) (sym updates);
      once = subst OnceEach (sym updates) (once-cut (take n us) (drop n us) once);
      fronts = fronts ∙ ap before_first (sym updates);
    }

-- nothing is tracked
pub tracked-none : (o : Overlay) → o.updates.items ≡ [] → o.draft ≡ nothing → IsEmpty o.marks → o.before_fronts ≡ 0 → IsTracked o
tracked-none o updates draft marks fronts = record {
  draft = draft ∙ ap (λ us. fold keep nothing (drafted 0 us)) (sym updates);
  marks = λ t. ap (lookup (same_target t)) marks ∙ ap (mark_of t 0) (sym updates);
  once = subst OnceEach (sym updates) tt;
  fronts = fronts ∙ ap before_first (sym updates);
}

pub tracked-same : (o p : Overlay) → IsTracked o → p.updates.items ≡ o.updates.items → p.draft ≡ o.draft → ((t : Target) → get same_target p.marks t ≡ get same_target o.marks t) → p.before_fronts ≡ o.before_fronts → IsTracked p
tracked-same o p was updates draft marks fronts = record {
  draft = draft ∙ was.draft ∙ ap (λ us. fold keep nothing (drafted 0 us)) (sym updates);
  marks = λ t. marks t ∙ was.marks t ∙ ap (mark_of t 0) (sym updates);
  once = subst OnceEach (sym updates) was.once;
  fronts = fronts ∙ was.fronts ∙ ap before_first (sym updates);
}

-- a procedure is named by the same updates
drafts-name : (k : ℕ) (p : Indicator) (u : Update) (ss : List Stamped) → list_any (λ s. names p s.update) (drafts k u ++ ss) ≡ names p u || (list_any (λ s. names p s.update) ss)
drafts-name k p (First c) ss = refl
drafts-name k p (Last c) ss = refl
drafts-name k p (Declare q) ss = refl
drafts-name k p (EraseOwn j) ss = refl
drafts-name k p (Erase y) ss = refl

drafted-names : (b j k : ℕ) (p : Indicator) (us : List Update) → list_any (λ s. names p s.update) (drafted k us) ≡ list_any (λ s. names p s.update) (stamped b j us)
drafted-names b j k p [] = refl
drafted-names b j k p (u ∷ us) = drafts-name k p u (drafted (suc k) us) ∙ ap (λ v. names p u || v) (drafted-names b (suc j) (suc k) p us)

pub drafted-exists : (b : ℕ) (p : Indicator) (us : List Update) → exists (drafted 0 us) p ≡ exists (stamped b 0 us) p
unfolding exists
drafted-exists b p us = drafted-names b 0 0 p us
