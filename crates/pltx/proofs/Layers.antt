-- Own clauses in front of those of the journal, and behind them.
use Rattle.std.proofs.Common.{◌≡◌, ◌<◌, refl, sym, ◌∙◌, ap, ap₂, arith, ℕ, suc, Bool, true, false, cond, List, [], ◌∷◌, ◌++◌, take, nat_eq, nat_lt, fold, append_assoc}
use Rattle.std.specs.Prelude.{◌&&◌, ◌||◌, not, filter}
use Rattle.std.proofs.lemmas.Bool.Decides.{nat_tests}
use Rattle.std.proofs.lemmas.List.{append-nil}
use Rattle.std.proofs.lemmas.List.Elements.{filter-append}
use Rattle.std.proofs.lemmas.List.Sums.{fold-append}
use Rattle.plterm.specs.declared.indicator.Indicator.{Indicator}
use Rattle.plclause.specs.Clause.{Clause}
use Rattle.plevent.specs.declared.update.ClauseName.{ClauseName}
use Rattle.plevent.specs.declared.update.Living.{Living}
use Rattle.plevent.specs.declared.update.Update.{Update}
use Rattle.plevent.specs.declared.update.Update.TheVariants.{First, Last, Erase, EraseOwn, Declare}
use Rattle.plevent.specs.Alive.{Stamped, stamped, named, same_name, is_of, lives_as, change_if, without, change, changed, living, before, view}
use Rattle.plrecords.specs.Rising.{AllUnder}
use Rattle.pltx.specs.declared.target.Target.TheVariants.{Committed}
use Rattle.pltx.specs.Own.{erased_in}
use Rattle.pltx.specs.Walks.{no_first, no_last, not_erased, own_backs, own_batch, own_fronts}

-- each clause's place is below b
abbrev AllLow : ℕ → List Living → Type 0
AllLow b [] = Unit {0}
AllLow b (x ∷ xs) = (x.name.place < b) × AllLow b xs

low-other : (b k : ℕ) (x : ClauseName) → x.place < b → same_name x (named b k) ≡ false
low-other b k x h = grind (arith, nat_tests)

without-low : (b k : ℕ) (xs : List Living) → AllLow b xs → without (named b k) xs ≡ xs
without-low b k [] all = refl
without-low b k (x ∷ xs) all = ap₂ (λ v l. cond (not v) (x ∷ l) l) (low-other b k x.name all.0) (without-low b k xs all.1)

low-without : (b : ℕ) (y : ClauseName) (xs : List Living) → AllLow b xs → AllLow b (without y xs)
low-without b y [] all = tt
low-without b y (x ∷ xs) all = by-case (not (same_name x.name y)) (low-without b y xs all.1)
  where
    by-case : (v : Bool) → AllLow b (without y xs) → AllLow b (cond v (x ∷ without y xs) (without y xs))
    by-case true h = (all.0, h)
    by-case false h = h

low-push : (b : ℕ) (xs : List Living) (x : ClauseName) (c : Clause) → x.place < b → AllLow b xs → AllLow b (xs ++ lives_as x c ∷ [])
low-push b [] x c h all = (h, tt)
low-push b (y ∷ xs) x c h all = (all.0, low-push b xs x c h all.1)

low-if : (b : ℕ) (v : Bool) (xs ys : List Living) → AllLow b xs → AllLow b ys → AllLow b (change_if v xs ys)
low-if b true xs ys h k = h
low-if b false xs ys h k = k

low-change : (b : ℕ) (p : Indicator) (x : ClauseName) (u : Update) (xs : List Living) → x.place < b → AllLow b xs → AllLow b (changed p x u xs)
low-change b p x (First c) xs h all = low-if b (is_of p c) (lives_as x c ∷ xs) xs (h, all) all
low-change b p x (Last c) xs h all = low-if b (is_of p c) (xs ++ lives_as x c ∷ []) xs (low-push b xs x c h all) all
low-change b p x (Erase y) xs h all = low-without b y xs all
low-change b p x (EraseOwn k) xs h all = low-without b (named x.place k) xs all
low-change b p x (Declare q) xs h all = all

low-all : (b : ℕ) (p : Indicator) (us : List Stamped) (xs : List Living) → AllUnder b us → AllLow b xs → AllLow b (fold (change p) xs us)
low-all b p [] xs un all = all
low-all b p (s ∷ us) xs un all = low-all b p us (change p xs s) un.1 (low-change b p s.at s.update xs un.0 all)

-- three parts of a list
abbrev three : List Living → List Living → List Living → List Living
three fs xs bs = (fs ++ xs) ++ bs

without-three : (y : ClauseName) (fs xs bs : List Living) → without y (three fs xs bs) ≡ three (without y fs) (without y xs) (without y bs)
without-three y fs xs bs =
    let t : Living → Bool = λ x. not (same_name x.name y) in
    filter-append t (fs ++ xs) bs ∙ ap (λ l. l ++ filter t bs) (filter-append t fs xs)

front-three : (v : Bool) (x : Living) (fs xs bs : List Living) → change_if v (x ∷ three fs xs bs) (three fs xs bs) ≡ three (change_if v (x ∷ fs) fs) xs bs
front-three true x fs xs bs = refl
front-three false x fs xs bs = refl

back-three : (v : Bool) (x : Living) (fs xs bs : List Living) → change_if v (three fs xs bs ++ x ∷ []) (three fs xs bs) ≡ three fs xs (change_if v (bs ++ x ∷ []) bs)
back-three true x fs xs bs = append_assoc (fs ++ xs) bs (x ∷ [])
back-three false x fs xs bs = refl

-- an erasure and then others
not-or : (a b : Bool) (x : Living) (l : List Living) → cond (not (a || b)) (x ∷ l) l ≡ cond (not a) (cond (not b) (x ∷ l) l) l
not-or true b x l = refl
not-or false b x l = refl

same-turn : (x y : ClauseName) → same_name x y ≡ same_name y x
same-turn x y = ap₂ (λ u v. u && v) (eq-turn x.place y.place) (eq-turn x.number y.number)
  where
    eq-turn : (m n : ℕ) → nat_eq m n ≡ nat_eq n m
    eq-turn m n = grind (arith, nat_tests)

erased-then : (y : ClauseName) (us : List Update) (xs : List Living) → not_erased us (without y xs) ≡ not_erased (Erase y ∷ us) xs
erased-then y us [] = refl
erased-then y us (x ∷ xs) =
    filter-if (not (same_name x.name y)) ∙ ap (λ l. cond (not (same_name x.name y)) (cond (not (erased_in (Committed x.name) us)) (x ∷ l) l) l) (erased-then y us xs)
    ∙ ap (λ v. cond (not v) (cond (not (erased_in (Committed x.name) us)) (x ∷ not_erased (Erase y ∷ us) xs) (not_erased (Erase y ∷ us) xs)) (not_erased (Erase y ∷ us) xs)) (same-turn x.name y)
    ∙ sym (not-or (same_name y x.name) (erased_in (Committed x.name) us) x (not_erased (Erase y ∷ us) xs))
  where
    filter-if : (v : Bool) → not_erased us (cond v (x ∷ without y xs) (without y xs)) ≡ cond v (cond (not (erased_in (Committed x.name) us)) (x ∷ not_erased us (without y xs)) (not_erased us (without y xs))) (not_erased us (without y xs))
    filter-if true = refl
    filter-if false = refl

none-erased : (xs : List Living) → not_erased [] xs ≡ xs
none-erased [] = refl
none-erased (x ∷ xs) = ap (λ l. x ∷ l) (none-erased xs)

layers : (b k : ℕ) (p : Indicator) (us : List Update) (fs xs bs : List Living) → AllLow b xs →
    fold (change p) (three fs xs bs) (stamped b k us) ≡ three (fold (change p) fs (no_last (stamped b k us))) (not_erased us xs) (fold (change p) bs (no_first (stamped b k us)))
layers b k p [] fs xs bs all = ap (λ l. three fs l bs) (sym (none-erased xs))
layers b k p (First c ∷ us) fs xs bs all =
    ap (λ l. fold (change p) l (stamped b (suc k) us)) (front-three (is_of p c) (lives_as (named b k) c) fs xs bs)
    ∙ layers b (suc k) p us (change_if (is_of p c) (lives_as (named b k) c ∷ fs) fs) xs bs all
layers b k p (Last c ∷ us) fs xs bs all =
    ap (λ l. fold (change p) l (stamped b (suc k) us)) (back-three (is_of p c) (lives_as (named b k) c) fs xs bs)
    ∙ layers b (suc k) p us fs xs (change_if (is_of p c) (bs ++ lives_as (named b k) c ∷ []) bs) all
layers b k p (Erase y ∷ us) fs xs bs all =
    ap (λ l. fold (change p) l (stamped b (suc k) us)) (without-three y fs xs bs)
    ∙ layers b (suc k) p us (without y fs) (without y xs) (without y bs) (low-without b y xs all)
    ∙ ap (λ l. three (fold (change p) (without y fs) (no_last (stamped b (suc k) us))) l (fold (change p) (without y bs) (no_first (stamped b (suc k) us)))) (erased-then y us xs)
layers b k p (EraseOwn j ∷ us) fs xs bs all =
    ap (λ l. fold (change p) l (stamped b (suc k) us)) (without-three (named b j) fs xs bs ∙ ap (λ l. three (without (named b j) fs) l (without (named b j) bs)) (without-low b j xs all))
    ∙ layers b (suc k) p us (without (named b j) fs) xs (without (named b j) bs) all
layers b k p (Declare q ∷ us) fs xs bs all = layers b (suc k) p us fs xs bs all

pub living-layers : (b m : ℕ) (us : List Stamped) (own : List Update) (p : Indicator) → AllUnder b us →
    living (us ++ own_batch b m own) p ≡ (own_fronts (own_batch b m own) p ++ not_erased (take m own) (living us p)) ++ own_backs (own_batch b m own) p
unfolding living
living-layers b m us own p un =
    fold-append (change p) [] us (own_batch b m own)
    ∙ ap (λ l. fold (change p) l (own_batch b m own)) (sym (append-nil (fold (change p) [] us)))
    ∙ layers b 0 p (take m own) [] (fold (change p) [] us) [] (low-all b p us [] un tt)

under-before : (g : ℕ) (us : List Stamped) → AllUnder g (before g us)
unfolding before
under-before g [] = tt
under-before g (s ∷ us) = by-case (nat_lt s.at.place g) refl (under-before g us)
  where
    below : nat_lt s.at.place g ≡ true → s.at.place < g
    below e = grind (arith, nat_tests)

    by-case : (v : Bool) → nat_lt s.at.place g ≡ v → AllUnder g (before g us) → AllUnder g (cond v (s ∷ before g us) (before g us))
    by-case true e h = (below e, h)
    by-case false e h = h

pub view-layers : (g m : ℕ) (us : List Stamped) (own : List Update) (p : Indicator) →
    living (view us g own m) p ≡ (own_fronts (own_batch g m own) p ++ not_erased (take m own) (living (before g us) p)) ++ own_backs (own_batch g m own) p
view-layers g m us own p = living-layers g m (before g us) own p (under-before g us)

none-alive : (p : Indicator) (us : List Update) → not_erased us (living [] p) ≡ []
unfolding living
none-alive p us = refl

pub own-layers : (b m : ℕ) (own : List Update) (p : Indicator) → living (own_batch b m own) p ≡ own_fronts (own_batch b m own) p ++ own_backs (own_batch b m own) p
own-layers b m own p = living-layers b m [] own p tt ∙ ap (λ l. l ++ own_backs (own_batch b m own) p) (ap (λ l. own_fronts (own_batch b m own) p ++ l) (none-alive p (take m own)) ∙ append-nil (own_fronts (own_batch b m own) p))
