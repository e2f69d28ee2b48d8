-- Own clauses under the names of their batch, and under those of the draft.
use Rattle.std.proofs.Common.{◌≡◌, ◌≢◌, ◌<◌, refl, sym, ◌∙◌, ap, ap₂, arith, ℕ, zero, suc, Bool, true, false, cond, List, [], ◌∷◌, ◌++◌, map, Option, Some, None, take, nat_eq, fold}
use Rattle.std.specs.Prelude.{◌≢◌, not, filter}
use Rattle.std.specs.Option.{option_map}
use Rattle.std.proofs.lemmas.Bool.Decides.{nat_tests}
use Rattle.std.proofs.lemmas.List.{map-append}
use Rattle.std.proofs.lemmas.List.Sums.{fold-append}
use Rattle.plterm.specs.declared.indicator.Indicator.{Indicator}
use Rattle.plclause.specs.Clause.{Clause}
use Rattle.plevent.specs.declared.key.Key.{Key}
use Rattle.plevent.specs.declared.update.ClauseName.{ClauseName}
use Rattle.plevent.specs.declared.update.Living.{Living}
use Rattle.plevent.specs.declared.update.Update.{Update}
use Rattle.plevent.specs.declared.update.Update.TheVariants.{First, Last, Erase, EraseOwn, Declare}
use Rattle.plevent.specs.Alive.{stamped, named, same_name, is_of, lives_as, change_if, without, change, changed, living, names_of}
use Rattle.plrecords.specs.Kept.{head}
use Rattle.plstore.specs.Like.{fits, first_like, past, rest, next_like_of}
use Rattle.pltx.specs.declared.own.OwnCursor.{OwnCursor}
use Rattle.pltx.specs.Overlays.{draft_cursor, drafts, drafted}
use Rattle.pltx.specs.Walks.{cursor_at, AllErasedApart, IsErasedApart}

-- the clause of the draft, as one of the batch at b
abbrev pub renamed : ℕ → Living → Living
renamed b x = record { name = named b x.name.place; clause = x.clause }

abbrev AllAlone : List Living → Type 0
AllAlone [] = Unit {0}
AllAlone (x ∷ xs) = (x.name.number ≡ 0) × AllAlone xs

same-own : (b k : ℕ) (x : ClauseName) → x.number ≡ 0 → same_name (named b x.place) (named b k) ≡ same_name x (named k 0)
same-own b k x h = grind (arith, nat_tests)

same-own-back : (b k : ℕ) (x : ClauseName) → x.number ≡ 0 → same_name (named b k) (named b x.place) ≡ same_name (named k 0) x
same-own-back b k x h = grind (arith, nat_tests)

other-place : (b k : ℕ) (y : ClauseName) → y.place ≢ b → same_name (named b k) y ≡ false
other-place b k y h = grind (arith, nat_tests)

map-if : (b : ℕ) (v : Bool) (x : Living) (xs : List Living) → map (renamed b) (cond v (x ∷ xs) xs) ≡ cond v (renamed b x ∷ map (renamed b) xs) (map (renamed b) xs)
map-if b true x xs = refl
map-if b false x xs = refl

without-own : (b k : ℕ) (xs : List Living) → AllAlone xs → without (named b k) (map (renamed b) xs) ≡ map (renamed b) (without (named k 0) xs)
without-own b k [] all = refl
without-own b k (x ∷ xs) all =
    ap₂ (λ v l. cond (not v) (renamed b x ∷ l) l) (same-own b k x.name all.0) (without-own b k xs all.1)
    ∙ sym (map-if b (not (same_name x.name (named k 0))) x (without (named k 0) xs))

without-other : (b : ℕ) (y : ClauseName) (xs : List Living) → y.place ≢ b → without y (map (renamed b) xs) ≡ map (renamed b) xs
without-other b y [] h = refl
without-other b y (x ∷ xs) h = ap₂ (λ v l. cond (not v) (renamed b x ∷ l) l) (other-place b x.name.place y h) (without-other b y xs h)

if-out : {A B : Type 0} (f : A → B) (v : Bool) (x y : A) → f (change_if v x y) ≡ change_if v (f x) (f y)
if-out f true x y = refl
if-out f false x y = refl

step : (b k : ℕ) (p : Indicator) (u : Update) (xs : List Living) → IsErasedApart b u → AllAlone xs → changed p (named b k) u (map (renamed b) xs) ≡ map (renamed b) (fold (change p) xs (drafts k u))
step b k p (First c) xs h all = sym (if-out (map (renamed b)) (is_of p c) (lives_as (named k 0) c ∷ xs) xs)
step b k p (Last c) xs h all = ap (λ l. change_if (is_of p c) l (map (renamed b) xs)) (sym (map-append (renamed b) xs (lives_as (named k 0) c ∷ []))) ∙ sym (if-out (map (renamed b)) (is_of p c) (xs ++ lives_as (named k 0) c ∷ []) xs)
step b k p (Erase y) xs h all = without-other b y xs h
step b k p (EraseOwn j) xs h all = without-own b j xs all
step b k p (Declare q) xs h all = refl

-- names of the draft have the number 0
alone-push : (xs : List Living) (k : ℕ) (c : Clause) → AllAlone xs → AllAlone (xs ++ lives_as (named k 0) c ∷ [])
alone-push [] k c all = (refl, tt)
alone-push (x ∷ xs) k c all = (all.0, alone-push xs k c all.1)

alone-without : (y : ClauseName) (xs : List Living) → AllAlone xs → AllAlone (without y xs)
alone-without y [] all = tt
alone-without y (x ∷ xs) all = by-case (not (same_name x.name y)) (alone-without y xs all.1)
  where
    by-case : (v : Bool) → AllAlone (without y xs) → AllAlone (cond v (x ∷ without y xs) (without y xs))
    by-case true h = (all.0, h)
    by-case false h = h

alone-if : (v : Bool) (xs ys : List Living) → AllAlone xs → AllAlone ys → AllAlone (change_if v xs ys)
alone-if true xs ys h k = h
alone-if false xs ys h k = k

alone-step : (k : ℕ) (p : Indicator) (u : Update) (xs : List Living) → AllAlone xs → AllAlone (fold (change p) xs (drafts k u))
alone-step k p (First c) xs all = alone-if (is_of p c) (lives_as (named k 0) c ∷ xs) xs (refl, all) all
alone-step k p (Last c) xs all = alone-if (is_of p c) (xs ++ lives_as (named k 0) c ∷ []) xs (alone-push xs k c all) all
alone-step k p (Erase y) xs all = all
alone-step k p (EraseOwn j) xs all = alone-without (named j 0) xs all
alone-step k p (Declare q) xs all = all

alone-all : (k : ℕ) (p : Indicator) (us : List Update) (xs : List Living) → AllAlone xs → AllAlone (fold (change p) xs (drafted k us))
alone-all k p [] xs all = all
alone-all k p (u ∷ us) xs all = Rattle.std.proofs.Common.subst AllAlone (sym (fold-append (change p) xs (drafts k u) (drafted (suc k) us))) (alone-all (suc k) p us (fold (change p) xs (drafts k u)) (alone-step k p u xs all))

steps : (b k : ℕ) (p : Indicator) (us : List Update) (xs : List Living) → AllErasedApart b us → AllAlone xs → fold (change p) (map (renamed b) xs) (stamped b k us) ≡ map (renamed b) (fold (change p) xs (drafted k us))
steps b k p [] xs h all = refl
steps b k p (u ∷ us) xs h all =
    ap (λ l. fold (change p) l (stamped b (suc k) us)) (step b k p u xs h.0 all)
    ∙ steps b (suc k) p us (fold (change p) xs (drafts k u)) h.1 (alone-step k p u xs all)
    ∙ ap (map (renamed b)) (sym (fold-append (change p) xs (drafts k u) (drafted (suc k) us)))

pub living-renamed : (b : ℕ) (p : Indicator) (us : List Update) → AllErasedApart b us → living (stamped b 0 us) p ≡ map (renamed b) (living (drafted 0 us) p)
unfolding living
living-renamed b p us h = steps b 0 p us [] h tt

living-alone : (p : Indicator) (us : List Update) → AllAlone (living (drafted 0 us) p)
unfolding living
living-alone p us = alone-all 0 p us [] tt

-- from one to the next
head-renamed : (b : ℕ) (xs : List Living) → head (names_of (map (renamed b) xs)) ≡ option_map (λ (x : ClauseName). named b x.place) (head (names_of xs))
head-renamed b [] = refl
head-renamed b (x ∷ xs) = refl

filter-renamed : (b : ℕ) (key : Key) (xs : List Living) → filter (fits key) (map (renamed b) xs) ≡ map (renamed b) (filter (fits key) xs)
filter-renamed b key [] = refl
filter-renamed b key (x ∷ xs) = ap (λ l. cond (fits key x) (renamed b x ∷ l) l) (filter-renamed b key xs) ∙ sym (map-if b (fits key x) x (filter (fits key) xs))

pub first-renamed : (b : ℕ) (key : Key) (xs : List Living) → first_like key (map (renamed b) xs) ≡ option_map (λ (x : ClauseName). named b x.place) (first_like key xs)
first-renamed b key xs = ap (λ l. head (names_of l)) (filter-renamed b key xs) ∙ head-renamed b (filter (fits key) xs)

past-renamed : (b k : ℕ) (xs : List Living) → AllAlone xs → past (named b k) (map (renamed b) xs) ≡ map (renamed b) (past (named k 0) xs)
past-renamed b k [] all = refl
past-renamed b k (x ∷ xs) all =
    ap₂ (λ v l. change_if v (map (renamed b) xs) l) (same-own-back b k x.name all.0) (past-renamed b k xs all.1)
    ∙ sym (if-out (map (renamed b)) (same_name (named k 0) x.name) xs (past (named k 0) xs))

rest-renamed : (b : ℕ) (c : OwnCursor) (xs : List Living) → AllAlone xs → rest (cursor_at b c) (map (renamed b) xs) ≡ map (renamed b) (rest (draft_cursor c) xs)
rest-renamed b OwnCursor.Start xs all = refl
rest-renamed b (OwnCursor.After k) xs all = past-renamed b k xs all

pub next-renamed : (b : ℕ) (key : Key) (c : OwnCursor) (p : Indicator) (us : List Update) → AllErasedApart b us →
    next_like_of key (cursor_at b c) (living (stamped b 0 us) p) ≡ option_map (λ (x : ClauseName). named b x.place) (next_like_of key (draft_cursor c) (living (drafted 0 us) p))
next-renamed b key c p us h =
    ap (next_like_of key (cursor_at b c)) (living-renamed b p us h)
    ∙ ap (first_like key) (rest-renamed b c (living (drafted 0 us) p) (living-alone p us))
    ∙ first-renamed b key (rest (draft_cursor c) (living (drafted 0 us) p))
