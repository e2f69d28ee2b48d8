-- Own clauses that were put before all others, and those that were put behind all others.
use Rattle.std.proofs.Common.{◌≡◌, ◌+◌, refl, sym, ◌∙◌, ap, ap₂, subst, arith, ℕ, zero, suc, Bool, true, false, cond, List, [], ◌∷◌, ◌++◌, map, filter, reverse, fold, Option, Some, None, take}
use Rattle.std.specs.Prelude.{◌&&◌, not}
use Rattle.std.specs.List.{slice_get}
use Rattle.std.specs.Option.{option_map}
use Rattle.std.proofs.lemmas.Bool.{false≢true}
use Rattle.std.proofs.lemmas.Bool.Decides.{nat_tests}
use Rattle.std.proofs.lemmas.List.{map-append, reverse-append}
use Rattle.std.proofs.lemmas.List.Elements.{filter-append}
use Rattle.plterm.specs.declared.indicator.Indicator.{Indicator}
use Rattle.plevent.specs.declared.key.Key.{Key}
use Rattle.plevent.specs.declared.update.ClauseName.{ClauseName}
use Rattle.plevent.specs.declared.update.Living.{Living}
use Rattle.plevent.specs.declared.update.Update.{Update}
use Rattle.plevent.specs.declared.update.Update.TheVariants.{First, Last, Erase, EraseOwn, Declare}
use Rattle.plevent.specs.Alive.{stamped, named, same_name, is_of, lives_as, change_if, without, change, living, names_of}
use Rattle.plrecords.specs.declared.record.Record.{Record}
use Rattle.plrecords.specs.declared.record.Cursor.{Cursor}
use Rattle.plrecords.specs.declared.record.Cursor.TheVariants.{Start, After}
use Rattle.plrecords.specs.Kept.{Kept, keep, nothing, keep_record, made, changed_where, erase_at, is_named, seen, in_front, behind_all, picked, walk, head}
use Rattle.plstore.specs.Like.{fits, first_like, past, next_like_of}
use Rattle.plrecords.proofs.Law.{cons_if, own, picked-cons}
use Rattle.plstore.proofs.Whole.{keep-records, walk-is}
use Rattle.pltx.specs.Overlays.{drafted}
use Rattle.pltx.specs.Walks.{no_first, no_last, own_backs, own_batch, own_fronts, puts_first, AllErasedApart}
use Rattle.pltx.proofs.Drafting.{first-drafted, rises}
use Rattle.pltx.proofs.Layers.{own-layers}
use Rattle.pltx.proofs.Renaming.{first-renamed, living-renamed, renamed}

-- whether the clause of a number was put before all others
abbrev pub fronts_of : List Update → ℕ → Bool
fronts_of us k = puts_first (slice_get us k)

abbrev by_number : List Update → ClauseName → Bool
by_number us x = fronts_of us x.number

abbrev by_place : List Update → ClauseName → Bool
by_place us x = fronts_of us x.place

-- each clause of a list is, or none
abbrev AllPut : (ClauseName → Bool) → Bool → List Living → Type 0
AllPut t v [] = Unit {0}
AllPut t v (x ∷ xs) = (t x.name ≡ v) × AllPut t v xs

put-filter : (t : ClauseName → Bool) (v : Bool) (f : Living → Bool) (xs : List Living) → AllPut t v xs → AllPut t v (filter f xs)
put-filter t v f [] all = tt
put-filter t v f (x ∷ xs) all = elim (f x) as (λ w. AllPut t v (cond w (x ∷ filter f xs) (filter f xs))) [ true ↦ (all.0, put-filter t v f xs all.1) | false ↦ put-filter t v f xs all.1 ]

put-append : (t : ClauseName → Bool) (v : Bool) (xs ys : List Living) → AllPut t v xs → AllPut t v ys → AllPut t v (xs ++ ys)
put-append t v [] ys h k = k
put-append t v (x ∷ xs) ys h k = (h.0, put-append t v xs ys h.1 k)

put-if : (t : ClauseName → Bool) (v w : Bool) (xs ys : List Living) → AllPut t v xs → AllPut t v ys → AllPut t v (change_if w xs ys)
put-if t v true xs ys h k = h
put-if t v false xs ys h k = k

put-reverse : (t : ClauseName → Bool) (v : Bool) (xs : List Living) → AllPut t v xs → AllPut t v (reverse xs)
put-reverse t v [] all = tt
put-reverse t v (x ∷ xs) all = subst (AllPut t v) (sym (reverse-append (x ∷ []) xs)) (put-append t v (reverse xs) (x ∷ []) (put-reverse t v xs all.1) (all.0, tt))

-- updates that stand from k on
abbrev StandAt : List Update → ℕ → List Update → Type 0
StandAt us k vs = (j : ℕ) (u : Update) → slice_get vs j ≡ Some u → slice_get us (k + j) ≡ Some u

stands-here : (us : List Update) (k : ℕ) (u : Update) (vs : List Update) → StandAt us k (u ∷ vs) → fronts_of us k ≡ puts_first (Some u)
stands-here us k u vs h = ap (λ n. puts_first (slice_get us n)) (omega arith) ∙ ap puts_first (h 0 u refl)

stands-next : (us : List Update) (k : ℕ) (u : Update) (vs : List Update) → StandAt us k (u ∷ vs) → StandAt us (suc k) vs
stands-next us k u vs h = λ j v e. ap (slice_get us) (omega arith) ∙ h (suc j) v e

stands-first : (m : ℕ) (us : List Update) → StandAt us 0 (take m us)
stands-first m us = λ j u e. ap (slice_get us) (omega arith) ∙ by-place m us j u e
  where
    by-place : (m : ℕ) (us : List Update) (j : ℕ) (u : Update) → slice_get (take m us) j ≡ Some u → slice_get us j ≡ Some u
    by-place zero us j u e = absurd (cc)
    by-place (suc m) [] j u e = absurd (cc)
    by-place (suc m) (v ∷ us) zero u e = e
    by-place (suc m) (v ∷ us) (suc j) u e = by-place m us j u e

-- the two sides of own clauses
front-side : (us : List Update) (b k : ℕ) (p : Indicator) (vs : List Update) (xs : List Living) → StandAt us k vs → AllPut (by_number us) true xs → AllPut (by_number us) true (fold (change p) xs (no_last (stamped b k vs)))
front-side us b k p [] xs h all = all
front-side us b k p (First c ∷ vs) xs h all =
    front-side us b (suc k) p vs (change_if (is_of p c) (lives_as (named b k) c ∷ xs) xs) (stands-next us k (First c) vs h)
    (put-if (by_number us) true (is_of p c) (lives_as (named b k) c ∷ xs) xs (stands-here us k (First c) vs h, all) all)
front-side us b k p (Last c ∷ vs) xs h all = front-side us b (suc k) p vs xs (stands-next us k (Last c) vs h) all
front-side us b k p (Erase y ∷ vs) xs h all = front-side us b (suc k) p vs (without y xs) (stands-next us k (Erase y) vs h) (put-filter (by_number us) true (λ x. not (same_name x.name y)) xs all)
front-side us b k p (EraseOwn j ∷ vs) xs h all =
    front-side us b (suc k) p vs (without (named b j) xs) (stands-next us k (EraseOwn j) vs h) (put-filter (by_number us) true (λ x. not (same_name x.name (named b j))) xs all)
front-side us b k p (Declare q ∷ vs) xs h all = front-side us b (suc k) p vs xs (stands-next us k (Declare q) vs h) all

back-side : (us : List Update) (b k : ℕ) (p : Indicator) (vs : List Update) (xs : List Living) → StandAt us k vs → AllPut (by_number us) false xs → AllPut (by_number us) false (fold (change p) xs (no_first (stamped b k vs)))
back-side us b k p [] xs h all = all
back-side us b k p (First c ∷ vs) xs h all = back-side us b (suc k) p vs xs (stands-next us k (First c) vs h) all
back-side us b k p (Last c ∷ vs) xs h all =
    let x = lives_as (named b k) c in
    back-side us b (suc k) p vs (change_if (is_of p c) (xs ++ x ∷ []) xs) (stands-next us k (Last c) vs h)
    (put-if (by_number us) false (is_of p c) (xs ++ x ∷ []) xs (put-append (by_number us) false xs (x ∷ []) all (stands-here us k (Last c) vs h, tt)) all)
back-side us b k p (Erase y ∷ vs) xs h all = back-side us b (suc k) p vs (without y xs) (stands-next us k (Erase y) vs h) (put-filter (by_number us) false (λ x. not (same_name x.name y)) xs all)
back-side us b k p (EraseOwn j ∷ vs) xs h all =
    back-side us b (suc k) p vs (without (named b j) xs) (stands-next us k (EraseOwn j) vs h) (put-filter (by_number us) false (λ x. not (same_name x.name (named b j))) xs all)
back-side us b k p (Declare q ∷ vs) xs h all = back-side us b (suc k) p vs xs (stands-next us k (Declare q) vs h) all

fronts-put : (b m : ℕ) (us : List Update) (p : Indicator) → AllPut (by_number us) true (own_fronts (own_batch b m us) p)
unfolding living
fronts-put b m us p = front-side us b 0 p (take m us) [] (stands-first m us) tt

backs-put : (b m : ℕ) (us : List Update) (p : Indicator) → AllPut (by_number us) false (own_backs (own_batch b m us) p)
unfolding living
backs-put b m us p = back-side us b 0 p (take m us) [] (stands-first m us) tt

-- the next one of a side
abbrev pub if_front : (ClauseName → Bool) → Option ClauseName → Option ClauseName
if_front t None = None
if_front t (Some x) = change_if (t x) (Some x) None

none-of-backs : (t : ClauseName → Bool) (key : Key) (ys : List Living) → AllPut t false ys → if_front t (first_like key ys) ≡ None
none-of-backs t key [] all = refl
none-of-backs t key (y ∷ ys) all = by-case (fits key y) (none-of-backs t key ys all.1)
  where
    by-case : (v : Bool) → if_front t (first_like key ys) ≡ None → if_front t (head (names_of (cond v (y ∷ filter (fits key) ys) (filter (fits key) ys)))) ≡ None
    by-case true r = ap (λ v. change_if v (Some y.name) None) all.0
    by-case false r = r

first-front : (t : ClauseName → Bool) (key : Key) (xs ys : List Living) → AllPut t true xs → AllPut t false ys → if_front t (first_like key (xs ++ ys)) ≡ first_like key xs
first-front t key [] ys h k = none-of-backs t key ys k
first-front t key (x ∷ xs) ys h k = by-case (fits key x) (first-front t key xs ys h.1 k)
  where
    by-case : (v : Bool) → if_front t (first_like key (xs ++ ys)) ≡ first_like key xs → if_front t (head (names_of (cond v (x ∷ filter (fits key) (xs ++ ys)) (filter (fits key) (xs ++ ys))))) ≡ head (names_of (cond v (x ∷ filter (fits key) xs) (filter (fits key) xs)))
    by-case true r = ap (λ v. change_if v (Some x.name) None) h.0
    by-case false r = r

put-past : (t : ClauseName → Bool) (v : Bool) (x : ClauseName) (ys : List Living) → AllPut t v ys → AllPut t v (past x ys)
put-past t v x [] all = tt
put-past t v x (y ∷ ys) all = put-if t v (same_name x y.name) ys (past x ys) all.1 (put-past t v x ys all.1)

next-front : (t : ClauseName → Bool) (key : Key) (c : Cursor) (xs ys : List Living) → AllPut t true xs → AllPut t false ys → if_front t (next_like_of key c (xs ++ ys)) ≡ next_like_of key c xs
next-front t key Start xs ys h k = first-front t key xs ys h k
next-front t key (After x) [] ys h k = none-of-backs t key (past x ys) (put-past t false x ys k)
next-front t key (After x) (y ∷ xs) ys h k = by-case (same_name x y.name) (next-front t key (After x) xs ys h.1 k)
  where
    by-case : (v : Bool) → if_front t (first_like key (past x (xs ++ ys))) ≡ first_like key (past x xs) → if_front t (first_like key (change_if v (xs ++ ys) (past x (xs ++ ys)))) ≡ first_like key (change_if v xs (past x xs))
    by-case true r = first-front t key xs ys h.1 k
    by-case false r = r

same-number : (x y : ClauseName) → same_name x y ≡ true → x.number ≡ y.number
same-number x y h = grind (arith, nat_tests)

other-side : (us : List Update) (v w : Bool) (x y : ClauseName) → by_number us x ≡ v → by_number us y ≡ w → (v ≡ w → ⊥) → same_name x y ≡ false
other-side us v w x y h k ne = by-case (same_name x y) refl
  where
    by-case : (s : Bool) → same_name x y ≡ s → same_name x y ≡ false
    by-case true e = absurd (ne (sym h ∙ ap (fronts_of us) (same-number x y e) ∙ k))
    by-case false e = e

-- a clause that was put behind others is none of those before
behind-fronts : (us : List Update) (x : ClauseName) (xs ys : List Living) → by_number us x ≡ false → AllPut (by_number us) true xs → past x (xs ++ ys) ≡ past x ys
behind-fronts us x [] ys e h = refl
behind-fronts us x (y ∷ xs) ys e h = ap (λ v. change_if v (xs ++ ys) (past x (xs ++ ys))) (other-side us false true x y.name e h.0 false≢true) ∙ behind-fronts us x xs ys e h.1

no-back : (us : List Update) (x : ClauseName) (ys : List Living) → by_number us x ≡ true → AllPut (by_number us) false ys → past x ys ≡ []
no-back us x [] e h = refl
no-back us x (y ∷ ys) e h = ap (λ v. change_if v ys (past x ys)) (other-side us true false x y.name e h.0 (λ q. false≢true (sym q))) ∙ no-back us x ys e h.1

module _ (us : List Update) (b m : ℕ) (p : Indicator) where
  abbrev fs : List Living
  fs = own_fronts (own_batch b m us) p

  abbrev bs : List Living
  bs = own_backs (own_batch b m us) p

  pub found-front : (key : Key) (c : Cursor) (o : Option ClauseName) → o ≡ next_like_of key c (living (own_batch b m us) p) → if_front (by_number us) o ≡ next_like_of key c (own_fronts (own_batch b m us) p)
  found-front key c o e = ap (if_front (by_number us)) (e ∙ ap (next_like_of key c) (own-layers b m us p)) ∙ next-front (by_number us) key c fs bs (fronts-put b m us p) (backs-put b m us p)

  pub found-behind : (key : Key) (x : ClauseName) (o : Option ClauseName) → fronts_of us x.number ≡ false → o ≡ next_like_of key (After x) (living (own_batch b m us) p) → o ≡ next_like_of key (After x) (own_backs (own_batch b m us) p)
  found-behind key x o h e = e ∙ ap (next_like_of key (After x)) (own-layers b m us p) ∙ ap (first_like key) (behind-fronts us x fs bs h (fronts-put b m us p))

  pub none-behind : (key : Key) (x : ClauseName) → fronts_of us x.number ≡ true → None ≡ next_like_of key (After x) (own_backs (own_batch b m us) p)
  none-behind key x h = sym (ap (first_like key) (no-back us x bs h (backs-put b m us p)))

-- the records of the draft
abbrev AllMade : List Update → List Record → Type 0
AllMade us [] = Unit {0}
AllMade us (r ∷ rs) = (by_place us r.name ≡ r.front) × AllMade us rs

made-push : (us : List Update) (rs : List Record) (r : Record) → AllMade us rs → by_place us r.name ≡ r.front → AllMade us (rs ++ r ∷ [])
made-push us [] r h e = (e, tt)
made-push us (q ∷ rs) r h e = (h.0, made-push us rs r h.1 e)

made-erase : (us : List Update) (b : ℕ) (y : ClauseName) (rs : List Record) → AllMade us rs → AllMade us (changed_where (is_named y) (erase_at b) rs)
made-erase us b y [] h = tt
made-erase us b y (r ∷ rs) h = (by-case (is_named y r), made-erase us b y rs h.1)
  where
    by-case : (v : Bool) → by_place us (change_if v (erase_at b r) r).name ≡ (change_if v (erase_at b r) r).front
    by-case true = h.0
    by-case false = h.0

made-all : (us : List Update) (k : ℕ) (vs : List Update) (rs : List Record) → StandAt us k vs → AllMade us rs → AllMade us (fold keep_record rs (drafted k vs))
made-all us k [] rs h all = all
made-all us k (First c ∷ vs) rs h all = made-all us (suc k) vs (rs ++ made (named k 0) c true ∷ []) (stands-next us k (First c) vs h) (made-push us rs (made (named k 0) c true) all (stands-here us k (First c) vs h))
made-all us k (Last c ∷ vs) rs h all = made-all us (suc k) vs (rs ++ made (named k 0) c false ∷ []) (stands-next us k (Last c) vs h) (made-push us rs (made (named k 0) c false) all (stands-here us k (Last c) vs h))
made-all us k (Erase y ∷ vs) rs h all = made-all us (suc k) vs rs (stands-next us k (Erase y) vs h) all
made-all us k (EraseOwn j ∷ vs) rs h all = made-all us (suc k) vs (changed_where (is_named (named j 0)) (erase_at k) rs) (stands-next us k (EraseOwn j) vs h) (made-erase us k (named j 0) rs all)
made-all us k (Declare q ∷ vs) rs h all = made-all us (suc k) vs rs (stands-next us k (Declare q) vs h) all

draft-made : (us : List Update) → AllMade us (fold keep nothing (drafted 0 us)).records
draft-made us = subst (AllMade us) (sym (keep-records nothing (drafted 0 us))) (made-all us 0 us [] (λ j u e. ap (slice_get us) (omega arith) ∙ e) tt)

and-right : (a b : Bool) → a && b ≡ true → b ≡ true
and-right true b h = h
and-right false b h = absurd (false≢true h)

and-left : (a b : Bool) → a && b ≡ true → a ≡ true
and-left true b h = refl
and-left false b h = absurd (false≢true h)

not-true : (v : Bool) → not v ≡ true → v ≡ false
not-true true h = absurd (false≢true h)
not-true false h = refl

-- those of a side are put there
picked-put : (us : List Update) (v : Bool) (side : Record → Bool) (g : ℕ) (rs : List Record) → AllMade us rs → ((r : Record) → side r ≡ true → r.front ≡ v) → AllPut (by_place us) v (picked side g rs)
picked-put us v side g [] h k = tt
picked-put us v side g (r ∷ rs) h k = subst (AllPut (by_place us) v) (sym (picked-cons side g r rs)) (by-case (seen g r && side r) refl (picked-put us v side g rs h.1 k))
  where
    by-case : (w : Bool) → seen g r && side r ≡ w → AllPut (by_place us) v (picked side g rs) → AllPut (by_place us) v (cons_if w (own r) (picked side g rs))
    by-case true e l = (h.0 ∙ k r (and-right (seen g r) (side r) e), l)
    by-case false e l = l

put-renamed : (us : List Update) (v : Bool) (b : ℕ) (xs : List Living) → AllPut (by_place us) v xs → AllPut (by_number us) v (map (renamed b) xs)
put-renamed us v b [] all = tt
put-renamed us v b (x ∷ xs) all = (all.0, put-renamed us v b xs all.1)

-- two splittings into the sides are one
abbrev is_behind : (ClauseName → Bool) → Living → Bool
is_behind t x = not (t x.name)

no-fronts : (t : ClauseName → Bool) (xs : List Living) → AllPut t true xs → filter (is_behind t) xs ≡ []
no-fronts t [] all = refl
no-fronts t (x ∷ xs) all = ap (λ v. cond (not v) (x ∷ filter (is_behind t) xs) (filter (is_behind t) xs)) all.0 ∙ no-fronts t xs all.1

all-backs : (t : ClauseName → Bool) (xs : List Living) → AllPut t false xs → filter (is_behind t) xs ≡ xs
all-backs t [] all = refl
all-backs t (x ∷ xs) all = ap (λ v. cond (not v) (x ∷ filter (is_behind t) xs) (filter (is_behind t) xs)) all.0 ∙ ap (λ l. x ∷ l) (all-backs t xs all.1)

behind-part : (t : ClauseName → Bool) (xs ys : List Living) → AllPut t true xs → AllPut t false ys → filter (is_behind t) (xs ++ ys) ≡ ys
behind-part t xs ys h k = filter-append (is_behind t) xs ys ∙ ap₂ (λ a b. a ++ b) (no-fronts t xs h) (all-backs t ys k)

pub first-of-backs : (us : List Update) (b m : ℕ) (p : Indicator) (key : Key) (draft : Kept) (o : Option ClauseName) → draft ≡ fold keep nothing (drafted 0 us) → AllErasedApart b (take m us) → o ≡ first_like key (picked (behind_all p) m draft.records) →
    option_map (λ (x : ClauseName). named b x.place) o ≡ first_like key (own_backs (own_batch b m us) p)
unfolding walk
first-of-backs us b m p key draft o is h e =
    let t = by_number us in
    let rs = (fold keep nothing (drafted 0 us)).records in
    let made = draft-made us in
    let xs = reverse (picked (in_front p) m rs) in
    let ys = picked (behind_all p) m rs in
    let before = put-renamed us true b xs (put-reverse (by_place us) true (picked (in_front p) m rs) (picked-put us true (in_front p) m rs made (λ r h. and-left r.front (is_of p r.clause) h))) in
    let behind = put-renamed us false b ys (picked-put us false (behind_all p) m rs made (λ r h. not-true r.front (and-left (not r.front) (is_of p r.clause) h))) in
    let same = sym (map-append (renamed b) xs ys) ∙ ap (map (renamed b)) (walk-is m p (drafted 0 us) (rises us) ∙ ap (λ ss. living ss p) (first-drafted m us)) ∙ sym (living-renamed b p (take m us) h) ∙ own-layers b m us p in
    let backs = sym (behind-part t (map (renamed b) xs) (map (renamed b) ys) before behind) ∙ ap (filter (is_behind t)) same ∙ behind-part t (own_fronts (own_batch b m us) p) (own_backs (own_batch b m us) p) (fronts-put b m us p) (backs-put b m us p) in
    ap (option_map (λ (x : ClauseName). named b x.place)) (e ∙ ap (λ (k : Kept). first_like key (picked (behind_all p) m k.records)) is) ∙ sym (first-renamed b key ys) ∙ ap (first_like key) backs
