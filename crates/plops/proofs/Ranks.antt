-- Where a name stands in a table that rises.
use Rattle.std.proofs.Common.{◌≡◌, ◌≤◌, ◌<◌, ℕ, zero, suc, Bool, true, false, cond, List, [], ◌∷◌, ◌++◌, length, take, drop, get_or, Option, Some, None, refl, sym, ap, subst, ◌∙◌, arith, set, append_assoc, append-nil, take-append-drop}
use Rattle.std.proofs.lemmas.Bool.{true≢false, and_parts, and_from, cond_both, cond-true, cond-false, false_from_ne_true}
use Rattle.std.proofs.lemmas.List.{set_split}
use Rattle.std.proofs.lemmas.Option.{slice_get-get_or, slice_get_past}
use Rattle.std.specs.Prelude.{filter, slice_get}
use Rattle.std.specs.List.{list_all}
use Rattle.plops.specs.declared.table.Entry.{Entry}
use Rattle.plops.specs.Tables.{is_named, find}
use Rattle.plops.specs.Changes.{is_before, is_rising, is_plain, kept, put}
use Rattle.plops.specs.Ranks.{rank}
use Rattle.plops.proofs.Names.{before_trans, before_other, before_differs, behind_differs, before_or, named_itself, not_behind_named}

-- the names of all entries come behind one
abbrev pub is_above : List ℕ → List Entry → Bool
is_above n t = list_all (λ x. is_before n x.name) t

pub rank_within : (n : List ℕ) (t : List Entry) → rank n t ≤ length t
rank_within n [] = omega arith
rank_within n (e ∷ t) = cond_both (is_before e.name n) (suc (rank n t)) 0 (λ k. k ≤ length (e ∷ t)) (λ h. omega (arith, rank_within n t)) (λ h. omega arith)

-- names that come behind one that comes behind another
pub above_more : (a b : List ℕ) (t : List Entry) → is_before a b ≡ true → is_above b t ≡ true → is_above a t ≡ true
above_more a b [] h k = refl
above_more a b (x ∷ t) h k =
    let p = and_parts (is_before b x.name) (is_above b t) k in
    and_from (is_before a x.name) (is_above a t) (before_trans a b x.name h p.0) (above_more a b t h p.1)

above_at : (a : List ℕ) (t : List Entry) (i : ℕ) (d : Entry) → i < length t → is_above a t ≡ true → is_before a (get_or t i d).name ≡ true
above_at a [] i d h k = absurd (omega arith)
above_at a (x ∷ t) zero d h k = (and_parts (is_before a x.name) (is_above a t) k).0
above_at a (x ∷ t) (suc i) d h k = above_at a t i d (omega arith) (and_parts (is_before a x.name) (is_above a t) k).1

-- a name behind the entry at a place has a greater rank
pub rank_behind : (n : List ℕ) (t : List Entry) (i : ℕ) (d : Entry) → is_rising t ≡ true → i < length t → is_before (get_or t i d).name n ≡ true → i < rank n t
rank_behind n [] i d r h k = absurd (omega arith)
rank_behind n (e ∷ t) zero d r h k = let same = cond-true (is_before e.name n) (suc (rank n t)) 0 k in omega arith
rank_behind n (e ∷ t) (suc i) d r h k =
    let p = and_parts (is_above e.name t) (is_rising t) r in
    let first = before_trans e.name (get_or t i d).name n (above_at e.name t i d (omega arith) p.0) k in
    let same = cond-true (is_before e.name n) (suc (rank n t)) 0 first in
    let rest = rank_behind n t i d p.1 (omega arith) k in
    omega arith

-- and a name that is not has one that is not greater
pub rank_before : (n : List ℕ) (t : List Entry) (i : ℕ) (d : Entry) → i < length t → is_before (get_or t i d).name n ≡ false → rank n t ≤ i
rank_before n [] i d h k = absurd (omega arith)
rank_before n (e ∷ t) zero d h k = let same = cond-false (is_before e.name n) (suc (rank n t)) 0 k in omega arith
rank_before n (e ∷ t) (suc i) d h k = cond_both (is_before e.name n) (suc (rank n t)) 0 (λ j. j ≤ suc i) (λ b. omega (arith, rank_before n t i d (omega arith) k)) (λ b. omega arith)

-- an entry, if it has the name
abbrev pub if_named : List ℕ → Option Entry → Option Entry
if_named n None = None
if_named n (Some e) = cond (is_named n e) (Some e) None

none_above : (n : List ℕ) (t : List Entry) → is_above n t ≡ true → find t n ≡ None
none_above n [] h = refl
none_above n (x ∷ t) h =
    let p = and_parts (is_before n x.name) (is_above n t) h in
    cond-false (is_named n x) (Some x) (find t n) (behind_differs n x.name p.0) ∙ none_above n t p.1

-- the rest of a table that rises, behind a name
rest_above : (n : List ℕ) (e : Entry) (t : List Entry) → is_above e.name t ≡ true → is_named n e ≡ false → is_before e.name n ≡ false → is_before n e.name ≡ true × is_above n t ≡ true
rest_above n e t h k b =
    let first = before_or e.name n k b in
    (first, above_more n e.name t first h)

-- a name is found at its rank, or nowhere
pub find_rank : (n : List ℕ) (t : List Entry) → is_rising t ≡ true → find t n ≡ if_named n (slice_get t (rank n t))
find_rank n [] r = refl
find_rank n (e ∷ t) r =
    let p = and_parts (is_above e.name t) (is_rising t) r in
    cond_both (is_before e.name n) (suc (rank n t)) 0 (λ k. find (e ∷ t) n ≡ if_named n (slice_get (e ∷ t) k))
    (λ b. cond-false (is_named n e) (Some e) (find t n) (before_differs e.name n b) ∙ find_rank n t p.1)
    (λ b. cond_both (is_named n e) (Some e) (find t n) (λ o. o ≡ cond (is_named n e) (Some e) None)
    (λ m. sym (cond-true (is_named n e) (Some e) None m))
    (λ m. none_above n t (rest_above n e t p.0 m b).1 ∙ sym (cond-false (is_named n e) (Some e) None m)))

-- ---- the entries before a name, and those behind it

filter_all : (p : Entry → Bool) (t : List Entry) → list_all p t ≡ true → filter p t ≡ t
filter_all p [] h = refl
filter_all p (x ∷ t) h =
    let k = and_parts (p x) (list_all p t) h in
    cond-true (p x) (x ∷ filter p t) (filter p t) k.0 ∙ ap (λ l. x ∷ l) (filter_all p t k.1)

none_before : (a n : List ℕ) (t : List Entry) → is_before a n ≡ false → is_above a t ≡ true → filter (λ x. is_before x.name n) t ≡ []
none_before a n [] h k = refl
none_before a n (x ∷ t) h k =
    let p = and_parts (is_before a x.name) (is_above a t) k in
    let not_first : is_before x.name n ≡ false = false_from_ne_true (is_before x.name n) (λ b. true≢false (sym (before_trans a x.name n p.0 b) ∙ h)) in
    cond-false (is_before x.name n) (x ∷ filter (λ y. is_before y.name n) t) (filter (λ y. is_before y.name n) t) not_first ∙ none_before a n t h p.1

pub low_part : (n : List ℕ) (t : List Entry) → is_rising t ≡ true → filter (λ x. is_before x.name n) t ≡ take (rank n t) t
low_part n [] r = refl
low_part n (e ∷ t) r =
    let p = and_parts (is_above e.name t) (is_rising t) r in
    cond_both (is_before e.name n) (suc (rank n t)) 0 (λ k. filter (λ x. is_before x.name n) (e ∷ t) ≡ take k (e ∷ t))
    (λ b. cond-true (is_before e.name n) (e ∷ filter (λ x. is_before x.name n) t) (filter (λ x. is_before x.name n) t) b ∙ ap (λ l. e ∷ l) (low_part n t p.1))
    (λ b. cond-false (is_before e.name n) (e ∷ filter (λ x. is_before x.name n) t) (filter (λ x. is_before x.name n) t) b ∙ none_before e.name n t b p.0)

pub high_named : (n : List ℕ) (t : List Entry) (d : Entry) → is_rising t ≡ true → rank n t < length t → is_named n (get_or t (rank n t) d) ≡ true → filter (λ x. is_before n x.name) t ≡ drop (suc (rank n t)) t
high_named n [] d r = λ h m. absurd (omega arith)
high_named n (e ∷ t) d r =
    let p = and_parts (is_above e.name t) (is_rising t) r in
    cond_both (is_before e.name n) (suc (rank n t)) 0 (λ k. k < length (e ∷ t) → is_named n (get_or (e ∷ t) k d) ≡ true → filter (λ x. is_before n x.name) (e ∷ t) ≡ drop (suc k) (e ∷ t))
    (λ b h m. cond-false (is_before n e.name) (e ∷ filter (λ x. is_before n x.name) t) (filter (λ x. is_before n x.name) t) (before_other e.name n b) ∙ high_named n t d p.1 (omega arith) m)
    (λ b h m. cond-false (is_before n e.name) (e ∷ filter (λ x. is_before n x.name) t) (filter (λ x. is_before n x.name) t) (not_behind_named e.name n m)
    ∙ filter_all (λ x. is_before n x.name) t (subst (λ a. is_above a t ≡ true) (named_itself e.name n m) p.0))

pub high_other : (n : List ℕ) (t : List Entry) (d : Entry) → is_rising t ≡ true → (rank n t < length t → is_named n (get_or t (rank n t) d) ≡ false) → filter (λ x. is_before n x.name) t ≡ drop (rank n t) t
high_other n [] d r = λ m. refl
high_other n (e ∷ t) d r =
    let p = and_parts (is_above e.name t) (is_rising t) r in
    cond_both (is_before e.name n) (suc (rank n t)) 0 (λ k. (k < length (e ∷ t) → is_named n (get_or (e ∷ t) k d) ≡ false) → filter (λ x. is_before n x.name) (e ∷ t) ≡ drop k (e ∷ t))
    (λ b m. cond-false (is_before n e.name) (e ∷ filter (λ x. is_before n x.name) t) (filter (λ x. is_before n x.name) t) (before_other e.name n b) ∙ high_other n t d p.1 (λ h. m (omega arith)))
    (λ b m.
    let up = rest_above n e t p.0 (m (omega arith)) b in
    cond-true (is_before n e.name) (e ∷ filter (λ x. is_before n x.name) t) (filter (λ x. is_before n x.name) t) up.0 ∙ ap (λ l. e ∷ l) (filter_all (λ x. is_before n x.name) t up.1))

-- ---- an entry put at its place

parts_put : (e : Entry) (t low high : List Entry) → filter (λ x. is_before x.name e.name) t ≡ low → filter (λ x. is_before e.name x.name) t ≡ high → put e t ≡ low ++ kept e ++ high
parts_put e t low high h k = ap (λ l. l ++ kept e ++ filter (λ x. is_before e.name x.name) t) h ∙ ap (λ l. low ++ kept e ++ l) k

pub put_named : (e d : Entry) (t : List Entry) (i : ℕ) → is_rising t ≡ true → i ≡ rank e.name t → i < length t → is_named e.name (get_or t i d) ≡ true → put e t ≡ take i t ++ kept e ++ drop (suc i) t
put_named e d t i r same h m =
    subst (λ k. k < length t → is_named e.name (get_or t k d) ≡ true → put e t ≡ take k t ++ kept e ++ drop (suc k) t) (sym same)
    (λ h m. parts_put e t (take (rank e.name t) t) (drop (suc (rank e.name t)) t) (low_part e.name t r) (high_named e.name t d r h m)) h m

pub put_other : (e d : Entry) (t : List Entry) (i : ℕ) → is_rising t ≡ true → i ≡ rank e.name t → (i < length t → is_named e.name (get_or t i d) ≡ false) → put e t ≡ take i t ++ kept e ++ drop i t
put_other e d t i r same m =
    subst (λ k. (k < length t → is_named e.name (get_or t k d) ≡ false) → put e t ≡ take k t ++ kept e ++ drop k t) (sym same)
    (λ m. parts_put e t (take (rank e.name t) t) (drop (rank e.name t) t) (low_part e.name t r) (high_other e.name t d r m)) m

pub put_removed : (e d : Entry) (t : List Entry) (i : ℕ) → is_rising t ≡ true → i ≡ rank e.name t → i < length t → is_named e.name (get_or t i d) ≡ true → is_plain e ≡ true → take i t ++ drop (suc i) t ≡ put e t
put_removed e d t i r same h m k =
    sym (put_named e d t i r same h m ∙ ap (λ l. take i t ++ l ++ drop (suc i) t) (cond-true (is_plain e) [] (e ∷ []) k) ∙ ap (λ l. l ++ drop (suc i) t) (append-nil (take i t)))

pub put_set : (e d : Entry) (t : List Entry) (i : ℕ) → is_rising t ≡ true → i ≡ rank e.name t → i < length t → is_named e.name (get_or t i d) ≡ true → is_plain e ≡ false → set t i e ≡ put e t
put_set e d t i r same h m k =
    set_split t i e h ∙ sym (put_named e d t i r same h m ∙ ap (λ l. take i t ++ l ++ drop (suc i) t) (cond-false (is_plain e) [] (e ∷ []) k) ∙ append_assoc (take i t) (e ∷ []) (drop (suc i) t))

pub put_inserted : (e d : Entry) (t : List Entry) (i : ℕ) → is_rising t ≡ true → i ≡ rank e.name t → (i < length t → is_named e.name (get_or t i d) ≡ false) → is_plain e ≡ false → take i t ++ e ∷ drop i t ≡ put e t
put_inserted e d t i r same m k =
    sym (put_other e d t i r same m ∙ ap (λ l. take i t ++ l ++ drop i t) (cond-false (is_plain e) [] (e ∷ []) k) ∙ append_assoc (take i t) (e ∷ []) (drop i t))

pub put_none : (e d : Entry) (t : List Entry) (i : ℕ) → is_rising t ≡ true → i ≡ rank e.name t → (i < length t → is_named e.name (get_or t i d) ≡ false) → is_plain e ≡ true → t ≡ put e t
put_none e d t i r same m k =
    sym (put_other e d t i r same m ∙ ap (λ l. take i t ++ l ++ drop i t) (cond-true (is_plain e) [] (e ∷ []) k) ∙ ap (λ l. l ++ drop i t) (append-nil (take i t)) ∙ take-append-drop i t)

-- ---- what is found at a place

pub found_at : (n : List ℕ) (t : List Entry) (i : ℕ) (e : Entry) → is_rising t ≡ true → i ≡ rank n t → i < length t → e ≡ get_or t i e → is_named n e ≡ true → Some e ≡ find t n
found_at n t i e r same h k m =
    sym (find_rank n t r ∙ ap (λ j. if_named n (slice_get t j)) (sym same) ∙ ap (if_named n) (slice_get-get_or t i e h ∙ ap Some (sym k)) ∙ cond-true (is_named n e) (Some e) None m)

pub other_at : (n : List ℕ) (t : List Entry) (i : ℕ) (e : Entry) → is_rising t ≡ true → i ≡ rank n t → i < length t → e ≡ get_or t i e → is_named n e ≡ false → None ≡ find t n
other_at n t i e r same h k m =
    sym (find_rank n t r ∙ ap (λ j. if_named n (slice_get t j)) (sym same) ∙ ap (if_named n) (slice_get-get_or t i e h ∙ ap Some (sym k)) ∙ cond-false (is_named n e) (Some e) None m)

pub missed_at : (n : List ℕ) (t : List Entry) (i : ℕ) → is_rising t ≡ true → i ≡ rank n t → length t ≤ i → None ≡ find t n
missed_at n t i r same h = sym (find_rank n t r ∙ ap (λ j. if_named n (slice_get t j)) (sym same) ∙ ap (if_named n) (slice_get_past t i h))
