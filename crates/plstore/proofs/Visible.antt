-- The name behind another in a walk.
use Rattle.std.proofs.Common.{◌≡◌, ◌+◌, inl, inr, refl, sym, ◌∙◌, ap, ap₂, arith, ℕ, suc, zero, ◌<◌, ◌≤◌, Bool, true, false, cond, List, [], ◌∷◌, ◌++◌, Option, None, length, get_or, filter, reverse}
use Rattle.std.specs.Prelude.{◌&&◌, not}
use Rattle.std.proofs.Math.Seq.{take-length}
use Rattle.std.proofs.lemmas.List.{map-append}
use Rattle.std.proofs.lemmas.List.Elements.{filter-append}
use Rattle.std.proofs.lemmas.Bool.Decides.{nat_tests}
use Rattle.plterm.specs.declared.indicator.Indicator.{Indicator}
use Rattle.plevent.specs.declared.update.ClauseName.{ClauseName}
use Rattle.plevent.specs.declared.key.Key.{Key}
use Rattle.plevent.specs.declared.key.Key.TheVariants.{Any}
use Rattle.plevent.specs.Keys.{first_key}
use Rattle.plevent.specs.declared.update.Living.{Living}
use Rattle.plevent.specs.Alive.{change_if, or_else, same_name, names_of, is_of}
use Rattle.plrecords.specs.declared.record.Record.{Record}
use Rattle.plrecords.specs.Kept.{seen, picked, in_front, behind_all, walk, head, behind, is_named, next_of}
use Rattle.plrecords.specs.declared.record.Cursor.{Cursor}
use Rattle.plrecords.specs.declared.record.Cursor.TheVariants.{Start, After}
use Rattle.plstore.specs.Like.{fits, first_like, past, next_like_of}
use Rattle.plrecords.specs.Rising.{NoneIs, OneIs}
use Rattle.plrecords.specs.Links.{front_of, back_of, fronts, backs, down, up, Class}
use Rattle.plstore.proofs.Keys.{any-left}
use Rattle.plrecords.proofs.Law.{cons_if, own}
use Rattle.plrecords.proofs.Bits.{cases}
use Rattle.plrecords.proofs.Chains.{down-step, up-step, drop-records, some-record}

-- a walk is what comes downward, and then what comes upward
pub walk-parts : (g : ℕ) (p : Indicator) (rs : List Record) → walk g p rs ≡ down (is_of p) g rs (length rs) ++ up (is_of p) g rs 0
unfolding walk
walk-parts g p rs = ap (λ l. reverse (picked (in_front p) g l) ++ picked (behind_all p) g rs) (sym (take-length rs))

head-append : (xs ys : List ClauseName) → head (xs ++ ys) ≡ or_else (head xs) (head ys)
head-append [] ys = refl
head-append (x ∷ xs) ys = refl

pub like-append : (k : Key) (xs ys : List Living) → first_like k (xs ++ ys) ≡ or_else (first_like k xs) (first_like k ys)
like-append k xs ys =
    ap (λ l. head (names_of l)) (filter-append (fits k) xs ys) ∙ ap head (map-append (λ (x : Living). x.name) (filter (fits k) xs) (filter (fits k) ys))
    ∙ head-append (names_of (filter (fits k) xs)) (names_of (filter (fits k) ys))

name-false : (x y : ClauseName) → same_name y x ≡ false → same_name x y ≡ false
name-false x y h = grind (arith, nat_tests)

pub name-true : (x y : ClauseName) → same_name y x ≡ true → same_name x y ≡ true
name-true x y h = grind (arith, nat_tests)

-- the record m is none that is in the walk under the name x
abbrev pub Passed : Indicator → ℕ → ClauseName → List Record → (Indicator → Record → Bool) → ℕ → Type 0
Passed p g x rs side m = (d : Record) → seen g (get_or rs m d) && side p (get_or rs m d) ≡ true → same_name x (get_or rs m d).name ≡ false

-- one that is passed
past-skip : (x : ClauseName) (v : Bool) (y : Living) (us : List Living) → (v ≡ true → same_name x y.name ≡ false) → past x (cons_if v y us) ≡ past x us
past-skip x true y us h = ap (λ b. change_if b us (past x us)) (h refl)
past-skip x false y us h = refl

cons-append : (v : Bool) (y : Living) (us ys : List Living) → cons_if v y us ++ ys ≡ cons_if v y (us ++ ys)
cons-append true y us ys = refl
cons-append false y us ys = refl

pub front-is : (c : Class) (rs : List Record) (m : ℕ) (d : Record) → m < length rs → get_or (fronts c rs) m false ≡ front_of c (get_or rs m d)
front-is c [] m d l = absurd (omega arith)
front-is c (r ∷ rs) zero d l = refl
front-is c (r ∷ rs) (suc m) d l = front-is c rs m d (omega arith)

pub back-is : (c : Class) (rs : List Record) (m : ℕ) (d : Record) → m < length rs → get_or (backs c rs) m false ≡ back_of c (get_or rs m d)
back-is c [] m d l = absurd (omega arith)
back-is c (r ∷ rs) zero d l = refl
back-is c (r ∷ rs) (suc m) d l = back-is c rs m d (omega arith)

pub down-list : (c : Class) (g : ℕ) (rs : List Record) (m : ℕ) (d : Record) → m < length rs →
    down c g rs (suc m) ≡ cons_if (seen g (get_or rs m d) && front_of c (get_or rs m d)) (own (get_or rs m d)) (down c g rs m)
down-list c g rs m d l = down-step c g rs m d (front_of c (get_or rs m d)) l (front-is c rs m d l)

pub up-list : (c : Class) (g : ℕ) (rs : List Record) (k : ℕ) (d : Record) → k < length rs →
    up c g rs k ≡ cons_if (seen g (get_or rs k d) && back_of c (get_or rs k d)) (own (get_or rs k d)) (up c g rs (suc k))
up-list c g rs k d l = up-step c g rs k d (back_of c (get_or rs k d)) l (back-is c rs k d l)

pub skip-down : (p : Indicator) (g : ℕ) (x : ClauseName) (rs : List Record) (d : Record) (ys : List Living) (n : ℕ) → n ≤ length rs → ((m : ℕ) → m < n → Passed p g x rs in_front m) →
    past x (down (is_of p) g rs n ++ ys) ≡ past x ys
skip-down p g x rs d ys zero l h = refl
skip-down p g x rs d ys (suc m) l h =
    let r = get_or rs m d in
    let v = seen g r && in_front p r in
    ap (λ l. past x (l ++ ys)) (down-list (is_of p) g rs m d (omega arith))
    ∙ ap (past x) (cons-append v (own r) (down (is_of p) g rs m) ys)
    ∙ past-skip x v (own r) (down (is_of p) g rs m ++ ys) (h m (omega arith) d)
    ∙ skip-down p g x rs d ys m (omega arith) (λ k b. h k (omega arith))

pub skip-up : (p : Indicator) (g : ℕ) (x : ClauseName) (rs : List Record) (d : Record) (m k : ℕ) → k + m ≡ length rs → ((j : ℕ) → j < length rs → Passed p g x rs behind_all j) →
    past x (up (is_of p) g rs k) ≡ []
skip-up p g x rs d zero k e h = ap (λ l. past x (picked (behind_all p) g l)) (drop-records rs k (omega arith))
skip-up p g x rs d (suc m) k e h =
    let r = get_or rs k d in
    let v = seen g r && behind_all p r in
    ap (past x) (up-list (is_of p) g rs k d (omega arith))
    ∙ past-skip x v (own r) (up (is_of p) g rs (suc k)) (h k (omega arith) d)
    ∙ skip-up p g x rs d m (suc k) (omega arith) h

-- a name that is not in the walk
pub not-in-walk : (g : ℕ) (p : Indicator) (x : ClauseName) (rs : List Record) (d : Record) → ((m : ℕ) → m < length rs → Passed p g x rs in_front m) → ((m : ℕ) → m < length rs → Passed p g x rs behind_all m) →
    past x (walk g p rs) ≡ []
not-in-walk g p x rs d hf hb =
    ap (past x) (walk-parts g p rs) ∙ skip-down p g x rs d (up (is_of p) g rs 0) (length rs) (omega arith) hf ∙ skip-up p g x rs d (length rs) 0 (omega arith) hb

-- one that is found
past-here : (x : ClauseName) (y : Living) (us : List Living) (v : Bool) → v ≡ true → same_name x y.name ≡ true → past x (cons_if v y us) ≡ us
past-here x y us v e h = ap (λ v. past x (cons_if v y us)) e ∙ ap (λ b. change_if b us (past x us)) h

found-down : (p : Indicator) (g : ℕ) (x : ClauseName) (rs : List Record) (d : Record) (ys : List Living) (i n : ℕ) → i < n → n ≤ length rs → OneIs x rs i → seen g (get_or rs i d) && in_front p (get_or rs i d) ≡ true →
    past x (down (is_of p) g rs n ++ ys) ≡ down (is_of p) g rs i ++ ys
found-down p g x rs d ys i zero b l one e = absurd (omega arith)
found-down p g x rs d ys i (suc m) b l one e =
    let r = get_or rs m d in
    let v = seen g r && in_front p r in
    ap (λ l. past x (l ++ ys)) (down-list (is_of p) g rs m d (omega arith))
    ∙ ap (past x) (cons-append v (own r) (down (is_of p) g rs m) ys)
    ∙ elim (cases i m) [
      | inl lt ↦ past-skip x v (own r) (down (is_of p) g rs m ++ ys) (λ _. name-false x r.name (one.others m d (omega arith) (λ q. absurd (omega arith))))
          ∙ found-down p g x rs d ys i m lt (omega arith) one e
      | inr o ↦ elim o [
        | inl q ↦ past-here x (own r) (down (is_of p) g rs m ++ ys) v
            (ap (λ m. seen g (get_or rs m d) && in_front p (get_or rs m d)) (sym q) ∙ e) (name-true x r.name (ap (λ m. is_named x (get_or rs m d)) (sym q) ∙ one.here d))
            ∙ ap (λ m. down (is_of p) g rs m ++ ys) (sym q)
        | inr gt ↦ absurd (omega arith)
      ]
    ]

found-up : (p : Indicator) (g : ℕ) (x : ClauseName) (rs : List Record) (d : Record) (i m k : ℕ) → k + m ≡ length rs → k ≤ i → OneIs x rs i → seen g (get_or rs i d) && behind_all p (get_or rs i d) ≡ true →
    past x (up (is_of p) g rs k) ≡ up (is_of p) g rs (suc i)
found-up p g x rs d i zero k s b one e = absurd (omega (arith, one.within))
found-up p g x rs d i (suc m) k s b one e =
    let r = get_or rs k d in
    let v = seen g r && behind_all p r in
    ap (past x) (up-list (is_of p) g rs k d (omega arith))
    ∙ elim (cases k i) [
      | inl lt ↦ past-skip x v (own r) (up (is_of p) g rs (suc k)) (λ _. name-false x r.name (one.others k d (omega arith) (λ q. absurd (omega arith))))
          ∙ found-up p g x rs d i m (suc k) (omega arith) lt one e
      | inr o ↦ elim o [
        | inl q ↦ past-here x (own r) (up (is_of p) g rs (suc k)) v
            (ap (λ m. seen g (get_or rs m d) && behind_all p (get_or rs m d)) q ∙ e) (name-true x r.name (ap (λ m. is_named x (get_or rs m d)) q ∙ one.here d))
            ∙ ap (λ m. up (is_of p) g rs (suc m)) q
        | inr gt ↦ absurd (omega arith)
      ]
    ]

pub after-front : (g : ℕ) (p : Indicator) (x : ClauseName) (rs : List Record) (i : ℕ) (d : Record) → OneIs x rs i → seen g (get_or rs i d) && in_front p (get_or rs i d) ≡ true →
    past x (walk g p rs) ≡ down (is_of p) g rs i ++ up (is_of p) g rs 0
after-front g p x rs i d one e = ap (past x) (walk-parts g p rs) ∙ found-down p g x rs d (up (is_of p) g rs 0) i (length rs) one.within (omega arith) one e

-- one behind is none in front
sides : (p : Indicator) (g : ℕ) (r : Record) → seen g r && behind_all p r ≡ true → seen g r && in_front p r ≡ true → ⊥
sides p g r h k = by-cases (seen g r) r.front h k
  where
    by-cases : (s f : Bool) → s && (not f && is_of p r.clause) ≡ true → s && (f && is_of p r.clause) ≡ true → ⊥
    by-cases false f h k = absurd (cc)
    by-cases true true h k = absurd (cc)
    by-cases true false h k = absurd (cc)

pub after-back : (g : ℕ) (p : Indicator) (x : ClauseName) (rs : List Record) (i : ℕ) (d : Record) → OneIs x rs i → seen g (get_or rs i d) && behind_all p (get_or rs i d) ≡ true →
    past x (walk g p rs) ≡ up (is_of p) g rs (suc i)
after-back g p x rs i d one e =
    ap (past x) (walk-parts g p rs)
    ∙ skip-down p g x rs d (up (is_of p) g rs 0) (length rs) (omega arith) (λ m b c h. elim (cases m i) [
      | inl lt ↦ name-false x (get_or rs m c).name (one.others m c b (λ q. absurd (omega arith)))
      | inr o ↦ elim o [
        | inl q ↦ absurd (sides p g (get_or rs i c) (same-record i one.within c ∙ e) (ap (λ m. seen g (get_or rs m c) && in_front p (get_or rs m c)) (sym q) ∙ h))
        | inr gt ↦ name-false x (get_or rs m c).name (one.others m c b (λ q. absurd (omega arith)))
      ]
    ])
    ∙ found-up p g x rs d i (length rs) 0 (omega arith) (omega arith) one e
  where
    reads : (rs : List Record) (i : ℕ) (c d : Record) → i < length rs → get_or rs i c ≡ get_or rs i d
    reads [] i c d l = absurd (omega arith)
    reads (r ∷ rs) zero c d l = refl
    reads (r ∷ rs) (suc i) c d l = reads rs i c d (omega arith)

    same-record : (i : ℕ) → i < length rs → (c : Record) → seen g (get_or rs i c) && behind_all p (get_or rs i c) ≡ seen g (get_or rs i d) && behind_all p (get_or rs i d)
    same-record i l c = ap (λ r. seen g r && behind_all p r) (reads rs i c d l)

-- where no record has the name
pub none-named : (g : ℕ) (p : Indicator) (k : Key) (x : ClauseName) (rs : List Record) → NoneIs x rs → None ≡ first_like k (past x (walk g p rs))
none-named g p k x rs none =
    ap (first_like k) (sym (not-in-walk g p x rs some-record (λ m b d h. name-false x (get_or rs m d).name (none m d b)) (λ m b d h. name-false x (get_or rs m d).name (none m d b))))

reads : (rs : List Record) (i : ℕ) (c d : Record) → i < length rs → get_or rs i c ≡ get_or rs i d
reads [] i c d l = absurd (omega arith)
reads (r ∷ rs) zero c d l = refl
reads (r ∷ rs) (suc i) c d l = reads rs i c d (omega arith)

drop-front : (s f b : Bool) → s && b ≡ false → s && (f && b) ≡ true → ⊥
drop-front false f b h k = absurd (cc)
drop-front true true b h k = absurd (cc)
drop-front true false b h k = absurd (cc)

-- where the record of the name is not seen, or is of another procedure
pub not-shown : (g : ℕ) (p : Indicator) (k : Key) (x : ClauseName) (rs : List Record) (i : ℕ) (d : Record) → OneIs x rs i → d ≡ get_or rs i d → seen g d && is_of p d.clause ≡ false → None ≡ first_like k (past x (walk g p rs))
not-shown g p key x rs i d one e h =
    let here : (c : Record) → d ≡ get_or rs i c = λ c. e ∙ reads rs i d c one.within in
    ap (first_like key) (sym (not-in-walk g p x rs d
    (λ m b c k. elim (cases m i) [
      | inl lt ↦ name-false x (get_or rs m c).name (one.others m c b (λ q. absurd (omega arith)))
      | inr o ↦ elim o [
        | inl q ↦ absurd (drop-front (seen g d) d.front (is_of p d.clause) h (ap (λ r. seen g r && in_front p r) (here c) ∙ ap (λ m. seen g (get_or rs m c) && in_front p (get_or rs m c)) (sym q) ∙ k))
        | inr gt ↦ name-false x (get_or rs m c).name (one.others m c b (λ q. absurd (omega arith)))
      ]
    ])
    (λ m b c k. elim (cases m i) [
      | inl lt ↦ name-false x (get_or rs m c).name (one.others m c b (λ q. absurd (omega arith)))
      | inr o ↦ elim o [
        | inl q ↦ absurd (drop-front (seen g d) (not d.front) (is_of p d.clause) h (ap (λ r. seen g r && behind_all p r) (here c) ∙ ap (λ m. seen g (get_or rs m c) && behind_all p (get_or rs m c)) (sym q) ∙ k))
        | inr gt ↦ name-false x (get_or rs m c).name (one.others m c b (λ q. absurd (omega arith)))
      ]
    ])))

with-side : (s f b : Bool) → s && b ≡ true → f ≡ true → s && (f && b) ≡ true
with-side s true b h e = h
with-side s false b h e = absurd (cc)

with-not : (s f b : Bool) → s && b ≡ true → f ≡ false → s && (not f && b) ≡ true
with-not s true b h e = absurd (cc)
with-not s false b h e = h

pub shown-front : (g : ℕ) (p : Indicator) (k : Key) (x : ClauseName) (rs : List Record) (i : ℕ) (d : Record) (found : Option ClauseName) → OneIs x rs i → d ≡ get_or rs i d → seen g d && is_of p d.clause ≡ true → d.front ≡ true →
    found ≡ or_else (first_like k (down (is_of p) g rs i)) (first_like k (up (is_of p) g rs 0)) → found ≡ first_like k (past x (walk g p rs))
shown-front g p k x rs i d found one e h f is =
    is ∙ sym (like-append k (down (is_of p) g rs i) (up (is_of p) g rs 0))
    ∙ ap (first_like k) (sym (after-front g p x rs i d one (ap (λ r. seen g r && in_front p r) (sym e) ∙ with-side (seen g d) d.front (is_of p d.clause) h f)))

pub shown-back : (g : ℕ) (p : Indicator) (k : Key) (x : ClauseName) (rs : List Record) (i : ℕ) (d : Record) (found : Option ClauseName) → OneIs x rs i → d ≡ get_or rs i d → seen g d && is_of p d.clause ≡ true → d.front ≡ false →
    found ≡ first_like k (up (is_of p) g rs (suc i)) → found ≡ first_like k (past x (walk g p rs))
shown-back g p k x rs i d found one e h f is =
    is ∙ ap (first_like k) (sym (after-back g p x rs i d one (ap (λ r. seen g r && behind_all p r) (sym e) ∙ with-not (seen g d) d.front (is_of p d.clause) h f)))

pub first-is : (g : ℕ) (p : Indicator) (k : Key) (rs : List Record) (found : Option ClauseName) → found ≡ or_else (first_like k (down (is_of p) g rs (length rs))) (first_like k (up (is_of p) g rs 0)) → found ≡ first_like k (walk g p rs)
first-is g p k rs found is = is ∙ sym (like-append k (down (is_of p) g rs (length rs)) (up (is_of p) g rs 0)) ∙ ap (first_like k) (sym (walk-parts g p rs))

-- with the key of anything each clause is met
any-filter : (xs : List Living) → filter (fits Any) xs ≡ xs
any-filter [] = refl
any-filter (x ∷ xs) = ap₂ (λ v ys. cond v (x ∷ ys) ys) (any-left (first_key x.clause.head)) (any-filter xs)

past-names : (x : ClauseName) (xs : List Living) → head (names_of (past x xs)) ≡ behind x (names_of xs)
past-names x [] = refl
past-names x (y ∷ ys) = elim (same_name x y.name) as (λ v. head (names_of (change_if v ys (past x ys))) ≡ change_if v (head (names_of ys)) (behind x (names_of ys))) [ true ↦ refl | false ↦ past-names x ys ]

pub next-any : (c : Cursor) (xs : List Living) → next_like_of Any c xs ≡ next_of c (names_of xs)
next-any Start xs = ap (λ l. head (names_of l)) (any-filter xs)
next-any (After x) xs = ap (λ l. head (names_of l)) (any-filter (past x xs)) ∙ past-names x xs
