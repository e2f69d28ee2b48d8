-- Names in order.
use Rattle.std.proofs.Common.{◌+◌, ◌⊎◌, inl, inr, ◌≡◌, ◌≢◌, refl, sym, ◌∙◌, ap, subst, arith, ℕ, ◌<◌, ◌≤◌, suc, zero, Bool, true, false, List, [], ◌∷◌, length, get_or, set}
use Rattle.std.proofs.lemmas.Bool.Decides.{nat_tests}
use Rattle.plevent.specs.declared.update.ClauseName.{ClauseName}
use Rattle.std.proofs.Common.{◌++◌, ap₂, length-append, fold}
use Rattle.std.proofs.lemmas.List.{get_or_append_left, get_or_at}
use Rattle.std.proofs.lemmas.List.Sums.{fold-append}
use Rattle.plevent.specs.declared.update.Update.{Update}
use Rattle.plevent.specs.declared.update.Update.TheVariants.{First, Last, Erase, EraseOwn, Declare}
use Rattle.plevent.specs.Alive.{Stamped, stamped, named, same_name, change_if}
use Rattle.plrecords.specs.declared.record.Record.{Record}
use Rattle.plrecords.specs.Kept.{Kept, changed_where, is_named, erase_at, made, kept, keep, keep_record}
use Rattle.plrecords.specs.Rising.{less, IsRising, AllBelowPlace, InOrder, NoneIs, OneIs}

pub less-trans : (x y z : ClauseName) → less x y ≡ true → less y z ≡ true → less x z ≡ true
less-trans x y z h k = grind (arith, nat_tests)

pub less-other : (x y : ClauseName) → less x y ≡ true → same_name x y ≡ false
less-other x y h = grind (arith, nat_tests)

pub less-other-back : (x y : ClauseName) → less x y ≡ true → same_name y x ≡ false
less-other-back x y h = grind (arith, nat_tests)

pub neither-less : (x y : ClauseName) → less x y ≡ false → less y x ≡ false → same_name x y ≡ true
neither-less x y h k = grind (arith, nat_tests)

same-equal : (x y : ClauseName) → x.number ≡ y.number → x.place ≡ y.place → same_name x y ≡ true
same-equal x y n p = grind (arith, nat_tests)

-- a change where one passes is a write, and where none passes it is none
pub changed-none : (t : Record → Bool) (f : Record → Record) (rs : List Record) → ((k : ℕ) (d : Record) → k < length rs → t (get_or rs k d) ≡ false) → changed_where t f rs ≡ rs
changed-none t f [] h = refl
changed-none t f (r ∷ rs) h =
    ap (λ v. change_if v (f r) r ∷ changed_where t f rs) (h 0 r (omega arith))
    ∙ ap (λ l. r ∷ l) (changed-none t f rs (λ k d l. h (suc k) d (omega arith)))

pub changed-one : (t : Record → Bool) (f : Record → Record) (rs : List Record) (i : ℕ) (d : Record) → i < length rs → t (get_or rs i d) ≡ true →
    ((k : ℕ) (d : Record) → k < length rs → k ≢ i → t (get_or rs k d) ≡ false) → changed_where t f rs ≡ set rs i (f (get_or rs i d))
changed-one t f [] i d l e h = absurd (omega arith)
changed-one t f (r ∷ rs) zero d l e h =
    ap (λ v. change_if v (f r) r ∷ changed_where t f rs) e
    ∙ ap (λ l. f r ∷ l) (changed-none t f rs (λ k d l. h (suc k) d (omega arith) (omega arith)))
changed-one t f (r ∷ rs) (suc i) d l e h =
    ap (λ v. change_if v (f r) r ∷ changed_where t f rs) (h 0 r (omega arith) (omega arith))
    ∙ ap (λ l. r ∷ l) (changed-one t f rs i d (omega arith) e (λ k d l n. h (suc k) d (omega arith) (omega arith)))

same-read : (rs : List Record) (k : ℕ) (d e : Record) → k < length rs → get_or rs k d ≡ get_or rs k e
same-read [] k d e h = absurd (omega arith)
same-read (r ∷ rs) zero d e h = refl
same-read (r ∷ rs) (suc k) d e h = same-read rs k d e (omega arith)

pub same-other : (a b x : ClauseName) → less a b ≡ true → same_name b x ≡ true → same_name a x ≡ false
same-other a b x h k = grind (arith, nat_tests)

pub same-other-back : (a b x : ClauseName) → less b a ≡ true → same_name b x ≡ true → same_name a x ≡ false
same-other-back a b x h k = grind (arith, nat_tests)

cases : (k m : ℕ) → (k < m) ⊎ ((k ≡ m) ⊎ (m < k))
cases k m = grind arith

-- a step of the halving
pub below-middle : (rs : List Record) (x : ClauseName) (m : ℕ) (r : Record) → IsRising rs → m < length rs → less (get_or rs m r).name x ≡ true →
    (k : ℕ) (d : Record) → k < m + 1 → less (get_or rs k d).name x ≡ true
below-middle rs x m r up l h k d b =
    let here : (n : ℕ) → n ≡ m → less (get_or rs n d).name x ≡ true = λ n e. ap (λ n. less (get_or rs n d).name x) e ∙ ap (λ q. less q.name x) (same-read rs m d r l) ∙ h in
    elim (cases k m) [
      | inl lt ↦ less-trans (get_or rs k d).name (get_or rs m d).name x (up k m d lt l) (here m refl)
      | inr o ↦ elim o [ inl e ↦ here k e | inr gt ↦ absurd (omega arith) ]
    ]

pub above-middle : (rs : List Record) (x : ClauseName) (m : ℕ) (r : Record) → IsRising rs → less x (get_or rs m r).name ≡ true →
    (k : ℕ) (d : Record) → m ≤ k → k < length rs → less x (get_or rs k d).name ≡ true
above-middle rs x m r up h k d b l =
    let lm : m < length rs = omega arith in
    let here : (n : ℕ) → n ≡ m → less x (get_or rs n d).name ≡ true = λ n e. ap (λ n. less x (get_or rs n d).name) e ∙ ap (λ q. less x q.name) (same-read rs m d r lm) ∙ h in
    elim (cases k m) [
      | inl lt ↦ absurd (omega arith)
      | inr o ↦ elim o [ inl e ↦ here k e | inr gt ↦ less-trans x (get_or rs m d).name (get_or rs k d).name (here m refl) (up m k d gt l) ]
    ]

one-here : (rs : List Record) (x : ClauseName) (m : ℕ) (r : Record) → IsRising rs → m < length rs → same_name (get_or rs m r).name x ≡ true → OneIs x rs m
one-here rs x m r up l same =
    let here : (d : Record) → same_name (get_or rs m d).name x ≡ true = λ d. ap (λ q. same_name q.name x) (same-read rs m d r l) ∙ same in
    record {
      within = l;
      here = here;
      others = λ k d lk ne. elim (cases k m) [
        | inl lt ↦ same-other (get_or rs k d).name (get_or rs m d).name x (up k m d lt l) (here d)
        | inr o ↦ elim o [ inl e ↦ absurd (ne e) | inr gt ↦ same-other-back (get_or rs k d).name (get_or rs m d).name x (up m k d gt lk) (here d) ]
      ];
    }

pub one-is : (rs : List Record) (x : ClauseName) (m : ℕ) (r : Record) → IsRising rs → m < length rs → less (get_or rs m r).name x ≡ false → less x (get_or rs m r).name ≡ false → OneIs x rs m
one-is rs x m r up l h g = one-here rs x m r up l (neither-less (get_or rs m r).name x h g)

pub one-equal : (rs : List Record) (x : ClauseName) (m : ℕ) (r : Record) → IsRising rs → m < length rs → r ≡ get_or rs m r → r.name.number ≡ x.number → r.name.place ≡ x.place → OneIs x rs m
one-equal rs x m r up l is number place = one-here rs x m r up l (ap (λ q. same_name q.name x) (sym is) ∙ same-equal r.name x number place)

-- no name is there where all are below or above it
pub none-is : (rs : List Record) (x : ClauseName) (low high : ℕ) → high ≤ low →
    ((k : ℕ) (d : Record) → k < low → less (get_or rs k d).name x ≡ true) → ((k : ℕ) (d : Record) → high ≤ k → k < length rs → less x (get_or rs k d).name ≡ true) → NoneIs x rs
none-is rs x low high h below above k d l =
    elim (cases k low) [
      | inl lt ↦ less-other (get_or rs k d).name x (below k d lt)
      | inr o ↦ less-other-back x (get_or rs k d).name (above k d (elim o [ inl e ↦ omega arith | inr gt ↦ omega arith ]) l)
    ]

pub erased-one : (rs : List Record) (x : ClauseName) (b i : ℕ) (d : Record) → OneIs x rs i → set rs i (erase_at b (get_or rs i d)) ≡ changed_where (is_named x) (erase_at b) rs
erased-one rs x b i d one = sym (changed-one (is_named x) (erase_at b) rs i d one.within (one.here d) one.others)

-- names stay in order
name-at : (t : Record → Bool) (b : ℕ) (rs : List Record) (k : ℕ) (d : Record) → (get_or (changed_where t (erase_at b) rs) k d).name ≡ (get_or rs k d).name
name-at t b [] k d = refl
name-at t b (r ∷ rs) zero d = elim (t r) as (λ v. (change_if v (erase_at b r) r).name ≡ r.name) [ true ↦ refl | false ↦ refl ]
name-at t b (r ∷ rs) (suc k) d = name-at t b rs k d

length-changed : (t : Record → Bool) (b : ℕ) (rs : List Record) → length (changed_where t (erase_at b) rs) ≡ length rs
length-changed t b [] = refl
length-changed t b (r ∷ rs) = ap suc (length-changed t b rs)

order-erase : (t : Record → Bool) (b : ℕ) (x : ClauseName) (rs : List Record) → InOrder x rs → InOrder x (changed_where t (erase_at b) rs)
order-erase t b x rs o = record {
  rising = λ i j d lt l. let l2 : j < length rs = omega (arith, length-changed t b rs) in
      ap (λ n. less n (get_or (changed_where t (erase_at b) rs) j d).name) (name-at t b rs i d) ∙ ap (λ n. less (get_or rs i d).name n) (name-at t b rs j d) ∙ o.rising i j d lt l2;
  below = λ k d l. let l2 : k < length rs = omega (arith, length-changed t b rs) in ap (λ n. less n x) (name-at t b rs k d) ∙ o.below k d l2;
}

less-next : (b k : ℕ) (y : ClauseName) → less y (named b k) ≡ true → less y (named b (suc k)) ≡ true
less-next b k y h = grind (arith, nat_tests)

pub less-number : (b j k : ℕ) → j < k → less (named b j) (named b k) ≡ true
less-number b j k h = grind (arith, nat_tests)

order-next : (b k : ℕ) (rs : List Record) → InOrder (named b k) rs → InOrder (named b (suc k)) rs
order-next b k rs o = record { rising = o.rising; below = λ i d l. less-next b k (get_or rs i d).name (o.below i d l) }

length-push : (rs : List Record) (r : Record) → length (rs ++ r ∷ []) ≡ suc (length rs)
length-push rs r = grind (arith, length-append)

order-push : (b k : ℕ) (rs : List Record) (r : Record) → r.name ≡ named b k → InOrder (named b k) rs → InOrder (named b (suc k)) (rs ++ r ∷ [])
order-push b k rs r e o =
    let at : (i : ℕ) (d : Record) → i < length rs → get_or (rs ++ r ∷ []) i d ≡ get_or rs i d = λ i d l. get_or_append_left rs (r ∷ []) d i l in
    let end : (i : ℕ) (d : Record) → i ≡ length rs → get_or (rs ++ r ∷ []) i d ≡ r = λ i d l. get_or_at rs r [] d i (sym l) in
    record {
      rising = λ i j d lt l. let l2 : j < suc (length rs) = omega (arith, length-push rs r) in elim (cases j (length rs)) [
        | inl jl ↦ let il : i < length rs = omega arith in ap₂ (λ p q. less p.name q.name) (at i d il) (at j d jl) ∙ o.rising i j d lt jl
        | inr q ↦ elim q [
          | inl je ↦ let il : i < length rs = omega arith in ap₂ (λ p q. less p.name q.name) (at i d il) (end j d je) ∙ ap (λ n. less (get_or rs i d).name n) e ∙ o.below i d il
          | inr jg ↦ absurd (omega arith)
        ]
      ];
      below = λ i d l. let l2 : i < suc (length rs) = omega (arith, length-push rs r) in elim (cases i (length rs)) [
        | inl il ↦ ap (λ q. less q.name (named b (suc k))) (at i d il) ∙ less-next b k (get_or rs i d).name (o.below i d il)
        | inr q ↦ elim q [ inl ie ↦ ap (λ q. less q.name (named b (suc k))) (end i d ie) ∙ ap (λ n. less n (named b (suc k))) e ∙ less-number b k (suc k) (omega arith) | inr ig ↦ absurd (omega arith) ]
      ];
    }

pub order-keep : (b k : ℕ) (u : Update) (rs : List Record) → InOrder (named b k) rs → InOrder (named b (suc k)) (kept (named b k) u rs)
order-keep b k (First c) rs o = order-push b k rs (made (named b k) c true) refl o
order-keep b k (Last c) rs o = order-push b k rs (made (named b k) c false) refl o
order-keep b k (Erase y) rs o = order-next b k _ (order-erase (is_named y) b (named b k) rs o)
order-keep b k (EraseOwn n) rs o = order-next b k _ (order-erase (is_named (named b n)) b (named b k) rs o)
order-keep b k (Declare q) rs o = order-next b k rs o

pub less-place : (b k : ℕ) (y : ClauseName) → y.place < b → less y (named b k) ≡ true
less-place b k y h = grind (arith, nat_tests)

pub order-start : (b : ℕ) (rs : List Record) → IsRising rs → AllBelowPlace b rs → InOrder (named b 0) rs
order-start b rs up h = record { rising = up; below = λ k d l. less-place b 0 (get_or rs k d).name (h k d l) }

-- the records after the updates passed, and one more
stamped-append : (b k : ℕ) (us : List Update) (u : Update) → stamped b k (us ++ u ∷ []) ≡ stamped b k us ++ record { at = named b (k + length us); update = u } ∷ []
stamped-append b k [] u = ap (λ n. record { at = named b n; update = u } ∷ []) (omega arith)
stamped-append b k (v ∷ us) u = ap (λ l. record { at = named b k; update = v } ∷ l) (stamped-append b (suc k) us u ∙ ap (λ n. stamped b (suc k) us ++ record { at = named b n; update = u } ∷ []) (omega arith))

pub kept-more : (b : ℕ) (us : List Update) (u : Update) (k : Kept) → fold keep k (stamped b 0 (us ++ u ∷ [])) ≡ keep (fold keep k (stamped b 0 us)) (record { at = named b (length us); update = u })
kept-more b us u k =
    ap (λ l. fold keep k l) (stamped-append b 0 us u)
    ∙ fold-append keep k (stamped b 0 us) (record { at = named b (0 + length us); update = u } ∷ [])
    ∙ ap (λ n. keep (fold keep k (stamped b 0 us)) (record { at = named b n; update = u })) (omega arith)

-- each name's place is below g
place-push : (g : ℕ) (rs : List Record) (r : Record) → r.name.place < g → AllBelowPlace g rs → AllBelowPlace g (rs ++ r ∷ [])
place-push g rs r h all k d l =
    let l2 : k < suc (length rs) = omega (arith, length-push rs r) in
    elim (cases k (length rs)) [
      | inl kl ↦ subst (λ q. q.name.place < g) (sym (get_or_append_left rs (r ∷ []) d k kl)) (all k d kl)
      | inr q ↦ elim q [ inl ke ↦ subst (λ q. q.name.place < g) (sym (get_or_at rs r [] d k (sym ke))) h | inr kg ↦ absurd (omega arith) ]
    ]

place-erase : (g b : ℕ) (t : Record → Bool) (rs : List Record) → AllBelowPlace g rs → AllBelowPlace g (changed_where t (erase_at b) rs)
place-erase g b t rs all k d l = let l2 : k < length rs = omega (arith, length-changed t b rs) in subst (λ n. n.place < g) (sym (name-at t b rs k d)) (all k d l2)

pub place-keep : (g : ℕ) (s : Stamped) (rs : List Record) → s.at.place < g → AllBelowPlace g rs → AllBelowPlace g (keep_record rs s)
place-keep g s rs h all = by-case s.update
  where
    by-case : (u : Update) → AllBelowPlace g (kept s.at u rs)
    by-case (First c) = place-push g rs (made s.at c true) h all
    by-case (Last c) = place-push g rs (made s.at c false) h all
    by-case (Erase y) = place-erase g s.at.place (is_named y) rs all
    by-case (EraseOwn n) = place-erase g s.at.place (is_named (named s.at.place n)) rs all
    by-case (Declare q) = all
