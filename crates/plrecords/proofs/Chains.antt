-- The links of a class pass all its clauses.
use Rattle.std.proofs.Common.{◌≡◌, ◌+◌, refl, sym, ◌∙◌, ap, subst, arith, ℕ, suc, zero, ◌<◌, ◌≤◌, Bool, true, false, cond, List, [], ◌∷◌, ◌++◌, Option, Some, None, length, get_or, take, drop, map, filter, reverse, drop-cons}
use Rattle.std.specs.Prelude.{◌&&◌}
use Rattle.std.proofs.Math.Seq.{take-suc}
use Rattle.std.proofs.lemmas.List.{append-nil, reverse-append, length-map}
use Rattle.plevent.specs.declared.update.ClauseName.{ClauseName}
use Rattle.plevent.specs.declared.update.Living.{Living}
use Rattle.plevent.specs.Alive.{names_of, change_if, named}
use Rattle.plterm.specs.Tree.{atom}
use Rattle.plrecords.specs.declared.record.Record.{Record}
use Rattle.plrecords.specs.Kept.{seen, picked, head}
use Rattle.plrecords.specs.Links.{first_from, front_of, back_of, fronts, backs, down, up, Class}
use Rattle.plrecords.proofs.Law.{picked-append, picked-cons, cons_if, own}
use Rattle.plrecords.proofs.Bits.{get-in, drop-whole, drop-mark}

get-map : (t : Record → Bool) (rs : List Record) (i : ℕ) (d : Record) → i < length rs → get_or (map t rs) i false ≡ t (get_or rs i d)
get-map t [] i d l = absurd (omega arith)
get-map t (r ∷ rs) zero d l = refl
get-map t (r ∷ rs) (suc i) d l = get-map t rs i d (omega arith)

reverse-cons : (v : Bool) (x : Living) (xs : List Living) → reverse (xs ++ cons_if v x []) ≡ cons_if v x (reverse xs)
reverse-cons true x xs = reverse-append xs (x ∷ [])
reverse-cons false x xs = ap reverse (append-nil xs)

pub down-step : (p : Class) (g : ℕ) (rs : List Record) (m : ℕ) (d : Record) (v : Bool) → m < length rs → get_or (fronts p rs) m false ≡ v →
    down p g rs (suc m) ≡ cons_if (seen g (get_or rs m d) && v) (own (get_or rs m d)) (down p g rs m)
down-step p g rs m d v l e =
    let r = get_or rs m d in
    let side : front_of p r ≡ v = sym (get-map (front_of p) rs m d l) ∙ e in
    ap (λ l. reverse (picked (front_of p) g l)) (take-suc rs m d l)
    ∙ ap reverse (picked-append (front_of p) g (take m rs) (r ∷ []) ∙ ap (λ l. picked (front_of p) g (take m rs) ++ l) (picked-cons (front_of p) g r []))
    ∙ reverse-cons (seen g r && front_of p r) (own r) (picked (front_of p) g (take m rs))
    ∙ ap (λ v. cons_if (seen g r && v) (own r) (down p g rs m)) side

some-same : {a b : ℕ} → Some a ≡ Some b → a ≡ b
some-same e = cc

-- upward
pub up-step : (p : Class) (g : ℕ) (rs : List Record) (k : ℕ) (d : Record) (v : Bool) → k < length rs → get_or (backs p rs) k false ≡ v →
    up p g rs k ≡ cons_if (seen g (get_or rs k d) && v) (own (get_or rs k d)) (up p g rs (suc k))
up-step p g rs k d v l e =
    let r = get_or rs k d in
    let side : back_of p r ≡ v = sym (get-map (back_of p) rs k d l) ∙ e in
    ap (picked (back_of p) g) (drop-cons rs k d l) ∙ picked-cons (back_of p) g r (drop (suc k) rs)
    ∙ ap (λ v. cons_if (seen g r && v) (own r) (up p g rs (suc k))) side

pub record UpIs (p : Class) (rs : List Record) (k i : ℕ) : Type 0 where
  pub above : k ≤ i
  pub within : i < length rs
  pub mark : get_or (backs p rs) i false ≡ true

pub drop-records : (rs : List Record) (k : ℕ) → length rs ≤ k → drop k rs ≡ []
drop-records [] zero h = refl
drop-records [] (suc k) h = refl
drop-records (b ∷ bs) zero h = absurd (omega arith)
drop-records (b ∷ bs) (suc k) h = drop-records bs k (omega arith)

no-marks : (p : Class) (rs : List Record) (k : ℕ) → length rs ≤ k → first_from k (drop k (backs p rs)) ≡ None
no-marks p rs k h = ap (first_from k) (drop-whole (backs p rs) k (omega (arith, length-map rs (back_of p))))

pub up-some : (p : Class) (rs : List Record) (m k i : ℕ) → k + m ≡ length rs → first_from k (drop k (backs p rs)) ≡ Some i → UpIs p rs k i
up-some p rs zero k i s e = let z : None ≡ Some i = sym (no-marks p rs k (omega arith)) ∙ e in absurd (cc)
up-some p rs (suc m) k i s e = by-mark (get_or (backs p rs) k false) refl (λ e. up-some p rs m (suc k) i (omega arith) e)
  where
    by-mark : (v : Bool) → get_or (backs p rs) k false ≡ v → (first_from (suc k) (drop (suc k) (backs p rs)) ≡ Some i → UpIs p rs (suc k) i) → UpIs p rs k i
    by-mark true h next =
        let l : k < length (backs p rs) = omega (arith, length-map rs (back_of p)) in
        let z : Some k ≡ Some i = sym (drop-mark (backs p rs) k l ∙ ap (λ v. change_if v (Some k) (first_from (suc k) (drop (suc k) (backs p rs)))) h) ∙ e in
        let q : k ≡ i = some-same z in
        record { above = omega arith; within = omega arith; mark = subst (λ n. get_or (backs p rs) n false ≡ true) q h }
    by-mark false h next =
        let l : k < length (backs p rs) = omega (arith, length-map rs (back_of p)) in
        let z : first_from (suc k) (drop (suc k) (backs p rs)) ≡ Some i = sym (drop-mark (backs p rs) k l ∙ ap (λ v. change_if v (Some k) (first_from (suc k) (drop (suc k) (backs p rs)))) h) ∙ e in
        let u = next z in
        record { above = omega (arith, u.above); within = u.within; mark = u.mark }

pub some-record : Record
some-record = record { name = named 0 0; clause = record { head = atom []; body = atom []; variables = 0 }; front = true; erased = None }

-- a mark is that of a record
pub mark-within : (t : Record → Bool) (rs : List Record) (i : ℕ) → get_or (map t rs) i false ≡ true → i < length rs
mark-within t rs i h = let l = get-in (map t rs) i h in omega (arith, l, length-map rs t)

-- the name of the first one that passes a test
abbrev pub first_where : (Living → Bool) → List Living → Option ClauseName
first_where t xs = head (names_of (filter t xs))

-- the first that is sought
pub like-cons : (k : Living → Bool) (v : Bool) (x : Living) (xs : List Living) → first_where k (cons_if v x xs) ≡ cond (v && k x) (Some x.name) (first_where k xs)
like-cons k true x xs = elim (k x) as (λ v. head (names_of (cond v (x ∷ filter k xs) (filter k xs))) ≡ cond v (Some x.name) (first_where k xs)) [ true ↦ refl | false ↦ refl ]
like-cons k false x xs = refl
