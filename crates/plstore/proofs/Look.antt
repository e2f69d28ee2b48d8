-- What is found by a name.
use Rattle.std.proofs.Common.{◌≡◌, ◌≢◌, refl, sym, ◌∙◌, ap, arith, ℕ, ◌<◌, suc, zero, Bool, true, false, cond, List, [], ◌∷◌, Some, None, length, get_or}
use Rattle.std.specs.Prelude.{find, ◌&&◌, ◌||◌}
use Rattle.std.specs.List.{list_any}
use Rattle.plevent.specs.declared.update.ClauseName.{ClauseName}
use Rattle.plrecords.specs.declared.record.Record.{Record}
use Rattle.plrecords.specs.Kept.{is_named, is_here, seen}
use Rattle.plrecords.specs.Rising.{NoneIs, OneIs}

any-none : (t : Record → Bool) (rs : List Record) → ((k : ℕ) (d : Record) → k < length rs → t (get_or rs k d) ≡ false) → list_any t rs ≡ false
any-none t [] h = refl
any-none t (r ∷ rs) h = ap (λ v. v || list_any t rs) (h 0 r (omega arith)) ∙ any-none t rs (λ k d l. h (suc k) d (omega arith))

or-false : (b : Bool) → b || false ≡ b
or-false true = refl
or-false false = refl

any-one : (t : Record → Bool) (rs : List Record) (i : ℕ) (d : Record) → i < length rs → ((k : ℕ) (d : Record) → k < length rs → k ≢ i → t (get_or rs k d) ≡ false) → list_any t rs ≡ t (get_or rs i d)
any-one t [] i d l h = absurd (omega arith)
any-one t (r ∷ rs) zero d l h = ap (λ v. t r || v) (any-none t rs (λ k d l. h (suc k) d (omega arith) (omega arith))) ∙ or-false (t r)
any-one t (r ∷ rs) (suc i) d l h =
    ap (λ v. v || list_any t rs) (h 0 r (omega arith) (omega arith)) ∙ any-one t rs i d (omega arith) (λ k d l n. h (suc k) d (omega arith) (omega arith))

pub here-none : (g : ℕ) (x : ClauseName) (rs : List Record) → NoneIs x rs → false ≡ list_any (is_here g x) rs
here-none g x rs h = sym (any-none (is_here g x) rs (λ k d l. ap (λ v. v && seen g (get_or rs k d)) (h k d l)))

pub here-one : (g : ℕ) (x : ClauseName) (rs : List Record) (i : ℕ) (d : Record) → OneIs x rs i → seen g (get_or rs i d) ≡ list_any (is_here g x) rs
here-one g x rs i d o =
    sym (any-one (is_here g x) rs i d o.within (λ k d l n. ap (λ v. v && seen g (get_or rs k d)) (o.others k d l n)) ∙ ap (λ v. v && seen g (get_or rs i d)) (o.here d))

pub find-none : (x : ClauseName) (rs : List Record) → NoneIs x rs → find (is_named x) rs ≡ None
find-none x [] h = refl
find-none x (r ∷ rs) h = ap (λ v. cond v (Some r) (find (is_named x) rs)) (h 0 r (omega arith)) ∙ find-none x rs (λ k d l. h (suc k) d (omega arith))

pub find-one : (x : ClauseName) (rs : List Record) (i : ℕ) (d : Record) → OneIs x rs i → find (is_named x) rs ≡ Some (get_or rs i d)
find-one x rs i d o = by-place rs i o.within (o.here d) (λ k d l n. o.others k d l n)
  where
    by-place : (rs : List Record) (i : ℕ) → i < length rs → is_named x (get_or rs i d) ≡ true → ((k : ℕ) (d : Record) → k < length rs → k ≢ i → is_named x (get_or rs k d) ≡ false) → find (is_named x) rs ≡ Some (get_or rs i d)
    by-place [] i l e h = absurd (omega arith)
    by-place (r ∷ rs) zero l e h = ap (λ v. cond v (Some r) (find (is_named x) rs)) e
    by-place (r ∷ rs) (suc i) l e h =
        ap (λ v. cond v (Some r) (find (is_named x) rs)) (h 0 r (omega arith) (omega arith)) ∙ by-place rs i (omega arith) e (λ k d l n. h (suc k) d (omega arith) (omega arith))
