-- The first clause of a list, and those behind it.
use Rattle.std.proofs.Common.{◌≡◌, ◌<◌, refl, sym, ◌∙◌, ap, ap₂, subst, arith, Bool, true, false, cond, List, [], ◌∷◌, ◌++◌, filter, Some, None, length}
use Rattle.std.specs.Prelude.{unwrap_or}
use Rattle.std.proofs.lemmas.Bool.Decides.{nat_tests}
use Rattle.plclause.specs.Clause.{Clause}
use Rattle.plevent.specs.declared.update.ClauseName.{ClauseName}
use Rattle.plevent.specs.declared.update.Living.{Living}
use Rattle.plevent.specs.Alive.{same_name, change_if, lives_as, names_of}
use Rattle.plrecords.specs.declared.record.Cursor.{Cursor}
use Rattle.plrecords.specs.Kept.{head}
use Rattle.plstore.specs.Like.{past, rest}
use Rattle.plstore.specs.Looking.{Apart, NoneNamed}
use Rattle.plviews.proofs.Seen.{name-self}

-- a list begins with a clause of a name, and goes on with another list
pub record Heads (x : ClauseName) (xs ys : List Living) : Type 0 where
  pub clause : Clause
  pub list : xs ≡ lives_as x clause ∷ ys

pub none-head : (xs : List Living) → None ≡ head (names_of xs) → xs ≡ []
none-head [] h = refl
none-head (x ∷ xs) h = absurd (cc)

none-filter : (t : Living → Bool) (x : ClauseName) (ys : List Living) → NoneNamed x ys → NoneNamed x (filter t ys)
none-filter t x [] h = tt
none-filter t x (y ∷ ys) h = elim (t y) as (λ v. NoneNamed x (cond v (y ∷ filter t ys) (filter t ys))) [ true ↦ (h.0, none-filter t x ys h.1) | false ↦ none-filter t x ys h.1 ]

none-past : (x z : ClauseName) (ys : List Living) → NoneNamed x ys → NoneNamed x (past z ys)
none-past x z [] h = tt
none-past x z (y ∷ ys) h = elim (same_name z y.name) as (λ v. NoneNamed x (change_if v ys (past z ys))) [ true ↦ h.1 | false ↦ none-past x z ys h.1 ]

turned : (x y : ClauseName) → same_name y x ≡ false → same_name x y ≡ false
turned x y h = grind (arith, nat_tests)

other-name : (x y : ClauseName) (xs ys : List Living) → Heads x xs ys → NoneNamed y xs → same_name x y ≡ false
other-name x y xs ys h n = turned x y (subst (NoneNamed y) h.list n).0

skip : (t : Living → Bool) (x : ClauseName) (y : Living) (xs ys : List Living) → same_name x y.name ≡ false → Heads x xs (filter t (past x ys)) → Heads x xs (filter t (past x (y ∷ ys)))
skip t x y xs ys e h = subst (λ v. Heads x xs (filter t (change_if v ys (past x ys)))) (sym e) h

heads-here : (t : Living → Bool) (x : ClauseName) (y : Living) (ys : List Living) → x ≡ y.name → Heads x (y ∷ filter t ys) (filter t (past x (y ∷ ys)))
heads-here t x y ys e = record {
  clause = y.clause;
  list = sym (ap₂ (λ n v. lives_as n y.clause ∷ filter t (change_if v ys (past x ys))) e (ap (λ n. same_name n y.name) e ∙ name-self y.name));
}

heads-start : (t : Living → Bool) (x : ClauseName) (ys : List Living) → Apart ys → Some x ≡ head (names_of (filter t ys)) → Heads x (filter t ys) (filter t (past x ys))
heads-start t x [] a e = absurd (cc)
heads-start t x (y ∷ ys) a e = by-case (t y) e (heads-start t x ys a.1)
  where
    by-case : (v : Bool) → Some x ≡ head (names_of (cond v (y ∷ filter t ys) (filter t ys))) → (Some x ≡ head (names_of (filter t ys)) → Heads x (filter t ys) (filter t (past x ys))) →
        Heads x (cond v (y ∷ filter t ys) (filter t ys)) (filter t (past x (y ∷ ys)))
    by-case true e r = heads-here t x y ys (ap (λ o. unwrap_or o x) e)
    by-case false e r = let h = r e in skip t x y (filter t ys) ys (other-name x y.name (filter t ys) (filter t (past x ys)) h (none-filter t y.name ys a.0)) h

heads-after : (t : Living → Bool) (z x : ClauseName) (ys : List Living) → Apart ys → Some x ≡ head (names_of (filter t (past z ys))) → Heads x (filter t (past z ys)) (filter t (past x ys))
heads-after t z x [] a e = absurd (cc)
heads-after t z x (y ∷ ys) a e = by-case (same_name z y.name) e (heads-after t z x ys a.1)
  where
    by-case : (v : Bool) → Some x ≡ head (names_of (filter t (change_if v ys (past z ys)))) → (Some x ≡ head (names_of (filter t (past z ys))) → Heads x (filter t (past z ys)) (filter t (past x ys))) →
        Heads x (filter t (change_if v ys (past z ys))) (filter t (past x (y ∷ ys)))
    by-case true e r = let h = heads-start t x ys a.1 e in skip t x y (filter t ys) ys (other-name x y.name (filter t ys) (filter t (past x ys)) h (none-filter t y.name ys a.0)) h
    by-case false e r =
        let h = r e in
        skip t x y (filter t (past z ys)) ys (other-name x y.name (filter t (past z ys)) (filter t (past x ys)) h (none-filter t y.name (past z ys) (none-past y.name z ys a.0))) h

-- the first one behind a cursor
pub heads-rest : (t : Living → Bool) (c : Cursor) (x : ClauseName) (ys : List Living) → Apart ys → Some x ≡ head (names_of (filter t (rest c ys))) → Heads x (filter t (rest c ys)) (filter t (past x ys))
heads-rest t Cursor.Start x ys a e = heads-start t x ys a e
heads-rest t (Cursor.After z) x ys a e = heads-after t z x ys a e

pub heads-append : (x : ClauseName) (xs ys zs : List Living) → Heads x xs ys → Heads x (xs ++ zs) (ys ++ zs)
heads-append x xs ys zs h = record { clause = h.clause; list = ap (λ l. l ++ zs) h.list }

-- where a test of names takes it, and where it does not
pub heads-kept : (t : ClauseName → Bool) (x : ClauseName) (xs ys : List Living) → t x ≡ true → Heads x xs ys → Heads x (filter (λ y. t y.name) xs) (filter (λ y. t y.name) ys)
heads-kept t x xs ys e h =
    let f : Living → Bool = λ y. t y.name in
    record { clause = h.clause; list = ap (filter f) h.list ∙ ap (λ v. cond v (lives_as x h.clause ∷ filter f ys) (filter f ys)) e }

pub heads-dropped : (t : ClauseName → Bool) (x : ClauseName) (xs ys : List Living) → t x ≡ false → Heads x xs ys → filter (λ y. t y.name) xs ≡ filter (λ y. t y.name) ys
heads-dropped t x xs ys e h =
    let f : Living → Bool = λ y. t y.name in
    ap (filter f) h.list ∙ ap (λ v. cond v (lives_as x h.clause ∷ filter f ys) (filter f ys)) e

pub heads-fewer : (x : ClauseName) (xs ys : List Living) → Heads x xs ys → length ys < length xs
heads-fewer x xs ys h = subst (λ l. length ys < length l) (sym h.list) (omega arith)

-- two tests in either order
if-true : (t : Living → Bool) (x : Living) (xs : List Living) (v : Bool) → filter t (cond v (x ∷ xs) xs) ≡ cond v (filter t (x ∷ xs)) (filter t xs)
if-true t x xs true = refl
if-true t x xs false = refl

pub filter-turn : (f g : Living → Bool) (xs : List Living) → filter f (filter g xs) ≡ filter g (filter f xs)
filter-turn f g [] = refl
filter-turn f g (x ∷ xs) =
    if-true f x (filter g xs) (g x)
    ∙ ap (λ l. cond (g x) (cond (f x) (x ∷ l) l) l) (filter-turn f g xs)
    ∙ turn (f x) (g x) (filter g (filter f xs))
    ∙ sym (if-true g x (filter f xs) (f x))
  where
    turn : (a b : Bool) (l : List Living) → cond b (cond a (x ∷ l) l) l ≡ cond a (cond b (x ∷ l) l) l
    turn true true l = refl
    turn true false l = refl
    turn false true l = refl
    turn false false l = refl
