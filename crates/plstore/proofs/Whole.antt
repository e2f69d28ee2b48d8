-- What is kept after all updates: procedures that are there, clauses by name, and the walk.
use Rattle.std.specs.Prelude.{ℕ, Bool, true, false, ◌||◌, ◌&&◌, List, [], ◌∷◌, ◌++◌, fold, find, nat_lt, Option, Some, None, cond}
use Rattle.std.proofs.Common.{◌≡◌, refl, sym, ◌∙◌, ap, ap₂}
use Rattle.std.specs.List.{list_any}
use Rattle.std.specs.Option.{option_map}
use Rattle.plevent.specs.declared.update.Update.{Update}
use Rattle.plevent.specs.declared.update.Update.TheVariants.{First, Last, Erase, EraseOwn, Declare}
use Rattle.plclause.specs.Clause.{Clause}
use Rattle.plterm.specs.declared.indicator.Indicator.{Indicator}
use Rattle.plterm.specs.Indicators.{same_indicator}
use Rattle.plevent.specs.declared.update.ClauseName.{ClauseName}
use Rattle.plevent.specs.Alive.{Stamped, same_name, is_of, named, before, exists, names, is_alive, living, clause_named, made_in, clause_in, or_else, change_if}
use Rattle.plrecords.specs.declared.record.Record.{Record}
use Rattle.plrecords.specs.declared.record.Declared.{Declared}
use Rattle.plrecords.specs.Kept.{Kept, nothing, keep, keep_record, keep_declared, kept, noted, made, changed_where, erase_at, is_named, record_names, declared_names, is_there, here, clause_of, walk}
use Rattle.plrecords.specs.Rising.{Rises}
use Rattle.plrecords.proofs.Law.{walk-alive, walk-stays, alive-at}

pub keep-records : (k : Kept) (us : List Stamped) → (fold keep k us).records ≡ fold keep_record k.records us
keep-records k [] = refl
keep-records k (s ∷ us) = keep-records (keep k s) us

pub keep-all-declared : (k : Kept) (us : List Stamped) → (fold keep k us).declared ≡ fold keep_declared k.declared us
keep-all-declared k [] = refl
keep-all-declared k (s ∷ us) = keep-all-declared (keep k s) us

pub walk-is : (g : ℕ) (p : Indicator) (us : List Stamped) → Rises 0 us → walk g p (fold keep nothing us).records ≡ living (before g us) p
walk-is g p us up = ap (walk g p) (keep-records nothing us) ∙ walk-alive g p us up

pub walk-keeps-on : (g : ℕ) (p : Indicator) (us : List Stamped) (k : Kept) → Rises g us → walk g p (fold keep k us).records ≡ walk g p k.records
walk-keeps-on g p us k up = ap (walk g p) (keep-records k us) ∙ walk-stays g p us k.records up

pub here-is : (g : ℕ) (x : ClauseName) (us : List Stamped) → Rises 0 us → here g x (fold keep nothing us) ≡ is_alive x (before g us)
here-is g x us up = ap (λ rs. list_any (λ r. is_named x r && seen_at r) rs) (keep-records nothing us) ∙ alive-at g x us up
  where
    seen_at : Record → Bool
    seen_at r = Rattle.plrecords.specs.Kept.seen g r

-- lists of tests
any-append : {A : Type 0} (t : A → Bool) (xs ys : List A) → list_any t (xs ++ ys) ≡ list_any t xs || list_any t ys
any-append t [] ys = refl
any-append t (x ∷ xs) ys = ap (λ v. t x || v) (any-append t xs ys) ∙ or-assoc (t x) (list_any t xs) (list_any t ys)
  where
    or-assoc : (a b c : Bool) → a || (b || c) ≡ (a || b) || c
    or-assoc true b c = refl
    or-assoc false b c = refl

or-false : (b : Bool) → b || false ≡ b
or-false true = refl
or-false false = refl

and-false : (b : Bool) → b && false ≡ false
and-false true = refl
and-false false = refl

turn : (a x d : Bool) → (a || (x || false)) || d ≡ (a || d) || x
turn true x d = refl
turn false true true = refl
turn false true false = refl
turn false false true = refl
turn false false false = refl

turn-last : (a d x : Bool) → a || (d || (x || false)) ≡ (a || d) || x
turn-last true d x = refl
turn-last false d x = ap (λ v. d || v) (or-false x)

-- an erasure leaves names and clauses alone
names-erased : (g : ℕ) (p : Indicator) (b : ℕ) (r : Record) (v : Bool) → record_names g p (change_if v (erase_at b r) r) ≡ record_names g p r
names-erased g p b r true = refl
names-erased g p b r false = refl

pub any-erased : (g : ℕ) (p : Indicator) (b : ℕ) (y : ClauseName) (rs : List Record) → list_any (record_names g p) (changed_where (is_named y) (erase_at b) rs) ≡ list_any (record_names g p) rs
any-erased g p b y [] = refl
any-erased g p b y (r ∷ rs) = ap₂ (λ u v. u || v) (names-erased g p b r (is_named y r)) (any-erased g p b y rs)

still : (a : Bool) (b : Bool) → a ≡ a || (b && false)
still a b = sym (ap (λ v. a || v) (and-false b) ∙ or-false a)

pub there-keep : (g : ℕ) (p : Indicator) (k : Kept) (s : Stamped) → is_there g p (keep k s) ≡ is_there g p k || (nat_lt s.at.place g && names p s.update)
there-keep g p k s = by-case s.update
  where
    rs : List Record
    rs = k.records

    ds : List Declared
    ds = k.declared

    by-case : (u : Update) → is_there g p (record { records = kept s.at u k.records; declared = noted s.at u k.declared }) ≡ is_there g p k || (nat_lt s.at.place g && names p u)
    by-case (First c) = ap (λ v. v || list_any (declared_names g p) k.declared) (any-append (record_names g p) k.records (made s.at c true ∷ []))
        ∙ turn (list_any (record_names g p) k.records) (nat_lt s.at.place g && is_of p c) (list_any (declared_names g p) k.declared)
    by-case (Last c) = ap (λ v. v || list_any (declared_names g p) k.declared) (any-append (record_names g p) k.records (made s.at c false ∷ []))
        ∙ turn (list_any (record_names g p) k.records) (nat_lt s.at.place g && is_of p c) (list_any (declared_names g p) k.declared)
    by-case (Erase y) = ap (λ v. v || list_any (declared_names g p) k.declared) (any-erased g p s.at.place y k.records) ∙ still (is_there g p k) (nat_lt s.at.place g)
    by-case (EraseOwn n) = ap (λ v. v || list_any (declared_names g p) k.declared) (any-erased g p s.at.place (named s.at.place n) k.records) ∙ still (is_there g p k) (nat_lt s.at.place g)
    by-case (Declare q) = ap (λ v. list_any (record_names g p) k.records || v) (any-append (declared_names g p) k.declared (record { pred = q; place = s.at.place } ∷ []))
        ∙ turn-last (list_any (record_names g p) k.records) (list_any (declared_names g p) k.declared) (nat_lt s.at.place g && same_indicator q p)

or-assoc-2 : (a b c : Bool) → (a || b) || c ≡ a || (b || c)
or-assoc-2 true b c = refl
or-assoc-2 false b c = refl

there-fold : (g : ℕ) (p : Indicator) (k : Kept) (us : List Stamped) → is_there g p (fold keep k us) ≡ is_there g p k || list_any (λ s. names p s.update) (before g us)
unfolding before
there-fold g p k [] = sym (or-false (is_there g p k))
there-fold g p k (s ∷ us) =
    there-fold g p (keep k s) us
    ∙ ap (λ v. v || list_any (λ s. names p s.update) (before g us)) (there-keep g p k s)
    ∙ or-assoc-2 (is_there g p k) (nat_lt s.at.place g && names p s.update) (list_any (λ s. names p s.update) (before g us))
    ∙ ap (λ v. is_there g p k || v) (here-or (nat_lt s.at.place g))
  where
    here-or : (v : Bool) → (v && names p s.update) || list_any (λ s. names p s.update) (before g us) ≡ list_any (λ s. names p s.update) (cond v (s ∷ before g us) (before g us))
    here-or true = refl
    here-or false = refl

pub there-is : (g : ℕ) (p : Indicator) (us : List Stamped) → is_there g p (fold keep nothing us) ≡ exists (before g us) p
unfolding exists
there-is g p us = there-fold g p nothing us

-- the clause of a name
find-append : (t : Record → Bool) (rs : List Record) (r : Record) → option_map (λ r. r.clause) (find t (rs ++ r ∷ [])) ≡ or_else (option_map (λ r. r.clause) (find t rs)) (option_map (λ r. r.clause) (find t (r ∷ [])))
find-append t [] r = refl
find-append t (q ∷ rs) r = elim (t q) as (λ v. option_map (λ (r : Record). r.clause) (cond v (Some q) (find t (rs ++ r ∷ []))) ≡ or_else (option_map (λ (r : Record). r.clause) (cond v (Some q) (find t rs))) (option_map (λ (r : Record). r.clause) (find t (r ∷ []))))
    [ true ↦ refl | false ↦ find-append t rs r ]

pub or-none : (b : Bool) (o : Option Clause) → o ≡ or_else o (change_if b None None)
or-none true None = refl
or-none false None = refl
or-none b (Some c) = refl

or-made : (x : ClauseName) (s : Stamped) (c : Clause) (f : Bool) → option_map (λ r. r.clause) (find (is_named x) (made s.at c f ∷ [])) ≡ change_if (same_name s.at x) (Some c) None
or-made x s c f = elim (same_name s.at x) as (λ v. option_map (λ (r : Record). r.clause) (cond v (Some (made s.at c f)) None) ≡ change_if v (Some c) None) [ true ↦ refl | false ↦ refl ]

same-clause : (v : Bool) (b : ℕ) (r : Record) → (change_if v (erase_at b r) r).clause ≡ r.clause
same-clause true b r = refl
same-clause false b r = refl

same-test : (v : Bool) (b : ℕ) (x : ClauseName) (r : Record) → is_named x (change_if v (erase_at b r) r) ≡ is_named x r
same-test true b x r = refl
same-test false b x r = refl

abbrev clause_or : Bool → Clause → Option Clause → Option Clause
clause_or v c o = cond v (Some c) o

find-clause : (v : Bool) (r : Record) (o : Option Record) → option_map (λ (r : Record). r.clause) (cond v (Some r) o) ≡ clause_or v r.clause (option_map (λ (r : Record). r.clause) o)
find-clause true r o = refl
find-clause false r o = refl

find-erased : (b : ℕ) (x y : ClauseName) (rs : List Record) → option_map (λ (r : Record). r.clause) (find (is_named x) (changed_where (is_named y) (erase_at b) rs)) ≡ option_map (λ (r : Record). r.clause) (find (is_named x) rs)
find-erased b x y [] = refl
find-erased b x y (r ∷ rs) =
    let v = is_named y r in
    let q = change_if v (erase_at b r) r in
    find-clause (is_named x q) q (find (is_named x) (changed_where (is_named y) (erase_at b) rs))
    ∙ ap (λ o. clause_or (is_named x q) q.clause o) (find-erased b x y rs)
    ∙ ap₂ (λ u c. clause_or u c (option_map (λ (r : Record). r.clause) (find (is_named x) rs))) (same-test v b x r) (same-clause v b r)
    ∙ sym (find-clause (is_named x r) r (find (is_named x) rs))

clause-keep : (x : ClauseName) (k : Kept) (s : Stamped) → clause_of x (keep k s) ≡ or_else (clause_of x k) (made_in x s)
clause-keep x k s = by-case s.update
  where
    by-case : (u : Update) → option_map (λ (r : Record). r.clause) (find (is_named x) (kept s.at u k.records)) ≡ or_else (clause_of x k) (change_if (same_name s.at x) (clause_in u) None)
    by-case (First c) = find-append (is_named x) k.records (made s.at c true) ∙ ap (λ o. or_else (clause_of x k) o) (or-made x s c true)
    by-case (Last c) = find-append (is_named x) k.records (made s.at c false) ∙ ap (λ o. or_else (clause_of x k) o) (or-made x s c false)
    by-case (Erase y) = find-erased s.at.place x y k.records ∙ or-none (same_name s.at x) (clause_of x k)
    by-case (EraseOwn n) = find-erased s.at.place x (named s.at.place n) k.records ∙ or-none (same_name s.at x) (clause_of x k)
    by-case (Declare q) = or-none (same_name s.at x) (clause_of x k)

pub or-assoc-3 : (a b c : Option Clause) → or_else (or_else a b) c ≡ or_else a (or_else b c)
or-assoc-3 None b c = refl
or-assoc-3 (Some a) b c = refl

pub or-nothing : (a : Option Clause) → a ≡ or_else a None
or-nothing None = refl
or-nothing (Some a) = refl

clause-fold : (x : ClauseName) (k : Kept) (us : List Stamped) → clause_of x (fold keep k us) ≡ or_else (clause_of x k) (clause_named x us)
clause-fold x k [] = or-nothing (clause_of x k)
clause-fold x k (s ∷ us) =
    clause-fold x (keep k s) us ∙ ap (λ o. or_else o (clause_named x us)) (clause-keep x k s) ∙ or-assoc-3 (clause_of x k) (made_in x s) (clause_named x us)

pub clause-is : (x : ClauseName) (us : List Stamped) → clause_of x (fold keep nothing us) ≡ clause_named x us
clause-is x us = clause-fold x nothing us
