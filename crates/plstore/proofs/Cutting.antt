-- What is kept of the batches below a place.
use Rattle.std.specs.Prelude.{ℕ, zero, suc, ◌≤◌, ◌<◌, Bool, true, false, List, [], ◌∷◌, ◌++◌, map, filter, fold, length, nat_lt, Option, Some, None, cond}
use Rattle.std.proofs.Common.{◌≡◌, refl, sym, ◌∙◌, ap, ap₂, arith}
use Rattle.std.proofs.lemmas.Bool.Decides.{nat_tests}
use Rattle.plclause.specs.Clause.{Clause}
use Rattle.plevent.specs.declared.update.ClauseName.{ClauseName}
use Rattle.plevent.specs.declared.update.Update.{Update}
use Rattle.plevent.specs.declared.update.Update.TheVariants.{First, Last, Erase, EraseOwn, Declare}
use Rattle.plevent.specs.Alive.{Stamped, before, named, change_if}
use Rattle.plrecords.specs.declared.record.Record.{Record}
use Rattle.plrecords.specs.declared.record.Declared.{Declared}
use Rattle.plstore.specs.Cut.{cut, erased_below, restored}
use Rattle.plrecords.specs.Kept.{Kept, keep, keep_record, keep_declared, kept, noted, made, nothing, changed_where, erase_at, first_of, is_named}
use Rattle.std.proofs.lemmas.List.{append-nil}
use Rattle.std.proofs.lemmas.List.Sums.{fold-append}
use Rattle.plrecords.specs.Rising.{AllBelowPlace, AllUnder, Rises}

abbrev pub is_below : ℕ → Record → Bool
is_below g r = nat_lt r.name.place g

abbrev pub is_before : ℕ → Declared → Bool
is_before g d = nat_lt d.place g

abbrev pub records_cut : ℕ → List Record → List Record
records_cut g rs = map (restored g) (filter (is_below g) rs)

abbrev pub kept_of : List Record → List Declared → Kept
kept_of rs ds = record { records = rs; declared = ds }

lt-true : (a b : ℕ) → a < b → nat_lt a b ≡ true
lt-true a b h = grind (arith, nat_tests)

lt-false : (a b : ℕ) → b ≤ a → nat_lt a b ≡ false
lt-false a b h = grind (arith, nat_tests)

is-lt : (a b : ℕ) → nat_lt a b ≡ true → a < b
is-lt a b h = grind (arith, nat_tests)

is-le : (a b : ℕ) → nat_lt a b ≡ false → b ≤ a
is-le a b h = grind (arith, nat_tests)

cut-if : (g : ℕ) (v : Bool) (r : Record) (rs : List Record) → map (restored g) (cond v (r ∷ rs) rs) ≡ cond v (restored g r ∷ map (restored g) rs) (map (restored g) rs)
cut-if g true r rs = refl
cut-if g false r rs = refl

cut-cons : (g : ℕ) (r : Record) (rs : List Record) → records_cut g (r ∷ rs) ≡ cond (is_below g r) (restored g r ∷ records_cut g rs) (records_cut g rs)
cut-cons g r rs = cut-if g (is_below g r) r (filter (is_below g) rs)

-- one more record or declaration
cut-push : (g : ℕ) (rs : List Record) (r : Record) → records_cut g (rs ++ r ∷ []) ≡ records_cut g rs ++ records_cut g (r ∷ [])
cut-push g [] r = refl
cut-push g (q ∷ rs) r = cut-cons g q (rs ++ r ∷ []) ∙ ap (λ l. cond (is_below g q) (restored g q ∷ l) l) (cut-push g rs r) ∙ out (is_below g q) ∙ ap (λ l. l ++ records_cut g (r ∷ [])) (sym (cut-cons g q rs))
  where
    out : (v : Bool) → cond v (restored g q ∷ (records_cut g rs ++ records_cut g (r ∷ []))) (records_cut g rs ++ records_cut g (r ∷ [])) ≡ cond v (restored g q ∷ records_cut g rs) (records_cut g rs) ++ records_cut g (r ∷ [])
    out true = refl
    out false = refl

noted-push : (g : ℕ) (ds : List Declared) (d : Declared) → filter (is_before g) (ds ++ d ∷ []) ≡ filter (is_before g) ds ++ filter (is_before g) (d ∷ [])
noted-push g [] d = refl
noted-push g (e ∷ ds) d = ap (λ l. cond (is_before g e) (e ∷ l) l) (noted-push g ds d) ∙ out (is_before g e)
  where
    out : (v : Bool) → cond v (e ∷ (filter (is_before g) ds ++ filter (is_before g) (d ∷ []))) (filter (is_before g) ds ++ filter (is_before g) (d ∷ [])) ≡ cond v (e ∷ filter (is_before g) ds) (filter (is_before g) ds) ++ filter (is_before g) (d ∷ [])
    out true = refl
    out false = refl

-- an erasure at g or above goes
restored-above : (g b : ℕ) (o : Option ℕ) → g ≤ b → erased_below g (first_of o b) ≡ erased_below g o
restored-above g b None h = ap (λ v. change_if v (Some b) None) (lt-false b g h)
restored-above g b (Some e) h = refl

restored-if : (g b : ℕ) (v : Bool) (r : Record) → g ≤ b → restored g (change_if v (erase_at b r) r) ≡ restored g r
restored-if g b true r h = ap (λ o. record r { erased = o }) (restored-above g b r.erased h)
restored-if g b false r h = refl

below-if : (g b : ℕ) (v : Bool) (r : Record) → is_below g (change_if v (erase_at b r) r) ≡ is_below g r
below-if g b true r = refl
below-if g b false r = refl

erase-above : (g b : ℕ) (y : ClauseName) (rs : List Record) → g ≤ b → records_cut g (changed_where (is_named y) (erase_at b) rs) ≡ records_cut g rs
erase-above g b y [] h = refl
erase-above g b y (r ∷ rs) h =
    let q = change_if (is_named y r) (erase_at b r) r in
    cut-cons g q (changed_where (is_named y) (erase_at b) rs)
    ∙ ap₂ (λ v x. cond v (x ∷ records_cut g (changed_where (is_named y) (erase_at b) rs)) (records_cut g (changed_where (is_named y) (erase_at b) rs))) (below-if g b (is_named y r) r) (restored-if g b (is_named y r) r h)
    ∙ ap (λ l. cond (is_below g r) (restored g r ∷ l) l) (erase-above g b y rs h)
    ∙ sym (cut-cons g r rs)

made-above : (g : ℕ) (x : ClauseName) (c : Clause) (f : Bool) (rs : List Record) → g ≤ x.place → records_cut g (rs ++ made x c f ∷ []) ≡ records_cut g rs
made-above g x c f rs h = cut-push g rs (made x c f)
    ∙ ap (λ l. records_cut g rs ++ l) (cut-cons g (made x c f) [] ∙ ap (λ v. cond v (restored g (made x c f) ∷ []) []) (lt-false x.place g h)) ∙ append-nil (records_cut g rs)

kept-above : (g : ℕ) (x : ClauseName) (u : Update) (rs : List Record) → g ≤ x.place → records_cut g (kept x u rs) ≡ records_cut g rs
kept-above g x (First c) rs h = made-above g x c true rs h
kept-above g x (Last c) rs h = made-above g x c false rs h
kept-above g x (Erase y) rs h = erase-above g x.place y rs h
kept-above g x (EraseOwn k) rs h = erase-above g x.place (named x.place k) rs h
kept-above g x (Declare q) rs h = refl

noted-above : (g : ℕ) (x : ClauseName) (u : Update) (ds : List Declared) → g ≤ x.place → filter (is_before g) (noted x u ds) ≡ filter (is_before g) ds
noted-above g x (First c) ds h = refl
noted-above g x (Last c) ds h = refl
noted-above g x (Erase y) ds h = refl
noted-above g x (EraseOwn k) ds h = refl
noted-above g x (Declare q) ds h = noted-push g ds (record { pred = q; place = x.place })
    ∙ ap (λ v. filter (is_before g) ds ++ cond v (record { pred = q; place = x.place } ∷ []) []) (lt-false x.place g h) ∙ append-nil (filter (is_before g) ds)

pub cut-above : (g : ℕ) (k : Kept) (s : Stamped) → g ≤ s.at.place → cut g (keep k s) ≡ cut g k
cut-above g k s h = ap₂ kept_of (kept-above g s.at s.update k.records h) (noted-above g s.at s.update k.declared h)

-- what is all below g
abbrev pub AllIn : ℕ → List Record → Type 0
AllIn g [] = Unit {0}
AllIn g (r ∷ rs) = (is_below g r ≡ true) × (erased_below g r.erased ≡ r.erased) × AllIn g rs

abbrev pub AllEarlier : ℕ → List Declared → Type 0
AllEarlier g [] = Unit {0}
AllEarlier g (d ∷ ds) = (is_before g d ≡ true) × AllEarlier g ds

in-cut : (g : ℕ) (rs : List Record) → AllIn g rs → records_cut g rs ≡ rs
in-cut g [] h = refl
in-cut g (r ∷ rs) h = cut-cons g r rs ∙ ap (λ v. cond v (restored g r ∷ records_cut g rs) (records_cut g rs)) h.0 ∙ ap₂ (λ o l. record r { erased = o } ∷ l) h.1 (in-cut g rs h.2)

earlier-cut : (g : ℕ) (ds : List Declared) → AllEarlier g ds → filter (is_before g) ds ≡ ds
earlier-cut g [] h = refl
earlier-cut g (d ∷ ds) h = ap (λ v. cond v (d ∷ filter (is_before g) ds) (filter (is_before g) ds)) h.0 ∙ ap (λ l. d ∷ l) (earlier-cut g ds h.1)

cut-short : (g : ℕ) (rs : List Record) → length (records_cut g rs) ≤ length rs
cut-short g [] = omega arith
cut-short g (r ∷ rs) = by-case (is_below g r) (cut-short g rs) (ap length (cut-cons g r rs))
  where
    by-case : (v : Bool) → length (records_cut g rs) ≤ length rs → length (records_cut g (r ∷ rs)) ≡ length (cond v (restored g r ∷ records_cut g rs) (records_cut g rs)) → length (records_cut g (r ∷ rs)) ≤ suc (length rs)
    by-case true h e = omega (arith, e)
    by-case false h e = omega (arith, e)

filter-short : (g : ℕ) (ds : List Declared) → length (filter (is_before g) ds) ≤ length ds
filter-short g [] = omega arith
filter-short g (d ∷ ds) = by-case (is_before g d) (filter-short g ds)
  where
    by-case : (v : Bool) → length (filter (is_before g) ds) ≤ length ds → length (cond v (d ∷ filter (is_before g) ds) (filter (is_before g) ds)) ≤ suc (length ds)
    by-case true h = omega arith
    by-case false h = omega arith

head-is : {A : Type 0} {x y : A} {xs ys : List A} → x ∷ xs ≡ y ∷ ys → x ≡ y
head-is e = cc

tail-is : {A : Type 0} {x y : A} {xs ys : List A} → x ∷ xs ≡ y ∷ ys → xs ≡ ys
tail-is e = cc

cut-in : (g : ℕ) (rs : List Record) → records_cut g rs ≡ rs → AllIn g rs
cut-in g [] e = tt
cut-in g (r ∷ rs) e = by-case (is_below g r) refl (λ h. cut-in g rs h) (sym (cut-cons g r rs) ∙ e)
  where
    by-case : (v : Bool) → is_below g r ≡ v → (records_cut g rs ≡ rs → AllIn g rs) → cond v (restored g r ∷ records_cut g rs) (records_cut g rs) ≡ r ∷ rs → AllIn g (r ∷ rs)
    by-case true w rest e = (w, ap (λ (r : Record). r.erased) (head-is e), rest (tail-is e))
    by-case false w rest e = absurd (omega (arith, ap length e, cut-short g rs))

cut-earlier : (g : ℕ) (ds : List Declared) → filter (is_before g) ds ≡ ds → AllEarlier g ds
cut-earlier g [] e = tt
cut-earlier g (d ∷ ds) e = by-case (is_before g d) refl (λ h. cut-earlier g ds h) e
  where
    by-case : (v : Bool) → is_before g d ≡ v → (filter (is_before g) ds ≡ ds → AllEarlier g ds) → cond v (d ∷ filter (is_before g) ds) (filter (is_before g) ds) ≡ d ∷ ds → AllEarlier g (d ∷ ds)
    by-case true w rest e = (w, rest (tail-is e))
    by-case false w rest e = absurd (omega (arith, ap length e, filter-short g ds))

in-push : (g : ℕ) (rs : List Record) (x : ClauseName) (c : Clause) (f : Bool) → x.place < g → AllIn g rs → AllIn g (rs ++ made x c f ∷ [])
in-push g [] x c f h all = (lt-true x.place g h, refl, tt)
in-push g (r ∷ rs) x c f h all = (all.0, all.1, in-push g rs x c f h all.2)

earlier-push : (g : ℕ) (ds : List Declared) (d : Declared) → d.place < g → AllEarlier g ds → AllEarlier g (ds ++ d ∷ [])
earlier-push g [] d h all = (lt-true d.place g h, tt)
earlier-push g (e ∷ ds) d h all = (all.0, earlier-push g ds d h all.1)

erased-in : (g b : ℕ) (o : Option ℕ) → b < g → erased_below g o ≡ o → erased_below g (first_of o b) ≡ first_of o b
erased-in g b None h e = ap (λ v. change_if v (Some b) None) (lt-true b g h)
erased-in g b (Some n) h e = e

in-if : (g b : ℕ) (v : Bool) (r : Record) → b < g → erased_below g r.erased ≡ r.erased → erased_below g (change_if v (erase_at b r) r).erased ≡ (change_if v (erase_at b r) r).erased
in-if g b true r h e = erased-in g b r.erased h e
in-if g b false r h e = e

in-erase : (g b : ℕ) (y : ClauseName) (rs : List Record) → b < g → AllIn g rs → AllIn g (changed_where (is_named y) (erase_at b) rs)
in-erase g b y [] h all = tt
in-erase g b y (r ∷ rs) h all = (below-if g b (is_named y r) r ∙ all.0, in-if g b (is_named y r) r h all.1, in-erase g b y rs h all.2)

in-keep : (g : ℕ) (x : ClauseName) (u : Update) (rs : List Record) → x.place < g → AllIn g rs → AllIn g (kept x u rs)
in-keep g x (First c) rs h all = in-push g rs x c true h all
in-keep g x (Last c) rs h all = in-push g rs x c false h all
in-keep g x (Erase y) rs h all = in-erase g x.place y rs h all
in-keep g x (EraseOwn k) rs h all = in-erase g x.place (named x.place k) rs h all
in-keep g x (Declare q) rs h all = all

earlier-keep : (g : ℕ) (x : ClauseName) (u : Update) (ds : List Declared) → x.place < g → AllEarlier g ds → AllEarlier g (noted x u ds)
earlier-keep g x (First c) ds h all = all
earlier-keep g x (Last c) ds h all = all
earlier-keep g x (Erase y) ds h all = all
earlier-keep g x (EraseOwn k) ds h all = all
earlier-keep g x (Declare q) ds h all = earlier-push g ds (record { pred = q; place = x.place }) h all

pub cut-below : (g : ℕ) (k : Kept) (s : Stamped) → s.at.place < g → cut g k ≡ k → cut g (keep k s) ≡ keep k s
cut-below g k s h e = ap₂ kept_of
    (in-cut g (keep_record k.records s) (in-keep g s.at s.update k.records h (cut-in g k.records (ap (λ (k : Kept). k.records) e))))
    (earlier-cut g (keep_declared k.declared s) (earlier-keep g s.at s.update k.declared h (cut-earlier g k.declared (ap (λ (k : Kept). k.declared) e))))

-- a cut and then another
erased-twice : (g h : ℕ) (o : Option ℕ) → g ≤ h → erased_below g (erased_below h o) ≡ erased_below g o
erased-twice g h None l = refl
erased-twice g h (Some e) l = by-case (nat_lt e h) refl
  where
    by-case : (v : Bool) → nat_lt e h ≡ v → erased_below g (change_if v (Some e) None) ≡ change_if (nat_lt e g) (Some e) None
    by-case true w = refl
    by-case false w = let m : g ≤ e = omega (arith, is-le e h w) in sym (ap (λ v. change_if v (Some e) None) (lt-false e g m))

records-twice : (g h : ℕ) (rs : List Record) → g ≤ h → records_cut g (records_cut h rs) ≡ records_cut g rs
records-twice g h [] l = refl
records-twice g h (r ∷ rs) l = ap (records_cut g) (cut-cons h r rs) ∙ by-case (is_below h r) refl (records-twice g h rs l) ∙ sym (cut-cons g r rs)
  where
    by-case : (v : Bool) → is_below h r ≡ v → records_cut g (records_cut h rs) ≡ records_cut g rs → records_cut g (cond v (restored h r ∷ records_cut h rs) (records_cut h rs)) ≡ cond (is_below g r) (restored g r ∷ records_cut g rs) (records_cut g rs)
    by-case true w rest = cut-cons g (restored h r) (records_cut h rs) ∙ ap₂ (λ o m. cond (is_below g r) (record r { erased = o } ∷ m) m) (erased-twice g h r.erased l) rest
    by-case false w rest = let m : g ≤ r.name.place = omega (arith, is-le r.name.place h w) in
        rest ∙ sym (ap (λ v. cond v (restored g r ∷ records_cut g rs) (records_cut g rs)) (lt-false r.name.place g m))

declared-twice : (g h : ℕ) (ds : List Declared) → g ≤ h → filter (is_before g) (filter (is_before h) ds) ≡ filter (is_before g) ds
declared-twice g h [] l = refl
declared-twice g h (d ∷ ds) l = by-case (is_before h d) refl (declared-twice g h ds l)
  where
    by-case : (v : Bool) → is_before h d ≡ v → filter (is_before g) (filter (is_before h) ds) ≡ filter (is_before g) ds → filter (is_before g) (cond v (d ∷ filter (is_before h) ds) (filter (is_before h) ds)) ≡ cond (is_before g d) (d ∷ filter (is_before g) ds) (filter (is_before g) ds)
    by-case true w rest = ap (λ l. cond (is_before g d) (d ∷ l) l) rest
    by-case false w rest = let m : g ≤ d.place = omega (arith, is-le d.place h w) in
        rest ∙ sym (ap (λ v. cond v (d ∷ filter (is_before g) ds) (filter (is_before g) ds)) (lt-false d.place g m))

pub cut-lower : (g h : ℕ) (k : Kept) → g ≤ h → cut g (cut h k) ≡ cut g k
cut-lower g h k l = ap₂ kept_of (records-twice g h k.records l) (declared-twice g h k.declared l)

-- what is all below h is all below g above it
erased-wider : (g h : ℕ) (o : Option ℕ) → h ≤ g → erased_below h o ≡ o → erased_below g o ≡ o
erased-wider g h None l e = refl
erased-wider g h (Some n) l e = by-case (nat_lt n h) refl e
  where
    by-case : (v : Bool) → nat_lt n h ≡ v → change_if v (Some n) None ≡ Some n → erased_below g (Some n) ≡ Some n
    by-case true w e = let m : n < g = omega (arith, is-lt n h w) in ap (λ v. change_if v (Some n) None) (lt-true n g m)
    by-case false w e = absurd (cc)

wider-in : (g h : ℕ) (rs : List Record) → h ≤ g → AllIn h rs → AllIn g rs
wider-in g h [] l all = tt
wider-in g h (r ∷ rs) l all = let m : r.name.place < g = omega (arith, is-lt r.name.place h all.0) in (lt-true r.name.place g m, erased-wider g h r.erased l all.1, wider-in g h rs l all.2)

wider-earlier : (g h : ℕ) (ds : List Declared) → h ≤ g → AllEarlier h ds → AllEarlier g ds
wider-earlier g h [] l all = tt
wider-earlier g h (d ∷ ds) l all = let m : d.place < g = omega (arith, is-lt d.place h all.0) in (lt-true d.place g m, wider-earlier g h ds l all.1)

pub cut-wider : (g h : ℕ) (k : Kept) → h ≤ g → cut h k ≡ k → cut g k ≡ k
cut-wider g h k l e = ap₂ kept_of
    (in-cut g k.records (wider-in g h k.records l (cut-in h k.records (ap (λ (k : Kept). k.records) e))))
    (earlier-cut g k.declared (wider-earlier g h k.declared l (cut-earlier h k.declared (ap (λ (k : Kept). k.declared) e))))

-- the places of the records are below
in-places : (b : ℕ) (rs : List Record) → AllIn b rs → AllBelowPlace b rs
in-places b [] all k d l = absurd (omega arith)
in-places b (r ∷ rs) all zero d l = is-lt r.name.place b all.0
in-places b (r ∷ rs) all (suc k) d l = in-places b rs all.2 k d (omega arith)

pub cut-places : (b : ℕ) (k : Kept) → cut b k ≡ k → AllBelowPlace b k.records
cut-places b k e = in-places b k.records (cut-in b k.records (ap (λ (k : Kept). k.records) e))

-- a cut of what is kept after all updates is what is kept after those below it
all-above : (g : ℕ) (us : List Stamped) (k : Kept) (b : ℕ) → g ≤ b → Rises b us → cut g (fold keep k us) ≡ cut g k
all-above g [] k b l up = refl
all-above g (s ∷ us) k b l up = let m : g ≤ s.at.place = omega (arith, up.0) in all-above g us (keep k s) s.at.place m up.1 ∙ cut-above g k s m

none-before : (g : ℕ) (us : List Stamped) (b : ℕ) → g ≤ b → Rises b us → before g us ≡ []
unfolding before
none-before g [] b l up = refl
none-before g (s ∷ us) b l up = let m : g ≤ s.at.place = omega (arith, up.0) in ap (λ v. cond v (s ∷ before g us) (before g us)) (lt-false s.at.place g m) ∙ none-before g us s.at.place m up.1

cut-from : (g : ℕ) (us : List Stamped) (k : Kept) (b : ℕ) → Rises b us → cut g k ≡ k → cut g (fold keep k us) ≡ fold keep k (before g us)
unfolding before
cut-from g [] k b up e = e
cut-from g (s ∷ us) k b up e = by-case (nat_lt s.at.place g) refl (λ h. cut-from g us (keep k s) s.at.place up.1 h)
  where
    by-case : (v : Bool) → nat_lt s.at.place g ≡ v → (cut g (keep k s) ≡ keep k s → cut g (fold keep (keep k s) us) ≡ fold keep (keep k s) (before g us)) → cut g (fold keep (keep k s) us) ≡ fold keep k (cond v (s ∷ before g us) (before g us))
    by-case true w rest = rest (cut-below g k s (is-lt s.at.place g w) e)
    by-case false w rest =
        all-above g us (keep k s) s.at.place (is-le s.at.place g w) up.1 ∙ cut-above g k s (is-le s.at.place g w) ∙ e
        ∙ sym (ap (fold keep k) (none-before g us s.at.place (is-le s.at.place g w) up.1))

pub cut-is : (g : ℕ) (us : List Stamped) → Rises 0 us → cut g (fold keep nothing us) ≡ fold keep nothing (before g us)
cut-is g us up = cut-from g us nothing 0 up refl

cut-under : (g : ℕ) (us : List Stamped) (k : Kept) → AllUnder g us → cut g k ≡ k → cut g (fold keep k us) ≡ fold keep k us
cut-under g [] k un e = e
cut-under g (s ∷ us) k un e = cut-under g us (keep k s) un.1 (cut-below g k s un.0 e)

-- what is kept of batches below g is as it was
pub under-cut : (g : ℕ) (us : List Stamped) → AllUnder g us → cut g (fold keep nothing us) ≡ fold keep nothing us
under-cut g us un = cut-under g us nothing un refl

pub cut-keeps : (g : ℕ) (us later : List Stamped) → AllUnder g us → Rises g later → cut g (fold keep nothing (us ++ later)) ≡ fold keep nothing us
cut-keeps g us later un up = ap (cut g) (fold-append keep nothing us later) ∙ all-above g later (fold keep nothing us) g (omega arith) up ∙ under-cut g us un
