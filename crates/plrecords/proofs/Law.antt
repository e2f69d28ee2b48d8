-- The walk over the records is the list of clauses alive, at every place.
use Rattle.std.specs.Prelude.{ℕ, ◌≤◌, ◌<◌, Bool, true, false, ◌||◌, ◌&&◌, not, List, [], ◌∷◌, ◌++◌, filter, reverse, fold, nat_eq, nat_lt, Option, Some, None, cond}
use Rattle.std.proofs.Common.{◌≡◌, refl, sym, ◌∙◌, ap, ap₂, arith, append_assoc}
use Rattle.std.proofs.lemmas.List.{reverse-append, append-nil}
use Rattle.std.proofs.lemmas.List.Elements.{filter-append}
use Rattle.std.proofs.lemmas.Bool.Decides.{nat_tests}
use Rattle.plevent.specs.declared.update.Update.{Update}
use Rattle.plevent.specs.declared.update.Update.TheVariants.{First, Last, Erase, EraseOwn, Declare}
use Rattle.plclause.specs.Clause.{Clause}
use Rattle.plevent.specs.declared.update.ClauseName.{ClauseName}
use Rattle.plterm.specs.declared.indicator.Indicator.{Indicator}
use Rattle.plevent.specs.declared.update.Living.{Living}
use Rattle.plevent.specs.Alive.{Stamped, same_name, is_of, named, change_if, lives_as, changed, change, without, living, before, lives, is_alive}
use Rattle.std.specs.List.{list_any}
use Rattle.plrecords.specs.declared.record.Record.{Record}
use Rattle.plrecords.specs.Rising.{Rises, AllUnder}
use Rattle.plrecords.specs.Kept.{changed_where, made, first_of, erase_at, is_named, kept, keep_record, not_below, seen, in_front, behind_all, livings, picked, walk, is_here}

abbrev pub own : Record → Living
own r = lives_as r.name r.clause

abbrev pub cons_if : Bool → Living → List Living → List Living
cons_if b x xs = cond b (x ∷ xs) xs

and-false : (b : Bool) → b && false ≡ false
and-false true = refl
and-false false = refl

and-true : (b : Bool) → b && true ≡ b
and-true true = refl
and-true false = refl

-- a test that an erasure leaves alone
abbrev Steady : (Record → Bool) → Type 0
Steady side = (b : ℕ) (r : Record) → side (erase_at b r) ≡ side r

-- no erasure stands above b
abbrev pub ErasedBy : ℕ → Option ℕ → Type 0
ErasedBy b None = Unit {0}
ErasedBy b (Some e) = e ≤ b

abbrev pub AllErasedBy : ℕ → List Record → Type 0
AllErasedBy b [] = Unit {0}
AllErasedBy b (r ∷ rs) = ErasedBy b r.erased × AllErasedBy b rs

livings-if : (b : Bool) (r : Record) (rs : List Record) → livings (cond b (r ∷ rs) rs) ≡ cons_if b (own r) (livings rs)
livings-if true r rs = refl
livings-if false r rs = refl

pub picked-cons : (side : Record → Bool) (g : ℕ) (r : Record) (rs : List Record) → picked side g (r ∷ rs) ≡ cons_if (seen g r && side r) (own r) (picked side g rs)
picked-cons side g r rs = livings-if (seen g r && side r) r (filter (λ x. seen g x && side x) rs)

livings-append : (xs ys : List Record) → livings (xs ++ ys) ≡ livings xs ++ livings ys
livings-append [] ys = refl
livings-append (x ∷ xs) ys = ap (λ l. own x ∷ l) (livings-append xs ys)

pub picked-append : (side : Record → Bool) (g : ℕ) (rs qs : List Record) → picked side g (rs ++ qs) ≡ picked side g rs ++ picked side g qs
picked-append side g rs qs = ap livings (filter-append (λ x. seen g x && side x) rs qs) ∙ livings-append (filter (λ x. seen g x && side x) rs) (filter (λ x. seen g x && side x) qs)

without-if : (y : ClauseName) (b : Bool) (x : Living) (xs : List Living) → without y (cons_if b x xs) ≡ cons_if (b && not (same_name x.name y)) x (without y xs)
without-if y true x xs = refl
without-if y false x xs = refl

lt-true : (a b : ℕ) → a < b → nat_lt a b ≡ true
lt-true a b h = grind (arith, nat_tests)

lt-false : (a b : ℕ) → b ≤ a → nat_lt a b ≡ false
lt-false a b h = grind (arith, nat_tests)

hidden-erased : (b g : ℕ) (o : Option ℕ) → b < g → ErasedBy b o → not_below g (first_of o b) ≡ false
hidden-erased b g None h _ = ap not (lt-true b g h)
hidden-erased b g (Some e) h k = let l : e < g = omega arith in ap not (lt-true e g l)

shown-erased : (b g : ℕ) (o : Option ℕ) → g ≤ b → not_below g (first_of o b) ≡ not_below g o
shown-erased b g None h = ap not (lt-false b g h)
shown-erased b g (Some e) h = refl

hidden : (side : Record → Bool) (b g : ℕ) (r : Record) → b < g → ErasedBy b r.erased → seen g (erase_at b r) && side (erase_at b r) ≡ false
hidden side b g r h k = ap (λ v. (nat_lt r.name.place g && v) && side (erase_at b r)) (hidden-erased b g r.erased h k) ∙ ap (λ v. v && side (erase_at b r)) (and-false (nat_lt r.name.place g))

shown : (side : Record → Bool) (steady : Steady side) (b g : ℕ) (r : Record) → g ≤ b → seen g (erase_at b r) && side (erase_at b r) ≡ seen g r && side r
shown side steady b g r h = ap₂ (λ u v. (nat_lt r.name.place g && u) && v) (shown-erased b g r.erased h) (steady b r)

own-kept : (v : Bool) (b : ℕ) (r : Record) → own (change_if v (erase_at b r) r) ≡ own r
own-kept true b r = refl
own-kept false b r = refl

name-kept : (v : Bool) (b : ℕ) (r : Record) → (change_if v (erase_at b r) r).name ≡ r.name
name-kept true b r = refl
name-kept false b r = refl

-- an erasure at b hides the record from each g above b
still-after : (side : Record → Bool) (b g : ℕ) (r : Record) → b < g → ErasedBy b r.erased → (v : Bool) →
    seen g (change_if v (erase_at b r) r) && side (change_if v (erase_at b r) r) ≡ (seen g r && side r) && not v
still-after side b g r h k true = hidden side b g r h k ∙ sym (and-false (seen g r && side r))
still-after side b g r h k false = sym (and-true (seen g r && side r))

picked-erase-after : (side : Record → Bool) (b g : ℕ) (y : ClauseName) (rs : List Record) → b < g → AllErasedBy b rs →
    picked side g (changed_where (is_named y) (erase_at b) rs) ≡ without y (picked side g rs)
picked-erase-after side b g y [] h all = refl
picked-erase-after side b g y (r ∷ rs) h all =
    let v = same_name r.name y in
    picked-cons side g (change_if v (erase_at b r) r) (changed_where (is_named y) (erase_at b) rs)
    ∙ ap (λ l. cons_if (seen g (change_if v (erase_at b r) r) && side (change_if v (erase_at b r) r)) (own (change_if v (erase_at b r) r)) l) (picked-erase-after side b g y rs h all.1)
    ∙ ap₂ (λ u x. cons_if u x (without y (picked side g rs))) (still-after side b g r h all.0 v) (own-kept v b r)
    ∙ sym (without-if y (seen g r && side r) (own r) (picked side g rs))
    ∙ ap (without y) (sym (picked-cons side g r rs))

-- and from no g up to b
still-before : (side : Record → Bool) (steady : Steady side) (b g : ℕ) (r : Record) → g ≤ b → (v : Bool) →
    seen g (change_if v (erase_at b r) r) && side (change_if v (erase_at b r) r) ≡ seen g r && side r
still-before side steady b g r h true = shown side steady b g r h
still-before side steady b g r h false = refl

picked-erase-before : (side : Record → Bool) (steady : Steady side) (b g : ℕ) (y : ClauseName) (rs : List Record) → g ≤ b →
    picked side g (changed_where (is_named y) (erase_at b) rs) ≡ picked side g rs
picked-erase-before side steady b g y [] h = refl
picked-erase-before side steady b g y (r ∷ rs) h =
    let v = same_name r.name y in
    picked-cons side g (change_if v (erase_at b r) r) (changed_where (is_named y) (erase_at b) rs)
    ∙ ap (λ l. cons_if (seen g (change_if v (erase_at b r) r) && side (change_if v (erase_at b r) r)) (own (change_if v (erase_at b r) r)) l) (picked-erase-before side steady b g y rs h)
    ∙ ap₂ (λ u x. cons_if u x (picked side g rs)) (still-before side steady b g r h v) (own-kept v b r)
    ∙ sym (picked-cons side g r rs)

-- the walk under each update
without-reverse : (y : ClauseName) (xs : List Living) → without y (reverse xs) ≡ reverse (without y xs)
without-reverse y [] = refl
without-reverse y (x ∷ xs) =
    ap (without y) (reverse-append (x ∷ []) xs) ∙ filter-append (λ z. not (same_name z.name y)) (reverse xs) (x ∷ [])
    ∙ ap (λ l. l ++ without y (x ∷ [])) (without-reverse y xs)
    ∙ last-one (not (same_name x.name y))
  where
    last-one : (b : Bool) → reverse (without y xs) ++ cond b (x ∷ []) [] ≡ reverse (cond b (x ∷ without y xs) (without y xs))
    last-one true = sym (reverse-append (x ∷ []) (without y xs))
    last-one false = append-nil (reverse (without y xs))

pub walk-erase-after : (b g : ℕ) (p : Indicator) (y : ClauseName) (rs : List Record) → b < g → AllErasedBy b rs →
    walk g p (changed_where (is_named y) (erase_at b) rs) ≡ without y (walk g p rs)
unfolding walk
walk-erase-after b g p y rs h all =
    ap₂ (λ u v. reverse u ++ v) (picked-erase-after (in_front p) b g y rs h all) (picked-erase-after (behind_all p) b g y rs h all)
    ∙ ap (λ l. l ++ without y (picked (behind_all p) g rs)) (sym (without-reverse y (picked (in_front p) g rs)))
    ∙ sym (filter-append (λ z. not (same_name z.name y)) (reverse (picked (in_front p) g rs)) (picked (behind_all p) g rs))

pub walk-erase-before : (b g : ℕ) (p : Indicator) (y : ClauseName) (rs : List Record) → g ≤ b →
    walk g p (changed_where (is_named y) (erase_at b) rs) ≡ walk g p rs
unfolding walk
walk-erase-before b g p y rs h =
    ap₂ (λ u v. reverse u ++ v) (picked-erase-before (in_front p) (λ b r. refl) b g y rs h) (picked-erase-before (behind_all p) (λ b r. refl) b g y rs h)

-- one more clause
one-more : (side : Record → Bool) (g : ℕ) (rs : List Record) (r : Record) (v : Bool) → seen g r && side r ≡ v →
    picked side g (rs ++ r ∷ []) ≡ picked side g rs ++ cons_if v (own r) []
one-more side g rs r v e = picked-append side g rs (r ∷ []) ∙ ap (λ l. picked side g rs ++ l) (picked-cons side g r [] ∙ ap (λ u. cons_if u (own r) []) e)

made-below : (g : ℕ) (x : ClauseName) (s : Bool) → x.place < g → (nat_lt x.place g && true) && s ≡ s
made-below g x s h = ap (λ v. (v && true) && s) (lt-true x.place g h)

made-above : (g : ℕ) (x : ClauseName) (s : Bool) → g ≤ x.place → (nat_lt x.place g && true) && s ≡ false
made-above g x s h = ap (λ v. (v && true) && s) (lt-false x.place g h)

front-more : (b : Bool) (x : Living) (us vs : List Living) → reverse (us ++ cons_if b x []) ++ vs ≡ change_if b (x ∷ reverse us ++ vs) (reverse us ++ vs)
front-more true x us vs = ap (λ l. l ++ vs) (reverse-append us (x ∷ []))
front-more false x us vs = ap (λ l. reverse l ++ vs) (append-nil us)

back-more : (b : Bool) (x : Living) (us vs : List Living) → us ++ (vs ++ cons_if b x []) ≡ change_if b ((us ++ vs) ++ x ∷ []) (us ++ vs)
back-more true x us vs = sym (append_assoc us vs (x ∷ []))
back-more false x us vs = ap (λ l. us ++ l) (append-nil vs)

pub walk-first-after : (g : ℕ) (p : Indicator) (x : ClauseName) (c : Clause) (rs : List Record) → x.place < g →
    walk g p (rs ++ made x c true ∷ []) ≡ change_if (is_of p c) (lives_as x c ∷ walk g p rs) (walk g p rs)
unfolding walk
walk-first-after g p x c rs h =
    ap₂ (λ u v. reverse u ++ v)
    (one-more (in_front p) g rs (made x c true) (is_of p c) (made-below g x (is_of p c) h))
    (one-more (behind_all p) g rs (made x c true) false (made-below g x false h) ∙ append-nil (picked (behind_all p) g rs))
    ∙ front-more (is_of p c) (lives_as x c) (picked (in_front p) g rs) (picked (behind_all p) g rs)

pub walk-last-after : (g : ℕ) (p : Indicator) (x : ClauseName) (c : Clause) (rs : List Record) → x.place < g →
    walk g p (rs ++ made x c false ∷ []) ≡ change_if (is_of p c) (walk g p rs ++ lives_as x c ∷ []) (walk g p rs)
unfolding walk
walk-last-after g p x c rs h =
    ap₂ (λ u v. reverse u ++ v)
    (one-more (in_front p) g rs (made x c false) false (made-below g x false h) ∙ append-nil (picked (in_front p) g rs))
    (one-more (behind_all p) g rs (made x c false) (is_of p c) (made-below g x (is_of p c) h))
    ∙ back-more (is_of p c) (lives_as x c) (reverse (picked (in_front p) g rs)) (picked (behind_all p) g rs)

pub walk-made-before : (g : ℕ) (p : Indicator) (x : ClauseName) (c : Clause) (f : Bool) (rs : List Record) → g ≤ x.place →
    walk g p (rs ++ made x c f ∷ []) ≡ walk g p rs
unfolding walk
walk-made-before g p x c f rs h =
    ap₂ (λ u v. reverse u ++ v)
    (one-more (in_front p) g rs (made x c f) false (made-above g x (f && is_of p c) h) ∙ append-nil (picked (in_front p) g rs))
    (one-more (behind_all p) g rs (made x c f) false (made-above g x (not f && is_of p c) h) ∙ append-nil (picked (behind_all p) g rs))

-- one update, above and below
pub walk-keep-after : (g : ℕ) (p : Indicator) (x : ClauseName) (u : Update) (rs : List Record) → x.place < g → AllErasedBy x.place rs →
    walk g p (kept x u rs) ≡ changed p x u (walk g p rs)
walk-keep-after g p x (First c) rs h all = walk-first-after g p x c rs h
walk-keep-after g p x (Last c) rs h all = walk-last-after g p x c rs h
walk-keep-after g p x (Erase y) rs h all = walk-erase-after x.place g p y rs h all
walk-keep-after g p x (EraseOwn k) rs h all = walk-erase-after x.place g p (named x.place k) rs h all
walk-keep-after g p x (Declare q) rs h all = refl

pub walk-keep-before : (g : ℕ) (p : Indicator) (x : ClauseName) (u : Update) (rs : List Record) → g ≤ x.place →
    walk g p (kept x u rs) ≡ walk g p rs
walk-keep-before g p x (First c) rs h = walk-made-before g p x c true rs h
walk-keep-before g p x (Last c) rs h = walk-made-before g p x c false rs h
walk-keep-before g p x (Erase y) rs h = walk-erase-before x.place g p y rs h
walk-keep-before g p x (EraseOwn k) rs h = walk-erase-before x.place g p (named x.place k) rs h
walk-keep-before g p x (Declare q) rs h = refl

-- erasures rise with the places
AllErasedBy-push : (b : ℕ) (rs : List Record) (x : ClauseName) (c : Clause) (f : Bool) → AllErasedBy b rs → AllErasedBy b (rs ++ made x c f ∷ [])
AllErasedBy-push b [] x c f h = (tt, tt)
AllErasedBy-push b (r ∷ rs) x c f h = (h.0, AllErasedBy-push b rs x c f h.1)

erased-by : (b : ℕ) (o : Option ℕ) → ErasedBy b o → ErasedBy b (first_of o b)
erased-by b None h = omega arith
erased-by b (Some e) h = h

erased-if : (v : Bool) (b : ℕ) (r : Record) → ErasedBy b r.erased → ErasedBy b (change_if v (erase_at b r) r).erased
erased-if true b r h = erased-by b r.erased h
erased-if false b r h = h

AllErasedBy-erase : (b : ℕ) (y : ClauseName) (rs : List Record) → AllErasedBy b rs → AllErasedBy b (changed_where (is_named y) (erase_at b) rs)
AllErasedBy-erase b y [] h = tt
AllErasedBy-erase b y (r ∷ rs) h = (erased-if (same_name r.name y) b r h.0, AllErasedBy-erase b y rs h.1)

pub AllErasedBy-keep : (x : ClauseName) (u : Update) (rs : List Record) → AllErasedBy x.place rs → AllErasedBy x.place (kept x u rs)
AllErasedBy-keep x (First c) rs h = AllErasedBy-push x.place rs x c true h
AllErasedBy-keep x (Last c) rs h = AllErasedBy-push x.place rs x c false h
AllErasedBy-keep x (Erase y) rs h = AllErasedBy-erase x.place y rs h
AllErasedBy-keep x (EraseOwn k) rs h = AllErasedBy-erase x.place (named x.place k) rs h
AllErasedBy-keep x (Declare q) rs h = h

erased-more : (a b : ℕ) (o : Option ℕ) → a ≤ b → ErasedBy a o → ErasedBy b o
erased-more a b None h k = tt
erased-more a b (Some e) h k = omega arith

pub AllErasedBy-more : (a b : ℕ) (rs : List Record) → a ≤ b → AllErasedBy a rs → AllErasedBy b rs
AllErasedBy-more a b [] h k = tt
AllErasedBy-more a b (r ∷ rs) h k = (erased-more a b r.erased h k.0, AllErasedBy-more a b rs h k.1)

below-or : (v : Bool) (a b : ℕ) → nat_lt a b ≡ v → cond v (a < b) (b ≤ a)
below-or true a b e = grind (arith, nat_tests)
below-or false a b e = grind (arith, nat_tests)

-- the records after more updates give the walk changed by those below g
pub walk-keeps : (g : ℕ) (p : Indicator) (b : ℕ) (us : List Stamped) (rs : List Record) → Rises b us → AllErasedBy b rs →
    walk g p (fold keep_record rs us) ≡ fold (change p) (walk g p rs) (before g us)
unfolding before
walk-keeps g p b [] rs up all = refl
walk-keeps g p b (s ∷ us) rs up all =
    let k : AllErasedBy s.at.place rs = AllErasedBy-more b s.at.place rs up.0 all in
    walk-keeps g p s.at.place us (keep_record rs s) up.1 (AllErasedBy-keep s.at s.update rs k)
    ∙ here (nat_lt s.at.place g) refl k
  where
    here : (v : Bool) → nat_lt s.at.place g ≡ v → AllErasedBy s.at.place rs →
        fold (change p) (walk g p (keep_record rs s)) (before g us) ≡ fold (change p) (walk g p rs) (cond v (s ∷ before g us) (before g us))
    here true e k = ap (λ l. fold (change p) l (before g us)) (walk-keep-after g p s.at s.update rs (below-or true s.at.place g e) k)
    here false e k = ap (λ l. fold (change p) l (before g us)) (walk-keep-before g p s.at s.update rs (below-or false s.at.place g e))

-- the walk is the clauses alive of the batches below g
pub walk-alive : (g : ℕ) (p : Indicator) (us : List Stamped) → Rises 0 us → walk g p (fold keep_record [] us) ≡ living (before g us) p
unfolding living walk
walk-alive g p us up = walk-keeps g p 0 us [] up tt

-- later batches change no earlier walk
pub walk-stays : (g : ℕ) (p : Indicator) (us : List Stamped) (rs : List Record) → Rises g us → walk g p (fold keep_record rs us) ≡ walk g p rs
walk-stays g p [] rs up = refl
walk-stays g p (s ∷ us) rs up =
    walk-stays g p us (keep_record rs s) (lower us up.1) ∙ walk-keep-before g p s.at s.update rs up.0
  where
    lower : (us : List Stamped) → Rises s.at.place us → Rises g us
    lower [] h = tt
    lower (u ∷ us) h = let l : g ≤ u.at.place = omega (arith, up.0, h.0) in (l, h.1)

-- a name is alive in the records exactly where it is after the updates
any-append : (t : Record → Bool) (rs qs : List Record) → list_any t (rs ++ qs) ≡ list_any t rs || list_any t qs
any-append t [] qs = refl
any-append t (r ∷ rs) qs = ap (λ v. t r || v) (any-append t rs qs) ∙ or-assoc (t r) (list_any t rs) (list_any t qs)
  where
    or-assoc : (a b c : Bool) → a || (b || c) ≡ (a || b) || c
    or-assoc true b c = refl
    or-assoc false b c = refl

or-false : (b : Bool) → b || false ≡ b
or-false true = refl
or-false false = refl

made-here : (a l s : Bool) → l ≡ true → (a || ((s && (l && true)) || false)) ≡ ((a || s) && true)
made-here true l s e = refl
made-here false l true e = ap (λ v. v || false) (and-true l) ∙ or-false l ∙ e
made-here false l false e = refl

pub same-swap : (a b y : ClauseName) → same_name a b ≡ true → same_name a y ≡ same_name b y
same-swap a b y h = let p : a.place ≡ b.place = grind (arith, nat_tests) in let q : a.number ≡ b.number = grind (arith, nat_tests) in ap₂ (λ m n. nat_eq m y.place && nat_eq n y.number) p q

here-erased : (g b : ℕ) (x y : ClauseName) (r : Record) → b < g → ErasedBy b r.erased → (v n : Bool) → is_named x r ≡ v → same_name r.name y ≡ n →
    is_here g x (change_if n (erase_at b r) r) ≡ is_here g x r && not (same_name x y)
here-erased g b x y r h k false n e d = ap (λ v. v && seen g (change_if n (erase_at b r) r)) (ap (λ m. same_name m x) (name-kept n b r) ∙ e) ∙ sym (ap (λ v. (v && seen g r) && not (same_name x y)) e)
here-erased g b x y r h k true true e d =
    let f : same_name x y ≡ true = sym (same-swap r.name x y e) ∙ d in
    ap (λ v. v && seen g (erase_at b r)) e ∙ ap (λ v. nat_lt r.name.place g && v) (hidden-erased b g r.erased h k) ∙ and-false (nat_lt r.name.place g)
    ∙ sym (ap (λ v. is_here g x r && not v) f ∙ and-false (is_here g x r))
here-erased g b x y r h k true false e d =
    let f : same_name x y ≡ false = sym (same-swap r.name x y e) ∙ d in
    sym (ap (λ v. is_here g x r && not v) f ∙ and-true (is_here g x r))

or-and : (a b n : Bool) → (a && n) || (b && n) ≡ (a || b) && n
or-and true true true = refl
or-and true true false = refl
or-and true false true = refl
or-and true false false = refl
or-and false b n = refl

here-erase : (g b : ℕ) (x y : ClauseName) (rs : List Record) → b < g → AllErasedBy b rs →
    list_any (is_here g x) (changed_where (is_named y) (erase_at b) rs) ≡ list_any (is_here g x) rs && not (same_name x y)
here-erase g b x y [] h k = refl
here-erase g b x y (r ∷ rs) h k =
    ap₂ (λ u v. u || v) (here-erased g b x y r h k.0 (is_named x r) (same_name r.name y) refl refl) (here-erase g b x y rs h k.1)
    ∙ or-and (is_here g x r) (list_any (is_here g x) rs) (not (same_name x y))

pub here-keep : (g : ℕ) (x : ClauseName) (s : Stamped) (rs : List Record) → s.at.place < g → AllErasedBy s.at.place rs →
    list_any (is_here g x) (keep_record rs s) ≡ lives x (list_any (is_here g x) rs) s
here-keep g x s rs h k = by-case s.update
  where
    by-case : (u : Update) → list_any (is_here g x) (kept s.at u rs) ≡ lives x (list_any (is_here g x) rs) (record { at = s.at; update = u })
    by-case (First c) = any-append (is_here g x) rs (made s.at c true ∷ []) ∙ made-here (list_any (is_here g x) rs) (nat_lt s.at.place g) (same_name s.at x) (lt-true s.at.place g h)
    by-case (Last c) = any-append (is_here g x) rs (made s.at c false ∷ []) ∙ made-here (list_any (is_here g x) rs) (nat_lt s.at.place g) (same_name s.at x) (lt-true s.at.place g h)
    by-case (Erase y) = here-erase g s.at.place x y rs h k ∙ ap (λ v. v && not (same_name x y)) (sym (or-false (list_any (is_here g x) rs)))
    by-case (EraseOwn n) = here-erase g s.at.place x (named s.at.place n) rs h k ∙ ap (λ v. v && not (same_name x (named s.at.place n))) (sym (or-false (list_any (is_here g x) rs)))
    by-case (Declare q) = sym (and-true (list_any (is_here g x) rs || false) ∙ or-false (list_any (is_here g x) rs))

pub here-keeps : (g : ℕ) (x : ClauseName) (b : ℕ) (us : List Stamped) (rs : List Record) → Rises b us → AllUnder g us → AllErasedBy b rs →
    list_any (is_here g x) (fold keep_record rs us) ≡ fold (lives x) (list_any (is_here g x) rs) us
here-keeps g x b [] rs up un all = refl
here-keeps g x b (s ∷ us) rs up un all =
    let k : AllErasedBy s.at.place rs = AllErasedBy-more b s.at.place rs up.0 all in
    here-keeps g x s.at.place us (keep_record rs s) up.1 un.1 (AllErasedBy-keep s.at s.update rs k)
    ∙ ap (λ v. fold (lives x) v us) (here-keep g x s rs un.0 k)

pub here-alive : (g : ℕ) (x : ClauseName) (us : List Stamped) → Rises 0 us → AllUnder g us → list_any (is_here g x) (fold keep_record [] us) ≡ is_alive x us
unfolding is_alive
here-alive g x us up un = here-keeps g x 0 us [] up un tt

-- the same at any place: what stands at or above it changes nothing
skip-made : (a l s : Bool) → l ≡ false → a || ((s && (l && true)) || false) ≡ a
skip-made true l s e = refl
skip-made false l true e = ap (λ v. (v && true) || false) e
skip-made false l false e = refl

skip-erased : (g b : ℕ) (x : ClauseName) (r : Record) → g ≤ b → (n : Bool) → is_here g x (change_if n (erase_at b r) r) ≡ is_here g x r
skip-erased g b x r h true = ap (λ v. is_named x r && (nat_lt r.name.place g && v)) (shown-erased b g r.erased h)
skip-erased g b x r h false = refl

skip-erase : (g b : ℕ) (x y : ClauseName) (rs : List Record) → g ≤ b → list_any (is_here g x) (changed_where (is_named y) (erase_at b) rs) ≡ list_any (is_here g x) rs
skip-erase g b x y [] h = refl
skip-erase g b x y (r ∷ rs) h = ap₂ (λ u v. u || v) (skip-erased g b x r h (same_name r.name y)) (skip-erase g b x y rs h)

here-skip : (g : ℕ) (x : ClauseName) (s : Stamped) (rs : List Record) → g ≤ s.at.place → list_any (is_here g x) (keep_record rs s) ≡ list_any (is_here g x) rs
here-skip g x s rs h = by-case s.update
  where
    by-case : (u : Update) → list_any (is_here g x) (kept s.at u rs) ≡ list_any (is_here g x) rs
    by-case (First c) = any-append (is_here g x) rs (made s.at c true ∷ []) ∙ skip-made (list_any (is_here g x) rs) (nat_lt s.at.place g) (same_name s.at x) (lt-false s.at.place g h)
    by-case (Last c) = any-append (is_here g x) rs (made s.at c false ∷ []) ∙ skip-made (list_any (is_here g x) rs) (nat_lt s.at.place g) (same_name s.at x) (lt-false s.at.place g h)
    by-case (Erase y) = skip-erase g s.at.place x y rs h
    by-case (EraseOwn n) = skip-erase g s.at.place x (named s.at.place n) rs h
    by-case (Declare q) = refl

pub here-at : (g : ℕ) (x : ClauseName) (b : ℕ) (us : List Stamped) (rs : List Record) → Rises b us → AllErasedBy b rs →
    list_any (is_here g x) (fold keep_record rs us) ≡ fold (lives x) (list_any (is_here g x) rs) (before g us)
unfolding before
here-at g x b [] rs up all = refl
here-at g x b (s ∷ us) rs up all =
    let k : AllErasedBy s.at.place rs = AllErasedBy-more b s.at.place rs up.0 all in
    here-at g x s.at.place us (keep_record rs s) up.1 (AllErasedBy-keep s.at s.update rs k)
    ∙ step (nat_lt s.at.place g) refl k
  where
    step : (v : Bool) → nat_lt s.at.place g ≡ v → AllErasedBy s.at.place rs →
        fold (lives x) (list_any (is_here g x) (keep_record rs s)) (before g us) ≡ fold (lives x) (list_any (is_here g x) rs) (cond v (s ∷ before g us) (before g us))
    step true e k = ap (λ v. fold (lives x) v (before g us)) (here-keep g x s rs (below-or true s.at.place g e) k)
    step false e k = ap (λ v. fold (lives x) v (before g us)) (here-skip g x s rs (below-or false s.at.place g e))

pub alive-at : (g : ℕ) (x : ClauseName) (us : List Stamped) → Rises 0 us → list_any (is_here g x) (fold keep_record [] us) ≡ is_alive x (before g us)
unfolding is_alive
alive-at g x us up = here-at g x 0 us [] up tt
