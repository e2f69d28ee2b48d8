-- A look-up asks nothing twice, and what is behind a name is what is behind the next one and that one.
use Rattle.std.proofs.Common.{◌≡◌, ◌≢◌, Bool, true, false, cond, List, [], ◌∷◌, ◌++◌, filter, Option, Some, None, refl, sym, ap, ◌∙◌, subst, arith}
use Rattle.std.specs.List.{AllByRecursion}
use Rattle.std.proofs.lemmas.Bool.{false≢true}
use Rattle.std.proofs.lemmas.Bool.Decides.{nat_tests}
use Rattle.plterm.specs.Tree.{Tree}
use Rattle.plcells.specs.Store.{value}
use Rattle.plclause.specs.Indicators.{indicator}
use Rattle.plevent.specs.declared.update.ClauseName.{ClauseName}
use Rattle.plevent.specs.declared.update.Living.{Living}
use Rattle.plevent.specs.Alive.{Stamped, same_name, change_if, living, names_of}
use Rattle.plevent.specs.Keys.{first_key}
use Rattle.plstore.specs.declared.query.Query.{Query}
use Rattle.plrecords.specs.declared.record.Cursor.{Cursor}
use Rattle.plrecords.specs.declared.record.Cursor.TheVariants.{Start, After}
use Rattle.plrecords.specs.Kept.{head}
use Rattle.plstore.specs.Like.{fits, past, next_like_of}
use Rattle.plstore.specs.Looking.{NoneNamed, Apart}
use Rattle.plrecords.specs.Rising.{Ordered}
use Rattle.plstore.proofs.Names.{apart-alive}
use Rattle.plstack.specs.declared.frame.Use.{Use}
use Rattle.plstack.specs.declared.frame.Use.TheVariants as uses
use Rattle.plstack.specs.Places.{head_in}
use Rattle.plmachine.specs.declared.machine.Find.TheVariants as finds
use Rattle.plsolver.specs.Fetching.{like}
use Rattle.plsolver.specs.Asking.{AsksNoMore, AsksOnce, EachOnce, behind_asks, first_asks, names_asks, names_behind}

abbrev Absent : Query → List Query → Type 0
Absent q qs = AllByRecursion (λ r. q ≢ r) qs

same-self : (x : ClauseName) → same_name x x ≡ true
same-self x = grind (arith, nat_tests)

other-back : (x y : ClauseName) → same_name x y ≡ false → same_name y x ≡ false
other-back x y e = grind (arith, nat_tests)

other-is : (x y : ClauseName) → same_name x y ≡ false → x ≢ y
other-is x y e is = false≢true (sym e ∙ ap (same_name x) (sym is) ∙ same-self x)

-- ---- those behind a name

none-past : (z x : ClauseName) (ys : List Living) → NoneNamed z ys → NoneNamed z (past x ys)
none-past z x [] n = tt
none-past z x (y ∷ ys) n = elim (same_name x y.name) as (λ b. NoneNamed z (change_if b ys (past x ys))) [ true ↦ n.1 | false ↦ none-past z x ys n.1 ]

module _ (t : Living → Bool) where
  -- the first name that passes a test is that of none that the list has not
  first-other : (z y : ClauseName) (xs : List Living) → NoneNamed z xs → head (names_of (filter t xs)) ≡ Some y → same_name y z ≡ false
  first-other z y [] n e = absurd (cc)
  first-other z y (x ∷ xs) n e = by-case (t x) (first-other z y xs n.1) e
    where
      by-case : (b : Bool) → (head (names_of (filter t xs)) ≡ Some y → same_name y z ≡ false) → head (names_of (cond b (x ∷ filter t xs) (filter t xs))) ≡ Some y → same_name y z ≡ false
      by-case true r h = let is : x.name ≡ y = cc in other-back z y (subst (λ w. same_name z w ≡ false) is n.0)
      by-case false r h = r h

  -- where it stands first, those behind it follow
  first-then : (y : ClauseName) (xs : List Living) → Apart xs → head (names_of (filter t xs)) ≡ Some y → names_of (filter t xs) ≡ y ∷ names_of (filter t (past y xs))
  first-then y [] a e = absurd (cc)
  first-then y (x ∷ xs) a e = by-case (t x) (first-then y xs a.1) e
    where
      by-case : (b : Bool) → (head (names_of (filter t xs)) ≡ Some y → names_of (filter t xs) ≡ y ∷ names_of (filter t (past y xs))) → head (names_of (cond b (x ∷ filter t xs) (filter t xs))) ≡ Some y → names_of (cond b (x ∷ filter t xs) (filter t xs)) ≡ y ∷ names_of (filter t (past y (x ∷ xs)))
      by-case true r h =
          let is : x.name ≡ y = cc in
          subst (λ w. x.name ∷ names_of (filter t xs) ≡ w ∷ names_of (filter t (past w (x ∷ xs)))) is
          (ap (λ b. x.name ∷ names_of (filter t (change_if b xs (past x.name xs)))) (sym (same-self x.name)))
      by-case false r h =
          r h
          ∙ ap (λ b. y ∷ names_of (filter t (change_if b xs (past y xs)))) (sym (first-other x.name y xs a.0 h))

  -- and so behind a name
  next-then : (x y : ClauseName) (zs : List Living) → Apart zs → head (names_of (filter t (past x zs))) ≡ Some y → names_of (filter t (past x zs)) ≡ y ∷ names_of (filter t (past y zs))
  next-then x y [] a e = absurd (cc)
  next-then x y (z ∷ zs) a e = by-case (same_name x z.name) (next-then x y zs a.1) e
    where
      by-case : (b : Bool) → (head (names_of (filter t (past x zs))) ≡ Some y → names_of (filter t (past x zs)) ≡ y ∷ names_of (filter t (past y zs))) → head (names_of (filter t (change_if b zs (past x zs)))) ≡ Some y → names_of (filter t (change_if b zs (past x zs))) ≡ y ∷ names_of (filter t (past y (z ∷ zs)))
      by-case true r h =
          first-then y zs a.1 h
          ∙ ap (λ b. y ∷ names_of (filter t (change_if b zs (past y zs)))) (sym (first-other z.name y zs a.0 h))
      by-case false r h =
          r h
          ∙ ap (λ b. y ∷ names_of (filter t (change_if b zs (past y zs)))) (sym (first-other z.name y (past x zs) (none-past z.name x zs a.0) h))

-- a name and those behind it, if there is one
abbrev pub names_from_if : List Stamped → Tree → Option ClauseName → List ClauseName
names_from_if us h None = []
names_from_if us h (Some x) = x ∷ names_behind us h (After x)

-- behind a cursor are the next name and those behind it, if there is one
pub behind-next : (us : List Stamped) (h : Tree) (c : Cursor) (o : Option ClauseName) → Ordered us → next_like_of (first_key h) c (living us (indicator h)) ≡ o → names_behind us h c ≡ names_from_if us h o
behind-next us h c (Some y) ordered e = go c e
  where
    go : (c : Cursor) → next_like_of (first_key h) c (living us (indicator h)) ≡ Some y → names_behind us h c ≡ names_from_if us h (Some y)
    go Start e = first-then (fits (first_key h)) y (living us (indicator h)) (apart-alive (indicator h) us ordered) e
    go (After x) e = next-then (fits (first_key h)) x y (living us (indicator h)) (apart-alive (indicator h) us ordered) e
behind-next us h c None ordered e = go (names_behind us h c) e
  where
    go : (xs : List ClauseName) → head xs ≡ None → xs ≡ []
    go [] e = refl
    go (x ∷ xs) e = absurd (cc)

-- ---- each query once

like-other : (h : Tree) (x y : ClauseName) → same_name x y ≡ false → like h (After x) ≢ like h (After y)
like-other h x y e is = other-is x y e (cc)

clause-other : (x y : ClauseName) → same_name x y ≡ false → Query.Clause x ≢ Query.Clause y
clause-other x y e is = other-is x y e (cc)

module _ (h : Tree) (t : Living → Bool) where
  abbrev asked : List Living → List Query
  asked ys = names_asks h (names_of (filter t ys))

  -- where no clause has a name, neither of its queries is asked
  neither : (x : ClauseName) (ys : List Living) → NoneNamed x ys → Absent (Query.Clause x) (asked ys) × Absent (like h (After x)) (asked ys)
  neither x [] n = (tt, tt)
  neither x (y ∷ ys) n = by-case (t y) (neither x ys n.1)
    where
      by-case : (v : Bool) → Absent (Query.Clause x) (asked ys) × Absent (like h (After x)) (asked ys) →
          Absent (Query.Clause x) (names_asks h (names_of (cond v (y ∷ filter t ys) (filter t ys)))) × Absent (like h (After x)) (names_asks h (names_of (cond v (y ∷ filter t ys) (filter t ys))))
      by-case true r = ((clause-other x y.name n.0, ((λ is. cc), r.0)), ((λ is. cc), (like-other h x y.name n.0, r.1)))
      by-case false r = r

  each-once : (ys : List Living) → Apart ys → EachOnce (asked ys)
  each-once [] apart = tt
  each-once (y ∷ ys) apart = by-case (t y) (neither y.name ys apart.0) (each-once ys apart.1)
    where
      by-case : (v : Bool) → Absent (Query.Clause y.name) (asked ys) × Absent (like h (After y.name)) (asked ys) → EachOnce (asked ys) → EachOnce (names_asks h (names_of (cond v (y ∷ filter t ys) (filter t ys))))
      by-case true n once = (((λ is. cc), n.0), (n.1, once))
      by-case false n once = once

-- what is no query of a name is absent
absent-all : (h : Tree) (q : Query) → ((x : ClauseName) → (q ≢ Query.Clause x) × (q ≢ like h (After x))) → (xs : List ClauseName) → Absent q (names_asks h xs)
absent-all h q other [] = tt
absent-all h q other (x ∷ xs) = ((other x).0, ((other x).1, absent-all h q other xs))

starts-apart : (h : Tree) (xs : List ClauseName) → Absent (like h Start) (names_asks h xs)
starts-apart h xs = absent-all h (like h Start) (λ x. (λ is. cc, λ is. cc)) xs

exists-apart : (h : Tree) (xs : List ClauseName) → Absent (Query.Exists (indicator h)) (names_asks h xs)
exists-apart h xs = absent-all h (Query.Exists (indicator h)) (λ x. (λ is. cc, λ is. cc)) xs

module _ (us : List Stamped) (h : Tree) (ordered : Ordered us) where
  names-once : EachOnce (names_asks h (names_behind us h Start))
  names-once = each-once h (fits (first_key h)) (living us (indicator h)) (apart-alive (indicator h) us ordered)

  first-once : (u : Use) (xs : List ClauseName) → EachOnce (names_asks h xs) → EachOnce (like h Start ∷ first_asks u h xs)
  first-once uses.Call [] o = (((λ is. cc), tt), (tt, tt))
  first-once uses.Tell [] o = (tt, tt)
  first-once uses.Erase [] o = (tt, tt)
  first-once u (x ∷ xs) o = (starts-apart h (x ∷ xs), o)

  all-once : EachOnce (Query.Exists (indicator h) ∷ behind_asks us h Start)
  all-once = (((λ is. cc), exists-apart h (names_behind us h Start)), (starts-apart h (names_behind us h Start), names-once))

pub asks_once : AsksOnce
asks_once v s (finds.First x g) first ordered = let h = head_in x.uses (value s x.goal) in first-once (v g.place) h ordered x.uses (names_behind (v g.place) h Start) (names-once (v g.place) h ordered)
asks_once v s (finds.Exists c g) first ordered = (tt, tt)
asks_once v s (finds.All c g) first ordered = all-once (v g.place) (value s c) ordered
asks_once v s (finds.Sweep c w) first ordered = absurd first

-- ---- what was asked is asked no more

absent-last : (q : Query) (xs ys : List Query) → Absent q (xs ++ ys) → Absent q ys
absent-last q [] ys a = a
absent-last q (x ∷ xs) ys a = absent-last q xs ys a.1

once-last : (xs ys : List Query) → EachOnce (xs ++ ys) → EachOnce ys
once-last [] ys a = a
once-last (x ∷ xs) ys a = once-last xs ys a.1

absent-among : (b q : Query) (before gone behind : List Query) → Absent b (before ++ (q ∷ (gone ++ behind))) → (b ≢ q) × Absent b (before ++ behind)
absent-among b q [] gone behind a = (a.0, absent-last b gone behind a.1)
absent-among b q (x ∷ before) gone behind a = let r = absent-among b q before gone behind a.1 in (r.0, (a.0, r.1))

spent : (q : Query) (before gone behind : List Query) → EachOnce (before ++ (q ∷ (gone ++ behind))) → Absent q (before ++ behind) × EachOnce (before ++ behind)
spent q [] gone behind a = (absent-last q gone behind a.0, once-last gone behind a.1)
spent q (b ∷ before) gone behind a =
    let r = spent q before gone behind a.1 in
    let n = absent-among b q before gone behind a.0 in
    (((λ is. n.0 (sym is)), r.0), (n.1, r.1))

pub asks_no_more : AsksNoMore
asks_no_more old new q s once = subst (λ qs. Absent q qs × EachOnce qs) (sym s.is) (spent q s.before s.gone s.behind (subst EachOnce s.was once))
