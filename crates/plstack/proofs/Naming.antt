-- Lists that fit in open cases: what stays of it where cases are opened, emptied or closed, and where terms change.
use Rattle.std.proofs.Common.{◌≡◌, ℕ, zero, suc, ◌+◌, ◌<◌, ◌≤◌, ◌⊎◌, inl, inr, Bool, true, false, List, [], ◌∷◌, ◌++◌, length, map, refl, sym, ap, ap₂, ◌∙◌, subst, arith, le_refl, Option, None, Some, option_map}
use Rattle.std.proofs.lemmas.Bool.{cases_lt}
use Rattle.std.proofs.Math.Nat.{eq-or-lt_of_le}
use Rattle.plterm.specs.Tree.{Tree}
use Rattle.plcells.specs.declared.cell.Cell.{Cell}
use Rattle.plcells.specs.Store.{Store}
use Rattle.plsubst.specs.Subst.{bind, shift}
use Rattle.plsubst.specs.Unify.{unify}
use Rattle.plclause.specs.Clause.{Clause}
use Rattle.plsearch.specs.Types.{Kind, Commit, Never, Until, Collect, Transact, Element, Goal, Marker, Raise, Asking, Resolvent, Case}
use Rattle.plsearch.specs.Moves.{before_rest, is_true, resolve}
use Rattle.plsearch.specs.Lists.{bind_kind, bind_goals}
use Rattle.plsearch.specs.Machines.Levels.{IsKindAtMost, AreAtMost}
use Rattle.plenv.specs.Env.{Env, cut}
use Rattle.pllinks.specs.declared.item.MarkerKind.{MarkerKind}
use Rattle.pllinks.specs.declared.item.MarkerKind.TheVariants as markers
use Rattle.pllinks.specs.declared.item.ClauseGoals.{ClauseGoals}
use Rattle.pllinks.specs.declared.item.Portion.{Portion}
use Rattle.pllinks.specs.declared.item.Portion.TheVariants as items
use Rattle.pllinks.specs.declared.link.Link.{Link}
use Rattle.pllinks.specs.Lists.{Goals, goal_of, run_goals, marker_of, elements, all_elements}
use Rattle.pllinks.specs.Links.{items_of}
use Rattle.plstack.specs.declared.frame.Handler.TheVariants as handlers
use Rattle.plstack.specs.declared.frame.Resume.{Resume}
use Rattle.plstack.specs.declared.frame.Resume.TheVariants as resumes
use Rattle.plstack.specs.declared.frame.Frame.{Frame}
use Rattle.plstack.specs.declared.frame.Frame.TheVariants.{Plain, Open}
use Rattle.plstack.specs.Places.{Database, plain, kept_values, case_of, cases, depth_of}
use Rattle.plstack.specs.Levels.{Sort, Choosing, sort_of, case_sort, kinds, choices, kinds_of, undoings, ChoiceIn, MayCut, top_behind, Fits, transact_at, transacts, FitsIn, EmptyOrFits, Precedes}
use Rattle.plstack.specs.Cutting.{IsChoice}

-- the levels of choices
pub choice-below : (ks : List Sort) (k : ℕ) → ChoiceIn ks k → k < length ks
choice-below [] k c = absurd c
choice-below (b ∷ ks) k (inl c) = omega (arith, c.1)
choice-below (b ∷ ks) k (inr c) = let lt = choice-below ks k c in omega arith

pub choices-length : (n : ℕ) (ks : List Sort) → length (choices n ks) ≡ n + length ks
choices-length zero ks = omega arith
choices-length (suc n) ks = omega (arith, choices-length n ks)

choice-under : (n : ℕ) (ks : List Sort) (k : ℕ) → ChoiceIn ks k → ChoiceIn (choices n ks) k
choice-under zero ks k c = c
choice-under (suc n) ks k c = inr (choice-under n ks k c)

below-or : (a b : ℕ) → a < suc b → (a ≡ b) ⊎ (a < b)
below-or a b lt = eq-or-lt_of_le (omega (arith, lt))

-- one of so many choices that are inside of others
choice-new : (n : ℕ) (ks : List Sort) (k : ℕ) → length ks ≤ k → k < n + length ks → ChoiceIn (choices n ks) k
choice-new zero ks k low high = absurd (omega arith)
choice-new (suc n) ks k low high = go (below-or k (n + length ks) (omega (arith, high))) (choice-new n ks k low)
  where
    go : (k ≡ n + length ks) ⊎ (k < n + length ks) → (k < n + length ks → ChoiceIn (choices n ks) k) → ChoiceIn (choices (suc n) ks) k
    go (inl e) inner = inl (refl, e ∙ sym (choices-length n ks))
    go (inr h) inner = inr (inner h)

-- there are no fewer cases, and what was a choice is one
pub record Widens (old new : List Sort) : Type 0 where
  pub more : length old ≤ length new
  pub choices : (k : ℕ) → ChoiceIn old k → ChoiceIn new k

pub widens-same : (old new : List Sort) → new ≡ old → Widens old new
widens-same old new e = record { more = omega (arith, ap length e); choices = λ k c. subst (λ ks. ChoiceIn ks k) (sym e) c }

pub widens-push : (b : Sort) (ks : List Sort) → Widens ks (b ∷ ks)
widens-push b ks = record { more = omega arith; choices = λ k c. inr c }

pub widens-chosen : (b : Sort) (ks : List Sort) → Widens (b ∷ ks) (Choosing ∷ ks)
widens-chosen b ks = record { more = omega arith; choices = λ k c. chosen k c }
  where
    chosen : (k : ℕ) → ChoiceIn (b ∷ ks) k → ChoiceIn (Choosing ∷ ks) k
    chosen k (inl c) = inl (refl, c.1)
    chosen k (inr c) = inr c

pub widens-choices : (n : ℕ) (ks : List Sort) → Widens ks (choices n ks)
widens-choices n ks = record { more = omega (arith, choices-length n ks); choices = choice-under n ks }

may-cut-more : (old new : List Sort) → Widens old new → (m : Kind) (k : ℕ) → MayCut old m k → MayCut new m k
may-cut-more old new w Commit k c = w.choices k c
may-cut-more old new w Never k c = w.choices k c
may-cut-more old new w Until k c = tt
may-cut-more old new w (Collect t) k c = tt
may-cut-more old new w (Transact d) k c = (c.0, w.choices d c.1)

pub fits-more : (old new : List Sort) → Widens old new → (es : List Element) (d d' : ℕ) → d ≤ d' → Fits old d es → Fits new d' es
fits-more old new w [] d d' le f = tt
fits-more old new w (Goal k t ∷ es) d d' le f = (omega (arith, f.0), w.choices k f.1, fits-more old new w es (suc k) (suc k) (le_refl _) f.2)
fits-more old new w (Marker m k ∷ es) d d' le f = (omega (arith, f.0), may-cut-more old new w m k f.1, fits-more old new w es (top_behind m k) (top_behind m k) (le_refl _) f.2)
fits-more old new w (Raise b ∷ es) d d' le f = fits-more old new w es d d' le f
fits-more old new w (Asking q ∷ es) d d' le f = fits-more old new w es d d' le f

pub fits-widen : (old new : List Sort) → Widens old new → undoings new ≡ undoings old → (es : List Element) → FitsIn old es → FitsIn new es
fits-widen old new w same es f = (fits-more old new w es (length old) (length new) w.more f.0, f.1 ∙ sym same)

-- so it is where no goals are visited
pub visited-widen : (old new : List Sort) → Widens old new → undoings new ≡ undoings old → (es : List Element) → EmptyOrFits old es → EmptyOrFits new es
visited-widen old new w same es (inl none) = inl none
visited-widen old new w same es (inr f) = inr (fits-widen old new w same es f)

-- a list of some goals fits
pub some-fits : (ks : List Sort) (es : List Element) (e : Element) (rest : List Element) → es ≡ e ∷ rest → EmptyOrFits ks es → FitsIn ks es
some-fits ks es e rest is (inl none) = absurd (cc)
some-fits ks es e rest is (inr f) = f

-- lower levels
pub fits-top : (ks : List Sort) (es : List Element) (d d' : ℕ) → d ≤ d' → Fits ks d es → Fits ks d' es
fits-top ks es d d' le f = fits-more ks ks (widens-same ks ks refl) es d d' le f

-- levels do not depend on terms
same-cut : (ks : List Sort) (h h' : Store) (m : MarkerKind) (k : ℕ) → MayCut ks (marker_of h m) k → MayCut ks (marker_of h' m) k
same-cut ks h h' markers.Commit k c = c
same-cut ks h h' markers.Never k c = c
same-cut ks h h' markers.Until k c = c
same-cut ks h h' (markers.Collect v) k c = c
same-cut ks h h' (markers.Transact d) k c = c

same-top : (h h' : Store) (m : MarkerKind) (k : ℕ) → top_behind (marker_of h m) k ≡ top_behind (marker_of h' m) k
same-top h h' markers.Commit k = refl
same-top h h' markers.Never k = refl
same-top h h' markers.Until k = refl
same-top h h' (markers.Collect v) k = refl
same-top h h' (markers.Transact d) k = refl

same-transact : (h h' : Store) (m : MarkerKind) (k : ℕ) → transact_at (marker_of h m) k ≡ transact_at (marker_of h' m) k
same-transact h h' markers.Commit k = refl
same-transact h h' markers.Never k = refl
same-transact h h' markers.Until k = refl
same-transact h h' (markers.Collect v) k = refl
same-transact h h' (markers.Transact d) k = refl

module _ (ks : List Sort) (code : Goals) (e e' : Env) where
  run-fits : (r : ClauseGoals) (ts : List Tree) (es es' : List Element) → ((d : ℕ) → Fits ks d es → Fits ks d es') → (d : ℕ) → Fits ks d (map (goal_of e r) ts ++ es) → Fits ks d (map (goal_of e' r) ts ++ es')
  run-fits r [] es es' on d f = on d f
  run-fits r (t ∷ ts) es es' on d f = (f.0, f.1, run-fits r ts es es' on (suc r.level) f.2)

  item-fits : (x : Portion) (es es' : List Element) → ((d : ℕ) → Fits ks d es → Fits ks d es') → (d : ℕ) → Fits ks d (elements code e x ++ es) → Fits ks d (elements code e' x ++ es')
  item-fits (items.Clause r) es es' on d f = run-fits r (run_goals code r) es es' on d f
  item-fits (items.Goal k v) es es' on d f = (f.0, f.1, on (suc k) f.2)
  item-fits (items.Marker m k) es es' on d f =
      (f.0, same-cut ks e.heap e'.heap m k f.1, on (top_behind (marker_of e'.heap m) k) (subst (λ n. Fits ks n es) (same-top e.heap e'.heap m k) f.2))

  all-fit : (xs : List Portion) (d : ℕ) → Fits ks d (all_elements code e xs) → Fits ks d (all_elements code e' xs)
  unfolding all_elements
  all-fit [] d f = f
  all-fit (x ∷ xs) d f = item-fits x (all_elements code e xs) (all_elements code e' xs) (all-fit xs) d f

  run-transacts : (r : ClauseGoals) (ts : List Tree) (es es' : List Element) → transacts es ≡ transacts es' → transacts (map (goal_of e r) ts ++ es) ≡ transacts (map (goal_of e' r) ts ++ es')
  run-transacts r [] es es' same = same
  run-transacts r (t ∷ ts) es es' same = run-transacts r ts es es' same

  item-transacts : (x : Portion) (es es' : List Element) → transacts es ≡ transacts es' → transacts (elements code e x ++ es) ≡ transacts (elements code e' x ++ es')
  item-transacts (items.Clause r) es es' same = run-transacts r (run_goals code r) es es' same
  item-transacts (items.Goal k v) es es' same = same
  item-transacts (items.Marker m k) es es' same = ap₂ (λ ks ls. ks ++ ls) (same-transact e.heap e'.heap m k) same

  all-transacts : (xs : List Portion) → transacts (all_elements code e xs) ≡ transacts (all_elements code e' xs)
  unfolding all_elements
  all-transacts [] = refl
  all-transacts (x ∷ xs) = item-transacts x (all_elements code e xs) (all_elements code e' xs) (all-transacts xs)

  -- whatever the environment is, where the items are the same
  pub fits-env : (xs ys : List Portion) → ys ≡ xs → FitsIn ks (all_elements code e xs) → FitsIn ks (all_elements code e' ys)
  fits-env xs ys same f = subst (λ us. FitsIn ks (all_elements code e' us)) (sym same) (all-fit xs (length ks) f.0, sym (all-transacts xs) ∙ f.1)

  -- no goals are none whatever it is
  run-none : (r : ClauseGoals) (ts : List Tree) (es es' : List Element) → (es ≡ [] → es' ≡ []) → map (goal_of e r) ts ++ es ≡ [] → map (goal_of e' r) ts ++ es' ≡ []
  run-none r [] es es' on none = on none
  run-none r (t ∷ ts) es es' on none = absurd (cc)

  all-none : (xs : List Portion) → all_elements code e xs ≡ [] → all_elements code e' xs ≡ []
  unfolding all_elements
  all-none [] none = refl
  all-none (items.Clause r ∷ xs) none = run-none r (run_goals code r) (all_elements code e xs) (all_elements code e' xs) (all-none xs) none
  all-none (items.Goal k v ∷ xs) none = absurd (cc)
  all-none (items.Marker m k ∷ xs) none = absurd (cc)

  pub visited-env : (xs ys : List Portion) → ys ≡ xs → EmptyOrFits ks (all_elements code e xs) → EmptyOrFits ks (all_elements code e' ys)
  visited-env xs ys same (inl none) = inl (ap (all_elements code e') same ∙ all-none xs none)
  visited-env xs ys same (inr f) = inr (fits-env xs ys same f)

bound-cut : (ks : List Sort) (σ : ℕ → Tree) (m : Kind) (k : ℕ) → MayCut ks m k → MayCut ks (bind_kind σ m) k
bound-cut ks σ Commit k c = c
bound-cut ks σ Never k c = c
bound-cut ks σ Until k c = c
bound-cut ks σ (Collect t) k c = c
bound-cut ks σ (Transact d) k c = c

bound-top : (σ : ℕ → Tree) (m : Kind) (k : ℕ) → top_behind (bind_kind σ m) k ≡ top_behind m k
bound-top σ Commit k = refl
bound-top σ Never k = refl
bound-top σ Until k = refl
bound-top σ (Collect t) k = refl
bound-top σ (Transact d) k = refl

bound-transact : (σ : ℕ → Tree) (m : Kind) (k : ℕ) → transact_at (bind_kind σ m) k ≡ transact_at m k
bound-transact σ Commit k = refl
bound-transact σ Never k = refl
bound-transact σ Until k = refl
bound-transact σ (Collect t) k = refl
bound-transact σ (Transact d) k = refl

levels-bound : (ks : List Sort) (σ : ℕ → Tree) (es : List Element) (d : ℕ) → Fits ks d es → Fits ks d (bind_goals σ es)
levels-bound ks σ [] d f = tt
levels-bound ks σ (Goal k t ∷ es) d f = (f.0, f.1, levels-bound ks σ es (suc k) f.2)
levels-bound ks σ (Marker m k ∷ es) d f =
    (f.0, bound-cut ks σ m k f.1, subst (λ n. Fits ks n (bind_goals σ es)) (sym (bound-top σ m k)) (levels-bound ks σ es (top_behind m k) f.2))
levels-bound ks σ (Raise b ∷ es) d f = levels-bound ks σ es d f
levels-bound ks σ (Asking q ∷ es) d f = levels-bound ks σ es d f

transacts-bound : (σ : ℕ → Tree) (es : List Element) → transacts (bind_goals σ es) ≡ transacts es
transacts-bound σ [] = refl
transacts-bound σ (Goal k t ∷ es) = transacts-bound σ es
transacts-bound σ (Marker m k ∷ es) = ap₂ (λ ks ls. ks ++ ls) (bound-transact σ m k) (transacts-bound σ es)
transacts-bound σ (Raise b ∷ es) = transacts-bound σ es
transacts-bound σ (Asking q ∷ es) = transacts-bound σ es

pub fits-bound : (ks : List Sort) (σ : ℕ → Tree) (es : List Element) → FitsIn ks es → FitsIn ks (bind_goals σ es)
fits-bound ks σ es f = (levels-bound ks σ es (length ks) f.0, transacts-bound σ es ∙ f.1)

pub visited-bound : (ks : List Sort) (σ : ℕ → Tree) (es : List Element) → EmptyOrFits ks es → EmptyOrFits ks (bind_goals σ es)
visited-bound ks σ es (inl none) = inl (ap (bind_goals σ) none)
visited-bound ks σ es (inr f) = inr (fits-bound ks σ es f)

-- what fits below a level names none above the one before
top-le : (m : Kind) (k : ℕ) → top_behind m k ≤ suc k
top-le Commit k = le_refl _
top-le Never k = le_refl _
top-le Until k = omega arith
top-le (Collect t) k = omega arith
top-le (Transact d) k = omega arith

-- and the level that a marker names
kind-most : (ks : List Sort) (m : Kind) (l k : ℕ) → MayCut ks m l → l ≤ k → IsKindAtMost k m
kind-most ks Commit l k c le = tt
kind-most ks Never l k c le = tt
kind-most ks Until l k c le = tt
kind-most ks (Collect t) l k c le = tt
kind-most ks (Transact d) l k c le = omega (arith, c.0, le)

pub fits-most : (ks : List Sort) (k : ℕ) (es : List Element) → Fits ks (suc k) es → AreAtMost k es
fits-most ks k [] f = tt
fits-most ks k (Goal l t ∷ es) f = (omega (arith, f.0), fits-most ks k es (fits-top ks es (suc l) (suc k) (omega (arith, f.0)) f.2))
fits-most ks k (Marker m l ∷ es) f = ((kind-most ks m l k f.1 (omega (arith, f.0)), omega (arith, f.0)), fits-most ks k es (fits-top ks es (top_behind m l) (suc k) (omega (arith, f.0, top-le m l)) f.2))
fits-most ks k (Raise b ∷ es) f = (tt, fits-most ks k es f)
fits-most ks k (Asking q ∷ es) f = (tt, fits-most ks k es f)

-- a database without clauses
pub no-database : Database
no-database = record { statics = λ n. record { name = []; clauses = [] }; text = λ p. []; views = λ g. []; own = [] }

-- the kinds of cases are those of their frames
pub kinds-plain : (n : ℕ) (cs : List Case) → kinds (plain n cs) ≡ choices n (kinds cs)
kinds-plain zero cs = refl
kinds-plain (suc n) cs = ap (λ ks. Choosing ∷ ks) (kinds-plain n cs)

kind-of-case : (db : Database) (code : Goals) (d : ℕ) (e : Env) (xs : List Portion) (vs : List Cell) (r : Resume) → case_sort (case_of db code d e xs vs r) ≡ sort_of r
kind-of-case db code d e xs vs (resumes.Clauses c) = refl
kind-of-case db code d e xs vs (resumes.Walk w) = refl
kind-of-case db code d e xs vs (resumes.Answers a) = refl
kind-of-case db code d e xs vs resumes.List = refl
kind-of-case db code d e xs vs (resumes.Handle (handlers.Catch c)) = refl
kind-of-case db code d e xs vs (resumes.Handle (handlers.Gather v)) = refl
kind-of-case db code d e xs vs (resumes.Handle handlers.Undo) = refl

pub kinds-cases : (db : Database) (code : Goals) (e : Env) (links : List Link) (saved : List Cell) (fs : List Frame) → kinds (cases db code e links saved fs) ≡ kinds_of fs
kinds-cases db code e links saved [] = refl
kinds-cases db code e links saved (Plain n ∷ fs) = kinds-plain n (cases db code e links saved fs) ∙ ap (choices n) (kinds-cases db code e links saved fs)
kinds-cases db code e links saved (Open p r ∷ fs) =
    ap₂ (λ b ks. b ∷ ks) (kind-of-case db code _ (cut p.marks.env e) (items_of links p.list) (kept_values saved p r) r) (kinds-cases db code e links saved fs)

pub kinds-length : (fs : List Frame) → length (kinds_of fs) ≡ depth_of fs
kinds-length [] = refl
kinds-length (Plain n ∷ fs) = choices-length n (kinds_of fs) ∙ ap (λ d. n + d) (kinds-length fs)
kinds-length (Open p r ∷ fs) = omega (arith, kinds-length fs)

-- one frame more
pub widens-frame : (f : Frame) (fs : List Frame) → Widens (kinds_of fs) (kinds_of (f ∷ fs))
widens-frame (Plain n) fs = widens-choices n (kinds_of fs)
widens-frame (Open p r) fs = widens-push (sort_of r) (kinds_of fs)

-- a choice's level stands in one frame
pub choice-append : (xs ys : List Frame) (k : ℕ) → k < depth_of ys → ChoiceIn (kinds_of (xs ++ ys)) k → ChoiceIn (kinds_of ys) k
choice-append [] ys k lt c = c
choice-append (Plain n ∷ xs) ys k lt c = choice-append xs ys k lt (under n c)
  where
    far : depth_of ys ≤ depth_of (xs ++ ys)
    far = depth-far xs
      where
        depth-far : (xs : List Frame) → depth_of ys ≤ depth_of (xs ++ ys)
        depth-far [] = le_refl _
        depth-far (x ∷ xs) = omega (arith, depth-far xs)

    under : (n : ℕ) → ChoiceIn (choices n (kinds_of (xs ++ ys))) k → ChoiceIn (kinds_of (xs ++ ys)) k
    under zero c = c
    under (suc n) (inl c) = absurd (omega (arith, c.1, choices-length n (kinds_of (xs ++ ys)), kinds-length (xs ++ ys), far))
    under (suc n) (inr c) = under n c
choice-append (Open p r ∷ xs) ys k lt (inl c) = absurd (omega (arith, c.1, kinds-length (xs ++ ys), far xs))
  where
    far : (xs : List Frame) → depth_of ys ≤ depth_of (xs ++ ys)
    far [] = le_refl _
    far (x ∷ xs) = omega (arith, far xs)
choice-append (Open p r ∷ xs) ys k lt (inr c) = choice-append xs ys k lt c

pub choice-first : (f : Frame) (fs : List Frame) (k : ℕ) → depth_of fs ≤ k → ChoiceIn (kinds_of (f ∷ fs)) k → IsChoice f
choice-first (Plain n) fs k le c = tt
choice-first (Open p r) fs k le (inl c) = c.0
choice-first (Open p r) fs k le (inr c) = absurd (omega (arith, choice-below (kinds_of fs) k c, kinds-length fs))

-- cases from one on are emptied, and there may be more
pub widens-emptied : (xs ys : List Frame) (n : ℕ) → depth_of (xs ++ ys) ≤ n + depth_of ys → Widens (kinds_of (xs ++ ys)) (choices n (kinds_of ys))
widens-emptied xs ys n many = record {
  more = omega (arith, choices-length n (kinds_of ys), kinds-length ys, kinds-length (xs ++ ys), many);
  choices = λ k c. at k c (cases_lt k (depth_of ys));
}
  where
    at : (k : ℕ) → ChoiceIn (kinds_of (xs ++ ys)) k → (k < depth_of ys) ⊎ (depth_of ys ≤ k) → ChoiceIn (choices n (kinds_of ys)) k
    at k c (inl lt) = choice-under n (kinds_of ys) k (choice-append xs ys k lt c)
    at k c (inr le) = choice-new n (kinds_of ys) k (omega (arith, kinds-length ys)) (omega (arith, choice-below (kinds_of (xs ++ ys)) k c, kinds-length (xs ++ ys), kinds-length ys, many))

-- a body before a list, at the level of a choice
pub before-fits : (ks : List Sort) (none : Bool) (k : ℕ) (t : Tree) (es : List Element) → Precedes ks k es → FitsIn ks (before_rest none k t es)
before-fits ks true k t es p = (fits-top ks es (suc k) (length ks) (omega (arith, p.0.0)) p.0.2, p.1)
before-fits ks false k t es p = p

-- that of a new choice
pub new-precedes : (below : List Sort) (k : ℕ) (es : List Element) → k ≡ length below → FitsIn below es → Precedes (Choosing ∷ below) k es
new-precedes below k es e f = ((omega (arith, e), inl (refl, e), fits-more below (Choosing ∷ below) (widens-push Choosing below) es (length below) (suc k) (omega (arith, e)) f.0), f.1)

-- that of the innermost case, a choice
pub first-precedes : (ks below : List Sort) (k : ℕ) (es : List Element) → ks ≡ Choosing ∷ below → length ks ≡ k + 1 → FitsIn below es → Precedes ks k es
first-precedes ks below k es is many f = subst (λ xs. Precedes xs k es) (sym is) (new-precedes below k es (omega (arith, many, ap length is)) f)

pub precedes-bound : (ks : List Sort) (k : ℕ) (σ : ℕ → Tree) (es : List Element) → Precedes ks k es → Precedes ks k (bind_goals σ es)
precedes-bound ks k σ es p = ((p.0.0, p.0.1, levels-bound ks σ es (suc k) p.0.2), transacts-bound σ es ∙ p.1)

pub resolve-fits : (ks : List Sort) (k n : ℕ) (t : Tree) (es : List Element) (x : Clause) (q : Resolvent) → Precedes ks k es → resolve k n t es x ≡ Some q → FitsIn ks q.goals
resolve-fits ks k n t es x q p is = go (unify t (shift n x.head)) is
  where
    go : (o : Option (ℕ → Tree)) → option_map (λ (σ : ℕ → Tree). record { goals = before_rest (is_true x.body) k (bind σ (shift n x.body)) (bind_goals σ es); variables = n + x.variables }) o ≡ Some q → FitsIn ks q.goals
    go None e = absurd (cc)
    go (Some σ) e =
        let made : Resolvent = record { goals = before_rest (is_true x.body) k (bind σ (shift n x.body)) (bind_goals σ es); variables = n + x.variables } in
        let same : made ≡ q = cc in
        subst (λ (y : Resolvent). FitsIn ks y.goals) same (before-fits ks (is_true x.body) k (bind σ (shift n x.body)) (bind_goals σ es) (precedes-bound ks k σ es p))
