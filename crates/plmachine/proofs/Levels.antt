-- Lists that a row visits fit in the cases that it opens.
use Rattle.std.proofs.Common.{◌≡◌, ℕ, suc, ◌<◌, ◌≤◌, inl, inr, List, [], ◌∷◌, ◌++◌, length, map, refl, sym, ap, ap₂, ◌∙◌, subst, arith, reverse, le_refl}
use Rattle.plterm.specs.Tree.{Tree}
use Rattle.plsearch.specs.Types.{Commit, Never, Until, Collect, Transact, Kind, Element, Goal, Marker, Case}
use Rattle.pllinks.specs.declared.item.Portion.{Portion}
use Rattle.pllinks.specs.declared.item.Portion.TheVariants as items
use Rattle.pllinks.specs.declared.link.Continuation.{Continuation}
use Rattle.pllinks.specs.Lists.{goal_of, run_goals}
use Rattle.plstack.specs.Levels.{kinds, kinds_of, transacts, transact_at, undoings, Choosing, ChoiceIn, MayCut, Sort, Undoing, top_behind, Fits, FitsIn, Precedes}
use Rattle.plstack.specs.State.{State, goals_in, goals_of, kinds_in, depth_in, IsFit, IsList, Extends, Opens}
use Rattle.plstack.proofs.Naming.{Widens, widens-push, fits-more, fits-top, kinds-length}
use Rattle.plstack.proofs.Fitted.{fits-extends, kinds-opened}
use Rattle.plmachine.specs.Lists.{at_level, elements_of, AreGoals, Grown, Holds}

-- a list behind a goal of a level
pub fits_behind : (ks : List Sort) (k : ℕ) (es : List Element) → Precedes ks k es → FitsIn ks es
fits_behind ks k es p = (fits-top ks es (suc k) (length ks) (omega (arith, p.0.0)) p.0.2, p.1)

-- the kinds stay where a stack grows
pub same-kinds : (s t : State) → Extends s t → kinds_in t ≡ kinds_in s
same-kinds s t x = ap (λ fs. kinds_of (reverse fs)) x.frames

pub fits-grown : (s t : State) → Grown s t → (l : Continuation) → IsList s l → IsFit s l → IsFit t l
fits-grown s t g l i f = fits-extends s t g.extends l i f

-- a list that holds some elements fits as they do
pub holds-fits : (s t : State) (l : Continuation) (es : List Element) → Extends s t → Holds t l es → FitsIn (kinds_in s) es → IsFit t l
holds-fits s t l es x h f = subst (λ ks. FitsIn ks (goals_of t l)) (sym (same-kinds s t x)) (subst (FitsIn (kinds_in s)) (sym h.is) f)

pub precedes-grown : (s t : State) → Grown s t → (k : ℕ) (l : Continuation) → IsList s l → Precedes (kinds_in s) k (goals_of s l) → Precedes (kinds_in t) k (goals_of t l)
precedes-grown s t g k l i p = subst (λ ks. Precedes ks k (goals_of t l)) (sym (same-kinds s t g.extends)) (subst (Precedes (kinds_in s) k) (sym (g.extends.lists l i).1) p)

-- a list fits in more cases
pub widens-append : (xs ks : List Sort) → Widens ks (xs ++ ks)
widens-append [] ks = record { more = le_refl _; choices = λ k c. c }
widens-append (x ∷ xs) ks =
    let w = widens-append xs ks in
    record { more = let le = w.more in omega arith; choices = λ k c. inr (w.choices k c) }

pub fits-pushed : (ks : List Sort) (es : List Element) → FitsIn ks es → FitsIn (Choosing ∷ ks) es
fits-pushed ks es f = (fits-more ks (Choosing ∷ ks) (widens-push Choosing ks) es (length ks) (suc (length ks)) (omega arith) f.0, f.1)

-- how many cases there are
pub depth-kinds : (s : State) → length (kinds_in s) ≡ depth_in s
depth-kinds s = kinds-length (reverse s.frames)

-- once cases are opened
pub fits-opened : (s t : State) (more : List Case) → Opens s t more → (l : Continuation) → IsList s l → FitsIn (kinds more ++ kinds_in s) (goals_of s l) → IsFit t l
fits-opened s t more o l i f =
    subst (λ ks. FitsIn ks (goals_of t l)) (sym (kinds-opened s t more o.cases)) (subst (FitsIn (kinds more ++ kinds_in s)) (sym (o.lists l i).1) f)

-- a goal of the innermost choice's level, before a marker of the level of the case outside of it, where nothing ends
module _ (ks : List Sort) (b : Sort) (d : ℕ) (is : d ≡ length ks) (stays : undoings (b ∷ ks) ≡ undoings ks) (es : List Element) (f : FitsIn ks es) where
  -- the marker of a case, a choice or another one
  pub marker-fits : (m : Kind) → MayCut (Choosing ∷ b ∷ ks) m d → Fits (Choosing ∷ b ∷ ks) (suc d) (Marker m d ∷ es)
  marker-fits m c = (le_refl _, c, fits-more ks (Choosing ∷ b ∷ ks) (widens-append (Choosing ∷ b ∷ []) ks) es (length ks) (top_behind m d) (top-no-less m) f.0)
    where
      top-no-less : (m : Kind) → length ks ≤ top_behind m d
      top-no-less Commit = omega (arith, is)
      top-no-less Never = omega (arith, is)
      top-no-less Until = omega (arith, is)
      top-no-less (Collect t) = omega (arith, is)
      top-no-less (Transact l) = omega (arith, is)

  pub marker-transacts : (m : Kind) → transact_at m d ≡ [] → transacts (Marker m d ∷ es) ≡ undoings (Choosing ∷ b ∷ ks)
  marker-transacts m none = ap (λ ls. ls ++ transacts es) none ∙ f.1 ∙ sym stays

  pub inner-precedes : (m : Kind) (k : ℕ) → k ≡ suc d → MayCut (Choosing ∷ b ∷ ks) m d → transact_at m d ≡ [] → Precedes (Choosing ∷ b ∷ ks) k (Marker m d ∷ es)
  inner-precedes m k e c none = (
    (
      omega (arith, e, is),
      inl (refl, e ∙ ap suc is),
      fits-top (Choosing ∷ b ∷ ks) (Marker m d ∷ es) (suc d) (suc k) (omega (arith, e)) (marker-fits m c),
    ),
    marker-transacts m none,
  )

-- that of a new choice, before a marker of its own level
pub commit-precedes : (ks : List Sort) (d : ℕ) → d ≡ length ks → (es : List Element) → FitsIn ks es → Precedes (Choosing ∷ ks) d (Marker Commit d ∷ es)
commit-precedes ks d is es f = (
  (
    omega (arith, is),
    inl (refl, is),
    (le_refl _, inl (refl, is), fits-more ks (Choosing ∷ ks) (widens-push Choosing ks) es (length ks) (suc d) (omega (arith, is)) f.0),
  ),
  f.1,
)

-- the marker of a transaction, in its cases, and a goal before it
module _ (ks : List Sort) (d : ℕ) (is : d ≡ length ks) (es : List Element) (f : FitsIn ks es) where
  abbrev within : List Sort
  within = Choosing ∷ Undoing ∷ Choosing ∷ ks

  transact-behind : (n : ℕ) → suc d < n → Fits within n (Marker (Transact d) (suc d) ∷ es)
  transact-behind n lt =
      (lt, (refl, inr (inr (inl (refl, is)))), fits-more ks within (widens-append (Choosing ∷ Undoing ∷ Choosing ∷ []) ks) es (length ks) (suc d) (omega (arith, is)) f.0)

  transact-level : ◌≡◌ {A = List ℕ} (suc d ∷ transacts es) (suc (length ks) ∷ undoings ks)
  transact-level = ap₂ (λ k ls. suc k ∷ ls) is f.1

  pub transact-fits : FitsIn within (Marker (Transact d) (suc d) ∷ es)
  transact-fits = (transact-behind (suc (suc (suc (length ks)))) (omega (arith, is)), transact-level)

  pub transact-goal : (t : Tree) → FitsIn within (Goal (suc (suc d)) t ∷ Marker (Transact d) (suc d) ∷ es)
  transact-goal t = ((omega (arith, is), inl (refl, ap (λ k. suc (suc k)) is), transact-behind (suc (suc (suc d))) (omega arith)), transact-level)

-- goals at a level
pub goals-fit : (s : State) (ks : List Sort) (k d : ℕ) (x : Portion) → AreGoals x → (es : List Element) → k < d → ChoiceIn ks k → Fits ks (suc k) es → Fits ks d (elements_of s (at_level k x) ++ es)
goals-fit s ks k d (items.Clause r) g es lt c f = run-of (run_goals (goals_in s) r) d lt
  where
    run-of : (ts : List Tree) (d : ℕ) → k < d → Fits ks d (map (goal_of s.env (record r { level = k })) ts ++ es)
    run-of [] d lt = fits-top ks es (suc k) d (omega (arith, lt)) f
    run-of (t ∷ ts) d lt = (lt, c, run-of ts (suc k) (le_refl _))
goals-fit s ks k d (items.Goal l v) g es lt c f = (lt, c, f)
goals-fit s ks k d (items.Marker m l) g es lt c f = absurd g

-- and they end nothing
pub goals-transacts : (s : State) (x : Portion) → AreGoals x → (es : List Element) → transacts (elements_of s x ++ es) ≡ transacts es
goals-transacts s (items.Clause r) g es = run-of (run_goals (goals_in s) r)
  where
    run-of : (ts : List Tree) → transacts (map (goal_of s.env r) ts ++ es) ≡ transacts es
    run-of [] = refl
    run-of (t ∷ ts) = run-of ts
goals-transacts s (items.Goal l v) g es = refl
goals-transacts s (items.Marker m l) g es = absurd g

-- goals at a level are goals
level-goals : (k : ℕ) (x : Portion) → AreGoals x → AreGoals (at_level k x)
level-goals k (items.Clause r) g = tt
level-goals k (items.Goal l v) g = tt
level-goals k (items.Marker m l) g = absurd g

-- goals at a level fit before a list before which a goal of that level may stand
pub goals-fit-in : (s : State) (ks : List Sort) (k : ℕ) (x : Portion) → AreGoals x → (es : List Element) → Precedes ks k es → FitsIn ks (elements_of s (at_level k x) ++ es)
goals-fit-in s ks k x g es p = (goals-fit s ks k (length ks) x g es p.0.0 p.0.1 p.0.2, goals-transacts s (at_level k x) (level-goals k x g) es ∙ p.1)

-- a condition and what follows it
pub condition-fits : (s : State) (ks : List Sort) (d : ℕ) → d ≡ length ks → (x : Portion) → AreGoals x → (es : List Element) → FitsIn ks es → FitsIn (Choosing ∷ Choosing ∷ ks) (elements_of s (at_level (suc d) x) ++ (Marker Commit d ∷ es))
condition-fits s ks d is x g es f = (
  goals-fit s (Choosing ∷ Choosing ∷ ks) (suc d) (suc (suc (length ks))) x g (Marker Commit d ∷ es) (omega (arith, is)) (inl (refl, ap suc is))
      (fits-top (Choosing ∷ Choosing ∷ ks) (Marker Commit d ∷ es) (suc d) (suc (suc d)) (omega arith) (marker-fits ks Choosing d is refl es f Commit (inr (inl (refl, is))))),
  goals-transacts s (at_level (suc d) x) (level-goals (suc d) x g) (Marker Commit d ∷ es) ∙ f.1,
)

-- a term that is run at a level, before a list that holds some elements
pub run-level : (s t : State) → Extends s t → (more : List Sort) (k : ℕ) (l : Continuation) (es : List Element) → Holds t l es → Precedes (more ++ kinds_in s) k es → Precedes (more ++ kinds_in t) k (goals_of t l)
run-level s t x more k l es h p =
    subst (λ ks. Precedes (more ++ ks) k (goals_of t l)) (sym (same-kinds s t x)) (subst (Precedes (more ++ kinds_in s) k) (sym h.is) p)
