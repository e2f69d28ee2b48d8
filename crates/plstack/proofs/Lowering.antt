-- The slots of the visited goals may move down.
use Rattle.std.proofs.Common.{◌≡◌, ℕ, ◌+◌, ◌-◌, ◌≤◌, min, max, List, [], ◌∷◌, ◌++◌, length, map, take, drop, reverse, refl, sym, ap, ap₂, ◌∙◌, subst, arith, le_refl, inl, inr}
use Rattle.std.proofs.lemmas.Bool.{cases_lt}
use Rattle.plterm.specs.Tree.{Tree}
use Rattle.plsearch.specs.Types.{Goal}
use Rattle.plenv.specs.declared.slot.Mark.{Mark}
use Rattle.plenv.specs.Env.{Env, IsEnv, IsMark, cut, over}
use Rattle.plenv.specs.Rows.{AllBelowEach}
use Rattle.plenv.specs.Changes.{lowered}
use Rattle.plenv.proofs.Lowering.{length-lowered, variable-below, over-lowered, lowered-same, cut-lowered, IsMark-lowered}
use Rattle.pllinks.specs.declared.item.ClauseGoals.{ClauseGoals}
use Rattle.pllinks.specs.declared.item.Portion.TheVariants as items
use Rattle.pllinks.specs.Lists.{goal_of, run_goals, all_elements, IsRun, AreItems}
use Rattle.pllinks.specs.Links.{list_at, items_of, slots_at}
use Rattle.pllinks.specs.Changing.{Agrees}
use Rattle.pllinks.proofs.Changing.{bind-agree, items-agree, items-more}
use Rattle.plstack.specs.Levels.{EmptyOrFits}
use Rattle.plstack.specs.State.{State, IsStack, goals_in, kinds_in, cases_of}
use Rattle.plstack.specs.Giving.{GivesBack, IsShort}
use Rattle.plstack.proofs.Giving.{back_refl}
use Rattle.plstack.proofs.Releasing.{ask-of, items-within, cases-marked, frames-marked}

-- a run whose slots begin at another place
abbrev pub run_at : ℕ → ℕ → ClauseGoals → ClauseGoals
run_at at end r = record { position = r.position; owed = r.owed; base = at; «end» = end; level = r.level }

-- the goals over the same
goals-moved : (old new : Env) (r : ClauseGoals) (at end width : ℕ) (ts : List Tree) → ((x : ℕ) → over new at x ≡ over old r.base x) → AllBelowEach width ts → map (goal_of new (run_at at end r)) ts ≡ map (goal_of old r) ts
goals-moved old new r at end width [] same b = refl
goals-moved old new r at end width (t ∷ ts) same b =
    ap₂ (λ x xs. Goal r.level x ∷ xs) (bind-agree (over new at) (over old r.base) width t (λ x lt. same x) b.0) (goals-moved old new r at end width ts same b.1)

-- a state whose visited goals have their slots elsewhere
abbrev pub with_base : State → ℕ → ℕ → State
with_base s at end = record s { env = lowered at s.goals.run.base s.env; goals = record { run = run_at at end s.goals.run; rest = s.goals.rest } }

-- they move down to where the rest of the list and the marks in use ask for none
module _ (s : State) (d : ℕ) (is : IsStack s d) (at : ℕ) (down : at ≤ s.goals.run.base) (asked : slots_at s.links s.goals.rest ≤ at) (old : s.env.boundary ≤ at) where
  within : s.goals.run.base ≤ length s.env.slots
  within = let r = is.0.goals.items.0 in omega (arith, r.0.within, r.1)

  long : length (take at s.env.slots ++ drop s.goals.run.base s.env.slots) ≡ at + (length s.env.slots - s.goals.run.base)
  long = length-lowered s.env.slots at s.goals.run.base down within

  kept : (m : Mark) → IsMark m s.env → IsMark m (lowered at s.goals.run.base s.env) × (cut m (lowered at s.goals.run.base s.env) ≡ cut m s.env)
  kept m marks = (IsMark-lowered at s.goals.run.base m s.env marks down within old, cut-lowered at s.goals.run.base m s.env marks down within old)

  -- the rest of the list
  rest-items : AreItems (goals_in s) s.env.heap at (list_at s.links s.goals.rest)
  rest-items =
      items-within (goals_in s) s.env.heap (length s.env.slots) at at (list_at s.links s.goals.rest) (λ i few le. le)
      (ask-of s.links at is.0.chain s.goals.rest s.goals.rest (le_refl _) is.0.goals.there asked) is.0.goals.items.1

  agrees : Agrees at s.env (lowered at s.goals.run.base s.env)
  agrees = record { values = λ v f. (f, refl); variables = variable-below s.env at s.goals.run.base down within is.0.env.slots }

  rest-same : AreItems (goals_in s) s.env.heap at (list_at s.links s.goals.rest) × (all_elements (goals_in s) (lowered at s.goals.run.base s.env) (list_at s.links s.goals.rest) ≡ all_elements (goals_in s) s.env (list_at s.links s.goals.rest))
  rest-same = items-agree (goals_in s) at s.env (lowered at s.goals.run.base s.env) agrees (list_at s.links s.goals.rest) rest-items

  -- the visited goals
  run-there : IsRun (goals_in s) (run_at at (s.goals.run.«end» - (s.goals.run.base - at)) s.goals.run)
  run-there = let r = is.0.goals.items.0.0 in record { width = r.width; below = r.below; within = omega (arith, r.within, down); converted = r.converted }

  run-same : map (goal_of (lowered at s.goals.run.base s.env) (run_at at (s.goals.run.«end» - (s.goals.run.base - at)) s.goals.run)) (run_goals (goals_in s) s.goals.run) ≡ map (goal_of s.env s.goals.run) (run_goals (goals_in s) s.goals.run)
  run-same = let r = is.0.goals.items.0.0 in goals-moved s.env (lowered at s.goals.run.base s.env) s.goals.run at (s.goals.run.«end» - (s.goals.run.base - at)) r.width (run_goals (goals_in s) s.goals.run) (over-lowered s.env at s.goals.run.base down within is.0.env.slots) r.below

  items-there : AreItems (goals_in s) s.env.heap (length (take at s.env.slots ++ drop s.goals.run.base s.env.slots)) (items.Clause (run_at at (s.goals.run.«end» - (s.goals.run.base - at)) s.goals.run) ∷ list_at s.links s.goals.rest)
  items-there =
      let r = is.0.goals.items.0 in
      ((run-there, omega (arith, r.1, r.0.within, down, long)), items-more (goals_in s) s.env at (length (take at s.env.slots ++ drop s.goals.run.base s.env.slots)) (list_at s.links s.goals.rest) (omega (arith, long)) rest-items)

  items-same : all_elements (goals_in s) (lowered at s.goals.run.base s.env) (items.Clause (run_at at (s.goals.run.«end» - (s.goals.run.base - at)) s.goals.run) ∷ list_at s.links s.goals.rest) ≡ all_elements (goals_in s) s.env (items_of s.links s.goals)
  unfolding all_elements
  items-same = ap₂ (λ xs ys. xs ++ ys) run-same rest-same.1

  module _ (env : IsEnv (lowered at s.goals.run.base s.env)) where
    down-stack : IsStack (with_base s at (s.goals.run.«end» - (s.goals.run.base - at))) d
    down-stack = (
      record {
        env = env;
        names = is.0.names;
        none = is.0.none;
        chain = is.0.chain;
        frames = frames-marked (goals_in s) s.env (lowered at s.goals.run.base s.env) s.links s.saved kept (reverse s.frames) is.0.frames;
        seen = is.0.seen;
        goals = record { there = is.0.goals.there; items = items-there };
        fits = subst (EmptyOrFits (kinds_in s)) (sym items-same) is.0.fits;
      },
      is.1,
    )

    down-back : GivesBack s (with_base s at (s.goals.run.«end» - (s.goals.run.base - at)))
    unfolding cases_of
    down-back = record {
      cases = λ db. cases-marked (goals_in s) s.env (lowered at s.goals.run.base s.env) s.links s.saved kept db (reverse s.frames) is.0.frames;
      place = ap (λ es. record { goals = es; variables = s.env.count }) items-same;
      heap = refl;
      frames = refl;
      basis = refl;
    }

-- where they are no lower, nothing moves
stays : (s : State) (at : ℕ) → at ≡ s.goals.run.base → with_base s at (s.goals.run.«end» - (s.goals.run.base - at)) ≡ s
stays s at e =
    let none : s.goals.run.«end» - (s.goals.run.base - s.goals.run.base) ≡ s.goals.run.«end» = omega arith in
    ap (λ n. with_base s n (s.goals.run.«end» - (s.goals.run.base - n))) e
    ∙ ap (λ n. with_base s s.goals.run.base n) none
    ∙ ap (λ x. record s { env = x }) (lowered-same s.goals.run.base s.env)

module _ (s : State) (d : ℕ) (is : IsStack s d) (at : ℕ) (at_is : at ≡ min s.goals.run.base (max (slots_at s.links s.goals.rest) s.env.boundary)) (env : IsEnv (lowered at s.goals.run.base s.env)) where
  pub lowered-stack : IsStack (with_base s at (s.goals.run.«end» - (s.goals.run.base - at))) d
  lowered-stack = elim (cases_lt at s.goals.run.base) [
    | inl less ↦ down-stack s d is at (omega (arith, less)) (omega (arith, less, at_is)) (omega (arith, less, at_is)) env
    | inr le ↦ subst (λ (x : State). IsStack x d) (sym (stays s at (omega (arith, le, at_is)))) is
  ]

  pub lowered-back : GivesBack s (with_base s at (s.goals.run.«end» - (s.goals.run.base - at)))
  lowered-back = elim (cases_lt at s.goals.run.base) [
    | inl less ↦ down-back s d is at (omega (arith, less)) (omega (arith, less, at_is)) (omega (arith, less, at_is)) env
    | inr le ↦ subst (GivesBack s) (sym (stays s at (omega (arith, le, at_is)))) (back_refl s)
  ]

  pub lowered-short : IsShort s → IsShort (with_base s at (s.goals.run.«end» - (s.goals.run.base - at)))
  lowered-short short =
      let r = is.0.goals.items.0 in
      let long = length-lowered s.env.slots at s.goals.run.base (omega (arith, at_is)) (omega (arith, r.0.within, r.1)) in
      omega (arith, short, long, at_is, r.0.within, r.1)
