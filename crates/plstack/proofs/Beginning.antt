-- What stands first in a list: of its run, or of the links behind it.
use Rattle.std.proofs.Common.{◌≡◌, ℕ, ◌+◌, ◌-◌, ◌<◌, ◌≤◌, List, [], ◌∷◌, ◌++◌, length, map, codes, refl, sym, ap, ◌∙◌, subst, arith, take, true, false, add-one, inl, inr, le_refl, if◌then◌else◌}
use Rattle.std.proofs.lemmas.Bool.{cases_lt}
use Rattle.plterm.specs.Tree.{Tree}
use Rattle.plsubst.specs.Subst.{bind}
use Rattle.plcells.specs.declared.cell.Cell.{Cell}
use Rattle.plsearch.specs.Types.{Element, Goal}
use Rattle.plcode.specs.declared.op.Op.{Op}
use Rattle.plcode.specs.declared.op.Op.TheVariants as ops
use Rattle.plcode.specs.declared.op.Step.{Step}
use Rattle.plcode.specs.Steps.{Text, of_two, step_at, ends, meanings, joined, behind, goal as goal_by, goals_from, Selects}
use Rattle.plcode.specs.Converted.{IsConverted, AreConverted}
use Rattle.plcode.proofs.Meanings.{meaning-ends}
use Rattle.plcode.proofs.Converted.{selects_converted, runs_converted}
use Rattle.plcode.proofs.Bound.{form_bound, bound_form}
use Rattle.plenv.specs.Env.{over}
use Rattle.plenv.specs.Rows.{AllBelowEach}
use Rattle.pllinks.specs.declared.item.ClauseGoals.{ClauseGoals}
use Rattle.pllinks.specs.declared.item.MarkerKind.{MarkerKind}
use Rattle.pllinks.specs.declared.item.Portion.TheVariants as items
use Rattle.pllinks.specs.declared.link.Link.{Link}
use Rattle.pllinks.specs.declared.link.Continuation.{Continuation}
use Rattle.pllinks.specs.Lists.{goal_of, run_goals, elements, all_elements, IsRun, IsItem, AreItems}
use Rattle.pllinks.specs.Links.{alone, done, list_at, link_at}
use Rattle.pllinks.proofs.Arena.{list_at-none}
use Rattle.plstack.specs.Levels.{FitsIn}
use Rattle.plstack.proofs.Naming.{some-fits}
use Rattle.plstack.specs.State.{State, goals_in, kinds_in, goals_of, IsEmptyOrFit, IsList, IsState}
use Rattle.plstack.specs.First.{AtBoth, AtStep, AtGoal, AtMarker, IsShort, IsStep}
use Rattle.plstack.proofs.Marking.{next-there, here as link-first}
use Rattle.plstack.proofs.Lists.{done-item, done-elements, first-elements}

-- ---- the goals of a place

-- at the end of a sequence none are left
pub at-end : (c : Text) (place owed : ℕ) (x : Step) → x ≡ step_at c place → ends x.op ≡ true → goals_from c place owed ≡ []
unfolding goals_from
at-end c place owed x is end =
    meaning-ends c.names c.nodes (meanings c.names c.nodes (take place c.steps)) (step_at c place) owed (subst (λ (y : Step). ends y.op ≡ true) is end)

pub not-ends : (op : Op) → (op ≡ ops.Proceed → ⊥) → ends op ≡ false
not-ends ops.Proceed not = absurd (not refl)
not-ends op not = refl

-- where all conjunctions of a step are selected, no more can be
past-conjunctions : (c : Text) (place owed : ℕ) (x : Step) → x ≡ step_at c place → x.conjunctions ≤ owed → goals_from c place owed ≡ goals_from c place x.conjunctions
unfolding goals_from
past-conjunctions c place owed x is le =
    let ms = meanings c.names c.nodes (take place c.steps) in
    let s = step_at c place in
    let same : s.conjunctions - owed ≡ s.conjunctions - x.conjunctions = omega (arith, le, ap (λ (y : Step). y.conjunctions) is) in
    ap (λ (n : ℕ). if ends s.op then [] else joined n (goal_by c.names c.nodes ms s.op s.goal ∷ behind ms)) same

-- a step that is no end has a goal
pub some-goals : (c : Text) (place owed : ℕ) (x : Step) → IsStep c place x → goals_from c place owed ≡ [] → ⊥
some-goals c place owed x step none = elim (cases_lt owed x.conjunctions) [ inl lt ↦ selected lt | inr ge ↦ own ge ]
  where
    selected : owed < x.conjunctions → ⊥
    selected lt = let e = (step.runs.selects owed lt).goals in cc (e, none)

    own : x.conjunctions ≤ owed → ⊥
    own ge = let e = past-conjunctions c place owed x step.is ge ∙ step.runs.goals in cc (e, none)

-- ---- a list by its run

module _ (s : State) (l : Continuation) where
  abbrev tail : List Element
  tail = all_elements (goals_in s) s.env (list_at s.links l.rest)

  goals-are : (ts : List Tree) → run_goals (goals_in s) l.run ≡ ts → goals_of s l ≡ map (goal_of s.env l.run) ts ++ tail
  goals-are ts e = first-elements s (items.Clause l.run) (list_at s.links l.rest) ∙ ap (λ us. map (goal_of s.env l.run) us ++ tail) e

-- the goal that a run begins with
module _ (s : State) (l : Continuation) (there : IsList s l) (x : Step) (step : IsStep s.basis.code.text l.run.position x) where
  fits : IsRun (goals_in s) l.run
  fits = there.items.0.0

  slots : l.run.«end» ≤ length s.env.slots
  slots = there.items.0.1

  abbrev σ : ℕ → Tree
  σ = over s.env l.run.base

  -- a conjunction
  module _ (lt : l.run.owed < x.conjunctions) where
    abbrev next : Continuation
    next = record { run = record { position = l.run.position; owed = l.run.owed + 1; base = l.run.base; «end» = l.run.«end»; level = l.run.level }; rest = l.rest }

    sel : Selects s.basis.code.text l.run.position l.run.owed
    sel = step.runs.selects l.run.owed lt

    next-own : run_goals (goals_in s) next.run ≡ sel.left ∷ sel.right ∷ sel.rest
    next-own = ap (goals_in s l.run.position) (add-one l.run.owed) ∙ sel.next

    both-below : AllBelowEach fits.width (of_two (codes ",") sel.left sel.right ∷ sel.rest)
    both-below = subst (AllBelowEach fits.width) sel.goals fits.below

    both-converted : AreConverted (run_goals (goals_in s) next.run)
    both-converted = subst (λ n. AreConverted (goals_in s l.run.position n)) (sym (add-one l.run.owed)) (selects_converted s.basis.code.text l.run.position l.run.owed sel fits.converted)

    first-converted : IsConverted (of_two (codes ",") sel.left sel.right)
    first-converted = (subst AreConverted sel.goals fits.converted).0

    next-fits : IsRun (goals_in s) next.run
    next-fits = record {
      width = fits.width;
      below = subst (AllBelowEach fits.width) (sym next-own) (both-below.0.0, (both-below.0.1.0, both-below.1));
      within = fits.within;
      converted = both-converted;
    }

    both-goals : goals_of s l ≡ Goal l.run.level (bind σ (of_two (codes ",") sel.left sel.right)) ∷ (map (goal_of s.env l.run) sel.rest ++ tail s l)
    both-goals = goals-are s l (of_two (codes ",") sel.left sel.right ∷ sel.rest) sel.goals

    pub both : IsEmptyOrFit s l → AtBoth s (goals_of s l) next x
    unfolding bind
    both levels = record {
      step = step;
      level = l.run.level;
      left = bind σ sel.left;
      right = bind σ sel.right;
      rest = map (goal_of s.env l.run) sel.rest ++ tail s l;
      goals = both-goals;
      form_is = form_bound σ (of_two (codes ",") sel.left sel.right) first-converted ∙ ap (bound_form σ) sel.form_is;
      next_goals = first-elements s (items.Clause next.run) (list_at s.links l.rest) ∙ ap (λ us. map (goal_of s.env l.run) us ++ tail s l) next-own;
      there = record { there = there.there; items = ((next-fits, slots), there.items.1) };
      levels = some-fits (kinds_in s) (goals_of s l) _ _ both-goals levels;
    }

  -- the step's own goal
  module _ (le : x.conjunctions ≤ l.run.owed) where
    abbrev after : Continuation
    after = record { run = record { position = l.run.position - 1; owed = 0; base = l.run.base; «end» = l.run.«end»; level = l.run.level }; rest = l.rest }

    own-goals : run_goals (goals_in s) l.run ≡ step.runs.goal ∷ run_goals (goals_in s) after.run
    own-goals = past-conjunctions s.basis.code.text l.run.position l.run.owed x step.is le ∙ step.runs.goals

    all-below : AllBelowEach fits.width (step.runs.goal ∷ run_goals (goals_in s) after.run)
    all-below = subst (AllBelowEach fits.width) own-goals fits.below

    all-converted : IsConverted step.runs.goal × AreConverted (run_goals (goals_in s) after.run)
    all-converted =
        runs_converted s.basis.code.text l.run.position x step.runs (subst AreConverted (past-conjunctions s.basis.code.text l.run.position l.run.owed x step.is le) fits.converted)

    pub after-there : IsList s after
    after-there = record {
      there = there.there;
      items = ((record { width = fits.width; below = all-below.1; within = fits.within; converted = all-converted.1 }, slots), there.items.1);
    }

    pub at-step : IsEmptyOrFit s l → (rest : Continuation) → IsList s rest → goals_of s rest ≡ goals_of s after → IsShort s rest → AtStep s (goals_of s l) l.run x rest
    at-step levels rest behind same short = record {
      goal = step.runs.goal;
      is = step.runs.is;
      is_converted = all-converted.0;
      width = fits.width;
      below = all-below.0;
      own = fits.within;
      slots = slots;
      goals =
          goals-are s l (step.runs.goal ∷ run_goals (goals_in s) after.run) own-goals
          ∙ ap (λ es. Goal l.run.level (bind σ step.runs.goal) ∷ es) (sym (same ∙ first-elements s (items.Clause after.run) (list_at s.links l.rest)));
      there = behind;
      levels = some-fits (kinds_in s) (goals_of s l) _ _ (goals-are s l (step.runs.goal ∷ run_goals (goals_in s) after.run) own-goals) levels;
      short = short;
    }

-- behind the end of a run
module _ (s : State) (is : IsState s) (l : Continuation) (there : IsList s l) where
  pub alone-there : IsList s (alone l.rest)
  alone-there = record { there = there.there; items = (done-item s is (length s.env.slots), there.items.1) }

  pub alone-goals : run_goals (goals_in s) l.run ≡ [] → goals_of s (alone l.rest) ≡ goals_of s l
  alone-goals e = done-elements s is done (refl, refl) (list_at s.links l.rest) ∙ sym (goals-are s l [] e)

  pub nothing-left : run_goals (goals_in s) l.run ≡ [] → l.rest ≡ 0 → goals_of s l ≡ []
  unfolding all_elements
  nothing-left e none = goals-are s l [] e ∙ ap (all_elements (goals_in s) s.env) (ap (list_at s.links) none ∙ list_at-none s.links)

  -- the link behind it
  module _ (k : Link) (some : l.rest ≡ 0 → ⊥) (at : k ≡ link_at s.links (l.rest - 1)) where
    pub next-less : k.next < l.rest
    next-less = omega (arith, some, next-there (goals_in s) s.env s.links is.chain l.rest k some there.there at)

    here : list_at s.links l.rest ≡ k.item ∷ list_at s.links k.next
    here = link-first (goals_in s) s.env s.links is.chain l.rest k some there.there at

    items-here : AreItems (goals_in s) s.env.heap (length s.env.slots) (k.item ∷ list_at s.links k.next)
    items-here = subst (AreItems (goals_in s) s.env.heap (length s.env.slots)) here there.items.1

    behind-link : IsList s (alone k.next)
    behind-link = record { there = omega (arith, next-less, there.there); items = (done-item s is (length s.env.slots), items-here.1) }

    link-goals : run_goals (goals_in s) l.run ≡ [] → goals_of s l ≡ elements (goals_in s) s.env k.item ++ goals_of s (alone k.next)
    link-goals e =
        goals-are s l [] e
        ∙ ap (all_elements (goals_in s) s.env) here
        ∙ first-elements s k.item (list_at s.links k.next)
        ∙ ap (λ es. elements (goals_in s) s.env k.item ++ es) (sym (done-elements s is done (refl, refl) (list_at s.links k.next)))

    -- a run stands there
    pub run-there : (r : ClauseGoals) → k.item ≡ items.Clause r → IsList s (record { run = r; rest = k.next })
    run-there r e = record { there = behind-link.there; items = (subst (IsItem (goals_in s) s.env.heap (length s.env.slots)) e items-here.0, items-here.1) }

    pub run-goals-there : (r : ClauseGoals) → k.item ≡ items.Clause r → run_goals (goals_in s) l.run ≡ [] → goals_of s (record { run = r; rest = k.next }) ≡ goals_of s l
    run-goals-there r e end =
        ap (λ x. all_elements (goals_in s) s.env (x ∷ list_at s.links k.next)) (sym e)
        ∙ sym (goals-are s l [] end ∙ ap (all_elements (goals_in s) s.env) here)

    -- a term, or a marker
    pub term-there : (level : ℕ) (v : Cell) → k.item ≡ items.Goal level v → run_goals (goals_in s) l.run ≡ [] → IsEmptyOrFit s l → AtGoal s (goals_of s l) level v (alone k.next)
    term-there level v e end levels = record {
      fits = subst (IsItem (goals_in s) s.env.heap (length s.env.slots)) e items-here.0;
      goals = link-goals end ∙ ap (λ x. elements (goals_in s) s.env x ++ goals_of s (alone k.next)) e;
      there = behind-link;
      levels = some-fits (kinds_in s) (goals_of s l) _ _ (link-goals end ∙ ap (λ x. elements (goals_in s) s.env x ++ goals_of s (alone k.next)) e) levels;
    }

    pub marker-there : (kind : MarkerKind) (level : ℕ) → k.item ≡ items.Marker kind level → run_goals (goals_in s) l.run ≡ [] → IsEmptyOrFit s l → AtMarker s (goals_of s l) kind level (alone k.next)
    marker-there kind level e end levels = record {
      goals = link-goals end ∙ ap (λ x. elements (goals_in s) s.env x ++ goals_of s (alone k.next)) e;
      fits = subst (IsItem (goals_in s) s.env.heap (length s.env.slots)) e items-here.0;
      there = behind-link;
      levels = some-fits (kinds_in s) (goals_of s l) _ _ (link-goals end ∙ ap (λ x. elements (goals_in s) s.env x ++ goals_of s (alone k.next)) e) levels;
    }

-- the two goals of a conjunction fit in the open cases
pub both-fits : (s : State) (es : List Element) (next : Continuation) (x : Step) → AtBoth s es next x → IsEmptyOrFit s next
both-fits s es next x b =
    let f = subst (FitsIn (kinds_in s)) b.goals b.levels in
    inr (subst (FitsIn (kinds_in s)) (sym b.next_goals) ((f.0.0, f.0.1, (le_refl _, f.0.1, f.0.2)), f.1))
