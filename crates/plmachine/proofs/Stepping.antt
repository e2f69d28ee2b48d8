-- A goal of a clause's body, by its step.
use Rattle.std.proofs.Common.{◌≡◌, ℕ, suc, ◌+◌, ◌≤◌, List, [], ◌∷◌, ◌++◌, length, map, sym, ap, ap₂, ◌∙◌, subst}
use Rattle.std.specs.Prelude.{codes}
use Rattle.plterm.specs.Tree.{Tree, atom}
use Rattle.plterm.specs.Variables.{AllBelow}
use Rattle.plsubst.specs.Subst.{bind}
use Rattle.plevent.specs.Alive.{Stamped}
use Rattle.plprogram.specs.Program.{Program}
use Rattle.plsearch.specs.Types.{Choice, Commit, Element, Go, Goal, Local, Marker}
use Rattle.plsearch.specs.Forms.{Either, IfThenElse, form}
use Rattle.plsearch.specs.Rows.{branch, row}
use Rattle.plcode.specs.declared.op.Op.{Op}
use Rattle.plcode.specs.declared.op.Op.TheVariants as ops
use Rattle.plcode.specs.Converted.{AreConverted, IsConverted}
use Rattle.plcode.specs.Steps.{Text, Args, of_two, IsFor}
use Rattle.plcode.proofs.Bound.{form_bound, bound_form}
use Rattle.plenv.specs.Env.{over}
use Rattle.plenv.specs.Rows.{AllBelowEach}
use Rattle.pllinks.specs.declared.item.ClauseGoals.{ClauseGoals}
use Rattle.pllinks.specs.Lists.{goal_of}
use Rattle.plstack.specs.State.{State, goals_in}
use Rattle.plmachine.specs.Lists.{at_level, branch_at, elements_of, IsPart}
use Rattle.plmachine.specs.Selected.{bound_at}
use Rattle.plmachine.proofs.Selecting.{either-is, then-is, then-else-is}

-- the two terms of a goal
pub two-below : (n : ℕ) (s : List ℕ) (a b : Tree) → AllBelow n (of_two s a b) → AllBelow n a × AllBelow n b
two-below n s a b w = (w.0, w.1.0)

-- a branch as a part of lists
module _ (s : State) (r : ClauseGoals) (width : ℕ) (own : r.base + width ≤ r.«end») (slots : r.«end» ≤ length s.env.slots) (p : ℕ) (g : Tree) (begins : goals_in s p 0 ≡ g ∷ []) where
  pub branch-part : AllBelow width g → AreConverted (goals_in s p 0) → IsPart s (branch_at r p)
  branch-part below converted = (record { width = width; below = subst (AllBelowEach width) (sym begins) (below, tt); within = own; converted = converted }, slots)

  pub branch-is : elements_of s (branch_at r p) ≡ Goal r.level (bound_at s r g) ∷ []
  branch-is = ap (map (goal_of s.env (record r { position = p; owed = 0 }))) begins

  pub branch-level : (k : ℕ) → elements_of s (at_level k (branch_at r p)) ≡ Goal k (bound_at s r g) ∷ []
  branch-level k = ap (map (goal_of s.env (record r { position = p; owed = 0; level = k }))) begins

-- the node of a goal that is no control construct of branches
pub plain-node : (c : Text) (place : ℕ) (op : Op) (at : ℕ) (g : Tree) → IsFor c place op at g → op ≡ ops.Goal → Args c at (g ∷ [])
plain-node c place op at g is same = subst (λ o. IsFor c place o at g) same is

-- ---- the moves of control constructs of branches

module _ (P : Program) (below : List Stamped) (s : State) (r : ClauseGoals) (d : ℕ) (es : List Element) (n : ℕ) (w : Local) (g : Tree) (converted : IsConverted g) where
  abbrev t : Tree
  t = bound_at s r g

  pub either-move : (a b : Tree) (xs ys : List Element) → form g ≡ Either a b → xs ≡ Goal r.level (bound_at s r a) ∷ [] → ys ≡ Goal r.level (bound_at s r b) ∷ [] →
      Go (branch (ys ++ es) n ∷ []) (record { goals = xs ++ es; variables = n }) w ≡ row P below (form (bound_at s r g)) r.level (bound_at s r g) d es n w
  either-move a b xs ys is ex ey =
      ap₂ (λ xs ys. Go (branch (ys ++ es) n ∷ []) (record { goals = xs ++ es; variables = n }) w) ex ey
      ∙ either-is P below r.level t d es n w (bound_at s r a) (bound_at s r b)
      ∙ ap (λ f. row P below f r.level t d es n w) (sym (form_bound (over s.env r.base) g converted ∙ ap (bound_form (over s.env r.base)) is))

  pub then-move : (c a : Tree) (xs ys : List Element) → form g ≡ IfThenElse c a (atom (codes "fail")) → xs ≡ Goal (suc d) (bound_at s r c) ∷ [] → ys ≡ Goal r.level (bound_at s r a) ∷ [] →
      Go (Choice [] ∷ branch (Goal r.level (atom (codes "fail")) ∷ es) n ∷ []) (record { goals = xs ++ (Marker Commit d ∷ (ys ++ es)); variables = n }) w ≡ row P below (form (bound_at s r g)) r.level (bound_at s r g) d es n w
  unfolding bind
  then-move c a xs ys is ex ey =
      ap₂ (λ xs ys. Go (Choice [] ∷ branch (Goal r.level (atom (codes "fail")) ∷ es) n ∷ []) (record { goals = xs ++ (Marker Commit d ∷ (ys ++ es)); variables = n }) w) ex ey
      ∙ then-is P below r.level t d es n w (bound_at s r c) (bound_at s r a) (atom (codes "fail"))
      ∙ ap (λ f. row P below f r.level t d es n w) (sym (form_bound (over s.env r.base) g converted ∙ ap (bound_form (over s.env r.base)) is))

  pub then-else-move : (c a b : Tree) (xs ys zs : List Element) → form g ≡ IfThenElse c a b → xs ≡ Goal (suc d) (bound_at s r c) ∷ [] → ys ≡ Goal r.level (bound_at s r a) ∷ [] → zs ≡ Goal r.level (bound_at s r b) ∷ [] →
      Go (Choice [] ∷ branch (zs ++ es) n ∷ []) (record { goals = xs ++ (Marker Commit d ∷ (ys ++ es)); variables = n }) w ≡ row P below (form (bound_at s r g)) r.level (bound_at s r g) d es n w
  then-else-move c a b xs ys zs is ex ey ez =
      ap (λ zs. Go (Choice [] ∷ branch (zs ++ es) n ∷ []) (record { goals = xs ++ (Marker Commit d ∷ (ys ++ es)); variables = n }) w) ez
      ∙ ap₂ (λ xs ys. Go (Choice [] ∷ branch ((Goal r.level (bound_at s r b) ∷ []) ++ es) n ∷ []) (record { goals = xs ++ (Marker Commit d ∷ (ys ++ es)); variables = n }) w) ex ey
      ∙ then-else-is P below r.level t d es n w (bound_at s r c) (bound_at s r a) (bound_at s r b)
      ∙ ap (λ f. row P below f r.level t d es n w) (sym (form_bound (over s.env r.base) g converted ∙ ap (bound_form (over s.env r.base)) is))
