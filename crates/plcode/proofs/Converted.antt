-- The parts of goals that are converted.
use Rattle.std.proofs.Common.{◌≡◌, ℕ, suc, ◌-◌, true, List, Option, Some, None, option_map, option_and_then, refl, subst, ap, ◌∙◌, sym, codes, if◌then◌else◌}
use Rattle.plterm.specs.Tree.{Tree, compound, none, more}
use Rattle.plclause.specs.Conversion.{converted, is_control, all_converted}
use Rattle.plcode.specs.declared.op.Step.{Step}
use Rattle.plcode.specs.Converted.{IsConverted, AreConverted}
use Rattle.plcode.specs.Steps.{Text, of_two, goals_from, Selects, Runs}

-- ---- two goals under a name

two_of : (s : List ℕ) (a b : Tree) (x y : Option Tree)
    → option_map (compound s) (option_and_then (λ u. option_map (more u) (option_and_then (λ w. option_map (more w) (Some none)) y)) x) ≡ Some (of_two s a b) → (x ≡ Some a) × (y ≡ Some b)
two_of s a b (Some u) (Some w) e = (cc, cc)
two_of s a b (Some u) None e = absurd (cc)
two_of s a b None y e = absurd (cc)

-- both goals of `,`, `;` or `->` are converted
pub both_converted : (s : List ℕ) (a b : Tree) → is_control s 2 ≡ true → IsConverted (of_two s a b) → IsConverted a × IsConverted b
both_converted s a b is h =
    let goals : Option Tree = option_map (compound s) (all_converted (more a (more b none))) in
    two_of s a b (converted a) (converted b) (sym (ap (λ t. if t then goals else Some (of_two s a b)) is) ∙ h)

-- ---- the goals of places

-- a conjunction is selected
pub selects_converted : (c : Text) (place owed : ℕ) → Selects c place owed → AreConverted (goals_from c place owed) → AreConverted (goals_from c place (suc owed))
selects_converted c place owed s h =
    let all = subst AreConverted s.goals h in
    let both = both_converted (codes ",") s.left s.right refl all.0 in
    subst AreConverted (sym s.next) (both.0, (both.1, all.1))

-- the goal of a step, and those of the place behind
pub runs_converted : (c : Text) (place : ℕ) (s : Step) (r : Runs c place s) → AreConverted (goals_from c place s.conjunctions) → IsConverted r.goal × AreConverted (goals_from c (place - 1) 0)
runs_converted c place s r h = subst AreConverted r.goals h
