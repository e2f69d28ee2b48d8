-- The row of a goal, by its form over values.
use Rattle.std.proofs.Common.{◌≡◌, ℕ, suc, List, [], ◌∷◌, ◌++◌, refl, sym, ap, ap₂, ◌∙◌, subst}
use Rattle.plterm.specs.Tree.{Tree}
use Rattle.plclause.specs.Clause.{Clause}
use Rattle.plclause.specs.Indicators.{indicator}
use Rattle.plevent.specs.Alive.{Stamped}
use Rattle.plprogram.specs.Program.{Program}
use Rattle.plsearch.specs.Forms.{Form as FormOf, Both, Either, IfThenElse, form as form_of}
use Rattle.plsearch.specs.Types.{Choice, Commit, Element, Go, Goal, Local, Marker}
use Rattle.plsearch.specs.Moves.{call, go_on}
use Rattle.plsearch.specs.Rows.{branch, row, user}
use Rattle.plgoals.specs.declared.form.Form.{Form}
use Rattle.plgoals.specs.Forms.{shown_form}
use Rattle.plmachine.specs.declared.machine.Machine.{Machine as Reached}
use Rattle.plmachine.specs.declared.select.Source.{Source}
use Rattle.plmachine.specs.Lists.{Grown}
use Rattle.plmachine.specs.Machine.{below_in, depth_of, local_of, MovedBy}
use Rattle.plmachine.specs.Selected.{IsSelected}
use Rattle.plmachine.proofs.Moves.{below-as, grown-depth, grown-with, moved-by-as, moved-by-from}

-- the move of a selected goal is that of its form's row
pub selected : (P : Program) (s new : Reached) (f : Form) (source : Source) (t : Tree) (k d : ℕ) (es : List Element) (n : ℕ) (w : Local) (g : FormOf) → IsSelected P s f source t →
    shown_form s.stack.env.heap (indicator t) s.args.items f ≡ g → MovedBy P s new (λ v. row P (below_in v s) g k t d es n w) → MovedBy P s new (λ v. row P (below_in v s) (form_of t) k t d es n w)
selected P s new f source t k d es n w g is same moved = subst (λ g. MovedBy P s new (λ v. row P (below_in v s) g k t d es n w)) (sym same ∙ is.is) moved

-- the row of a goal, where lists and values were added
pub row-with : (P : Program) (s t new : Reached) → Grown s.stack t.stack → t ≡ record s { stack = t.stack; args = t.args } → (u : Tree) (k : ℕ) (es fs : List Element) → es ≡ fs →
    MovedBy P t new (λ v. row P (below_in v t) (form_of u) k u (depth_of t) es t.stack.env.count (local_of t)) → MovedBy P s new (λ v. row P (below_in v s) (form_of u) k u (depth_of s) fs s.stack.env.count (local_of s))
row-with P s t new g is u k es fs goals moved =
    moved-by-from P s t new _ (grown-with P s t g is)
    (moved-by-as P t new _ _ (λ v.
    ap₂ (λ d es. row P (below_in v t) (form_of u) k u d es t.stack.env.count (local_of t)) (grown-depth s t g) goals
    ∙ ap₂ (λ n w. row P (below_in v t) (form_of u) k u (depth_of s) fs n w) g.count (ap (λ x. local_of x) is)
    ∙ ap (λ us. row P us (form_of u) k u (depth_of s) fs s.stack.env.count (local_of s)) (below-as v s t (ap (λ x. x.layer) is))) moved)

-- the rows of control constructs of goals
module _ (P : Program) (below : List Stamped) (k : ℕ) (t : Tree) (d : ℕ) (es : List Element) (n : ℕ) (w : Local) where
  pub both-is : (a b : Tree) → go_on ((Goal k a ∷ []) ++ ((Goal k b ∷ []) ++ es)) n w ≡ row P below (Both a b) k t d es n w
  unfolding row
  both-is a b = refl

  pub either-is : (a b : Tree) → Go (branch ((Goal k b ∷ []) ++ es) n ∷ []) (record { goals = (Goal k a ∷ []) ++ es; variables = n }) w ≡ row P below (Either a b) k t d es n w
  unfolding row
  either-is a b = refl

  pub then-is : (c a e : Tree) → Go (Choice [] ∷ branch (Goal k e ∷ es) n ∷ []) (record { goals = (Goal (suc d) c ∷ []) ++ (Marker Commit d ∷ ((Goal k a ∷ []) ++ es)); variables = n }) w ≡ row P below (IfThenElse c a e) k t d es n w
  unfolding row
  then-is c a e = refl

  pub then-else-is : (c a e : Tree) → Go (Choice [] ∷ branch ((Goal k e ∷ []) ++ es) n ∷ []) (record { goals = (Goal (suc d) c ∷ []) ++ (Marker Commit d ∷ ((Goal k a ∷ []) ++ es)); variables = n }) w ≡ row P below (IfThenElse c a e) k t d es n w
  unfolding row
  then-else-is c a e = refl

-- a procedure of the text is called
pub user-some : (below : List Stamped) (cs : List Clause) (d : ℕ) (t : Tree) (es : List Element) (n : ℕ) (w : Local) → (cs ≡ [] → ⊥) → call d n t es cs w ≡ user below cs d t es n w
user-some below [] d t es n w some = absurd (some refl)
user-some below (c ∷ cs) d t es n w some = refl
