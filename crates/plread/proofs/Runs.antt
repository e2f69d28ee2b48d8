-- A whole run: what the signs spell is what the state still has to meet.
use Rattle.std.proofs.Common.{◌≡◌, ◌<◌, ◌+◌, ◌*◌, arith, ℕ, List, [], ◌∷◌, length, Option, Some, None, refl, sym, subst, ◌∙◌}
use Rattle.plterm.specs.Tree.{Tree}
use Rattle.plops.specs.declared.table.OpTable.{OpTable}
use Rattle.plread.specs.declared.frame.Frame.{Frame}
use Rattle.plread.specs.declared.reader.ReadStep.{ReadStep}
use Rattle.plread.specs.declared.reader.ReadStep.TheVariants as turns
use Rattle.plread.specs.Signs.{Sign}
use Rattle.plread.specs.Signs as tok
use Rattle.plread.specs.Words.{Lexicon}
use Rattle.plread.specs.Views.{stack_view, Turned}
use Rattle.plread.specs.Reading.{Reads, Spells}
use Rattle.plread.specs.Answers.{IsSpelled}
use Rattle.plread.specs.Machine.{State, After, Goes, Done, Fails, step, held, one_if}
use Rattle.plread.proofs.Meeting.{Meets, MeetsAfter}
use Rattle.plread.proofs.Steps.{Ready, kept, only}
use Rattle.plread.proofs.Bounds.{Bounded, step_bounded}

-- the loop's invariant
pub record Reading (ops : OpTable) (levels : ℕ) (signs : List Sign) (s : State) : Type 0 where
  pub ahead : (t : Tree) → Spells ops levels signs t → Meets ops s t
  pub back : (t : Tree) → Meets ops s t → Spells ops levels signs t
  pub counted : length s.trees ≡ held s.stack + one_if s.given

abbrev pub size : State → ℕ
size s = 2 * length s.left + length s.stack

abbrev pub first : ℕ → List Sign → State
first levels signs = record { room = levels; stack = []; trees = []; given = None; left = signs }

same_one : (u t : Tree) → u ∷ [] ≡ t ∷ [] → u ≡ t
same_one u t e = cc

module _ (ops : OpTable) (levels : ℕ) (signs : List Sign) where
  first_back : (t : Tree) → Meets ops (first levels signs) t → Spells ops levels signs t
  first_back t (u, p, rest, r, (e, same)) =
      let is : u ≡ t = cc in
      (p, subst (λ v. Reads ops levels 1200 signs v p (tok.End ∷ [])) is (subst (λ l. Reads ops levels 1200 signs u p l) e r))

  pub at_first : Reading ops levels signs (first levels signs)
  at_first = record { ahead = λ t h. (t, h.0, tok.End ∷ [], h.1, (refl, refl)); back = first_back; counted = refl }

  ready : (trees : List Tree) (given : Option ℕ) (n : ℕ) → length trees ≡ n + one_if given → Ready trees given
  ready trees None n e = tt
  ready (t ∷ trees) (Some p) n e = tt
  ready [] (Some p) n e = absurd (omega arith)

  ahead_step : (s : State) → Reading ops levels signs s → (t : Tree) → Spells ops levels signs t → MeetsAfter ops (step ops s) t
  ahead_step s r t h = kept ops t s.room s.stack s.trees s.given s.left (r.ahead t h)

  back_step : (s : State) → Reading ops levels signs s → (t : Tree) → MeetsAfter ops (step ops s) t → Spells ops levels signs t
  back_step s r t h = r.back t (only ops t s.room s.stack s.trees s.given s.left (ready s.trees s.given _ r.counted) h)

  bounded : (s : State) → Reading ops levels signs s → Bounded (size s) (step ops s)
  bounded s r = step_bounded ops s.room s.stack s.trees s.given s.left r.counted

  pub at_next : (s n : State) → Reading ops levels signs s → step ops s ≡ Goes n → Reading ops levels signs n
  at_next s n r e = record {
    ahead = λ t h. subst (λ a. MeetsAfter ops a t) e (ahead_step s r t h);
    back = λ t h. back_step s r t (subst (λ a. MeetsAfter ops a t) (sym e) h);
    counted = (subst (Bounded (size s)) e (bounded s r)).1;
  }

  pub smaller : (s n : State) → Reading ops levels signs s → step ops s ≡ Goes n → size n < size s
  smaller s n r e = (subst (Bounded (size s)) e (bounded s r)).0

  -- the one tree that is left is spelled, and no other
  pub at_done : (s : State) (trees : List Tree) (t : Tree) → Reading ops levels signs s → step ops s ≡ Done trees → trees ≡ t ∷ [] → IsSpelled ops levels signs t
  at_done s trees t r e one = record {
    spelled = back_step s r t (subst (λ a. MeetsAfter ops a t) (sym e) one);
    only = λ u h. same_one u t (sym (subst (λ a. MeetsAfter ops a u) e (ahead_step s r u h)) ∙ one);
  }

  pub one_left : (s : State) (trees : List Tree) → Reading ops levels signs s → step ops s ≡ Done trees → length trees ≡ 1
  one_left s trees r e = subst (Bounded (size s)) e (bounded s r)

  pub none_fails : (s : State) → Reading ops levels signs s → step ops s ≡ Fails → (t : Tree) → Spells ops levels signs t → ⊥
  none_fails s r e t h = subst (λ a. MeetsAfter ops a t) e (ahead_step s r t h)

pub at_start : (ops : OpTable) (levels : ℕ) (signs : List Sign) (words : Lexicon) (frames : List Frame) (trees : List Tree) → frames ≡ [] → trees ≡ [] → Reading ops levels signs (record { room = levels; stack = stack_view words frames; trees = trees; given = None; left = signs })
at_start ops levels signs words frames trees f t =
    subst (λ x. Reading ops levels signs (record { room = levels; stack = stack_view words x; trees = trees; given = None; left = signs })) (sym f)
    (subst (λ x. Reading ops levels signs (record { room = levels; stack = []; trees = x; given = None; left = signs })) (sym t) (at_first ops levels signs))

pub is_goes : (t : ReadStep) (s : State) (after : After) → Turned t s after → t ≡ turns.Goes → after ≡ Goes s
is_goes t s after h e = subst (λ x. Turned x s after) e h

pub is_done : (t : ReadStep) (s : State) (after : After) → Turned t s after → t ≡ turns.Done → after ≡ Done s.trees
is_done t s after h e = subst (λ x. Turned x s after) e h

pub is_failure : (t : ReadStep) (s : State) (after : After) → Turned t s after → t ≡ turns.Fails → after ≡ Fails
is_failure t s after h e = subst (λ x. Turned x s after) e h
