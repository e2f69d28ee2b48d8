-- A text that is one clause as a whole.
use Rattle.std.proofs.Common.{◌≡◌, ◌↔◌, ℕ, true, is_some, List, length, Option, Some, None, Result, Ok, Err, IfOk, refl, sym, ap, subst, ◌∙◌}
use Rattle.std.specs.declared.alloc.AllocError.{AllocError}
use Rattle.std.proofs.lemmas.Bool.{false≢true}
use Rattle.plterm.specs.Tree.{Tree}
use Rattle.pllex.specs.declared.token.Token.{Token}
use Rattle.pllex.specs.declared.token.Fault.{Fault}
use Rattle.pllex.specs.Tokens.{IsClause, IsFault, IsOver}
use Rattle.pllex.proofs.Clauses.{one_clause, no_fault, not_over}
use Rattle.plread.specs.Spelling.{signs_of}
use Rattle.plprogram.specs.declared.settings.Settings.{Settings}
use Rattle.plprogram.specs.Settings.{iso_settings}
use Rattle.plload.specs.Meaning.{goal_meaning}
use Rattle.plload.specs.Loading.{Spelled}
use Rattle.plload.specs.Goals.{IsWhole, Whole, Runnable, Goal, HasGoal, ended}
use Rattle.plload.proofs.Once.{one_reading}

module _ (text : List ℕ) (s : Settings) where
  pub whole_over : IsOver text 0 → Whole text s None
  whole_over over t (ts, reads) = not_over text 0 ts (length text) reads.clause over

  pub whole_fault : (fault : Fault) (place : ℕ) → IsFault text 0 fault place → Whole text s None
  whole_fault fault place bad t (ts, reads) = no_fault text 0 ts (length text) fault place reads.clause bad

  module _ (ts : List Token) (after : ℕ) (clause : IsClause text 0 ts after) where
    pub whole_early : (after ≡ length text → ⊥) → Whole text s None
    whole_early early t (us, reads) = early (one_clause text 0 ts us after (length text) clause reads.clause).1

    whole_read : after ≡ length text → (o : Option Tree) → Spelled s (signs_of s.quotes text ts) o → Whole text s o
    whole_read all (Some t) spelled = (ts, record { clause = subst (IsClause text 0 ts) all clause; term = spelled })
    whole_read all None spelled = λ t whole.
        let same : ts ≡ whole.0 = (one_clause text 0 ts whole.0 after (length text) clause whole.1.clause).0 in
        spelled t (subst (λ us. Spelled s (signs_of s.quotes text us) (Some t)) (sym same) whole.1.term)

    pub whole_result : after ≡ length text → (r : Result (Option Tree) AllocError) → IfOk r (Spelled s (signs_of s.quotes text ts)) → IfOk r (Whole text s)
    whole_result all (Ok o) spelled = whole_read all o spelled
    whole_result all (Err e) spelled = tt

-- the goal that a text is, from the term that it spells
module _ (text whole : List ℕ) (s : Settings) (same : whole ≡ ended text) (standard : s ≡ iso_settings) where
  pub no_term : Whole whole s None → Goal text None
  no_term none goal (t, is, runs) =
      none t (subst (λ v. IsWhole v s t) (sym same) (subst (λ u. IsWhole (ended text) u t) (sym standard) is))

  module _ (t : Tree) (is : IsWhole whole s t) where
    whole_standard : IsWhole (ended text) iso_settings t
    whole_standard = subst (λ u. IsWhole (ended text) u t) standard (subst (λ v. IsWhole v s t) same is)

    one_term : (u : Tree) → IsWhole (ended text) iso_settings u → t ≡ u
    one_term u other = one (ended text) iso_settings t u whole_standard other where
      one : (text : List ℕ) (s : Settings) (t u : Tree) → IsWhole text s t → IsWhole text s u → t ≡ u
      one text s t u (ts, h) (us, k) = some_is t u (one_reading text 0 s ts us (length text) (length text) (Some t) (Some u) h k).term where
        some_is : (t u : Tree) → Some t ≡ Some u → t ≡ u
        some_is t u e = cc

    pub goal_read : (o : Option Tree) → Runnable t o → Goal text o
    goal_read (Some goal) runs = (t, whole_standard, runs)
    goal_read None none = λ goal other.
        none goal (ap goal_meaning (one_term other.0 other.1) ∙ other.2)

    pub goal_result : (r : Result (Option Tree) AllocError) → IfOk r (Runnable t) → IfOk r (Goal text)
    goal_result (Ok o) h = goal_read o h
    goal_result (Err e) h = tt

-- a text has a goal where one is read
pub goal_told : (text : List ℕ) (o : Option Tree) → Goal text o → (is_some o ≡ true) ↔ HasGoal text
goal_told text None none = (λ e. absurd (false≢true e), λ has. absurd (none has.0 has.1))
goal_told text (Some goal) is = (λ e. (goal, is), λ has. refl)
