-- Main is the only thread with an alias.
use Rattle.std.proofs.Common.{◌≡◌, ℕ, true, false, List, [], ◌∷◌, Some, None, refl, sym, ap, ◌∙◌, nat_eq, eq-eqb, ne_eqb}
use Rattle.plevent.specs.declared.act.Entry.{Entry}
use Rattle.plevent.specs.declared.standing.Thread.{Thread}
use Rattle.plevent.specs.Reading.{reading, main}
use Rattle.plhist.specs.Report.{alias_of}
use Rattle.plhist.proofs.Alone.{main-alone}

row_found : (t : ℕ) (m : Thread) → nat_eq m.number t ≡ true → alias_of t (m ∷ []) ≡ m.alias
row_found t m is = rw is refl

row_passed : (t : ℕ) (m : Thread) → nat_eq m.number t ≡ false → alias_of t (m ∷ []) ≡ None
row_passed t m is = rw is refl

pub alias-main : (h : List Entry) (t : ℕ) → t ≡ 1 → alias_of t (reading h).standing.threads ≡ Some main
alias-main h t is = let m = main-alone h in ap (alias_of t) m.threads ∙ row_found t m.row (eq-eqb m.row.number t (m.number ∙ sym is)) ∙ m.alias

pub alias-none : (h : List Entry) (t : ℕ) → (t ≡ 1 → ⊥) → alias_of t (reading h).standing.threads ≡ None
alias-none h t never = let m = main-alone h in ap (alias_of t) m.threads ∙ row_passed t m.row (ne_eqb m.row.number t (λ same. never (sym same ∙ m.number)))
