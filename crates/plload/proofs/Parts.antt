-- Clauses parted into static and dynamic ones, one after another.
use Rattle.std.proofs.Common.{◌≡◌, ℕ, length, Bool, true, false, not, List, [], ◌∷◌, ◌++◌, map, filter, refl, ap, ◌∙◌, append-nil}
use Rattle.std.proofs.lemmas.Grind.{fold-append}
use Rattle.std.proofs.lemmas.List.{map-append}
use Rattle.std.proofs.lemmas.List.Elements.{filter-append}
use Rattle.plterm.specs.declared.indicator.Indicator.{Indicator}
use Rattle.plterm.specs.Tree.{Tree}
use Rattle.plclause.specs.Clause.{Clause}
use Rattle.plprogram.specs.declared.settings.Settings.{Settings}
use Rattle.plevent.specs.declared.update.Update.{Update}
use Rattle.plevent.specs.declared.update.Update.TheVariants.{Last}
use Rattle.plprogram.specs.Program.{Program, procedures_of, with_clause}
use Rattle.plload.specs.Draft.{Draft, is_dynamic, first_batch, program_of}

module _ {X : Type 0} (p : X → Bool) where
  pub kept : (xs : List X) (x : X) → p x ≡ true → filter p (xs ++ x ∷ []) ≡ filter p xs ++ x ∷ []
  kept xs x e = filter-append p xs (x ∷ []) ∙ ap (λ ys. filter p xs ++ ys) (one (p x) e refl) where
    one : (b : Bool) → b ≡ true → p x ≡ b → filter p (x ∷ []) ≡ x ∷ []
    one true e f = rw f refl
    one false e f = cc

  pub left_out : (xs : List X) (x : X) → p x ≡ false → filter p (xs ++ x ∷ []) ≡ filter p xs
  left_out xs x e = filter-append p xs (x ∷ []) ∙ ap (λ ys. filter p xs ++ ys) (one (p x) e refl) ∙ append-nil (filter p xs) where
    one : (b : Bool) → b ≡ false → p x ≡ b → filter p (x ∷ []) ≡ []
    one false e f = rw f refl
    one true e f = cc

not_true : (b : Bool) → b ≡ true → not b ≡ false
not_true b e = ap not e

not_false : (b : Bool) → b ≡ false → not b ≡ true
not_false b e = ap not e

module _ (ps : List Indicator) (ys : List Clause) (c : Clause) where
  pub dynamic_procedures : is_dynamic ps c ≡ true → procedures_of (filter (λ x. not (is_dynamic ps x)) (ys ++ c ∷ [])) ≡ procedures_of (filter (λ x. not (is_dynamic ps x)) ys)
  dynamic_procedures e = ap procedures_of (left_out (λ x. not (is_dynamic ps x)) ys c (not_true (is_dynamic ps c) e))

  pub dynamic_first : is_dynamic ps c ≡ true → map Last (filter (is_dynamic ps) (ys ++ c ∷ [])) ≡ map Last (filter (is_dynamic ps) ys) ++ Last c ∷ []
  dynamic_first e = ap (map Last) (kept (is_dynamic ps) ys c e) ∙ map-append Last (filter (is_dynamic ps) ys) (c ∷ [])

  pub static_procedures : is_dynamic ps c ≡ false → procedures_of (filter (λ x. not (is_dynamic ps x)) (ys ++ c ∷ [])) ≡ with_clause (procedures_of (filter (λ x. not (is_dynamic ps x)) ys)) c
  static_procedures e = ap procedures_of (kept (λ x. not (is_dynamic ps x)) ys c (not_false (is_dynamic ps c) e)) ∙ fold-one (filter (λ x. not (is_dynamic ps x)) ys) where
    fold-one : (xs : List Clause) → procedures_of (xs ++ c ∷ []) ≡ with_clause (procedures_of xs) c
    fold-one xs = fold-append with_clause [] xs (c ∷ [])

  pub static_first : is_dynamic ps c ≡ false → map Last (filter (is_dynamic ps) (ys ++ c ∷ [])) ≡ map Last (filter (is_dynamic ps) ys)
  static_first e = ap (map Last) (left_out (is_dynamic ps) ys c e)

-- a program by its parts
pub program_is : (s : Settings) (d : Draft) (ps : List (Indicator × List Clause)) (goals : List Tree) (us : List Update) (n m : ℕ) →
    ps ≡ procedures_of (filter (λ c. not (is_dynamic d.declared c)) d.clauses) → goals ≡ d.goals → us ≡ first_batch d → n ≡ length d.clauses → m ≡ d.directives →
    (let p : Program = record { procedures = ps; goals = goals; first = us; settings = s; clauses = n; directives = m } in p ≡ program_of s d)
program_is s d ps goals us n m e f g h i = rw (e, f, g, h, i) refl
