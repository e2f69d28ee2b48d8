-- Names that are made operators one after another.
use Rattle.std.proofs.Common.{◌≡◌, ℕ, ◌+◌, ◌<◌, List, [], ◌∷◌, ◌++◌, length, take, get_or, None, sym, ap, ◌∙◌, add-one}
use Rattle.std.proofs.lemmas.List.{append_assoc, append-nil}
use Rattle.std.proofs.Math.Seq.{take-suc}
use Rattle.plops.specs.Changes.{added, refusal}
use Rattle.plops.specs.declared.operator.Kind.{Kind}
use Rattle.plops.specs.declared.table.Entry.{Entry}
use Rattle.plprogram.specs.Changes.{go_on, until_refused}

-- some names were made operators, and none of them was refused: what comes of further ones begins at the table that there is
abbrev pub AreMade : ℕ → Kind → List (List ℕ) → List Entry → List Entry → Type 0
AreMade priority kind made old now = (names : List (List ℕ)) → until_refused priority kind (made ++ names) old ≡ until_refused priority kind names now

module _ (priority : ℕ) (kind : Kind) (old : List Entry) where
  one_made : (made : List (List ℕ)) (now : List Entry) (name : List ℕ) → AreMade priority kind made old now → refusal priority kind name now ≡ None →
      AreMade priority kind (made ++ name ∷ []) old (added priority kind name now)
  one_made made now name so_far fits names =
      ap (λ ns. until_refused priority kind ns old) (append_assoc made (name ∷ []) names)
      ∙ so_far (name ∷ names)
      ∙ ap (λ r. go_on r now (until_refused priority kind names (added priority kind name now))) fits

  pub next_made : (all : List (List ℕ)) (i : ℕ) (d name : List ℕ) (now new : List Entry) → i < length all → get_or all i d ≡ name → AreMade priority kind (take i all) old now →
      refusal priority kind name now ≡ None → new ≡ added priority kind name now → AreMade priority kind (take (i + 1) all) old new
  next_made all i d name now new within is so_far fits same names =
      ap (λ ns. until_refused priority kind (ns ++ names) old) (rw add-one (take-suc all i d within ∙ ap (λ x. take i all ++ x ∷ []) is))
      ∙ one_made (take i all) now name so_far fits names
      ∙ ap (λ t. until_refused priority kind names t) (sym same)

  pub made_so_far : (made : List (List ℕ)) (now : List Entry) → AreMade priority kind made old now → now ≡ until_refused priority kind made old
  made_so_far made now so_far = sym (ap (λ ns. until_refused priority kind ns old) (sym (append-nil made)) ∙ so_far [])
