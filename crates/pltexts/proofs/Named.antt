-- The names of atoms, taken from the left.
use Rattle.std.proofs.Common.{◌≡◌, ℕ, List, [], ◌∷◌, ◌++◌, Ok, Err, codes, refl, sym, ap, ◌∙◌}
use Rattle.std.proofs.lemmas.List.{append_assoc, append-nil}
use Rattle.plterm.specs.Tree.{Tree}
use Rattle.plcells.specs.Store.{Store}
use Rattle.plerror.specs.Errors.{type_error}
use Rattle.plorder.specs.Shapes.{IsOfShape}
use Rattle.plorder.specs.declared.shape.Shape.{Shape}
use Rattle.plorder.specs.declared.shape.Shape.TheVariants.{Variable, Integer, Atom, Compound}
use Rattle.plbuiltin.specs.Flags.{before, name_of, names_of, one_name}
use Rattle.plbuiltin.specs.Texts.{Found}

-- names that were found before others
abbrev pub all_before : List (List ℕ) → Found (List (List ℕ)) → Found (List (List ℕ))
all_before names (Ok more) = Ok (names ++ more)
all_before names (Err e) = Err e

pub before_none : (r : Found (List (List ℕ))) → r ≡ all_before [] r
before_none (Ok names) = refl
before_none (Err e) = refl

one_before : (names : List (List ℕ)) (name : List ℕ) (r : Found (List (List ℕ))) → all_before names (before (Ok name) r) ≡ all_before (names ++ name ∷ []) r
one_before names name (Ok more) = ap Ok (sym (append_assoc names (name ∷ []) more))
one_before names name (Err e) = refl

module _ (all : Found (List (List ℕ))) (names : List (List ℕ)) (t : Tree) (ts : List Tree) (so_far : all ≡ all_before names (names_of (t ∷ ts))) where
  -- one more name
  pub one_named : (name : List ℕ) → name_of t ≡ Ok name → all ≡ all_before (names ++ name ∷ []) (names_of ts)
  one_named name is = so_far ∙ ap (λ r. all_before names (before r (names_of ts))) is ∙ one_before names name (names_of ts)

  -- the error of a term that is no atom
  pub none_named : (e : Tree) → name_of t ≡ Err e → all ≡ Err e
  none_named e is = so_far ∙ ap (λ r. all_before names (before r (names_of ts))) is

pub all_named : (all : Found (List (List ℕ))) (names : List (List ℕ)) → all ≡ all_before names (Ok []) → all ≡ Ok names
all_named all names so_far = so_far ∙ ap Ok (append-nil names)

-- a term that is no atom has none
pub no_name : (h : Store) (t : Tree) (shape : Shape) → IsOfShape h t shape → ((x : ℕ) → shape ≡ Atom x → ⊥) → name_of t ≡ Err (type_error (codes "atom") t)
no_name h t (Variable x) is other = ap name_of is ∙ sym (ap (λ u. Err (type_error (codes "atom") u)) is)
no_name h t (Integer i) is other = ap name_of is ∙ sym (ap (λ u. Err (type_error (codes "atom") u)) is)
no_name h t (Atom x) is other = absurd (other x refl)
no_name h t (Compound b) is other = let e = is.2 ∙ is.1.is in ap name_of e ∙ sym (ap (λ u. Err (type_error (codes "atom") u)) e)

pub no_one : (h : Store) (t : Tree) (shape : Shape) → IsOfShape h t shape → ((x : ℕ) → shape ≡ Atom x → ⊥) → one_name t ≡ Err (type_error (codes "list") t)
no_one h t (Variable x) is other = ap one_name is ∙ sym (ap (λ u. Err (type_error (codes "list") u)) is)
no_one h t (Integer i) is other = ap one_name is ∙ sym (ap (λ u. Err (type_error (codes "list") u)) is)
no_one h t (Atom x) is other = absurd (other x refl)
no_one h t (Compound b) is other = let e = is.2 ∙ is.1.is in ap one_name e ∙ sym (ap (λ u. Err (type_error (codes "list") u)) e)
