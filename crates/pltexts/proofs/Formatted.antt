-- The pieces of a format, and what they make of its arguments, taken from the left.
use Rattle.std.proofs.Common.{◌≡◌, ℕ, true, false, List, [], ◌∷◌, ◌++◌, Option, Some, None, Ok, Err, length, map, refl, sym, ap, ◌∙◌, eq-eqb}
use Rattle.std.proofs.lemmas.Bool.{ne_eqb}
use Rattle.std.specs.Prelude.{◌==◌, count_by, codes, if◌then◌else◌}
use Rattle.std.specs.List.{list_any}
use Rattle.plerror.specs.Errors.{domain_error}
use Rattle.std.proofs.lemmas.List.{append_assoc, append-nil, map-append}
use Rattle.plterm.specs.Tree.{Tree}
use Rattle.plprogram.specs.declared.settings.Settings.{Settings}
use Rattle.plbuiltin.specs.Format.{Directive, Piece, Byte, Takes, argument_text, format_fault, formatted, is_amiss, joined, takes_one}
use Rattle.plbuiltin.specs.Texts.{Found}
use Rattle.pltexts.specs.Format.{piece_as}
use Rattle.pltexts.specs.declared.format.Piece.{Piece as Part}

pub joined_none : (r : Found (List ℕ)) → r ≡ joined (Ok []) r
joined_none (Ok text) = refl
joined_none (Err e) = refl

pub joined_more : (text more : List ℕ) (r : Found (List ℕ)) → joined (Ok text) (joined (Ok more) r) ≡ joined (Ok (text ++ more)) r
joined_more text more (Ok rest) = ap Ok (sym (append_assoc text more rest))
joined_more text more (Err e) = refl

module _ (s : Settings) (all : Found (List ℕ)) (text : List ℕ) (ps : List Piece) (ts : List Tree) where
  -- one more byte
  pub one_byte : (c : ℕ) → all ≡ joined (Ok text) (formatted s (Byte c ∷ ps) ts) → all ≡ joined (Ok (text ++ c ∷ [])) (formatted s ps ts)
  one_byte c so_far = so_far ∙ joined_more text (c ∷ []) (formatted s ps ts)

  -- one more argument
  pub one_argument : (d : Directive) (t : Tree) (more : List ℕ) → all ≡ joined (Ok text) (formatted s (Takes d ∷ ps) (t ∷ ts)) → argument_text d t s ≡ Ok more →
      all ≡ joined (Ok (text ++ more)) (formatted s ps ts)
  one_argument d t more so_far is = so_far ∙ ap (λ r. joined (Ok text) (joined r (formatted s ps ts))) is ∙ joined_more text more (formatted s ps ts)

  -- the error of an argument
  pub bad_argument : (d : Directive) (t e : Tree) → all ≡ joined (Ok text) (formatted s (Takes d ∷ ps) (t ∷ ts)) → argument_text d t s ≡ Err e → all ≡ Err e
  bad_argument d t e so_far is = so_far ∙ ap (λ r. joined (Ok text) (joined r (formatted s ps ts))) is

pub all_formatted : (all : Found (List ℕ)) (text : List ℕ) → all ≡ joined (Ok text) (Ok []) → all ≡ Ok text
all_formatted all text so_far = so_far ∙ ap Ok (append-nil text)

-- one more piece
pub one_piece : (ps : List Part) (p : Part) (q : Piece) (new : List Part) (rest : List Piece) → piece_as p ≡ q → new ≡ ps ++ p ∷ [] → map piece_as ps ++ q ∷ rest ≡ map piece_as new ++ rest
one_piece ps p q new rest is pushed =
    ap (λ x. map piece_as ps ++ x ∷ rest) (sym is)
    ∙ sym (append_assoc (map piece_as ps) (piece_as p ∷ []) rest)
    ∙ ap (λ ys. ys ++ rest) (sym (map-append piece_as ps (p ∷ [])))
    ∙ ap (λ (ys : List Part). map piece_as ys ++ rest) (sym pushed)

-- what is in the way of a format
module _ (f a : Tree) (ps : List Piece) (ts : List Tree) where
  abbrev counted : Option Tree
  counted = if count_by takes_one ps == length ts then None else Some (domain_error (codes "format_arguments") a)

  pub fault_control : list_any is_amiss ps ≡ true → format_fault f a ps ts ≡ Some (domain_error (codes "format_control") f)
  fault_control amiss = ap (λ b. if b then Some (domain_error (codes "format_control") f) else (if count_by takes_one ps == length ts then None else Some (domain_error (codes "format_arguments") a))) amiss

  fault_count : list_any is_amiss ps ≡ false → format_fault f a ps ts ≡ counted
  fault_count whole = ap (λ b. if b then Some (domain_error (codes "format_control") f) else (if count_by takes_one ps == length ts then None else Some (domain_error (codes "format_arguments") a))) whole

  pub fault_arguments : list_any is_amiss ps ≡ false → (count_by takes_one ps ≡ length ts → ⊥) → format_fault f a ps ts ≡ Some (domain_error (codes "format_arguments") a)
  fault_arguments whole other = fault_count whole ∙ ap (λ b. if b then None else Some (domain_error (codes "format_arguments") a)) (ne_eqb (count_by takes_one ps) (length ts) other)

  pub fault_none : list_any is_amiss ps ≡ false → count_by takes_one ps ≡ length ts → format_fault f a ps ts ≡ None
  fault_none whole same = fault_count whole ∙ ap (λ b. if b then None else Some (domain_error (codes "format_arguments") a)) (eq-eqb (count_by takes_one ps) (length ts) same)
