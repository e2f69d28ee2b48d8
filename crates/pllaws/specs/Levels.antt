-- How many levels are open at once where a written term is read.
use Rattle.std.specs.Prelude.{ℕ, suc, max, Bool, true, false}
use Rattle.plterm.specs.Tree.{Tree, var, int, atom, compound, Trees, none, more}
use Rattle.plops.specs.declared.operator.Operator.TheVariants as operators
use Rattle.plops.specs.declared.table.OpTable.{OpTable}
use Rattle.plwrite.specs.declared.style.Style.{Style}
use Rattle.plwrite.specs.declared.place.Position.{Position}
use Rattle.plwrite.specs.declared.place.Position.TheVariants.{At, Tail}
use Rattle.plwrite.specs.declared.form.Alone.{Alone}
use Rattle.plwrite.specs.declared.form.Alone.TheVariants as alone
use Rattle.plwrite.specs.declared.form.Pair.{Pair}
use Rattle.plwrite.specs.declared.form.Pair.TheVariants as pair
use Rattle.plwrite.specs.Places.{whole, argument, right_of_prefix, left_of, right_of, left_of_postfix, needs_brackets, is_bracketed_atom, place_of}
use Rattle.plwrite.specs.Writing.{int_of, alone_form, pair_form, ends_list}

-- with round brackets, where they are needed
abbrev pub bracketed_levels : Bool → ℕ → ℕ
bracketed_levels true n = suc n
bracketed_levels false n = n

abbrev pub atom_levels : Bool → Bool → ℕ
atom_levels true is_bracketed = 0
atom_levels false is_bracketed = bracketed_levels is_bracketed 0

abbrev pub alone_levels : Position → Alone → (Position → ℕ) → ℕ
alone_levels position (alone.Letter n) a = suc (a (At argument))
alone_levels position alone.Curly a = suc (a (At whole))
alone_levels position (alone.Before op) a = bracketed_levels (needs_brackets (place_of position) (operators.Before op)) (suc (a (At (right_of_prefix op))))
alone_levels position (alone.Behind op) a = bracketed_levels (needs_brackets (place_of position) (operators.Behind op)) (a (At (left_of_postfix op)))
alone_levels position alone.Functional a = suc (a (At argument))

-- what is left of a list stands in the list's own level
abbrev pub list_levels : Position → (Position → ℕ) → (Position → ℕ) → ℕ
list_levels (At place) a b = suc (max (a (At argument)) (b Tail))
list_levels Tail a b = max (a (At argument)) (b Tail)

abbrev pub pair_levels : Position → Pair → (Position → ℕ) → (Position → ℕ) → ℕ
pair_levels position pair.List a b = list_levels position a b
pair_levels position (pair.Between op) a b =
    bracketed_levels (needs_brackets (place_of position) (operators.Between op)) (max (a (At (left_of op))) (suc (b (At (right_of op)))))
pair_levels position pair.Functional a b = suc (max (a (At argument)) (b (At argument)))

unfoldable mutual
  pub levels_of : OpTable → Style → Position → Tree → ℕ
  levels_of ops style position (var n) = 0
  levels_of ops style position (int i) = 0
  levels_of ops style position (atom s) = atom_levels (ends_list position s) (is_bracketed_atom ops style (place_of position) s)
  levels_of ops style position (compound s none) = 1
  levels_of ops style position (compound s (more a none)) = alone_levels position (alone_form ops style s (int_of a)) (λ p. levels_of ops style p a)
  levels_of ops style position (compound s (more a (more b none))) = pair_levels position (pair_form ops style s) (λ p. levels_of ops style p a) (λ p. levels_of ops style p b)
  levels_of ops style position (compound s (more a (more b (more c args)))) =
      suc (max (levels_of ops style (At argument) a) (max (levels_of ops style (At argument) b) (other_levels ops style (more c args))))

  -- those of arguments
  pub other_levels : OpTable → Style → Trees → ℕ
  other_levels ops style none = 0
  other_levels ops style (more a args) = max (levels_of ops style (At argument) a) (other_levels ops style args)
