-- A term within its limits, and with other variables, has the levels and the limits of a written term.
use Rattle.std.proofs.Common.{◌≡◌, max, ℕ, suc, pos, negsuc, List, [], ◌++◌, ◌∷◌, length, refl, ap, ◌∙◌, arith}
use Rattle.plterm.specs.declared.node.Node.{Node}
use Rattle.plterm.specs.Tree.{Tree, Trees, var, int, atom, compound, none, more, list_of}
use Rattle.plterm.specs.Reading as nodes
use Rattle.plterm.specs.Reading.{spelling, spellings}
use Rattle.plterm.specs.Variables.{renamed, all_renamed}
use Rattle.plops.specs.declared.table.OpTable.{OpTable}
use Rattle.plread.specs.Reading.{count}
use Rattle.plwrite.specs.declared.style.Style.{Style}
use Rattle.plwrite.specs.declared.place.Position.{Position}
use Rattle.plwrite.specs.declared.place.Position.TheVariants.{At, Tail}
use Rattle.plwrite.specs.declared.form.Alone.{Alone}
use Rattle.plwrite.specs.declared.form.Alone.TheVariants as alone
use Rattle.plwrite.specs.declared.form.Pair.{Pair}
use Rattle.plwrite.specs.declared.form.Pair.TheVariants as pair
use Rattle.plwrite.specs.Places.{whole, argument, right_of_prefix, left_of, right_of, left_of_postfix}
use Rattle.plwrite.specs.Writing.{int_of, alone_form, pair_form}
use Rattle.pllaws.specs.Pieces.{IsName}
use Rattle.pllaws.specs.Terms.{IsFit, AreFit}
use Rattle.pllaws.specs.Levels.{alone_levels, pair_levels, levels_of, other_levels}
use Rattle.pllaws.specs.Written.{IsWhole, AreWhole}
use Rattle.pllaws.proofs.Alike.{int_of-renamed}

-- ---- limits

pub fit_parts : (ms ns : List Node) → nodes.AllFit (ms ++ ns) → nodes.AllFit ms × nodes.AllFit ns
fit_parts [] ns h = (tt, h)
fit_parts (m ∷ ms) ns h = let p = fit_parts ms ns h.1 in ((h.0, p.0), p.1)

is_name : (s : List ℕ) → nodes.IsName s → IsName s
is_name s h = record { is_text = h.1; few = h.0 }

count-all_renamed : (f : ℕ → ℕ) (ts : Trees) → count (all_renamed f ts) ≡ length (list_of ts)
count-all_renamed f none = refl
count-all_renamed f (more t ts) = ap suc (count-all_renamed f ts)

mutual
  unfolding IsFit

  pub is_fit : (t : Tree) → nodes.AllFit (spelling t) → IsFit t
  is_fit (var n) h = tt
  is_fit (int (pos n)) h = omega (arith, h.0.sfits)
  is_fit (int (negsuc n)) h = omega (arith, h.0.sfits)
  is_fit (atom s) h = is_name s h.0
  is_fit (compound s ts) h = (is_name s h.0.0, are_fit ts h.1)

  are_fit : (ts : Trees) → nodes.AllFit (spellings ts) → AreFit ts
  are_fit none h = tt
  are_fit (more t ts) h = let p = fit_parts (spelling t) (spellings ts) h in (is_fit t p.0, are_fit ts p.1)

mutual
  unfolding IsWhole

  pub whole_renamed : (f : ℕ → ℕ) (t : Tree) → nodes.AllFit (spelling t) → IsWhole (renamed f t)
  whole_renamed f (var n) h = tt
  whole_renamed f (int (pos n)) h = omega (arith, h.0.sfits)
  whole_renamed f (int (negsuc n)) h = omega (arith, h.0.sfits)
  whole_renamed f (atom s) h = tt
  whole_renamed f (compound s ts) h = let c = count-all_renamed f ts in (omega (arith, h.0.1), omega (arith, h.0.2), wholes_renamed f ts h.1)

  wholes_renamed : (f : ℕ → ℕ) (ts : Trees) → nodes.AllFit (spellings ts) → AreWhole (all_renamed f ts)
  wholes_renamed f none h = tt
  wholes_renamed f (more t ts) h = let p = fit_parts (spelling t) (spellings ts) h in (whole_renamed f t p.0, wholes_renamed f ts p.1)

-- ---- levels

module _ (ops : OpTable) (style : Style) (f : ℕ → ℕ) where
  abbrev Same : Tree → Type 0
  Same t = (position : Position) → levels_of ops style position (renamed f t) ≡ levels_of ops style position t

  abbrev levels : Tree → Position → ℕ
  levels t p = levels_of ops style p t

  same_alone : (a : Tree) → Same a → (position : Position) (form : Alone) → alone_levels position form (levels (renamed f a)) ≡ alone_levels position form (levels a)
  same_alone a law position (alone.Letter n) = ap suc (law (At argument))
  same_alone a law position alone.Curly = ap suc (law (At whole))
  same_alone a law position (alone.Before op) = ap (λ n. alone_levels position (alone.Before op) (λ p. n)) (law (At (right_of_prefix op)))
  same_alone a law position (alone.Behind op) = ap (λ n. alone_levels position (alone.Behind op) (λ p. n)) (law (At (left_of_postfix op)))
  same_alone a law position alone.Functional = ap suc (law (At argument))

  same_list : (a b : Tree) → Same a → Same b → (position : Position) → pair_levels position pair.List (levels (renamed f a)) (levels (renamed f b)) ≡ pair_levels position pair.List (levels a) (levels b)
  same_list a b law other (At place) = ap (λ n. suc (max n (levels (renamed f b) Tail))) (law (At argument)) ∙ ap (λ n. suc (max (levels a (At argument)) n)) (other Tail)
  same_list a b law other Tail = ap (λ n. max n (levels (renamed f b) Tail)) (law (At argument)) ∙ ap (λ n. max (levels a (At argument)) n) (other Tail)

  same_pair : (a b : Tree) → Same a → Same b → (position : Position) (form : Pair) → pair_levels position form (levels (renamed f a)) (levels (renamed f b)) ≡ pair_levels position form (levels a) (levels b)
  same_pair a b law other position pair.List = same_list a b law other position
  same_pair a b law other position (pair.Between op) =
      ap (λ n. pair_levels position (pair.Between op) (λ p. n) (levels (renamed f b))) (law (At (left_of op))) ∙ ap (λ n. pair_levels position (pair.Between op) (levels a) (λ p. n)) (other (At (right_of op)))
  same_pair a b law other position pair.Functional =
      ap (λ n. suc (max n (levels (renamed f b) (At argument)))) (law (At argument)) ∙ ap (λ n. suc (max (levels a (At argument)) n)) (other (At argument))

  abbrev AllSame : Trees → Type 0
  AllSame ts = other_levels ops style (all_renamed f ts) ≡ other_levels ops style ts

  same_none : AllSame none
  unfolding other_levels
  same_none = refl

  same_more : (a : Tree) (ts : Trees) → Same a → AllSame ts → AllSame (more a ts)
  unfolding other_levels
  same_more a ts law rests = ap (λ n. max n (other_levels ops style (all_renamed f ts))) (law (At argument)) ∙ ap (λ n. max (levels a (At argument)) n) rests

  same_leaf_var : (n : ℕ) → Same (var n)
  unfolding levels_of
  same_leaf_var n position = refl

  same_one : (s : List ℕ) (a : Tree) → Same a → Same (compound s (more a none))
  unfolding levels_of
  same_one s a law position =
      ap (λ v. alone_levels position (alone_form ops style s v) (levels (renamed f a))) (int_of-renamed f a) ∙ same_alone a law position (alone_form ops style s (int_of a))

  same_two : (s : List ℕ) (a b : Tree) → Same a → Same b → Same (compound s (more a (more b none)))
  unfolding levels_of
  same_two s a b law other position = same_pair a b law other position (pair_form ops style s)

  same_no_args : (s : List ℕ) → Same (compound s none)
  unfolding levels_of
  same_no_args s position = refl

  same_many : (s : List ℕ) (a b c : Tree) (ts : Trees) → Same a → Same b → AllSame (more c ts) → Same (compound s (more a (more b (more c ts))))
  unfolding levels_of
  same_many s a b c ts law other rests position =
      ap (λ n. suc (max n (max (levels (renamed f b) (At argument)) (other_levels ops style (all_renamed f (more c ts)))))) (law (At argument))
      ∙ ap (λ n. suc (max (levels a (At argument)) (max n (other_levels ops style (all_renamed f (more c ts)))))) (other (At argument))
      ∙ ap (λ n. suc (max (levels a (At argument)) (max (levels b (At argument)) n))) rests

  mutual
    pub levels_renamed : (t : Tree) → Same t
    levels_renamed (var n) = same_leaf_var n
    levels_renamed (int i) = λ position. refl
    levels_renamed (atom s) = λ position. refl
    levels_renamed (compound s none) = same_no_args s
    levels_renamed (compound s (more a none)) = same_one s a (levels_renamed a)
    levels_renamed (compound s (more a (more b none))) = same_two s a b (levels_renamed a) (levels_renamed b)
    levels_renamed (compound s (more a (more b (more c ts)))) = same_many s a b c ts (levels_renamed a) (levels_renamed b) (all_levels_renamed (more c ts))

    all_levels_renamed : (ts : Trees) → AllSame ts
    all_levels_renamed none = same_none
    all_levels_renamed (more a ts) = same_more a ts (levels_renamed a) (all_levels_renamed ts)
