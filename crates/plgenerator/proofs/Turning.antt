-- The answers that are left, by the texts that they are parts of.
use Rattle.std.proofs.Common.{◌≡◌, ◌<◌, ◌≤◌, ℕ, Option, Some, None, option_map, List, [], ◌∷◌, length, arith, refl, sym, ap, subst}
use Rattle.std.specs.Prelude.{IfSome}
use Rattle.std.specs.Str.{chars}
use Rattle.plterm.specs.Tree.{Tree, var, int, atom, compound}
use Rattle.plcells.specs.declared.cell.Cell.{Cell}
use Rattle.plcells.specs.Store.{Store, value}
use Rattle.plbuiltin.specs.Pieces.{text_of, as_text}
use Rattle.plgenerator.specs.declared.turn.Part.{Part}
use Rattle.plgenerator.specs.declared.turn.Split.{Split}
use Rattle.plgenerator.specs.declared.turn.Remaining.TheVariants as turns
use Rattle.plgenerator.specs.Turns.{IsPart, IsSplit, parts_left, parts_if, splits_left, splits_if}
use Rattle.plgenerator.specs.Answers.{parts_in, splits_in, left, left_if, IsRemaining}

-- an integer or an atom is the atom of its text
pub text-atom : (t : Tree) (o : Option (List ℕ)) → o ≡ text_of t → IfSome o (λ s. as_text t ≡ atom s)
text-atom (var x) o e = subst (λ p. IfSome p (λ s. as_text (var x) ≡ atom s)) (sym e) tt
text-atom (int i) o e = subst (λ p. IfSome p (λ s. as_text (int i) ≡ atom s)) (sym e) refl
text-atom (atom f) o e = subst (λ p. IfSome p (λ s. as_text (atom f) ≡ atom s)) (sym e) refl
text-atom (compound f ts) o e = subst (λ p. IfSome p (λ s. as_text (compound f ts) ≡ atom s)) (sym e) tt

module _ (h : Store) (a b l r s : Cell) (name : List ℕ) (is : value h a ≡ atom name) where
  pub parts-left : (p : Part) → left h (a ∷ b ∷ l ∷ r ∷ s ∷ []) (turns.Part p) ≡ parts_left (chars name) (value h b ∷ value h l ∷ value h r ∷ value h s ∷ []) p
  parts-left p = ap (λ t. parts_in (text_of t) (value h b ∷ value h l ∷ value h r ∷ value h s ∷ []) p) is

  pub parts-behind : (o : Option Part) → left_if h (a ∷ b ∷ l ∷ r ∷ s ∷ []) (option_map turns.Part o) ≡ parts_if (chars name) (value h b ∷ value h l ∷ value h r ∷ value h s ∷ []) o
  parts-behind None = refl
  parts-behind (Some p) = parts-left p

  pub turns-behind : (o : Option Part) → IfSome o (IsPart (chars name)) → IfSome (option_map turns.Part o) (IsRemaining h (a ∷ b ∷ l ∷ r ∷ s ∷ []))
  turns-behind None p = tt
  turns-behind (Some q) p = (name, is, p)

  -- fewer are left than from one that is not before it
  pub parts-fewer : (p q : Part) (o : Option Part) → length (parts_left (chars name) (value h b ∷ value h l ∷ value h r ∷ value h s ∷ []) q) ≤ length (parts_left (chars name) (value h b ∷ value h l ∷ value h r ∷ value h s ∷ []) p) →
      IfSome o (λ k. length (parts_left (chars name) (value h b ∷ value h l ∷ value h r ∷ value h s ∷ []) k) < length (parts_left (chars name) (value h b ∷ value h l ∷ value h r ∷ value h s ∷ []) q)) →
      IfSome (option_map turns.Part o) (λ rest. length (left h (a ∷ b ∷ l ∷ r ∷ s ∷ []) rest) < length (left h (a ∷ b ∷ l ∷ r ∷ s ∷ []) (turns.Part p)))
  parts-fewer p q None most fewer = tt
  parts-fewer p q (Some k) most fewer = omega (arith, ap length (parts-left k), ap length (parts-left p), most, fewer)

module _ (h : Store) (a b c : Cell) (name : List ℕ) (is : text_of (value h c) ≡ Some name) where
  pub splits-left : (s : Split) → left h (a ∷ b ∷ c ∷ []) (turns.Split s) ≡ splits_left (chars name) (as_text (value h a) ∷ as_text (value h b) ∷ []) s
  splits-left s = ap (λ o. splits_in o (as_text (value h a) ∷ as_text (value h b) ∷ []) s) is

  pub splits-behind : (o : Option Split) → left_if h (a ∷ b ∷ c ∷ []) (option_map turns.Split o) ≡ splits_if (chars name) (as_text (value h a) ∷ as_text (value h b) ∷ []) o
  splits-behind None = refl
  splits-behind (Some s) = splits-left s

  pub splits-turn : (o : Option Split) → IfSome o (IsSplit (chars name)) → IfSome (option_map turns.Split o) (IsRemaining h (a ∷ b ∷ c ∷ []))
  splits-turn None p = tt
  splits-turn (Some s) p = (name, is, p)

  pub splits-fewer : (s : Split) (o : Option Split) → IfSome o (λ k. length (splits_left (chars name) (as_text (value h a) ∷ as_text (value h b) ∷ []) k) < length (splits_left (chars name) (as_text (value h a) ∷ as_text (value h b) ∷ []) s)) →
      IfSome (option_map turns.Split o) (λ rest. length (left h (a ∷ b ∷ c ∷ []) rest) < length (left h (a ∷ b ∷ c ∷ []) (turns.Split s)))
  splits-fewer s None fewer = tt
  splits-fewer s (Some k) fewer = omega (arith, ap length (splits-left k), ap length (splits-left s), fewer)
