-- Equations of values with terms that have no variables.
use Rattle.std.proofs.Common.{◌≡◌, ℕ, ◌+◌, ℤ, pos, List, [], ◌∷◌, length, take, drop, sym, ap, ap₂, ◌∙◌, arith, subst}
use Rattle.plterm.specs.Tree.{Tree, var, int, atom}
use Rattle.plterm.specs.Variables.{AllBelow}
use Rattle.plsubst.specs.Subst.{bind}
use Rattle.plcells.specs.declared.cell.Cell.{Cell}
use Rattle.plcells.specs.Store.{Store, value, IsValue, AreValues}
use Rattle.plcells.specs.Equations.{filled}
use Rattle.plbuiltin.specs.Solution.{Solution}
use Rattle.plbuiltin.specs.Solution.{together, are}
use Rattle.plbuiltin.specs.Texts.{number_text}
use Rattle.plbuiltin.specs.Pieces.{part, split, atom_spelled, as_text}

-- the sides of a part's equation
abbrev pub four : Tree
four = together (var 0 ∷ var 1 ∷ var 2 ∷ var 3 ∷ [])

abbrev pub told : List ℕ → ℕ → ℕ → ℕ → Tree
told cs b l r = together (int (pos b) ∷ int (pos l) ∷ int (pos r) ∷ atom_spelled (take l (drop b cs)) ∷ [])

abbrev pub solved_as : Store → ℕ → List Cell → Tree → Tree → Solution
solved_as h n ws l r = record { left = bind (filled h ws n) l; right = bind (filled h ws n) r; new = 0 }

module _ (h : Store) (a b c d : Cell) (ws : List Cell) (l r : Tree) (cs : List ℕ) (x y z : ℕ) (values : ws ≡ a ∷ b ∷ c ∷ d ∷ []) (left : l ≡ four) (right : r ≡ told cs x y z) where
  pub part-is : (n : ℕ) → solved_as h n ws l r ≡ part cs (value h a ∷ value h b ∷ value h c ∷ value h d ∷ []) x y z
  unfolding bind
  part-is n = ap₂ (λ us u. solved_as h n us u r) values left ∙ ap (solved_as h n (a ∷ b ∷ c ∷ d ∷ []) four) right

  pub part-values : IsValue h a → IsValue h b → IsValue h c → IsValue h d → AreValues h ws
  part-values p q s t = subst (AreValues h) (sym values) (p, (q, (s, (t, tt))))

  pub part-left : AllBelow (length ws + 0) l
  part-left =
      let many : length ws ≡ 4 = ap length values in
      subst (AllBelow (length ws + 0)) (sym left) (omega (arith, many), (omega (arith, many), (omega (arith, many), (omega (arith, many), tt))))

  pub part-right : AllBelow (length ws + 0) r
  part-right = subst (AllBelow (length ws + 0)) (sym right) (tt, (tt, (tt, (tt, tt))))

-- of a way to divide a text
module _ (h : Store) (a b : Cell) (ws : List Cell) (l r x y : Tree) (cs : List ℕ) (k : ℕ) (values : ws ≡ a ∷ b ∷ []) (left : l ≡ together (x ∷ y ∷ [])) (right : r ≡ together (atom_spelled (take k cs) ∷ atom_spelled (drop k cs) ∷ [])) where
  pub split-is : (n : ℕ) → bind (filled h ws n) x ≡ as_text (value h a) → bind (filled h ws n) y ≡ as_text (value h b) → solved_as h n ws l r ≡ split cs (as_text (value h a) ∷ as_text (value h b) ∷ []) k
  unfolding bind
  split-is n first second =
      ap₂ (λ u v. solved_as h n ws u v) left right
      ∙ ap₂ (λ u v. are (u ∷ v ∷ []) (atom_spelled (take k cs) ∷ atom_spelled (drop k cs) ∷ [])) first second

  pub split-values : IsValue h a → IsValue h b → AreValues h ws
  split-values p q = subst (AreValues h) (sym values) (p, (q, tt))

  pub split-left : AllBelow 2 x → AllBelow 2 y → AllBelow (length ws + 0) l
  split-left p q =
      let many : length ws + 0 ≡ 2 = omega (arith, ap length values) in
      subst (λ m. AllBelow m l) (sym many) (subst (AllBelow 2) (sym left) (p, (q, tt)))

  pub split-right : AllBelow (length ws + 0) r
  split-right = subst (AllBelow (length ws + 0)) (sym right) (tt, (tt, tt))

-- the values by their places
pub first-filled : (h : Store) (a b : Cell) (ws : List Cell) (n : ℕ) → ws ≡ a ∷ b ∷ [] → (filled h ws n 0 ≡ value h a) × (filled h ws n 1 ≡ value h b)
first-filled h a b ws n e = (ap (λ us. filled h us n 0) e, ap (λ us. filled h us n 1) e)

-- the atom of an integer's text, and what stands for itself
pub bound-text : (σ : ℕ → Tree) (t v : Tree) (s : List ℕ) (i : ℤ) → t ≡ atom s → s ≡ number_text i → v ≡ int i → bind σ t ≡ as_text v
unfolding bind
bound-text σ t v s i is text number = ap (bind σ) is ∙ ap atom text ∙ sym (ap as_text number)

pub bound-variable : (σ : ℕ → Tree) (t v : Tree) (x : ℕ) → t ≡ var x → σ x ≡ v → as_text v ≡ v → bind σ t ≡ as_text v
unfolding bind
bound-variable σ t v x is bound same = ap (bind σ) is ∙ bound ∙ sym same
