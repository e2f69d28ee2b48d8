-- What is left of a call stays where its values stand for what they did.
use Rattle.std.proofs.Common.{◌≡◌, List, [], ◌∷◌, map, refl, sym, ap, ap₂, subst}
use Rattle.plcells.specs.declared.cell.Cell.{Cell}
use Rattle.plcells.specs.Store.{Store, value, IsValue, AreValues}
use Rattle.plgenerator.specs.declared.turn.Remaining.{Remaining}
use Rattle.plgenerator.specs.Answers.{left, left_of_terms, IsRemaining, IsRemainingOf}

module _ (h k : Store) (stay : (v : Cell) → IsValue h v → IsValue k v × (value k v ≡ value h v)) where
  pub terms_stay : (vs : List Cell) → AreValues h vs → map (value k) vs ≡ map (value h) vs
  terms_stay [] fit = refl
  terms_stay (v ∷ vs) fit = ap₂ (λ t ts. t ∷ ts) (stay v fit.0).1 (terms_stay vs fit.1)

  pub turn_stays : (vs : List Cell) → AreValues h vs → (turn : Remaining) → IsRemaining h vs turn → IsRemaining k vs turn
  turn_stays vs fit turn is = subst (λ us. IsRemainingOf us turn) (sym (terms_stay vs fit)) is

  pub turn_stood : (vs : List Cell) → AreValues h vs → (turn : Remaining) → IsRemaining k vs turn → IsRemaining h vs turn
  turn_stood vs fit turn is = subst (λ us. IsRemainingOf us turn) (terms_stay vs fit) is

  pub left_stays : (vs : List Cell) → AreValues h vs → (turn : Remaining) → left k vs turn ≡ left h vs turn
  left_stays vs fit turn = ap (λ us. left_of_terms us turn) (terms_stay vs fit)
