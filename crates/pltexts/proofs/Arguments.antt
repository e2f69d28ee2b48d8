-- Calls by their arguments that were read.
use Rattle.std.proofs.Common.{◌≡◌, ℕ, List, [], ◌∷◌, ◌<◌, ◌≤◌, Result, IfOk, get_or, length, arith, ◌∙◌}
use Rattle.std.proofs.lemmas.Result.{IfOk-weaker}
use Rattle.plcells.specs.declared.cell.Cell.{Cell}
use Rattle.plcells.specs.Store.{Store}
use Rattle.plprogram.specs.declared.settings.Settings.{Settings}
use Rattle.plbuiltin.specs.Solution.{Solved}
use Rattle.planswers.specs.declared.answer.Answer.{Answer}
use Rattle.planswers.specs.Answers.{meant}

pub list-one : (xs : List Cell) (a : Cell) → 1 ≤ length xs → length xs < 2 → a ≡ get_or xs 0 a → xs ≡ a ∷ []
list-one [] a ge lt p = absurd (omega (arith, ge))
list-one (u ∷ []) a ge lt p =
    let first : a ≡ u = p in
    cc
list-one (u ∷ v ∷ xs) a ge lt p = absurd (omega (arith, lt))

pub list-two : (xs : List Cell) (a b : Cell) → 2 ≤ length xs → length xs < 3 → a ≡ get_or xs 0 a → b ≡ get_or xs 1 b → xs ≡ a ∷ b ∷ []
list-two [] a b ge lt p q = absurd (omega (arith, ge))
list-two (u ∷ []) a b ge lt p q = absurd (omega (arith, ge))
list-two (u ∷ v ∷ []) a b ge lt p q =
    let first : a ≡ u = p in
    let second : b ≡ v = q in
    cc
list-two (u ∷ v ∷ w ∷ xs) a b ge lt p q = absurd (omega (arith, lt))

pub list-three : (xs : List Cell) (a b c : Cell) → 3 ≤ length xs → length xs < 4 → a ≡ get_or xs 0 a → b ≡ get_or xs 1 b → c ≡ get_or xs 2 c → xs ≡ a ∷ b ∷ c ∷ []
list-three [] a b c ge lt p q r = absurd (omega (arith, ge))
list-three (u ∷ []) a b c ge lt p q r = absurd (omega (arith, ge))
list-three (u ∷ v ∷ []) a b c ge lt p q r = absurd (omega (arith, ge))
list-three (u ∷ v ∷ w ∷ []) a b c ge lt p q r =
    let first : a ≡ u = p in
    let second : b ≡ v = q in
    let third : c ≡ w = r in
    cc
list-three (u ∷ v ∷ w ∷ x ∷ xs) a b c ge lt p q r = absurd (omega (arith, lt))

pub list-five : (xs : List Cell) (a b c e f : Cell) → 5 ≤ length xs → length xs < 6 →
    a ≡ get_or xs 0 a → b ≡ get_or xs 1 b → c ≡ get_or xs 2 c → e ≡ get_or xs 3 e → f ≡ get_or xs 4 f → xs ≡ a ∷ b ∷ c ∷ e ∷ f ∷ []
list-five [] a b c e f ge lt p q r s t = absurd (omega (arith, ge))
list-five (u ∷ []) a b c e f ge lt p q r s t = absurd (omega (arith, ge))
list-five (u ∷ v ∷ []) a b c e f ge lt p q r s t = absurd (omega (arith, ge))
list-five (u ∷ v ∷ w ∷ []) a b c e f ge lt p q r s t = absurd (omega (arith, ge))
list-five (u ∷ v ∷ w ∷ x ∷ []) a b c e f ge lt p q r s t = absurd (omega (arith, ge))
list-five (u ∷ v ∷ w ∷ x ∷ y ∷ []) a b c e f ge lt p q r s t =
    let first : a ≡ u = p in
    let second : b ≡ v = q in
    let third : c ≡ w = r in
    let fourth : e ≡ x = s in
    let fifth : f ≡ y = t in
    cc
list-five (u ∷ v ∷ w ∷ x ∷ y ∷ z ∷ xs) a b c e f ge lt p q r s t = absurd (omega (arith, lt))

-- what an answer means, told in another way
pub means : {E : Type 0} (r : Result Answer E) (h : Store) (s : Settings) (u v : Solved) → IfOk r (λ answer. (n : ℕ) → meant h s n answer ≡ u) → u ≡ v → IfOk r (λ answer. (n : ℕ) → meant h s n answer ≡ v)
means r h s u v is same = IfOk-weaker r (λ answer. (n : ℕ) → meant h s n answer ≡ u) (λ answer. (n : ℕ) → meant h s n answer ≡ v) (λ answer e n. e n ∙ same) is
