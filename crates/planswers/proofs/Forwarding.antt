-- What a call comes to that is returned as it is.
use Rattle.std.proofs.Common.{◌≡◌, ℕ, [], ◌∷◌, Result, IfOk, ap, ap₂, ◌∙◌}
use Rattle.std.proofs.lemmas.Result.{IfOk-weaker}
use Rattle.plterm.specs.Tree.{Tree}
use Rattle.plcells.specs.Store.{Store}
use Rattle.plprogram.specs.declared.settings.Settings.{Settings}
use Rattle.plbuiltin.specs.Solution.{Solved, Gives}
use Rattle.plcells.specs.declared.equation.Equation.{Equation}
use Rattle.plcells.specs.Equations.{left_of, right_of}
use Rattle.planswers.specs.declared.answer.Answer.{Answer}
use Rattle.planswers.specs.declared.answer.Answer.TheVariants.{Solves}
use Rattle.planswers.specs.Answers.{meant}

pub forwarded : {E : Type 0} (r : Result Answer E) (h : Store) (f g : Settings → ℕ → Solved) → IfOk r (λ answer. (s : Settings) (n : ℕ) → meant h s n answer ≡ f s n) → ((s : Settings) (n : ℕ) → f s n ≡ g s n) → IfOk r (λ answer. (s : Settings) (n : ℕ) → meant h s n answer ≡ g s n)
forwarded r h f g is same = IfOk-weaker r (λ answer. (s : Settings) (n : ℕ) → meant h s n answer ≡ f s n) (λ answer. (s : Settings) (n : ℕ) → meant h s n answer ≡ g s n) (λ answer e s n. e s n ∙ same s n) is

-- an equation, by its sides
pub equation-means : (h : Store) (s : Settings) (n : ℕ) (a b : Tree) (k : ℕ) (e : Equation) → left_of h n e ≡ a → right_of h n e ≡ b → e.new ≡ k → meant h s n (Solves e) ≡ Gives (record { left = a; right = b; new = k } ∷ []) [] s
equation-means h s n a b k e left right new =
    ap₂ (λ x y. Gives (record { left = x; right = y; new = e.new } ∷ []) [] s) left right ∙ ap (λ j. Gives (record { left = a; right = b; new = j } ∷ []) [] s) new
