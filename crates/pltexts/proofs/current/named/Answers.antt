use Rattle.std.proofs.Common.{◌≡◌, ◌∷◌, [], List, IfOk, ap₂, ◌∙◌, subst}
use Rattle.plterm.specs.Tree.{Tree}
use Rattle.plbuiltin.specs.Solution.{together}
use Rattle.pltexts.proofs.current.named.Goals as goal

pub returns : goal.returns
returns c =
    subst (λ (ts : List Tree). IfOk c.together.result (λ t. t ≡ together ts))
    (c.in_ok-vec.ensures.items ∙ ap₂ (λ a b. a ∷ b ∷ []) c.in_ok-flag.ensures c.in_ok-value.ensures)
    c.together.ensures
