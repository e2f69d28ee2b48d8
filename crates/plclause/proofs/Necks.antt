-- Heads and bodies.
use Rattle.std.proofs.Common.{◌≡◌, ℕ, List, [], ◌∷◌, None, refl}
use Rattle.plterm.specs.Tree.{Tree, compound, trees}
use Rattle.plclause.specs.Clausal.{neck_parts}

-- more than two arguments are no head and body
pub long_neck : (s : List ℕ) (h b : Tree) (args us rest : List Tree) → args ≡ h ∷ us → us ≡ b ∷ rest → (rest ≡ [] → ⊥) → None ≡ neck_parts (compound s (trees args))
long_neck s h b args us [] e f n = absurd (n refl)
long_neck s h b args us (t ∷ ts) e f n = rw (e, f) refl
