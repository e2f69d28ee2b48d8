-- Comparisons of cells' numbers.
use Rattle.std.proofs.Common.{◌≡◌, ◌∙◌, sym, ℕ, ◌<◌, ◌≤◌, Bool, true, false, arith}
use Rattle.std.specs.Ordering.{nat_cmp, is_le, is_ge}
use Rattle.std.proofs.lemmas.Map.Keys.{le_from_is_le}

below-not-ge : (a b : ℕ) → is_ge (nat_cmp a b) ≡ false → a < b
below-not-ge a b e = grind (arith, e)

pub below : {r : Bool} (a b : ℕ) → r ≡ is_ge (nat_cmp a b) → r ≡ false → a < b
below a b e f = below-not-ge a b (sym e ∙ f)

pub up-to : {r : Bool} (a b : ℕ) → r ≡ is_le (nat_cmp a b) → r ≡ true → a ≤ b
up-to a b e f = le_from_is_le a b (sym e ∙ f)
