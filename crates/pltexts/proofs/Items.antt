-- What is left of a list from an item on.
use Rattle.std.proofs.Common.{◌≡◌, ◌<◌, ◌+◌, ℕ, suc, List, ◌∷◌, length, drop, drop-cons, get_or, ap, ◌∙◌, add-one}

pub from_item : {A : Type 0} (xs : List A) (i : ℕ) (d x : A) → i < length xs → get_or xs i d ≡ x → drop i xs ≡ x ∷ drop (i + 1) xs
from_item xs i d x within is = rw add-one (drop-cons xs i d within ∙ ap (λ y. y ∷ drop (suc i) xs) is)
