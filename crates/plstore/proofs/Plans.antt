-- A plan grows by one update.
use Rattle.std.proofs.Common.{◌≡◌, refl, ap, suc, List, [], ◌∷◌, ◌++◌, length}
use Rattle.plstore.specs.declared.plan.Planned.{Planned}
use Rattle.plstore.specs.Plan.{update_of, updates_of, IsPlanned, AllPlanned}

pub updates-append : (xs ys : List Planned) → updates_of (xs ++ ys) ≡ updates_of xs ++ updates_of ys
updates-append [] ys = refl
updates-append (x ∷ xs) ys = ap (λ l. update_of x ∷ l) (updates-append xs ys)

pub updates-length : (xs : List Planned) → length (updates_of xs) ≡ length xs
updates-length [] = refl
updates-length (x ∷ xs) = ap suc (updates-length xs)

pub all-push : (xs : List Planned) (x : Planned) → AllPlanned xs → IsPlanned x → AllPlanned (xs ++ x ∷ [])
all-push [] x h k = (k, tt)
all-push (y ∷ xs) x h k = (h.0, all-push xs x h.1 k)
