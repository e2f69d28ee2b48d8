-- Walks that end, in one call after another.
use Rattle.std.specs.Prelude.{Result as Outcomes, Ok, Err}
use Rattle.std.proofs.Common.{List, OnOk, OnErr, ◌≡◌, ℕ, [], ◌++◌, None, Some, refl, sym, ap, ◌∙◌, append_assoc}
use Rattle.plstack.specs.declared.frame.Spot.TheVariants as spots
use Rattle.plstack.specs.declared.frame.Walk.{Walk}
use Rattle.plstack.specs.Places.{viewed}
use Rattle.plstack.specs.State.{State, walks_in}
use Rattle.plstack.specs.Walks.{Moves}

abbrev pub Ended : List Walk → List Walk → Type 0
Ended xs ys = (ended : List Walk) × (xs ≡ ended ++ ys)

pub ends_same : (xs ys : List Walk) → ys ≡ xs → Ended xs ys
ends_same xs ys same = ([], sym same)

pub ends_refl : (xs : List Walk) → Ended xs xs
ends_refl xs = ([], refl)

pub ends_trans : (xs ys zs : List Walk) → Ended xs ys → Ended ys zs → Ended xs zs
ends_trans xs ys zs a b = (a.0 ++ b.0, a.1 ∙ ap (λ ws. a.0 ++ ws) b.1 ∙ sym (append_assoc a.0 b.0 zs))

-- a walk over the program's text goes on in no view
module _ (s t : State) (w : Walk) (k : ℕ) (at : w.spot ≡ spots.Text k) where
  pub text-on : (j : ℕ) → Moves s t w (Some (spots.Text j)) → walks_in t ≡ walks_in s
  text-on j m = m.walks ∙ sym (m.was ∙ ap (λ x. viewed w x ++ m.more) at)

  pub text-off : Moves s t w None → walks_in t ≡ walks_in s
  text-off m = m.walks ∙ sym (m.was ∙ ap (λ x. viewed w x ++ m.more) at)

  pub text-ended : {T E : Type 0} (r : Outcomes T E) → OnOk r (Moves s t w None) → OnErr r (walks_in t ≡ walks_in s) → walks_in t ≡ walks_in s
  text-ended (Ok x) ok err = text-off ok
  text-ended (Err e) ok err = err
