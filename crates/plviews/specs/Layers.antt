-- The own updates of a thread, and where in the journal they stand.
use Rattle.std.specs.Prelude.{◌≡◌, ℕ, true, false, List, ◌++◌, Option, Some, None, refl}
use Rattle.std.specs.Coded.{Coded, code_by, coded×, coded_option, coded_ℕ}
use Rattle.plevent.specs.declared.update.Update.{Update}
use Rattle.pltx.specs.Own.{State, state_code, nothing, any_open}
use Rattle.pltx.specs.Walks.{AllErasedApart}

-- own updates, and the place of the journal at which the outermost transaction was begun last, if one was
pub record Layered : Type 0 where
  pub own : State
  pub place : Option ℕ

abbrev pub layer_code : Coded Layered
layer_code = code_by (State × Option ℕ) (coded× state_code (coded_option coded_ℕ)) (λ x. (x.own, x.place)) (λ p. record { own = p.0; place = p.1 }) (λ _. refl)

abbrev pub bottom : Layered
bottom = record { own = nothing; place = None }

-- what is open stands at that place, and erases no clause by a name of it but own ones; and where nothing is open there is nothing
pub record IsLayer (x : Layered) : Type 0 where
  pub place : any_open x.own ≡ true → x.place ≡ Some x.own.base
  pub apart : AllErasedApart x.own.base x.own.updates
  pub closed : any_open x.own ≡ false → x.own ≡ nothing

-- more updates, and all else as it was
pub record Grows (old new : State) : Type 0 where
  pub more : List Update
  pub is : new ≡ record old { updates = old.updates ++ more }
