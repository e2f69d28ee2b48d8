use Rattle.std.proofs.Common.{◌≡◌, vec_len}
use Rattle.plstore.specs.Cut.{cut}
use Rattle.plstore.specs.Tables.{kept_in}
use Rattle.plstore.specs.Trail.{IsTraced}
use Rattle.plstore.specs.declared.trail.Traced.{Traced}
use Prim.Native.Nat.{ℕ}
use Rattle.plstore.proofs.trail.Traced.cut.Given as goal

pub record Cutting (place : ℕ) (was now : Traced) : Type 0 where
  pub kept : cut place (kept_in now.tables) ≡ cut place (kept_in was.tables)
  pub traced : IsTraced now

abbrev pub invariant-loop-step : goal.invariant-loop-step
invariant-loop-step l = Cutting l.place l.fn.self l.self

abbrev pub decreases-loop-step : goal.decreases-loop-step
decreases-loop-step l = vec_len l.self.trail
