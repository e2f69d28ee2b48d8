-- Handlers over heaps in which all values stand for the same.
use Rattle.std.proofs.Common.{◌≡◌, refl, ap, ap₂}
use Rattle.plcells.specs.declared.cell.Cell.{Cell}
use Rattle.plcells.specs.Store.{Store, IsValue, value}
use Rattle.plsearch.specs.Types.{Catch, Gather}
use Rattle.plstack.specs.declared.frame.Handler.{Handler}
use Rattle.plstack.specs.declared.frame.Handler.TheVariants as handlers
use Rattle.plstack.specs.Places.{handled}
use Rattle.plstack.specs.Frames.{IsHandled}

pub handled-same : (old new : Store) → ((v : Cell) → IsValue old v → IsValue new v × (value new v ≡ value old v)) → (x : Handler) → IsHandled old x → IsHandled new x × (handled new x ≡ handled old x)
handled-same old new same (handlers.Catch c) i =
    let a = same c.catcher i.0 in
    let b = same c.recovery i.1 in
    ((a.0, b.0), ap₂ Catch a.1 b.1)
handled-same old new same (handlers.Gather v) i = let a = same v i in (a.0, ap Gather a.1)
handled-same old new same handlers.Undo i = (tt, refl)
