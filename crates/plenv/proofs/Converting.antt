-- A heap on which a goal was put.
use Rattle.std.specs.Prelude.{Result as Outcomes}
use Rattle.std.specs.declared.alloc.AllocError.{AllocError}
use Rattle.std.proofs.Common.{◌≡◌, sym, subst, Ok, Err, OnOk, OnErr}
use Rattle.plcells.specs.Store.{Store, IsFresh, renamed, Preserves as PreservesHeap}
use Rattle.plcells.specs.Putting.{AddsNoVariable}
use Rattle.plenv.specs.Env.{Env, AreSlots}
use Rattle.plenv.specs.Changes.{Stays}
use Rattle.plenv.proofs.Keeping.{over_heap}
use Rattle.plenv.proofs.Changing.{slots-over}
use Rattle.plenv.proofs.Putting.{stays-grown}

module _ (e : Env) (h : Store) (is : AreSlots e) (preserves : PreservesHeap e.heap h) where
  pub stays-preserved : Stays e (over_heap e h e.count)
  stays-preserved = stays-grown e h preserves.values preserves.keeps is

  -- no variable is new
  pub slots-preserved : {A : Type 0} (r : Outcomes A AllocError) → OnOk r (AddsNoVariable e.heap h) → OnErr r (h ≡ renamed e.heap h.names) → AreSlots (over_heap e h e.count)
  slots-preserved (Ok v) ok err = slots-over e h (λ w f. (preserves.values w f).0) ok.fresh is
  slots-preserved (Err x) ok err = slots-over e h (λ w f. (preserves.values w f).0) (λ n f. subst (λ s. IsFresh s n) (sym err) f) is
