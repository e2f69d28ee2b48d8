-- How a request is served: as its row says, or the run has stopped, or the thread waits.
use Rattle.std.proofs.Common.{◌≡◌, ℕ, Bool, true, false, IsTrue, ◌||◌, ◌&&◌, not, None, refl}
use Rattle.plevent.specs.declared.request.Request.{Request}
use Rattle.plevent.specs.declared.request.Reply.{Reply}
use Rattle.plevent.specs.Alive.{change_if}
use Rattle.plevent.specs.Reading.{Reading}
use Rattle.plevent.specs.Rows.{Row, is_halted, is_workers, is_leave, runs, row, served_while, served}

pub served-as : (q : Request) (t : ℕ) (r : Reading) (C : Row → Type 0) → C (Reply.Stopped, None) → C (Reply.NotYet q, None) →
    (IsTrue (is_workers q || runs t r.standing) → (is_halted r.standing && not (is_leave q)) ≡ false → C (row q t r)) → C (served q t r)
unfolding served
served-as q t r C stopped late rows = halts (is_halted r.standing && not (is_leave q)) refl
  where
    waits : (b : Bool) → (is_workers q || runs t r.standing) ≡ b → (is_halted r.standing && not (is_leave q)) ≡ false → C (change_if b (row q t r) (Reply.NotYet q, None))
    waits true may goes = rows may goes
    waits false may goes = late

    halts : (b : Bool) → (is_halted r.standing && not (is_leave q)) ≡ b → C (change_if b (Reply.Stopped, None) (served_while q t r))
    halts true halted = stopped
    halts false goes = waits (is_workers q || runs t r.standing) refl goes
