-- What an element that asked makes of its answer.
use Rattle.std.specs.Prelude.{List, ℕ}
use Rattle.plevent.specs.Alive.{Stamped}
use Rattle.plevent.specs.Search.{Answer, Got, Seen}
use Rattle.plevent.specs.declared.request.Reply.TheVariants as replies
use Rattle.plevent.specs.declared.request.Reply.{Reply}
use Rattle.plevent.specs.declared.request.Request.TheVariants.{EraseOne, HaltRun, Publish}
use Rattle.plevent.specs.declared.request.Request.{Request}
use Rattle.plsearch.specs.Lookups.{looked_up}
use Rattle.plsearch.specs.Moves.{go_on, opened}
use Rattle.plsearch.specs.Types.{Asking, Await, Begin, Element, Ends, Erase, Fail, Give, GoesOn, Halted, Local, Look, Move, Stopped, Then, Unfit}

-- what a reply says of the request that was asked: it was served; it came too late; the run has stopped; or it is no reply to it
pub data Outcome : Type 0 where
  Served : Outcome
  Late : Outcome
  Stops : Outcome
  Misfits : Outcome

abbrev pub outcome : Request → Reply → Outcome
outcome (Publish us) replies.Published = Served
outcome (EraseOne x) replies.Erased = Served
outcome (EraseOne x) replies.Gone = Late
outcome (HaltRun n) replies.Done = Served
outcome q replies.Stopped = Stops
outcome q r = Misfits

abbrev pub follows : Outcome → Then → List Element → ℕ → Local → Move
follows Served GoesOn rest n w = go_on rest n w
follows Served (Ends k) rest n w = Give (Halted k) w
follows Late next rest n w = Give Fail w
follows Stops next rest n w = Give Stopped w
follows Misfits next rest n w = Give Unfit w

-- an element that asked, and its answer
unfoldable pub answered : Element → Answer → ℕ → List Element → ℕ → Local → Move
answered (Asking (Look u)) (Seen g us) d rest n w = looked_up us u d rest n w
answered (Asking (Begin i g)) (Seen v us) d rest n w = opened i v g d rest n w
answered (Asking (Await q next)) (Got r) d rest n w = follows (outcome q r) next rest n w
answered (Asking (Erase x)) (Got r) d rest n w = follows (outcome (EraseOne x) r) GoesOn rest n w
answered e a d rest n w = Give Unfit w

-- what is open stands on the view with which it began
abbrev pub founded : Element → Answer → List Stamped → List Stamped
founded (Asking (Begin i g)) (Seen v us) below = us
founded e a below = below
