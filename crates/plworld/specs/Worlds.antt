-- A world: its journal, and that its parts are what the journal says.
use Rattle.std.specs.Prelude.{◌≡◌, ℕ, Bool, false, List, [], ◌∷◌, length, fold, refl}
use Rattle.std.specs.Coded.{Coded, code_by, coded×, coded_list, coded_bool}
use Rattle.plevent.specs.declared.update.Update.{Update}
use Rattle.plevent.specs.declared.request.Request.{Request}
use Rattle.plevent.specs.declared.request.Reply.{Reply}
use Rattle.plevent.specs.declared.act.Act.{Act}
use Rattle.plevent.specs.declared.act.Entry.{Entry}
use Rattle.plevent.specs.declared.standing.Standing.{Standing}
use Rattle.plevent.specs.contracts.act.Entry as entry_row
use Rattle.plevent.specs.Alive.{change_if}
use Rattle.plevent.specs.Reading.{reading}
use Rattle.plevent.specs.Rows.{adds, reply_to}
use Rattle.plrecords.specs.Kept.{Kept, keep, nothing}
use Rattle.plrecords.specs.Rising.{AllBelowPlace}

-- what a world is seen as: its journal, and whether it is stopped
pub record Shared : Type 0 where
  pub journal : List Entry
  pub stopped : Bool

abbrev pub shared_code : Coded Shared
shared_code = code_by (List Entry × Bool) (coded× (coded_list entry_row.the_row.coded) coded_bool)
    (λ w. (w.journal, w.stopped)) (λ p. record { journal = p.0; stopped = p.1 }) (λ _. refl)

-- it is not stopped, and so serves requests
abbrev pub IsServing : Shared → Type 0
IsServing s = s.stopped ≡ false

-- the reply to a request of thread t: a world that is stopped serves none
abbrev pub reply_in : Shared → ℕ → Request → Reply
reply_in s t q = change_if s.stopped Reply.Shut (reply_to s.journal t q)

-- what a request, asked by worker w, adds to the journal: where the world is stopped, nothing
abbrev pub adds_in : Shared → ℕ → ℕ → Request → List Entry
adds_in s w t q = change_if s.stopped [] (adds s.journal w t q)

-- the journal of a new world: the program's first batch
abbrev pub opening : List Update → List Entry
opening first = record { worker = 0; thread = 0; act = Act.Batch first } ∷ []

-- what stands and what the store keeps are those of the journal
pub record IsWorld (h : List Entry) (s : Standing) (k : Kept) : Type 0 where
  pub standing : s ≡ (reading h).standing
  pub store : k ≡ fold keep nothing (reading h).updates
  pub size : s.size ≡ length h
  pub below : AllBelowPlace s.size k.records
