-- What a transaction or a snapshot does to the journal of a run that follows its thread's search.
use Rattle.std.specs.Prelude.{◌≡◌, ℕ, suc, ◌<◌, ◌≤◌, ◌⊎◌, true, false, List, [], ◌∷◌, ◌++◌, take, Some}
use Rattle.std.specs.List.{All}
use Rattle.plevent.specs.declared.request.ThreadEnd.{ThreadEnd}
use Rattle.plevent.specs.declared.request.Request.{Request}
use Rattle.plevent.specs.declared.request.Reply.{Reply}
use Rattle.plevent.specs.declared.update.Update.{Update}
use Rattle.plevent.specs.declared.act.Act.{Act}
use Rattle.plevent.specs.Reading.{reading}
use Rattle.plevent.specs.Search.{Item, View, Ask, Got}
use Rattle.plhist.specs.Follows.{own, Taken}
use Rattle.pltx.specs.Own.{State}
use Rattle.pltx.specs.declared.level.Level.{Level}
use Rattle.plsearch.specs.Machines.Machine.{Mode, At, Back, Machine}
use Rattle.pltransactions.specs.Laws.{wanted, IsOfClauses, its_updates}
use Rattle.plrunlaws.specs.Batches.{MakesBatch}
use Rattle.plrunlaws.specs.Standing.{Followed, at_turn, is_open, IsAnswered, started, StandsAt, AreBelow, AreFrom, act_of}

-- turn k begins an outermost transaction or snapshot, and turn j ends it: nothing is open before it and behind it, and something is between
pub record Lasts (f : Followed) (k j : ℕ) : Type 0 where
  pub longer : k < j
  pub before : is_open f k ≡ false
  pub between : (i : ℕ) → k < i → i ≤ j → is_open f i ≡ true
  pub behind : is_open f (suc j) ≡ false

-- What the end of the only one that is open publishes: with success, where a list is visited, the updates of a transaction; and nothing
-- where a result is carried outward.
abbrev pub updates_at : List Level → List Update → List Update
updates_at (level ∷ []) us = its_updates level.kind us
updates_at levels us = []

abbrev pub published_in : Mode → State → List Update
published_in (At p) own = updates_at own.levels own.updates
published_in (Back r) own = []

abbrev pub published_by : Machine → List Update
published_by m = published_in m.mode m.run.local.own

-- where items came to s, updates are published at the place g
abbrev pub with_batch : ℕ → List Update → Taken → Taken
with_batch g us s = record { answers = s.answers ++ Got Reply.Published ∷ []; low = suc g; made = s.made ++ (g, Act.Batch us) ∷ [] }

-- updates, if there are any, are published as one batch by the turn j: it is the first of the entries that are made later
abbrev pub Publishes : Followed → ℕ → Taken → List Update → List (ℕ × Act) → Type 0
Publishes f j s [] later = Unit {0}
Publishes f j s (u ∷ us) later =
    (g : ℕ) × (more : List (ℕ × Act)) × (later ≡ (g, Act.Batch (u ∷ us)) ∷ more) × StandsAt f (suc j) (with_batch g (u ∷ us) s)

-- none of some entries is a batch
abbrev pub IsNoBatch : Act → Type 0
IsNoBatch (Act.Batch us) = ⊥
IsNoBatch a = Unit {0}

abbrev pub NoBatch : List (ℕ × Act) → Type 0
NoBatch xs = All (λ x. IsNoBatch x.1) xs

-- the items between make these entries, at places behind the first of two where it stands, and none of them is a batch
pub record AddsNoBatch (s s' : Taken) : Type 0 where
  pub inside : List (ℕ × Act)
  pub made : s'.made ≡ s.made ++ inside
  pub from : AreFrom s.low inside
  pub none : NoBatch inside

-- An outermost transaction or snapshot begins with a view, at a place of the journal. To its end no other view is asked for, and no batch
-- or erasure. The entries that the thread makes meanwhile, where it asks for anything, are no batches: its entries are those that it made
-- before the view, which stand below the view's place; those of the items asked inside, behind that place; and those that are asked for
-- behind the end. If it is a transaction that ends with success and has updates, then the first of these last is their batch.
pub record StandsAlone (f : Followed) (k j : ℕ) : Type 0 where
  pub before : Taken
  pub place : ℕ
  pub begun : Taken
  pub stood : StandsAt f k before
  pub views : IsAnswered f View place before begun
  pub asks : (i : ℕ) → k < i → i ≤ j → (q : Item) → wanted (at_turn f i) ≡ Some q → IsOfClauses q → ⊥
  pub stays : (i : ℕ) → k < i → i ≤ suc j → (s : Taken) → StandsAt f i s → AddsNoBatch begun s
  pub done : Taken
  pub stands : StandsAt f (suc j) done
  pub inside : List (ℕ × Act)
  pub later : List (ℕ × Act)
  pub entries : own f.run.thread f.journal ≡ started f before.made ++ inside ++ later
  pub below : AreBelow place (started f before.made)
  pub from : AreFrom place inside
  pub none : NoBatch inside
  pub made : done.made ≡ before.made ++ inside
  pub behind : AreFrom done.low later
  pub publishes : Publishes f (suc j) done (published_by (at_turn f j)) later

abbrev pub TransactionsStandAlone : Type 0
TransactionsStandAlone = (f : Followed) (k j : ℕ) → Lasts f k j → StandsAlone f k j

-- its last step was taken, or it ended the run
abbrev pub IsCutShort : ThreadEnd → Type 0
IsCutShort ThreadEnd.Budget = Unit {0}
IsCutShort (ThreadEnd.Halt n) = Unit {0}
IsCutShort e = ⊥

-- turn k begins one in which the run ends: from then on something is open
pub record LastsToTheEnd (f : Followed) (k : ℕ) : Type 0 where
  pub before : is_open f k ≡ false
  pub behind : (i : ℕ) → k < i → is_open f i ≡ true

-- each that begins has its end, or the run ends inside of it
abbrev pub EndsOrLasts : Type 0
EndsOrLasts = (f : Followed) (k : ℕ) → is_open f k ≡ false → is_open f (suc k) ≡ true → ((j : ℕ) × Lasts f k j) ⊎ LastsToTheEnd f k

-- A run ends inside of one where it has no step left, or ends the run there. Nothing of it is published then: from the place of the view on
-- none of the thread's entries is a batch, and the last of them tells of that end.
pub record EndsInside (f : Followed) (k : ℕ) : Type 0 where
  pub before : Taken
  pub place : ℕ
  pub begun : Taken
  pub stood : StandsAt f k before
  pub views : IsAnswered f View place before begun
  pub inside : List (ℕ × Act)
  pub entries : own f.run.thread f.journal ≡ started f before.made ++ inside ++ (f.ended.asked.final, act_of f.came_to) ∷ []
  pub below : AreBelow place (started f before.made)
  pub from : AreFrom place inside
  pub none : NoBatch inside
  pub behind : place ≤ f.ended.asked.final
  pub short : IsCutShort f.came_to

abbrev pub NothingOfItStays : Type 0
NothingOfItStays = (f : Followed) (k : ℕ) → LastsToTheEnd f k → EndsInside f k

-- A batch of the thread at the place g, with some of its entries before it: a turn at which nothing is open asks for it, a publication or
-- the erasure of one clause that is alive, when the thread has made those entries; and there it is answered.
pub record IsAskedInTurn (f : Followed) (before : List (ℕ × Act)) (g : ℕ) (us : List Update) : Type 0 where
  pub turn : ℕ
  pub so_far : Taken
  pub stood : StandsAt f turn so_far
  pub made : before ≡ started f so_far.made
  pub closed : is_open f turn ≡ false
  pub asked : Request
  pub asks : wanted (at_turn f turn) ≡ Some (Ask asked)
  pub makes : MakesBatch (reading (take g f.journal)) asked us
  pub after : Taken
  pub answered : IsAnswered f (Ask asked) g so_far after
  pub stands : StandsAt f (suc turn) after

abbrev pub EachBatchInTurn : Type 0
EachBatchInTurn = (f : Followed) (before behind : List (ℕ × Act)) (g : ℕ) (us : List Update) →
    own f.run.thread f.journal ≡ before ++ (g, Act.Batch us) ∷ behind → IsAskedInTurn f before g us
