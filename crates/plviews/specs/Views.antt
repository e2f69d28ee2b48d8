-- Views: what a call sees of the journal, and of own updates on top.
use Rattle.std.specs.Prelude.{◌≡◌, ◌≢◌, ◌<◌, ℕ, false, List, [], ◌++◌, take, Option, Some, None}
use Rattle.plclause.specs.Clause.{Clause}
use Rattle.plevent.specs.declared.update.ClauseName.{ClauseName}
use Rattle.plevent.specs.declared.update.Update.{Update}
use Rattle.plevent.specs.Alive.{Stamped, stamped}
use Rattle.plstore.specs.Looking.{Views}
use Rattle.plrecords.specs.Rising.{AllUnder, Ordered}
use Rattle.pltx.specs.Own.{erased_in}
use Rattle.pltx.specs.Walks.{AllErasedApart}
use Rattle.pltx.specs.declared.target.Target.TheVariants.{Committed}
use Rattle.plviews.specs.declared.view.View.{View}
use Rattle.plviews.specs.declared.view.Told.{Told}

-- what is seen: batches below a place, and updates on top of them, as one last batch at that place
pub record Sight : Type 0 where
  pub below : List Stamped
  pub place : ℕ
  pub on_top : List Update

abbrev pub own_part : Sight → List Stamped
own_part s = stamped s.place 0 s.on_top

abbrev pub whole : Sight → List Stamped
whole s = s.below ++ own_part s

abbrev pub WithoutOwn : Sight → Type 0
WithoutOwn s = s.on_top ≡ []

-- what a view has of own updates, on top of batches
abbrev pub sight : List Stamped → View → List Update → Sight
sight us v own = record { below = us; place = v.place; on_top = take v.count own }

-- the same of the batches below each place
abbrev pub sight_in : Views → List Update → View → Sight
sight_in v own g = sight (v g.place) g own

abbrev pub seen_in : Views → List Update → View → List Stamped
seen_in v own g = whole (sight_in v own g)

-- the batches of each place are in order, and below it
pub record AreOrdered (v : Views) : Type 0 where
  pub ordered : (g : ℕ) → Ordered (v g)
  pub under : (g : ℕ) → AllUnder g (v g)

-- batches in order, all below a place, and updates that erase none of a batch above
pub record IsBase (us : List Stamped) (b : ℕ) (own : List Update) : Type 0 where
  pub ordered : Ordered us
  pub under : AllUnder b us
  pub erased : AllErasedApart b own

-- the clause of a name, where it is alive in a view, or else what is to be asked of the journal
abbrev pub IsTold : Told → Option Clause → Option Clause → Type 0
IsTold (Told.Clause c) here below = here ≡ Some c.now
IsTold Told.Nothing here below = here ≡ None
IsTold Told.Asks here below = here ≡ below

abbrev pub IsAsks : Told → Type 0
IsAsks (Told.Clause c) = ⊥
IsAsks Told.Nothing = ⊥
IsAsks Told.Asks = Unit {0}

-- own updates are seen, and the name is one of their place
abbrev pub IsOwn : View → ClauseName → Type 0
IsOwn v x = (x.place ≡ v.place) × (0 < v.count)

-- the name is one of the journal, and no own update that is seen erases its clause
abbrev pub IsUntouched : List Update → View → ClauseName → Type 0
IsUntouched own v x = (x.place ≢ v.place) × (erased_in (Committed x) (take v.count own) ≡ false)
