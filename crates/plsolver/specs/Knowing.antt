-- What own updates tell of the clauses in a view, whatever batches of the journal stand below its place.
use Rattle.std.specs.Prelude.{◌≡◌, List, take, Option, Some, None}
use Rattle.plterm.specs.Tree.{Tree}
use Rattle.plclause.specs.Clause.{Clause}
use Rattle.plevent.specs.declared.update.ClauseName.{ClauseName}
use Rattle.plevent.specs.declared.update.Update.{Update}
use Rattle.plevent.specs.Alive.{Stamped, living, lives_as}
use Rattle.plclause.specs.Indicators.{indicator}
use Rattle.plevent.specs.Keys.{first_key}
use Rattle.plrecords.specs.declared.record.Cursor.{Cursor}
use Rattle.plstore.specs.Like.{next_like_of}
use Rattle.plstore.specs.Looking.{clause_alive}
use Rattle.plrecords.specs.Rising.{AllUnder, Ordered}
use Rattle.pltx.specs.Walks.{AllErasedApart}
use Rattle.plviews.specs.declared.lookup.Reach.{Reach}
use Rattle.plviews.specs.declared.lookup.Reach.TheVariants as reaches
use Rattle.plviews.specs.declared.lookup.Step.{Step}
use Rattle.plviews.specs.declared.view.View.{View}
use Rattle.plviews.specs.Views.{sight, whole, IsUntouched}
use Rattle.plviews.specs.Lookups.{likely, rest_at, Leads, LeadsFound, IsStepOf}
use Rattle.plstack.specs.declared.frame.Use.{Use}
use Rattle.plstack.specs.Places.{candidate_of}
use Rattle.plsolver.specs.declared.step.Known.{Known}
use Rattle.plsolver.specs.declared.step.Known.TheVariants as knowns

-- of the clauses that may have the head h, what comes next behind a reach
abbrev pub Tells : List Update → Tree → View → Reach → Step → Type 0
Tells own h g r step = (us : List Stamped) → Ordered us → AllUnder g.place us → IsStepOf (sight us g own) (indicator h) (first_key h) (likely (first_key h) (rest_at (sight us g own) (indicator h) r)) step

-- the same where the journal gave a name, or none, behind a cursor
abbrev pub TellsFound : List Update → Tree → View → Option ClauseName → Step → Type 0
TellsFound own h g found step =
    (us : List Stamped) (c : Cursor) → Ordered us → AllUnder g.place us → found ≡ next_like_of (first_key h) c (living us (indicator h)) →
    IsStepOf (sight us g own) (indicator h) (first_key h) (likely (first_key h) (rest_at (sight us g own) (indicator h) (reaches.Base c))) step

-- a step and where it leads
pub record Steps (own : List Update) (h : Tree) (g : View) (r : Reach) (step : Step) : Type 0 where
  pub tells : Tells own h g r step
  pub leads : Leads g r step

pub record StepsFound (own : List Update) (h : Tree) (g : View) (found : Option ClauseName) (step : Step) : Type 0 where
  pub tells : TellsFound own h g found step
  pub leads : LeadsFound g found step

-- what is alive under a name
abbrev pub Holds : List Update → View → ClauseName → Option Clause → Type 0
Holds own g x o = (us : List Stamped) → Ordered us → AllUnder g.place us → clause_alive x (whole (sight us g own)) ≡ o

-- what is known of a clause is so
abbrev pub IsKnown : List Update → Use → View → ClauseName → Known → Type 0
IsKnown own u g x (knowns.Is y) = (c : Clause) × (y ≡ candidate_of u (lives_as x c)) × Holds own g x (Some c)
IsKnown own u g x knowns.Gone = Holds own g x None
IsKnown own u g x knowns.Asks = IsUntouched own g x

-- in a view that may be seen own updates erase no clause by a name of its place but own ones
abbrev pub IsApart : List Update → View → Type 0
IsApart own g = AllErasedApart g.place (take g.count own)
