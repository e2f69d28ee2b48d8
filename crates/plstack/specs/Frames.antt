-- What a stack knows of its frames.
use Rattle.std.specs.Prelude.{◌≡◌, ℕ, ◌+◌, ◌<◌, ◌≤◌, List, [], ◌∷◌, length, Option, None, Some}
use Rattle.std.specs.Bool.{⊤}
use Rattle.plcells.specs.declared.cell.Cell.{Cell}
use Rattle.plcells.specs.Store.{Store, IsValue, AreValues}
use Rattle.plgenerator.specs.Answers.{IsRemaining}
use Rattle.plviews.specs.declared.view.View.{View}
use Rattle.plenv.specs.Env.{Env, cut, IsMark}
use Rattle.plenv.specs.Marks.{IsOlder as IsEnvOlder}
use Rattle.pllinks.specs.declared.link.Link.{Link}
use Rattle.pllinks.specs.Lists.{Goals, all_elements, AreItems}
use Rattle.pllinks.specs.Links.{items_of}
use Rattle.plstack.specs.declared.frame.Marks.{Marks}
use Rattle.plstack.specs.declared.frame.Point.{Point}
use Rattle.plstack.specs.declared.frame.Handler.{Handler}
use Rattle.plstack.specs.declared.frame.Handler.TheVariants as handlers
use Rattle.plstack.specs.declared.frame.Spot.{Spot}
use Rattle.plstack.specs.declared.frame.Spot.TheVariants as spots
use Rattle.plstack.specs.declared.frame.Resume.{Resume}
use Rattle.plstack.specs.declared.frame.Resume.TheVariants as resumes
use Rattle.plstack.specs.declared.frame.Frame.{Frame}
use Rattle.plstack.specs.declared.frame.Frame.TheVariants.{Plain, Open}
use Rattle.plstack.specs.Basis.{IsShown, counting}
use Rattle.plstack.specs.Places.{kept, kept_values}
use Rattle.plstack.specs.Levels.{kinds_of, FitsIn}

-- a frame that is not newer than these marks, and keeps no values behind them
pub record IsOlder (m : Marks) (p : Point) (r : Resume) : Type 0 where
  pub env : IsEnvOlder p.marks.env m.env
  pub links : p.marks.links ≤ m.links
  pub saved : p.marks.saved + kept r ≤ m.saved

abbrev pub AreOlder : Marks → List Frame → Type 0
AreOlder m [] = ⊤
AreOlder m (Plain n ∷ fs) = AreOlder m fs
AreOlder m (Open p r ∷ fs) = IsOlder m p r × AreOlder m fs

-- a walk goes on in a view that shows no more than the latest
abbrev pub IsSpotSeen : View → Spot → Type 0
IsSpotSeen latest (spots.Text k) = ⊤
IsSpotSeen latest (spots.Seek v r) = IsShown v latest
IsSpotSeen latest (spots.At v x r) = IsShown v latest
IsSpotSeen latest (spots.Known v x y) = IsShown v latest

abbrev pub IsLeftSeen : View → Option Spot → Type 0
IsLeftSeen latest None = ⊤
IsLeftSeen latest (Some x) = IsSpotSeen latest x

abbrev pub IsSeen : View → Resume → Type 0
IsSeen latest (resumes.Clauses c) = ⊤
IsSeen latest (resumes.Walk w) = IsSpotSeen latest w.spot
IsSeen latest (resumes.Answers a) = ⊤
IsSeen latest resumes.List = ⊤
IsSeen latest (resumes.Handle x) = ⊤

abbrev pub IsFrameSeen : View → Frame → Type 0
IsFrameSeen latest (Plain k) = ⊤
IsFrameSeen latest (Open p r) = IsSeen latest r

-- behind a transaction, whose start is the first, no walk sees more own updates than there were then
abbrev pub Since : List ℕ → View → (List ℕ → View → Type 0) → Type 0
Since [] latest Are = ⊥
Since (k ∷ starts) latest Are = (k ≤ latest.count) × Are starts (counting k latest)

abbrev pub Behind : Resume → List ℕ → View → (List ℕ → View → Type 0) → Type 0
Behind (resumes.Clauses c) starts latest Are = Are starts latest
Behind (resumes.Walk w) starts latest Are = Are starts latest
Behind (resumes.Answers a) starts latest Are = Are starts latest
Behind resumes.List starts latest Are = Are starts latest
Behind (resumes.Handle (handlers.Catch c)) starts latest Are = Are starts latest
Behind (resumes.Handle (handlers.Gather v)) starts latest Are = Are starts latest
Behind (resumes.Handle handlers.Undo) starts latest Are = Since starts latest Are

abbrev pub BehindFrame : Frame → List ℕ → View → (List ℕ → View → Type 0) → Type 0
BehindFrame (Plain k) starts latest Are = Are starts latest
BehindFrame (Open p r) starts latest Are = Behind r starts latest Are

-- what the walks among frames see, the newest first, with how many own updates there were at the start of each transaction among them, the
-- innermost first
abbrev pub AreSeen : List ℕ → View → List Frame → Type 0
AreSeen starts latest [] = starts ≡ []
AreSeen starts latest (f ∷ fs) = IsFrameSeen latest f × BehindFrame f starts latest (λ older seen. AreSeen older seen fs)

-- the values of a handler are those of a heap
abbrev pub IsHandled : Store → Handler → Type 0
IsHandled h (handlers.Catch c) = IsValue h c.catcher × IsValue h c.recovery
IsHandled h (handlers.Gather v) = IsValue h v
IsHandled h handlers.Undo = ⊤

-- the values of a case are those of the heap that it comes back to
abbrev pub IsResume : Store → List Cell → Resume → Type 0
IsResume h vs (resumes.Clauses c) = AreValues h vs
IsResume h vs (resumes.Walk w) = IsValue h w.goal
IsResume h vs (resumes.Answers a) = AreValues h vs × IsRemaining h vs a.turn
IsResume h vs resumes.List = ⊤
IsResume h vs (resumes.Handle x) = IsHandled h x

-- a choice point or handler: it reads what it comes back to at its marks, the frames behind it are older, and its list fits in them
pub record IsOpen (code : Goals) (e : Env) (links : List Link) (saved : List Cell) (p : Point) (r : Resume) (fs : List Frame) : Type 0 where
  pub mark : IsMark p.marks.env e
  pub links_room : p.marks.links ≤ length links
  pub list : p.list.rest ≤ p.marks.links
  pub saved_room : p.marks.saved + kept r ≤ length saved
  pub older : AreOlder p.marks fs
  pub items : AreItems code (cut p.marks.env e).heap (length (cut p.marks.env e).slots) (items_of links p.list)
  pub resume : IsResume (cut p.marks.env e).heap (kept_values saved p r) r
  pub fits : FitsIn (kinds_of fs) (all_elements code e (items_of links p.list))

abbrev pub IsFrame : Goals → Env → List Link → List Cell → Frame → List Frame → Type 0
IsFrame code e links saved (Plain n) fs = 0 < n
IsFrame code e links saved (Open p r) fs = IsOpen code e links saved p r fs

abbrev pub AreFrames : Goals → Env → List Link → List Cell → List Frame → Type 0
AreFrames code e links saved [] = ⊤
AreFrames code e links saved (f ∷ fs) = IsFrame code e links saved f fs × AreFrames code e links saved fs
