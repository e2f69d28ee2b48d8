-- The levels that goal lists name.
use Rattle.std.specs.Prelude.{◌≡◌, ℕ, zero, suc, ◌<◌, ◌≤◌, true, List, [], ◌∷◌, ◌++◌, ◌⊎◌, length, map, AllPairs}
use Rattle.std.specs.Bool.{⊤}
use Rattle.plsearch.specs.Types.{Kind, Commit, Never, Until, Collect, Transact, Element, Goal, Marker, Raise, Asking, Handler, Catch, Gather, Undo, Case, Choice, Mark, Handle}
use Rattle.plsearch.specs.Engine.{deeper}
use Rattle.plsearch.specs.Handlers.{has}
use Rattle.pllinks.specs.declared.item.Portion.{Portion}
use Rattle.pllinks.specs.declared.item.Portion.TheVariants as items
use Rattle.plstack.specs.declared.frame.Handler.TheVariants as handlers
use Rattle.plstack.specs.declared.frame.Resume.{Resume}
use Rattle.plstack.specs.declared.frame.Resume.TheVariants as resumes
use Rattle.plstack.specs.declared.frame.Frame.{Frame}
use Rattle.plstack.specs.declared.frame.Frame.TheVariants.{Plain, Open}

-- that of an item, if it is a marker
abbrev pub levels_of : Portion → List ℕ
levels_of (items.Clause r) = []
levels_of (items.Goal k v) = []
levels_of (items.Marker m l) = l ∷ []

-- what a case is: a choice; a handler of balls or of copies, or a mark; or Undo, where a transaction or a snapshot ends without success
pub data Sort : Type 0 where
  Choosing : Sort
  Guarding : Sort
  Undoing : Sort

abbrev pub sort_of : Resume → Sort
sort_of (resumes.Clauses c) = Choosing
sort_of (resumes.Walk w) = Choosing
sort_of (resumes.Answers a) = Choosing
sort_of resumes.List = Choosing
sort_of (resumes.Handle (handlers.Catch c)) = Guarding
sort_of (resumes.Handle (handlers.Gather v)) = Guarding
sort_of (resumes.Handle handlers.Undo) = Undoing

abbrev pub handler_sort : Handler → Sort
handler_sort (Catch c r) = Guarding
handler_sort (Gather l) = Guarding
handler_sort Undo = Undoing

abbrev pub case_sort : Case → Sort
case_sort (Choice ps) = Choosing
case_sort (Mark l) = Guarding
case_sort (Handle h p) = handler_sort h

-- what some cases are, the innermost first
abbrev pub kinds : List Case → List Sort
kinds cs = map case_sort cs

abbrev pub choices : ℕ → List Sort → List Sort
choices zero below = below
choices (suc n) below = Choosing ∷ choices n below

-- what the cases of frames are, of the newest first
abbrev pub kinds_of : List Frame → List Sort
kinds_of [] = []
kinds_of (Plain n ∷ fs) = choices n (kinds_of fs)
kinds_of (Open p r ∷ fs) = sort_of r ∷ kinds_of fs

-- the case at a level is a choice
abbrev pub ChoiceIn : List Sort → ℕ → Type 0
ChoiceIn [] k = ⊥
ChoiceIn (b ∷ below) k = ((b ≡ Choosing) × (k ≡ length below)) ⊎ ChoiceIn below k

-- the levels of the cases Undo, the innermost first
abbrev pub undoings : List Sort → List ℕ
undoings [] = []
undoings (Choosing ∷ below) = undoings below
undoings (Guarding ∷ below) = undoings below
undoings (Undoing ∷ below) = length below ∷ undoings below

-- where choices are given up at a marker, those down to the level of one; the marker of a transaction has the level behind that
abbrev pub MayCut : List Sort → Kind → ℕ → Type 0
MayCut ks Commit k = ChoiceIn ks k
MayCut ks Never k = ChoiceIn ks k
MayCut ks Until k = ⊤
MayCut ks (Collect t) k = ⊤
MayCut ks (Transact d) k = (k ≡ suc d) × ChoiceIn ks d

-- below this stand the levels behind a marker
abbrev pub top_behind : Kind → ℕ → ℕ
top_behind Commit k = suc k
top_behind Never k = suc k
top_behind Until k = k
top_behind (Collect t) k = k
top_behind (Transact d) k = k

-- a list names levels below d alone, which never rise along it, and cuts to levels of choices
abbrev pub Fits : List Sort → ℕ → List Element → Type 0
Fits ks d [] = ⊤
Fits ks d (Goal k t ∷ es) = (k < d) × ChoiceIn ks k × Fits ks (suc k) es
Fits ks d (Marker m k ∷ es) = (k < d) × MayCut ks m k × Fits ks (top_behind m k) es
Fits ks d (Raise b ∷ es) = Fits ks d es
Fits ks d (Asking q ∷ es) = Fits ks d es

-- the levels of the markers of transactions, in the order of a list
abbrev pub transact_at : Kind → ℕ → List ℕ
transact_at Commit k = []
transact_at Never k = []
transact_at Until k = []
transact_at (Collect t) k = []
transact_at (Transact d) k = k ∷ []

abbrev pub transacts : List Element → List ℕ
transacts [] = []
transacts (Goal k t ∷ es) = transacts es
transacts (Marker m k ∷ es) = transact_at m k ++ transacts es
transacts (Raise b ∷ es) = transacts es
transacts (Asking q ∷ es) = transacts es

-- in the cases that are open outside of it, each marker of a transaction stands for the case Undo of its level, and there are no others
abbrev pub FitsIn : List Sort → List Element → Type 0
FitsIn ks es = Fits ks (length ks) es × (transacts es ≡ undoings ks)

-- a list of no goals, as it is visited while a result is carried outward, or one that fits
abbrev pub EmptyOrFits : List Sort → List Element → Type 0
EmptyOrFits ks es = (es ≡ []) ⊎ FitsIn ks es

-- a goal of the level k may stand before it there
abbrev pub Precedes : List Sort → ℕ → List Element → Type 0
Precedes ks k es = ((k < length ks) × ChoiceIn ks k × Fits ks (suc k) es) × (transacts es ≡ undoings ks)

-- a ball with these levels is for the handler of the level d, if that is Undo
abbrev pub IsNamed : List ℕ → ℕ → Handler → Type 0
IsNamed ls d (Catch c r) = ⊤
IsNamed ls d (Gather l) = ⊤
IsNamed ls d Undo = has d ls ≡ true

-- so it is for each Undo among some cases, and its levels never rise
abbrev pub AreNamed : List ℕ → List Case → Type 0
AreNamed ls [] = AllPairs (λ k l. l ≤ k) ls
AreNamed ls (Choice ps ∷ cs) = AreNamed ls cs
AreNamed ls (Mark l ∷ cs) = AreNamed ls cs
AreNamed ls (Handle h p ∷ cs) = IsNamed ls (deeper cs 0) h × AreNamed ls cs
