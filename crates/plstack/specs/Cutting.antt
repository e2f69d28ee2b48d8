-- What a cut gives up.
use Rattle.std.specs.Prelude.{◌≡◌, ◌<◌, ◌≤◌, ◌+◌, ℕ, suc, List, [], ◌∷◌, ◌++◌, length, get_or, take, reverse}
use Rattle.plterm.specs.Tree.{Tree}
use Rattle.plsearch.specs.Types.{Resolvent, Catch, Case, Choice, Mark, Handle}
use Rattle.plsearch.specs.Engine.{deeper}
use Rattle.plsearch.specs.Machines.Levels.{AreAtMost, emptied}
use Rattle.plenv.specs.Env.{IsWithin}
use Rattle.pllinks.specs.declared.link.Continuation.{Continuation}
use Rattle.pllinks.specs.Links.{alone}
use Rattle.plstack.specs.declared.frame.Marks.{Marks}
use Rattle.plstack.specs.declared.frame.Handler.TheVariants as handlers
use Rattle.plstack.specs.declared.frame.Resume.TheVariants as resumes
use Rattle.plstack.specs.declared.frame.Frame.{Frame}
use Rattle.plstack.specs.declared.frame.Frame.TheVariants.{Plain, Open}
use Rattle.plstack.specs.Places.{Database, size, depth_of, plain, cases}
use Rattle.plstack.specs.Basis.{Ends}
use Rattle.plstack.specs.Levels.{Choosing, sort_of, kinds_of, undoings}
use Rattle.plstack.specs.Frames.{AreOlder}
use Rattle.plstack.specs.State.{State, depth_in, place_of, goals_in, goals_of, cases_of, walks_in, EndsWalks}
use Rattle.plstack.specs.Opening.{Keeps, KeepsValues}

-- its cases are choices
abbrev pub IsChoice : Frame → Type 0
IsChoice (Plain n) = Unit {0}
IsChoice (Open p r) = sort_of r ≡ Choosing

abbrev pub frame_at : List Frame → ℕ → Frame
frame_at frames i = get_or frames i (Plain 0)

-- the case at a level is a choice, and in the frame of this number, with so many cases below it; the newest frame is the last
pub record ChoiceAt (frames : List Frame) (level i below : ℕ) : Type 0 where
  pub there : i < length frames
  pub choice : IsChoice (frame_at frames i)
  pub depth : depth_of (reverse (take i frames)) ≡ below
  pub low : below ≤ level
  pub high : level < below + size (frame_at frames i)

-- no transaction or snapshot ends at a case from the frame of a number on
abbrev pub NoneUndoes : List Frame → ℕ → Type 0
NoneUndoes frames i = undoings (kinds_of (reverse (take i frames))) ≡ undoings (kinds_of (reverse frames))

-- the cases from the frame of a number on are so many choices with nothing left
pub record EmptiesFrom (old new : State) (i n : ℕ) : Type 0 where
  pub cases : (db : Database) → cases_of db new ≡ plain n (cases db (goals_in old) old.env old.links old.saved (reverse (take i old.frames)))
  pub older : (m : Marks) → AreOlder m (reverse (take i old.frames)) → AreOlder m (reverse new.frames)
  pub walks : EndsWalks old new

-- the marks of a case from the frame of a number on: the frames below that one are not newer
pub record IsGivenUp (s : State) (i : ℕ) (m : Marks) : Type 0 where
  pub within : IsWithin m.env s.env
  pub older : AreOlder m (reverse (take i s.frames))

-- the choice at the level and all cases inside of it are emptied, and so is the mark
pub record Empties (db : Database) (old new : State) (level : ℕ) : Type 0 where
  pub inside : List Case
  pub places : List Resolvent
  pub below : List Case
  pub was : cases_of db old ≡ inside ++ Choice places ∷ below
  pub at : deeper below 0 ≡ level
  pub cases : cases_of db new ≡ emptied (Mark level ∷ inside) (Choice [] ∷ below)

-- the choice at the level and all cases inside of it are emptied
pub record EmptiesTo (db : Database) (old new : State) (level : ℕ) : Type 0 where
  pub inside : List Case
  pub places : List Resolvent
  pub below : List Case
  pub was : cases_of db old ≡ inside ++ Choice places ∷ below
  pub at : deeper below 0 ≡ level
  pub cases : cases_of db new ≡ emptied inside (Choice [] ∷ below)

-- so the cases from the frame of a number on are, and all stands for what it did
pub record GivesUp (old new : State) (i n : ℕ) : Type 0 where
  pub cases : (db : Database) → cases_of db new ≡ plain n (cases db (goals_in old) old.env old.links old.saved (reverse (take i old.frames)))
  pub keeps : KeepsValues old new
  pub walks : EndsWalks old new

-- a list that names no level above this one is visited behind a cut to it: all that a mark of the level gives up is emptied
pub record Cuts (old new : State) (level : ℕ) (list : Continuation) : Type 0 where
  pub most : AreAtMost level (goals_of old list)
  pub cases : (db : Database) → Empties db old new level
  pub keeps : Keeps old new
  pub walks : EndsWalks old new
  pub goals : new.goals ≡ list

-- no goals are visited, and all that is given up down to the level of a choice is emptied
pub record Drops (old new : State) (level : ℕ) : Type 0 where
  pub cases : (db : Database) → EmptiesTo db old new level
  pub keeps : Keeps old new
  pub walks : EndsWalks old new
  pub goals : new.goals ≡ alone 0

-- a list is visited behind the marker of a transaction: all that a mark of the level gives up is emptied, and the innermost transaction is
-- open no more
pub record Passes (old new : State) (level : ℕ) (list : Continuation) : Type 0 where
  pub most : AreAtMost level (goals_of old list)
  pub cases : (db : Database) → Empties db old new level
  pub keeps : KeepsValues old new
  pub basis : Ends old.basis new.basis
  pub walks : EndsWalks old new
  pub goals : new.goals ≡ list

-- a frame is a catcher with these marks
abbrev pub IsCatching : Frame → Marks → Type 0
IsCatching (Open p (resumes.Handle (handlers.Catch c))) m = p.marks ≡ m
IsCatching f m = ⊥

-- the frame of a number is a catcher, with these marks, and in it so many choices with nothing left stand alone
pub record CatcherIn (frames : List Frame) (i : ℕ) (m : Marks) (inside : ℕ) : Type 0 where
  pub catcher : Frame
  pub catching : IsCatching catcher m
  pub top : frames ≡ take i frames ++ catcher ∷ Plain inside ∷ []

-- the case at the level is a catcher in which choices with nothing left stand alone
pub record HasCatcherAt (s : State) (level : ℕ) : Type 0 where
  pub number : ℕ
  pub marks : Marks
  pub inside : ℕ
  pub is : CatcherIn s.frames number marks inside
  pub level_is : depth_in s ≡ inside + level + 1

-- a list that names no level from this one on is visited where the catcher at the level, in which choices with nothing left stand alone, has
-- become one of these
pub record CatcherLeft (db : Database) (old new : State) (level : ℕ) : Type 0 where
  pub inside : ℕ
  pub catcher : Tree
  pub recovery : Tree
  pub place : Resolvent
  pub below : List Case
  pub was : cases_of db old ≡ plain inside (Handle (Catch catcher recovery) place ∷ below)
  pub at : deeper below 0 ≡ level
  pub cases : cases_of db new ≡ plain inside (Choice [] ∷ below)

pub record LeavesCatcher (old new : State) (level : ℕ) (list : Continuation) : Type 0 where
  pub most : (k : ℕ) → level ≡ suc k → AreAtMost k (goals_of old list)
  pub cases : (db : Database) → CatcherLeft db old new level
  pub keeps : Keeps old new
  pub walks : walks_in new ≡ walks_in old
  pub goals : new.goals ≡ list

-- no more than this is old any more, where a choice is given up: all stands for what it did
pub record Settles (old new : State) : Type 0 where
  pub cases : (db : Database) → cases_of db new ≡ cases_of db old
  pub keeps : Keeps old new
  pub frames : new.frames ≡ old.frames
  pub place : place_of new ≡ place_of old
  pub goals : new.goals ≡ old.goals
