-- What is given back.
use Rattle.std.specs.Prelude.{◌≡◌, ◌≤◌, max, length}
use Rattle.pllinks.specs.Links.{slots_at}
use Rattle.plstack.specs.Places.{Database}
use Rattle.plstack.specs.State.{State, cases_of, place_of}

-- the cases and the visited place stay, and the heap and the frames are as they were
pub record GivesBack (old new : State) : Type 0 where
  pub cases : (db : Database) → cases_of db new ≡ cases_of db old
  pub place : place_of new ≡ place_of old
  pub heap : new.env.heap ≡ old.env.heap
  pub frames : new.frames ≡ old.frames
  pub basis : new.basis ≡ old.basis

-- the slots of the visited goals begin no higher than those end that the rest of the list or a mark in use asks for
abbrev pub IsLow : State → Type 0
IsLow s = s.goals.run.base ≤ max (slots_at s.links s.goals.rest) s.env.boundary

-- no slots stand behind those that the visited list or a mark in use asks for
abbrev pub IsShort : State → Type 0
IsShort s = length s.env.slots ≤ max (max s.goals.run.«end» (slots_at s.links s.goals.rest)) s.env.boundary
