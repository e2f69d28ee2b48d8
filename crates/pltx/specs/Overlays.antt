-- What is kept of own updates, to find their clauses.
use Rattle.std.specs.Prelude.{◌≡◌, ℕ, suc, true, false, List, [], ◌∷◌, ◌++◌, fold, reverse, Option, Some, None}
use Rattle.std.specs.HashMap.{get}
use Rattle.plevent.specs.declared.update.Update.{Update}
use Rattle.plevent.specs.declared.update.Update.TheVariants.{First, Last, Erase, EraseOwn, Declare}
use Rattle.plevent.specs.Alive.{Stamped, named, change_if}
use Rattle.plrecords.specs.Kept.{keep, nothing}
use Rattle.plrecords.specs.declared.record.Cursor.{Cursor}
use Rattle.pltx.specs.declared.overlay.Overlay.{Overlay}
use Rattle.pltx.specs.declared.own.OwnCursor.{OwnCursor}
use Rattle.pltx.specs.declared.target.Target.{Target}
use Rattle.pltx.specs.Own.{State, erased_in, is_target, same_target, target_of}
use Rattle.pltx.specs.Walks.{before_first}

-- update k as it is kept: alone in a batch at place k; the erasure of a committed clause is not kept there
abbrev pub drafts : ℕ → Update → List Stamped
drafts k (First c) = record { at = named k 0; update = First c } ∷ []
drafts k (Last c) = record { at = named k 0; update = Last c } ∷ []
drafts k (Declare q) = record { at = named k 0; update = Declare q } ∷ []
drafts k (EraseOwn j) = record { at = named k 0; update = Erase (named j 0) } ∷ []
drafts k (Erase y) = []

abbrev pub drafted : ℕ → List Update → List Stamped
drafted k [] = []
drafted k (u ∷ us) = drafts k u ++ drafted (suc k) us

-- the cursor at the clause that an update made
abbrev pub draft_cursor : OwnCursor → Cursor
draft_cursor OwnCursor.Start = Cursor.Start
draft_cursor (OwnCursor.After k) = Cursor.After (named k 0)

-- the number of the first update from k on that erases it
abbrev pub mark_of : Target → ℕ → List Update → Option ℕ
mark_of t k [] = None
mark_of t k (u ∷ us) = change_if (is_target t (target_of u)) (Some k) (mark_of t (suc k) us)

-- no two updates erase one clause
abbrev pub OnceEach : List Update → Type 0
OnceEach [] = Unit {0}
OnceEach (u ∷ us) = ((t : Target) → is_target t (target_of u) ≡ true → erased_in t us ≡ false) × OnceEach us

abbrev pub state_of : Overlay → State
state_of o = record { base = o.base; updates = o.updates.items; levels = reverse o.levels.items }

-- what finds the clauses of the updates is there for just these
pub record IsTracked (o : Overlay) : Type 0 where
  pub draft : o.draft ≡ fold keep nothing (drafted 0 o.updates.items)
  pub marks : (t : Target) → get same_target o.marks t ≡ mark_of t 0 o.updates.items
  pub once : OnceEach o.updates.items
  pub fronts : o.before_fronts ≡ before_first o.updates.items

-- where nothing is open, there is nothing
abbrev pub IsClosed : State → Type 0
IsClosed x = x.levels ≡ [] → (x.updates ≡ []) × (x.base ≡ 0)

pub record IsOverlay (o : Overlay) : Type 0 where
  pub tracked : IsTracked o
  pub closed : IsClosed (state_of o)
