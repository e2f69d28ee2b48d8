-- The own updates of a thread's open transactions: nothing, or a base, a list of updates, and a stack of transactions and
-- snapshots, each with how many updates there were at its start.
use Rattle.std.specs.Prelude.{◌≢◌, ℕ, Bool, false, List, [], ◌∷◌, ◌++◌, length, take, nat_eq, if◌then◌else◌, true, Option, Some, None, refl}
use Rattle.std.specs.Coded.{Coded, code_by, coded×, coded_list, coded_ℕ}
use Rattle.std.specs.List.{list_any}
use Rattle.plevent.specs.declared.update.Update.{Update}
use Rattle.plevent.specs.declared.update.Update.TheVariants.{First, Last, Erase, EraseOwn, Declare}
use Rattle.plevent.specs.contracts.update.Update as update_row
use Rattle.plevent.specs.declared.update.ClauseName.{ClauseName}
use Rattle.plevent.specs.Alive.{same_name, change_if}
use Rattle.pltx.specs.declared.level.Isolation.{Isolation}
use Rattle.pltx.specs.declared.level.Isolation.TheVariants.{Transaction, Snapshot}
use Rattle.pltx.specs.declared.level.Level.{Level}
use Rattle.pltx.specs.declared.level.Ended.{Ended}
use Rattle.pltx.specs.declared.target.Target.{Target}
use Rattle.pltx.specs.declared.target.Target.TheVariants.{Committed, Own}
use Rattle.pltx.specs.contracts.level.Level as level_row

-- the levels stand innermost first
pub record State : Type 0 where
  pub base : ℕ
  pub updates : List Update
  pub levels : List Level

abbrev pub state_code : Coded State
state_code = code_by (ℕ × (List Update × List Level)) (coded× coded_ℕ (coded× (coded_list update_row.the_row.coded) (coded_list level_row.the_row.coded)))
    (λ x. (x.base, (x.updates, x.levels))) (λ p. record { base = p.0; updates = p.1.0; levels = p.1.1 }) (λ _. refl)

abbrev pub nothing : State
nothing = record { base = 0; updates = []; levels = [] }

abbrev pub IsOpen : State → Type 0
IsOpen x = x.levels ≢ []

abbrev pub some_open : List Level → Bool
some_open [] = false
some_open (l ∷ ls) = true

abbrev pub any_open : State → Bool
any_open x = some_open x.levels

-- a transaction or a snapshot begins: the outermost one fixes the base, and there are no updates
abbrev pub begun_at : Isolation → ℕ → State → List Level → State
begun_at k b x [] = record { base = b; updates = []; levels = record { kind = k; start = 0 } ∷ [] }
begun_at k b x (l ∷ ls) = record x { levels = record { kind = k; start = length x.updates } ∷ l ∷ ls }

abbrev pub begun : Isolation → ℕ → State → State
begun k b x = begun_at k b x x.levels

-- one more update
abbrev pub added : Update → State → State
added u x = record x { updates = x.updates ++ u ∷ [] }

-- an update that erases nothing
abbrev pub IsAddition : Update → Type 0
IsAddition (First c) = Unit {0}
IsAddition (Last c) = Unit {0}
IsAddition (Declare q) = Unit {0}
IsAddition (Erase y) = ⊥
IsAddition (EraseOwn k) = ⊥

-- what an update erases, and the update that erases it
abbrev pub target_of : Update → Option Target
target_of (First c) = None
target_of (Last c) = None
target_of (Declare q) = None
target_of (Erase y) = Some (Committed y)
target_of (EraseOwn k) = Some (Own k)

abbrev pub erasing : Target → Update
erasing (Committed y) = Erase y
erasing (Own k) = EraseOwn k

abbrev pub same_target : Target → Target → Bool
same_target (Committed x) (Committed y) = same_name x y
same_target (Committed x) (Own k) = false
same_target (Own k) (Committed x) = false
same_target (Own j) (Own k) = nat_eq j k

abbrev pub is_target : Target → Option Target → Bool
is_target t None = false
is_target t (Some s) = same_target s t

-- some of the updates erases it
abbrev pub erased_in : Target → List Update → Bool
erased_in t us = list_any (λ u. is_target t (target_of u)) us

-- an erasure is one more update, unless it was made before
abbrev pub erased : Target → State → State
erased t x = change_if (erased_in t x.updates) x (added (erasing t) x)

-- what is erased by the name that a clause has in a view: own clauses have the base as their place
abbrev pub target_at : ℕ → ClauseName → Target
target_at b x = if nat_eq x.place b then Own x.number else Committed x

-- an update that names what it erases so
abbrev pub made : Update → State → State
made (First c) x = added (First c) x
made (Last c) x = added (Last c) x
made (Erase y) x = erased (target_at x.base y) x
made (EraseOwn k) x = erased (Own k) x
made (Declare q) x = added (Declare q) x

abbrev pub all_made : List Update → State → State
all_made [] x = x
all_made (u ∷ us) x = all_made us (made u x)

-- whether the updates since the start stay: those of a transaction that succeeds
abbrev pub is_kept : Bool → Isolation → Bool
is_kept success Transaction = success
is_kept success Snapshot = false

abbrev pub published : List Update → Ended
published [] = Ended.Nothing
published (u ∷ us) = Ended.Publish (u ∷ us)

-- what the end of the innermost level comes to
abbrev pub ending_at : Bool → List Update → List Level → Ended
ending_at success us [] = Ended.Dropped
ending_at success us (l ∷ []) = change_if (is_kept success l.kind) (published us) Ended.Dropped
ending_at success us (l ∷ m ∷ ls) = change_if (is_kept success l.kind) Ended.Merged Ended.Dropped

abbrev pub ending : Bool → State → Ended
ending success x = ending_at success x.updates x.levels

-- and what is left behind it: nothing behind the outermost one; else the updates, cut to those of the start where they do not stay
abbrev pub ended_at : Bool → State → List Level → State
ended_at success x [] = x
ended_at success x (l ∷ []) = nothing
ended_at success x (l ∷ m ∷ ls) = record x { updates = change_if (is_kept success l.kind) x.updates (take l.start x.updates); levels = m ∷ ls }

abbrev pub ended : Bool → State → State
ended success x = ended_at success x x.levels
