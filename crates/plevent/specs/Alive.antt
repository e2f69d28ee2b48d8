-- The clauses that are alive after some updates, and those of a view.
use Rattle.std.specs.Prelude.{ℕ, suc, Bool, true, false, ◌||◌, ◌&&◌, not, List, [], ◌∷◌, ◌++◌, take, map, filter, fold, nat_eq, nat_lt, Option, Some, None}
use Rattle.std.specs.List.{list_any}
use Rattle.plterm.specs.declared.indicator.Indicator.{Indicator}
use Rattle.plterm.specs.Indicators.{same_indicator}
use Rattle.plclause.specs.Clause.{Clause}
use Rattle.plclause.specs.Indicators.{indicator}
use Rattle.plevent.specs.declared.update.Update.{Update}
use Rattle.plevent.specs.declared.update.Update.TheVariants.{First, Last, Erase, EraseOwn, Declare}
use Rattle.plevent.specs.declared.update.ClauseName.{ClauseName}
use Rattle.plevent.specs.declared.update.Living.{Living}

-- an update and its own name
pub record Stamped : Type 0 where
  pub at : ClauseName
  pub update : Update

abbrev pub named : ℕ → ℕ → ClauseName
named b k = record { place = b; number = k }

-- the updates of a batch at place b, from its update number k on
abbrev pub stamped : ℕ → ℕ → List Update → List Stamped
stamped b k [] = []
stamped b k (u ∷ us) = record { at = named b k; update = u } ∷ stamped b (suc k) us

abbrev pub same_name : ClauseName → ClauseName → Bool
same_name x y = nat_eq x.place y.place && nat_eq x.number y.number

-- a clause belongs to the procedure that its head names
abbrev pub is_of : Indicator → Clause → Bool
is_of p c = same_indicator (indicator c.head) p

abbrev pub change_if : {A : Type 0} → Bool → A → A → A
change_if true new old = new
change_if false new old = old

abbrev pub lives_as : ClauseName → Clause → Living
lives_as x c = record { name = x; clause = c }

abbrev pub without : ClauseName → List Living → List Living
without y xs = filter (λ x. not (same_name x.name y)) xs

-- what an update named x makes of the clauses of p that are alive, in their order
abbrev pub changed : Indicator → ClauseName → Update → List Living → List Living
changed p x (First c) xs = change_if (is_of p c) (lives_as x c ∷ xs) xs
changed p x (Last c) xs = change_if (is_of p c) (xs ++ lives_as x c ∷ []) xs
changed p x (Erase y) xs = without y xs
changed p x (EraseOwn k) xs = without (named x.place k) xs
changed p x (Declare q) xs = xs

abbrev pub change : Indicator → List Living → Stamped → List Living
change p xs s = changed p s.at s.update xs

-- the clauses of p that are alive, in their order
unfoldable pub living : List Stamped → Indicator → List Living
living us p = fold (change p) [] us

abbrev pub names_of : List Living → List ClauseName
names_of xs = map (λ x. x.name) xs

abbrev pub clauses_of : List Living → List Clause
clauses_of xs = map (λ x. x.clause) xs

-- the clauses themselves
abbrev pub clauses_alive : List Stamped → Indicator → List Clause
clauses_alive us p = clauses_of (living us p)

abbrev pub names : Indicator → Update → Bool
names p (First c) = is_of p c
names p (Last c) = is_of p c
names p (Erase y) = false
names p (EraseOwn k) = false
names p (Declare q) = same_indicator q p

-- some update names p
unfoldable pub exists : List Stamped → Indicator → Bool
exists us p = list_any (λ s. names p s.update) us

-- the update s makes the clause x
abbrev pub makes : ClauseName → Stamped → Bool
makes x s = made_by s.update && same_name s.at x
  where
    made_by : Update → Bool
    made_by (First c) = true
    made_by (Last c) = true
    made_by (Erase y) = false
    made_by (EraseOwn k) = false
    made_by (Declare q) = false

-- the update s names the clause x as one to go
abbrev pub erases : ClauseName → Stamped → Bool
erases x s = erased_by s.update
  where
    erased_by : Update → Bool
    erased_by (Erase y) = same_name x y
    erased_by (EraseOwn k) = same_name x (named s.at.place k)
    erased_by (First c) = false
    erased_by (Last c) = false
    erased_by (Declare q) = false

-- what an update makes of whether x is alive
abbrev pub lives : ClauseName → Bool → Stamped → Bool
lives x was s = (was || makes x s) && not (erases x s)

-- the clause x was made, and is not erased
unfoldable pub is_alive : ClauseName → List Stamped → Bool
is_alive x us = fold (lives x) false us

-- the clause that an update makes
abbrev pub clause_in : Update → Option Clause
clause_in (First c) = Some c
clause_in (Last c) = Some c
clause_in (Erase y) = None
clause_in (EraseOwn k) = None
clause_in (Declare q) = None

abbrev pub or_else : {A : Type 0} → Option A → Option A → Option A
or_else None b = b
or_else (Some a) b = Some a

abbrev pub made_in : ClauseName → Stamped → Option Clause
made_in x s = change_if (same_name s.at x) (clause_in s.update) None

-- the clause that was made with a name, alive or not
abbrev pub clause_named : ClauseName → List Stamped → Option Clause
clause_named x [] = None
clause_named x (s ∷ ss) = or_else (made_in x s) (clause_named x ss)

-- the updates of the batches below a place
unfoldable pub before : ℕ → List Stamped → List Stamped
before g us = filter (λ s. nat_lt s.at.place g) us

-- a view: the batches below g, and then the first m own updates as one last batch
abbrev pub view : List Stamped → ℕ → List Update → ℕ → List Stamped
view us g own m = before g us ++ stamped g 0 (take m own)
