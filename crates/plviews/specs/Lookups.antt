-- The clauses of a procedure in a view, and how far they are looked through.
use Rattle.std.specs.Prelude.{◌≡◌, ◌<◌, List, [], ◌∷◌, ◌++◌, filter, length, take, Option, None, Some}
use Rattle.plterm.specs.declared.indicator.Indicator.{Indicator}
use Rattle.plclause.specs.Clause.{Clause}
use Rattle.plevent.specs.declared.key.Key.{Key}
use Rattle.plevent.specs.declared.update.ClauseName.{ClauseName}
use Rattle.plevent.specs.declared.update.Living.{Living}
use Rattle.plevent.specs.declared.update.Update.{Update}
use Rattle.plevent.specs.Alive.{Stamped, living, lives_as}
use Rattle.plrecords.specs.declared.record.Cursor.{Cursor}
use Rattle.plstore.specs.Like.{fits, next_like_of, rest}
use Rattle.plstore.specs.Looking.{clause_alive}
use Rattle.pltx.specs.declared.own.OwnCursor.{OwnCursor}
use Rattle.pltx.specs.Walks.{cursor_at, not_erased, own_backs, own_fronts}
use Rattle.plviews.specs.declared.lookup.Lookup.{Lookup}
use Rattle.plviews.specs.declared.lookup.Reach.{Reach}
use Rattle.plviews.specs.declared.lookup.Reach.TheVariants.{Front, Base, Back}
use Rattle.plviews.specs.declared.lookup.Step.{Step}
use Rattle.plviews.specs.declared.lookup.Step.TheVariants.{Next, Nothing, Asks}
use Rattle.plviews.specs.declared.view.View.{View}
use Rattle.plviews.specs.Views.{sight, own_part, whole, IsBase, IsOwn, Sight}

-- the clauses of the journal behind a cursor that no own update erases, and then the own ones put behind
abbrev pub base_rest : Sight → Indicator → Cursor → List Living
base_rest s p c = not_erased s.on_top (rest c (living s.below p)) ++ own_backs (own_part s) p

-- the clauses that are not yet looked through
abbrev pub rest_at : Sight → Indicator → Reach → List Living
rest_at s p (Front c) = rest (cursor_at s.place c) (own_fronts (own_part s) p) ++ base_rest s p Cursor.Start
rest_at s p (Base c) = base_rest s p c
rest_at s p (Back c) = rest (cursor_at s.place c) (own_backs (own_part s) p)

-- those that may be for a goal of a key
abbrev pub likely : Key → List Living → List Living
likely k xs = filter (fits k) xs

-- a list begins with the clause of a name, which is alive, and goes on with another list
pub record Begins (us : List Stamped) (x : ClauseName) (xs ys : List Living) : Type 0 where
  pub clause : Clause
  pub whole : xs ≡ lives_as x clause ∷ ys
  pub alive : clause_alive x us ≡ Some clause

-- what a step says of the clauses that may still come
abbrev pub IsStepOf : Sight → Indicator → Key → List Living → Step → Type 0
IsStepOf s p k xs (Next x r) = Begins (whole s) x xs (likely k (rest_at s p r))
IsStepOf s p k xs Nothing = xs ≡ []
IsStepOf s p k xs (Asks c) = xs ≡ likely k (base_rest s p c)

-- what a step behind a reach says, in a view of some own updates, whatever batches they stand on
abbrev pub SaysAt : List Update → View → Indicator → Key → Reach → Step → Type 0
SaysAt own v p k r step = (us : List Stamped) → IsBase us v.place (take v.count own) → IsStepOf (sight us v own) p k (likely k (rest_at (sight us v own) p r)) step

-- the same of a step that is made of what the journal gave behind a cursor
abbrev pub SaysFound : List Update → View → Indicator → Key → Option ClauseName → Step → Type 0
SaysFound own v p k found step =
    (us : List Stamped) (c : Cursor) → IsBase us v.place (take v.count own) → found ≡ next_like_of k c (living us p) → IsStepOf (sight us v own) p k (likely k (rest_at (sight us v own) p (Base c))) step

-- where a step leads: along the own clauses that were put on one side; from those in front to the start of the journal
abbrev pub Leads : View → Reach → Step → Type 0
Leads v (Front c) (Next x r) = IsOwn v x × (d : OwnCursor) × (r ≡ Front d)
Leads v (Front c) Nothing = ⊥
Leads v (Front c) (Asks d) = d ≡ Cursor.Start
Leads v (Base c) (Next x r) = ⊥
Leads v (Base c) Nothing = ⊥
Leads v (Base c) (Asks d) = d ≡ c
Leads v (Back c) (Next x r) = IsOwn v x × (d : OwnCursor) × (r ≡ Back d)
Leads v (Back c) Nothing = Unit {0}
Leads v (Back c) (Asks d) = ⊥

-- and from what the journal gave: to the clause of that name, or past it; or to the own clauses that were put behind
abbrev pub LeadsFound : View → Option ClauseName → Step → Type 0
LeadsFound v None step = Leads v (Back OwnCursor.Start) step
LeadsFound v (Some y) (Next x r) = (x ≡ y) × (r ≡ Base (Cursor.After y))
LeadsFound v (Some y) Nothing = ⊥
LeadsFound v (Some y) (Asks c) = c ≡ Cursor.After y

-- the same of a look-up on top of some batches, on which its own updates stand
abbrev pub StandsOn : List Stamped → Lookup → Type 0
StandsOn us l = IsBase us l.view.place (take l.view.count l.own.now.updates)

abbrev pub sight_of : List Stamped → Lookup → Sight
sight_of us l = sight us l.view l.own.now.updates

abbrev pub left : List Stamped → Lookup → Reach → List Living
left us l r = likely l.key.now (rest_at (sight_of us l) l.pred.now r)

abbrev pub Tells : List Stamped → Lookup → Reach → Step → Type 0
Tells us l r step = IsStepOf (sight_of us l) l.pred.now l.key.now (left us l r) step

-- fewer clauses of the journal that may come stand behind the cursor at which a step asks
abbrev pub IsFurther : List Stamped → Lookup → Cursor → Step → Type 0
IsFurther us l c (Next x r) = Unit {0}
IsFurther us l c Nothing = Unit {0}
IsFurther us l c (Asks d) = length (likely l.key.now (rest d (living us l.pred.now))) < length (likely l.key.now (rest c (living us l.pred.now)))
