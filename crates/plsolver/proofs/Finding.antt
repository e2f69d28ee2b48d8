-- Clauses that are sought first in a view, and procedures that may not exist there.
use Rattle.std.proofs.Common.{◌≡◌, inl, ℕ, Bool, true, false, ◌||◌, List, [], ◌∷◌, ◌++◌, Option, Some, None, refl, sym, ap, ◌∙◌, subst, if◌then◌else◌}
use Rattle.std.proofs.lemmas.List.{append_cancel_right}
use Rattle.std.proofs.lemmas.List.Elements.{filter-append}
use Rattle.plterm.specs.Tree.{Tree}
use Rattle.plterm.specs.declared.indicator.Indicator.{Indicator}
use Rattle.plcells.specs.declared.cell.Cell.{Cell}
use Rattle.plcells.specs.Store.{value}
use Rattle.plclause.specs.Indicators.{indicator}
use Rattle.plevent.specs.declared.update.ClauseName.{ClauseName}
use Rattle.plevent.specs.declared.update.Living.{Living}
use Rattle.plevent.specs.declared.update.Update.{Update}
use Rattle.plevent.specs.declared.key.Key.{Key}
use Rattle.plevent.specs.Alive.{Stamped, exists, living}
use Rattle.plevent.specs.Keys.{first_key}
use Rattle.plevent.specs.Search.{Answer}
use Rattle.plprogram.specs.Program.{Program}
use Rattle.plsearch.specs.Types.{ToCall, Element, Local, Give, Fail}
use Rattle.plsearch.specs.Moves.{choose}
use Rattle.plsearch.specs.Lookups.{looked_up, missing}
use Rattle.plstore.specs.Like.{fits, next_like_of}
use Rattle.plrecords.specs.declared.record.Cursor.{Cursor}
use Rattle.plrecords.specs.declared.record.Cursor.TheVariants.{Start}
use Rattle.plstore.specs.Looking.{Views}
use Rattle.plstore.proofs.Names.{exists-alive}
use Rattle.pltx.specs.declared.own.OwnCursor.TheVariants.{Start as OwnStart}
use Rattle.pltx.specs.Walks.{own_batch, own_fronts}
use Rattle.plviews.specs.declared.lookup.Reach.{Reach}
use Rattle.plviews.specs.declared.lookup.Reach.TheVariants as reaches
use Rattle.plviews.specs.declared.lookup.Step.{Step}
use Rattle.plviews.specs.declared.lookup.Step.TheVariants as steps
use Rattle.plviews.specs.declared.view.View.{View}
use Rattle.plviews.specs.Views.{own_part, sight, sight_in, whole, AreOrdered, Sight}
use Rattle.plviews.specs.Lookups.{base_rest, likely, rest_at, LeadsFound, IsStepOf}
use Rattle.plviews.proofs.Naming.{exists-whole}
use Rattle.plviews.proofs.Seen.{from-start}
use Rattle.plstack.specs.declared.frame.Use.{Use}
use Rattle.plstack.specs.declared.frame.Use.TheVariants as uses
use Rattle.plstack.specs.declared.frame.Spot.{Spot}
use Rattle.plstack.specs.declared.frame.Spot.TheVariants as spots
use Rattle.plstack.specs.Places.{head_in}
use Rattle.plstack.specs.State.{goals_of}
use Rattle.plstack.specs.StaticCalls.{database_of}
use Rattle.plmachine.specs.declared.machine.Outcome.TheVariants as outcomes
use Rattle.plmachine.specs.declared.machine.Sought.{Sought}
use Rattle.plmachine.specs.declared.machine.Find.TheVariants as finds
use Rattle.plmachine.specs.declared.machine.Mode.TheVariants as modes
use Rattle.plmachine.specs.declared.machine.Machine.{Machine as Reached}
use Rattle.plmachine.specs.Clauses.{Walks}
use Rattle.plmachine.specs.Machine.{after, bare, depth_of, local_of, lookup_by, now, IsTold, Moved}
use Rattle.plmachine.proofs.Moves.{gives-at}
use Rattle.plsolver.specs.Fetching.{mode_none, spot_behind, NoneInFront, NoneNames}
use Rattle.plsolver.specs.Knowing.{Steps, Tells, TellsFound}
use Rattle.plsolver.proofs.Behind.{behind-left, SameLeft}
use Rattle.plsolver.proofs.Passing.{places, places-as}
use Rattle.plsolver.proofs.Seeking.{looked, looked-bare, looked-call, looked-erased, looked-in-bare, looked-told}

-- ---- procedures that exist

-- a list with a clause that may be for a key is not empty
some-likely : (k : Key) (xs : List Living) (y : Living) (ys : List Living) → likely k xs ≡ y ∷ ys → (x : Living) × (more : List Living) × (xs ≡ x ∷ more)
some-likely k [] y ys e = absurd (cc)
some-likely k (x ∷ xs) y ys e = (x, xs, refl)

-- a procedure with such a clause exists
pub likely-exists : (us : List Stamped) (p : Indicator) (k : Key) (y : Living) (ys : List Living) → likely k (living us p) ≡ y ∷ ys → exists us p ≡ true
likely-exists us p k y ys e = let some = some-likely k (living us p) y ys e in exists-alive p some.0 some.1 us some.2

-- a clause that is the first of its kind is one of its procedure
some-alive : (us : List Stamped) (t : Tree) (y : ClauseName) → next_like_of (first_key t) Start (living us (indicator t)) ≡ Some y → exists us (indicator t) ≡ true
some-alive us t y e = go (living us (indicator t)) refl e
  where
    go : (xs : List Living) → living us (indicator t) ≡ xs → next_like_of (first_key t) Start (living us (indicator t)) ≡ Some y → exists us (indicator t) ≡ true
    go [] none e = let q : None ≡ Some y = sym (ap (next_like_of (first_key t) Start) none) ∙ e in absurd (cc)
    go (x ∷ xs) some e = exists-alive (indicator t) x xs us some

or-true : (b : Bool) → b || true ≡ true
or-true true = refl
or-true false = refl

-- it exists in a view where the journal has it; and where no own update names it, only there
pub below-exists : (s : Sight) (p : Indicator) → exists s.below p ≡ true → exists (whole s) p ≡ true
below-exists s p e = exists-whole s p ∙ ap (λ b. exists (own_part s) p || b) e ∙ or-true (exists (own_part s) p)

pub unnamed-exists : (v : Views) (own : List Update) (g : View) (p : Indicator) → NoneNames own g p → exists (whole (sight_in v own g)) p ≡ exists (v g.place) p
unnamed-exists v own g p none = exists-whole (sight_in v own g) p ∙ ap (λ b. b || exists (v g.place) p) none

pub named-exists : (v : Views) (own : List Update) (g : View) (p : Indicator) → exists (own_batch g.place g.count own) p ≡ true → exists (whole (sight_in v own g)) p ≡ true
named-exists v own g p named = exists-whole (sight_in v own g) p ∙ ap (λ b. b || exists (v g.place) p) named

-- ---- a look-up for a goal

-- where no own clause is in front, those of the journal come first
pub past-front : (s : Sight) (p : Indicator) (k : Key) → likely k (own_fronts (own_part s) p) ≡ [] → likely k (rest_at s p (reaches.Front OwnStart)) ≡ likely k (rest_at s p (reaches.Base Start))
past-front s p k none = filter-append (fits k) (own_fronts (own_part s) p) (base_rest s p Start) ∙ ap (λ xs. xs ++ likely k (base_rest s p Start)) none

-- where the journal is to be asked at once, there is none
pub none-in-front : (own : List Update) (h : Tree) (g : View) (c : Cursor) → Steps own h g (reaches.Front OwnStart) (steps.Asks c) → NoneInFront own g h
none-in-front own h g c s =
    let seen : Sight = sight [] g own in
    let k : Key = first_key h in
    let p : Indicator = indicator h in
    append_cancel_right (likely k (own_fronts (own_part seen) p)) [] (likely k (base_rest seen p Start))
    (sym (filter-append (fits k) (own_fronts (own_part seen) p) (base_rest seen p Start)) ∙ s.tells [] tt tt ∙ ap (λ d. likely k (base_rest seen p d)) s.leads)

-- by what is done with the clauses
looked-by : (us : List Stamped) (d n : ℕ) (t : Tree) (es : List Element) (w : Local) (u : Use) → IsTold u t → (u ≡ uses.Call → exists us (indicator t) ≡ true) →
    looked_up us (lookup_by u t) d es n w ≡ choose (places u t d n es (living us (indicator (head_in u t)))) w
looked-by us d n t es w uses.Call told there = looked-call us d n t es w (there refl)
looked-by us d n t es w uses.Tell told there = looked-told us d n t es w told
looked-by us d n t es w uses.Erase told there = looked-erased us d n t es w told

module _ (P : Program) (v : Views) (ordered : AreOrdered v) (s : Reached) (x : Sought) (g : View) (at : s.mode ≡ modes.Find (finds.First x g)) (told : IsTold x.uses (value s.stack.env.heap x.goal)) where
  abbrev own : List Update
  own = s.layer.own.updates

  abbrev t : Tree
  t = value s.stack.env.heap x.goal

  abbrev h : Tree
  h = head_in x.uses t

  abbrev seen : Sight
  seen = sight_in v own g

  abbrev es : List Element
  es = goals_of s.stack s.stack.goals

  start-places : (d n : ℕ) (es : List Element) → places x.uses t d n es (living (whole seen) (indicator h)) ≡ places x.uses t d n es (rest_at seen (indicator h) (reaches.Front OwnStart))
  start-places d n es = ap (places x.uses t d n es) (sym (from-start seen (indicator h) (ordered.under g.place)))

  -- it becomes a walk at a spot
  found-walk : (new : Reached) (spot : Spot) → (x.uses ≡ uses.Call → exists (whole seen) (indicator t) ≡ true) → SameLeft (database_of P v own) x.uses t (spots.Seek g (reaches.Front OwnStart)) (Some spot) → Walks P s new t x.uses spot es →
      (most left : ℕ) (answers : List Answer) → now P v s most left answers ≡ now P v new most left answers
  found-walk new spot there same w most left answers =
      looked P v s (finds.First x g) at (lookup_by x.uses t) g.place (whole seen) (λ left answers. refl) most left answers
      ∙ ap (after P v s most left answers)
      (looked-by (whole seen) (depth_of s) s.stack.env.count t es (local_of s) x.uses told there
      ∙ ap (λ ps. choose ps (local_of s)) (start-places (depth_of s) s.stack.env.count es ∙ same (depth_of s) s.stack.env.count es))
      ∙ w.ends v most left answers

  -- a clause in it that may be for the goal
  likely-there : (r : Reach) → likely (first_key h) (rest_at seen (indicator h) (reaches.Front OwnStart)) ≡ likely (first_key h) (rest_at seen (indicator h) r) → (y : Living) (ys : List Living) → likely (first_key h) (rest_at seen (indicator h) r) ≡ y ∷ ys →
      x.uses ≡ uses.Call → exists (whole seen) (indicator t) ≡ true
  likely-there r same y ys e is =
      let there : exists (whole seen) (indicator h) ≡ true = likely-exists (whole seen) (indicator h) (first_key h) y ys (ap (likely (first_key h)) (sym (from-start seen (indicator h) (ordered.under g.place))) ∙ same ∙ e) in
      subst (λ u. exists (whole seen) (indicator (head_in u t)) ≡ true) is there

  -- the first one is an own clause
  pub found-own : (new : Reached) (y : ClauseName) (q : Reach) → Tells own h g (reaches.Front OwnStart) (steps.Next y q) → Walks P s new t x.uses (spots.At g y q) es →
      (most left : ℕ) (answers : List Answer) → now P v s most left answers ≡ now P v new most left answers
  found-own new y q tells w =
      let b = tells (v g.place) (ordered.ordered g.place) (ordered.under g.place) in
      found-walk new (spots.At g y q) (likely-there (reaches.Front OwnStart) refl _ _ b.whole)
      (behind-left (database_of P v own) x.uses t g (spots.Seek g (reaches.Front OwnStart)) (reaches.Front OwnStart) (steps.Next y q) (inl refl) b) w

  -- or the journal was asked for it
  module _ (front : NoneInFront own g h) (o : Option ClauseName) (e : o ≡ next_like_of (first_key h) Start (living (v g.place) (indicator h))) (step : Step) (tells : TellsFound own h g o step) (leads : LeadsFound g o step) where
    abbrev says : IsStepOf seen (indicator h) (first_key h) (likely (first_key h) (rest_at seen (indicator h) (reaches.Base Start))) step
    says = tells (v g.place) Start (ordered.ordered g.place) (ordered.under g.place) e

    front-same : likely (first_key h) (rest_at seen (indicator h) (reaches.Front OwnStart)) ≡ likely (first_key h) (rest_at seen (indicator h) (reaches.Base Start))
    front-same = past-front seen (indicator h) (first_key h) front

    front-left : SameLeft (database_of P v own) x.uses t (spots.Seek g (reaches.Front OwnStart)) (spot_behind (spots.Seek g (reaches.Base Start)) step)
    front-left d n es =
        places-as x.uses t d n es (rest_at seen (indicator h) (reaches.Front OwnStart)) (rest_at seen (indicator h) (reaches.Base Start)) front-same
        ∙ behind-left (database_of P v own) x.uses t g (spots.Seek g (reaches.Base Start)) (reaches.Base Start) step (inl refl) says d n es

    there-behind : (spot : Spot) → spot_behind (spots.Seek g (reaches.Base Start)) step ≡ Some spot → x.uses ≡ uses.Call → exists (whole seen) (indicator t) ≡ true
    there-behind spot is call = go step says o leads e is
      where
        go : (step : Step) → IsStepOf seen (indicator h) (first_key h) (likely (first_key h) (rest_at seen (indicator h) (reaches.Base Start))) step → (o : Option ClauseName) → LeadsFound g o step → o ≡ next_like_of (first_key h) Start (living (v g.place) (indicator h)) →
            spot_behind (spots.Seek g (reaches.Base Start)) step ≡ Some spot → exists (whole seen) (indicator t) ≡ true
        go (steps.Next y q) says o leads e is = likely-there (reaches.Base Start) front-same _ _ says.whole call
        go steps.Nothing says o leads e is = absurd (cc)
        go (steps.Asks c) says None leads e is = absurd leads
        go (steps.Asks c) says (Some y) leads e is = below-exists seen (indicator t) (subst (λ u. exists (v g.place) (indicator (head_in u t)) ≡ true) call (some-alive (v g.place) h y (sym e)))

    pub found-some : (new : Reached) (spot : Spot) → spot_behind (spots.Seek g (reaches.Base Start)) step ≡ Some spot → Walks P s new t x.uses spot es → (most left : ℕ) (answers : List Answer) → now P v s most left answers ≡ now P v new most left answers
    found-some new spot is w = found-walk new spot (there-behind spot is) (subst (SameLeft (database_of P v own) x.uses t (spots.Seek g (reaches.Front OwnStart))) is front-left) w

    none-left : spot_behind (spots.Seek g (reaches.Base Start)) step ≡ None → (d n : ℕ) (es : List Element) → places x.uses t d n es (living (whole seen) (indicator h)) ≡ []
    none-left is d n es = start-places d n es ∙ subst (SameLeft (database_of P v own) x.uses t (spots.Seek g (reaches.Front OwnStart))) is front-left d n es

    pub found-none : spot_behind (spots.Seek g (reaches.Base Start)) step ≡ None → (most left : ℕ) (answers : List Answer) → now P v s most left answers ≡ now P v (record s { mode = mode_none x g }) most left answers
    found-none is most left answers = go x.uses refl
      where
        n : ℕ
        n = s.stack.env.count

        there : Bool
        there = exists (whole seen) (indicator t)

        none-by : (u : Use) → x.uses ≡ u → places u t (depth_of s) n es (living (whole seen) (indicator (head_in u t))) ≡ []
        none-by u same = subst (λ u. places u t (depth_of s) n es (living (whole seen) (indicator (head_in u t))) ≡ []) same (none-left is (depth_of s) n es)

        looked-as : (u : Use) → x.uses ≡ u → now P v s most left answers ≡ after P v s most left answers (looked_up (whole seen) (lookup_by u t) (depth_of s) es n (local_of s))
        looked-as u same =
            looked P v s (finds.First x g) at (lookup_by x.uses t) g.place (whole seen) (λ left answers. refl) most left answers
            ∙ ap (λ u. after P v s most left answers (looked_up (whole seen) (lookup_by u t) (depth_of s) es n (local_of s))) same

        fails : (u : Use) → x.uses ≡ u → looked_up (whole seen) (lookup_by u t) (depth_of s) es n (local_of s) ≡ Give Fail (local_of s) →
            now P v s most left answers ≡ now P v (record s { mode = modes.Back outcomes.Fail }) most left answers
        fails u same none =
            looked-as u same
            ∙ ap (after P v s most left answers) none
            ∙ gives-at P v s (record s { mode = modes.Back outcomes.Fail }) outcomes.Fail (local_of s) refl refl refl refl most left answers

        go : (u : Use) → x.uses ≡ u → now P v s most left answers ≡ now P v (record s { mode = mode_none x g }) most left answers
        go uses.Call same =
            looked-as uses.Call same
            ∙ ap (after P v s most left answers)
            (looked-bare (whole seen) (depth_of s) n t es (local_of s) there refl (λ is. none-by uses.Call same)
            ∙ sym (looked-in-bare there (depth_of s) n t es (local_of s)))
            ∙ sym (looked P v (record s { mode = modes.Find (finds.Exists x.goal g) }) (finds.Exists x.goal g) refl (ToCall t) g.place (bare there (indicator t)) (λ left answers. refl) most left answers)
            ∙ ap (λ u. now P v (record s { mode = mode_none (record x { uses = u }) g }) most left answers) (sym same)
        go uses.Tell same =
            fails uses.Tell same (looked-by (whole seen) (depth_of s) n t es (local_of s) uses.Tell (subst (λ u. IsTold u t) same told) (λ is. absurd (cc)) ∙ ap (λ ps. choose ps (local_of s)) (none-by uses.Tell same))
            ∙ ap (λ u. now P v (record s { mode = mode_none (record x { uses = u }) g }) most left answers) (sym same)
        go uses.Erase same =
            fails uses.Erase same (looked-by (whole seen) (depth_of s) n t es (local_of s) uses.Erase (subst (λ u. IsTold u t) same told) (λ is. absurd (cc)) ∙ ap (λ ps. choose ps (local_of s)) (none-by uses.Erase same))
            ∙ ap (λ u. now P v (record s { mode = mode_none (record x { uses = u }) g }) most left answers) (sym same)

-- ---- whether a goal's procedure exists was found

module _ (P : Program) (v : Views) (s : Reached) (c : Cell) (g : View) (at : s.mode ≡ modes.Find (finds.Exists c g)) (there : Bool) (is : there ≡ exists (whole (sight_in v s.layer.own.updates g)) (indicator (value s.stack.env.heap c))) where
  abbrev goal : Tree
  goal = value s.stack.env.heap c

  exists-looked : (most left : ℕ) (answers : List Answer) →
      now P v s most left answers ≡ after P v s most left answers (if there then Give Fail (local_of s) else missing s.settings.unknown goal (goals_of s.stack s.stack.goals) (local_of s))
  exists-looked most left answers =
      let b : Bool = exists (whole (sight_in v s.layer.own.updates g)) (indicator goal) in
      looked P v s (finds.Exists c g) at (ToCall goal) g.place (bare b (indicator goal)) (λ left answers. refl) most left answers
      ∙ ap (λ b. after P v s most left answers (looked_up (bare b (indicator goal)) (ToCall goal) (depth_of s) (goals_of s.stack s.stack.goals) s.stack.env.count (local_of s))) (sym is)
      ∙ ap (after P v s most left answers) (looked-in-bare there (depth_of s) s.stack.env.count goal (goals_of s.stack s.stack.goals) (local_of s))

  pub there-fails : there ≡ true → (most left : ℕ) (answers : List Answer) → now P v s most left answers ≡ now P v (record s { mode = modes.Back outcomes.Fail }) most left answers
  there-fails present most left answers =
      exists-looked most left answers
      ∙ ap (λ b. after P v s most left answers (if b then Give Fail (local_of s) else missing s.settings.unknown goal (goals_of s.stack s.stack.goals) (local_of s))) present
      ∙ gives-at P v s (record s { mode = modes.Back outcomes.Fail }) outcomes.Fail (local_of s) refl refl refl refl most left answers

  pub not-there : AreOrdered v → (new : Reached) → there ≡ false → Moved P s new (missing s.settings.unknown goal (goals_of s.stack s.stack.goals) (local_of s)) → (most left : ℕ) (answers : List Answer) → now P v s most left answers ≡ now P v new most left answers
  not-there ordered new absent moved most left answers =
      exists-looked most left answers
      ∙ ap (λ b. after P v s most left answers (if b then Give Fail (local_of s) else missing s.settings.unknown goal (goals_of s.stack s.stack.goals) (local_of s))) absent
      ∙ moved.moved.ends v ordered most left answers
