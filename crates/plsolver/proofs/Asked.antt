-- What is left to ask, once a query was answered in its view, and where a walk goes on among own clauses.
use Rattle.std.specs.Prelude.{Result as Outcomes, Ok, Err}
use Rattle.std.proofs.Common.{IfOk, OnOk, ◌≡◌, ◌≢◌, ◌⊎◌, ℕ, Bool, true, false, List, [], ◌∷◌, ◌++◌, inl, inr, Option, None, Some, if◌then◌else◌, nat_eq, refl, sym, ap, ap₂, ◌∙◌, subst, arith}
use Rattle.std.proofs.lemmas.Bool.Decides.{nat_tests}
use Rattle.std.proofs.lemmas.List.{append-nil}
use Rattle.plterm.specs.Tree.{Tree}
use Rattle.plcells.specs.declared.cell.Cell.{Cell}
use Rattle.plcells.specs.Store.{Store, value}
use Rattle.plclause.specs.Indicators.{indicator}
use Rattle.plevent.specs.declared.update.ClauseName.{ClauseName}
use Rattle.plevent.specs.Alive.{Stamped, living}
use Rattle.plevent.specs.Keys.{first_key}
use Rattle.plstore.specs.declared.query.Query.{Query}
use Rattle.plrecords.specs.declared.record.Cursor.{Cursor}
use Rattle.plrecords.specs.declared.record.Cursor.TheVariants.{Start, After}
use Rattle.plstore.specs.Like.{next_like_of}
use Rattle.plstore.specs.Looking.{Views}
use Rattle.plrecords.specs.Rising.{Ordered}
use Rattle.plviews.specs.declared.lookup.Reach.{Reach}
use Rattle.plviews.specs.declared.lookup.Reach.TheVariants as reaches
use Rattle.plviews.specs.declared.lookup.Step.{Step}
use Rattle.plviews.specs.declared.lookup.Step.TheVariants as steps
use Rattle.plviews.specs.declared.view.View.{View}
use Rattle.plviews.specs.Views.{IsOwn}
use Rattle.plviews.specs.Lookups.{Leads, LeadsFound}
use Rattle.pltx.specs.declared.own.OwnCursor.{OwnCursor}
use Rattle.plstack.specs.declared.frame.Ahead.{Ahead}
use Rattle.plstack.specs.declared.frame.Use.{Use}
use Rattle.plstack.specs.declared.frame.Use.TheVariants as uses
use Rattle.plstack.specs.declared.frame.Spot.{Spot}
use Rattle.plstack.specs.declared.frame.Spot.TheVariants as spots
use Rattle.plstack.specs.declared.frame.Point.{Point}
use Rattle.plstack.specs.declared.frame.Walk.{Walk}
use Rattle.plstack.specs.Places.{head_in, viewed}
use Rattle.plstack.specs.State.{State, walks_in, EndsWalks}
use Rattle.plstack.specs.Walks.{AtWalk, Moves, IsWalking}
use Rattle.plmachine.specs.declared.machine.Sought.{Sought}
use Rattle.plmachine.specs.declared.machine.Sweep.{Sweep}
use Rattle.plmachine.specs.declared.machine.SweepSpot.{SweepSpot}
use Rattle.plmachine.specs.declared.machine.SweepSpot.TheVariants as sweeps
use Rattle.plmachine.specs.declared.machine.Find.TheVariants as finds
use Rattle.plmachine.specs.declared.machine.Find.{Find}
use Rattle.plmachine.specs.declared.machine.Outcome.TheVariants as outcomes
use Rattle.plmachine.specs.declared.machine.Mode.TheVariants as modes
use Rattle.plmachine.specs.declared.machine.Machine.{Machine as Reached}
use Rattle.plmachine.specs.Machine.{IsPlain}
use Rattle.plsolver.specs.Fetching.{find_view, like, mode_none, spot_ahead, spot_behind, sweep_behind, FindAsks, Seeks, WalksOn}
use Rattle.plsolver.specs.Asking.{ahead_asks, behind_asks, clause_asks, find_asks, first_asks, names_asks, names_behind, none_asks, onward_asks, reach_asks, spot_asks, sweep_asks, view_at, AllGone, AsksNext, BecomesWalk, FindAsked, FindLeft, Further, GoesFurther, IsPart, LooksOn, SeeksOn, Spends, WalkAsked}
use Rattle.plsolver.specs.Going.{IsInView, LooksBehind}
use Rattle.plsolver.proofs.Asking.{behind-next, names_from_if}
use Rattle.plsolver.proofs.Behind.{looks-elim}
use Rattle.plsolver.proofs.Further.{further_ends, looks_same, looks_trans, walks_same}
use Rattle.plstack.proofs.Walking.{same-walking}

pub on_ok_both : {T E A B C : Type 0} (r : Outcomes T E) → (A → B → C) → OnOk r A → OnOk r B → OnOk r C
on_ok_both (Ok x) f a b = f a b
on_ok_both (Err e) f a b = tt

-- ---- the clause of a name

own-place : (g : View) (x : ClauseName) → x.place ≡ g.place → nat_eq x.place g.place ≡ true
own-place g x e = grind (arith, nat_tests)

other-place : (g : View) (x : ClauseName) → x.place ≢ g.place → nat_eq x.place g.place ≡ false
other-place g x e = grind (arith, nat_tests)

-- an own one is not asked for, and one of the journal is
pub own-asks : (g : View) (x : ClauseName) → IsOwn g x → clause_asks g x ≡ []
own-asks g x own = ap (λ b. if b then [] else Query.Clause x ∷ []) (own-place g x own.0)

pub journal-asks : (g : View) (x : ClauseName) → x.place ≢ g.place → clause_asks g x ≡ Query.Clause x ∷ []
journal-asks g x other = ap (λ b. if b then [] else Query.Clause x ∷ []) (other-place g x other)

-- ---- what comes next

-- what may be asked where a step leads
abbrev pub step_asks : View → List Stamped → Tree → Step → List Query
step_asks g us h (steps.Next x r) = onward_asks g us h x r
step_asks g us h steps.Nothing = []
step_asks g us h (steps.Asks c) = behind_asks us h c

module _ (g : View) (us : List Stamped) (h : Tree) where
  -- own updates told it: nothing was asked
  pub leads-asks : (r : Reach) (step : Step) → Leads g r step → step_asks g us h step ≡ reach_asks us h r
  leads-asks (reaches.Front c) (steps.Next x r) leads = ap₂ (λ qs q. qs ++ reach_asks us h q) (own-asks g x leads.0) leads.2
  leads-asks (reaches.Front c) steps.Nothing leads = absurd leads
  leads-asks (reaches.Front c) (steps.Asks d) leads = ap (behind_asks us h) leads
  leads-asks (reaches.Base c) (steps.Next x r) leads = absurd leads
  leads-asks (reaches.Base c) steps.Nothing leads = absurd leads
  leads-asks (reaches.Base c) (steps.Asks d) leads = ap (behind_asks us h) leads
  leads-asks (reaches.Back c) (steps.Next x r) leads = ap₂ (λ qs q. qs ++ reach_asks us h q) (own-asks g x leads.0) leads.2
  leads-asks (reaches.Back c) steps.Nothing leads = refl
  leads-asks (reaches.Back c) (steps.Asks d) leads = absurd leads

  -- the clause of the next name, or not, and those behind it
  clause-spends : (hand rest : List Query) (q : Query) (y : ClauseName) → Spends (hand ++ (q ∷ Query.Clause y ∷ rest)) q (hand ++ (clause_asks g y ++ rest))
  clause-spends hand rest q y = by-case (nat_eq y.place g.place)
    where
      by-case : (b : Bool) → Spends (hand ++ (q ∷ Query.Clause y ∷ rest)) q (hand ++ ((if b then [] else Query.Clause y ∷ []) ++ rest))
      by-case true = record { before = hand; gone = Query.Clause y ∷ []; behind = rest; was = refl; is = refl }
      by-case false = record { before = hand; gone = []; behind = Query.Clause y ∷ rest; was = refl; is = refl }

  -- the journal told it: it was asked for that
  module _ (ordered : Ordered us) where
    pub found-spends : (hand : List Query) (c : Cursor) (o : Option ClauseName) (step : Step) → next_like_of (first_key h) c (living us (indicator h)) ≡ o → LeadsFound g o step →
        Spends (hand ++ behind_asks us h c) (like h c) (hand ++ step_asks g us h step)
    found-spends hand c o step e leads = subst (λ xs. Spends (hand ++ (like h c ∷ names_asks h xs)) (like h c) (hand ++ step_asks g us h step)) (sym (behind-next us h c o ordered e)) (go o step leads)
      where
        go : (o : Option ClauseName) (step : Step) → LeadsFound g o step → Spends (hand ++ (like h c ∷ names_asks h (names_from_if us h o))) (like h c) (hand ++ step_asks g us h step)
        go None (steps.Next x r) leads = record { before = hand; gone = []; behind = []; was = refl; is = ap (λ qs. hand ++ qs) (ap₂ (λ qs q. qs ++ reach_asks us h q) (own-asks g x leads.0) leads.2) }
        go None steps.Nothing leads = record { before = hand; gone = []; behind = []; was = refl; is = refl }
        go None (steps.Asks d) leads = absurd leads
        go (Some y) (steps.Next x r) leads =
            subst (λ qs. Spends (hand ++ (like h c ∷ Query.Clause y ∷ behind_asks us h (After y))) (like h c) (hand ++ qs)) (sym (ap₂ (λ z q. clause_asks g z ++ reach_asks us h q) leads.0 leads.1))
            (clause-spends hand (behind_asks us h (After y)) (like h c) y)
        go (Some y) steps.Nothing leads = absurd leads
        go (Some y) (steps.Asks d) leads = record { before = hand; gone = Query.Clause y ∷ []; behind = behind_asks us h (After y); was = refl; is = ap (λ z. hand ++ behind_asks us h z) leads }

-- ---- at a spot

-- the clause in hand
abbrev pub hand_asks : Spot → List Query
hand_asks (spots.Text k) = []
hand_asks (spots.Seek g r) = []
hand_asks (spots.At g x r) = clause_asks g x
hand_asks (spots.Known g x y) = clause_asks g x

abbrev pub left_asks : Views → Tree → Option Spot → List Query
left_asks v h None = []
left_asks v h (Some x) = spot_asks v h x

module _ (v : Views) (h : Tree) (spot : Spot) (g : View) (r : Reach) (looks : LooksBehind spot g r) where
  pub looks-asks : spot_asks v h spot ≡ hand_asks spot ++ reach_asks (v g.place) h r
  looks-asks = looks-elim (λ z. spot_asks v h z ≡ hand_asks z ++ reach_asks (v g.place) h r) g r spot looks refl (λ x. refl)

  pub behind-asks : (step : Step) → left_asks v h (spot_behind spot step) ≡ hand_asks spot ++ step_asks g (v g.place) h step
  behind-asks step = looks-elim (λ z. left_asks v h (spot_behind z step) ≡ hand_asks z ++ step_asks g (v g.place) h step) g r spot looks (seeks step) (λ x. at-clause x step)
    where
      seeks : (step : Step) → left_asks v h (spot_behind (spots.Seek g r) step) ≡ step_asks g (v g.place) h step
      seeks (steps.Next x q) = refl
      seeks steps.Nothing = refl
      seeks (steps.Asks c) = refl

      at-clause : (x : ClauseName) (step : Step) → left_asks v h (spot_behind (spots.At g x r) step) ≡ clause_asks g x ++ step_asks g (v g.place) h step
      at-clause x (steps.Next y q) = refl
      at-clause x steps.Nothing = refl
      at-clause x (steps.Asks c) = refl

ahead-left : (v : Views) (h : Tree) (g : View) (y : Option Ahead) → left_asks v h (spot_ahead g y) ≡ ahead_asks g (v g.place) h y
ahead-left v h g None = refl
ahead-left v h g (Some y) = refl

-- ---- a walk that goes on without an answer

some-spot : {y z : Spot} → Some y ≡ Some z → y ≡ z
some-spot e = cc

view-of : (spot : Spot) (g : View) (r : Reach) → LooksBehind spot g r → view_at spot ≡ g
view-of spot g r looks = looks-elim (λ z. view_at z ≡ g) g r spot looks refl (λ x. refl)

behind-view : (spot new : Spot) (g : View) (r : Reach) (step : Step) → LooksBehind spot g r → spot_behind spot step ≡ Some new → view_at new ≡ g
behind-view spot new g r step looks = looks-elim (λ z. spot_behind z step ≡ Some new → view_at new ≡ g) g r spot looks (seeks step) (λ x. at-clause x step)
  where
    seeks : (step : Step) → spot_behind (spots.Seek g r) step ≡ Some new → view_at new ≡ g
    seeks (steps.Next x q) e = ap view_at (sym (some-spot e))
    seeks steps.Nothing e = absurd (cc)
    seeks (steps.Asks c) e = ap view_at (sym (some-spot e))

    at-clause : (x : ClauseName) (step : Step) → spot_behind (spots.At g x r) step ≡ Some new → view_at new ≡ g
    at-clause x (steps.Next y q) e = ap view_at (sym (some-spot e))
    at-clause x steps.Nothing e = ap view_at (sym (some-spot e))
    at-clause x (steps.Asks c) e = ap view_at (sym (some-spot e))

-- a walk at another spot
abbrev pub spotted : Walk → Spot → Walk
spotted w x = record { goal = w.goal; uses = w.uses; spot = x }

pub behind-further : (w : Walk) (new : Spot) (g : View) (r : Reach) (step : Step) → LooksBehind w.spot g r → Leads g r step → spot_behind w.spot step ≡ Some new → GoesFurther w (spotted w new)
behind-further w new g r step looks leads is = record {
  goal = refl;
  uses = refl;
  view = behind-view w.spot new g r step looks is ∙ sym (view-of w.spot g r looks);
  asks = λ v h. ([], looks-asks v h w.spot g r looks ∙ ap (λ qs. hand_asks w.spot ++ qs) (sym (leads-asks g (v g.place) h r step leads)) ∙ sym (behind-asks v h w.spot g r looks step) ∙ ap (left_asks v h) is);
}

pub ahead-further : (w : Walk) (new : Spot) (g : View) (x : ClauseName) (y : Option Ahead) → w.spot ≡ spots.Known g x y → spot_ahead g y ≡ Some new → GoesFurther w (spotted w new)
ahead-further w new g x y at is = record {
  goal = refl;
  uses = refl;
  view = view-past y is ∙ sym (ap view_at at);
  asks = λ v h. (clause_asks g x, ap (spot_asks v h) at ∙ ap (λ qs. clause_asks g x ++ qs) (sym (ahead-left v h g y) ∙ ap (left_asks v h) is));
}
  where
    view-past : (y : Option Ahead) → spot_ahead g y ≡ Some new → view_at new ≡ g
    view-past None e = absurd (cc)
    view-past (Some z) e = ap view_at (sym (some-spot e))

-- a walk that goes on in a view is among the others
viewed-is : (w : Walk) (x : Spot) → IsInView x → viewed w x ≡ w ∷ []
viewed-is w (spots.Text k) in_view = absurd in_view
viewed-is w (spots.Seek g r) in_view = refl
viewed-is w (spots.At g x r) in_view = refl
viewed-is w (spots.Known g x y) in_view = refl

pub walk-was : (s t : State) (w : Walk) (next : Option Spot) → IsInView w.spot → (m : Moves s t w next) → walks_in s ≡ w ∷ m.more
walk-was s t w next in_view m = m.was ∙ ap (λ ws. ws ++ m.more) (viewed-is w w.spot in_view)

-- the innermost walk has gone on, or ended
pub moves-further : (s t : State) (w : Walk) (next : Option Spot) → IsInView w.spot → Moves s t w next → ((x : Spot) → next ≡ Some x → IsInView x × GoesFurther w (spotted w x)) → Further s t
moves-further s t w None in_view m goes = further_ends s t (w ∷ [], walk-was s t w None in_view m ∙ ap (λ ws. w ∷ ws) (sym m.walks))
moves-further s t w (Some x) in_view m goes = record {
  ended = [];
  kept = w ∷ m.more;
  was = walk-was s t w (Some x) in_view m;
  further = subst (AllGone GoesFurther (w ∷ m.more)) (sym (m.walks ∙ ap (λ ws. ws ++ m.more) (viewed-is (spotted w x) x (goes x refl).0))) ((goes x refl).1, walks_same m.more);
}

-- a look-up became a walk at an own clause
module _ (s : Store) (x : Sought) (g : View) (k : OwnCursor) (y : ClauseName) (r : Reach) (leads : Leads g (reaches.Front k) (steps.Next y r)) where
  abbrev begun : Walk
  begun = record { goal = x.goal; uses = x.uses; spot = spots.At g y r }

  begun-part : (v : Views) → IsPart (find_asks v s (finds.First x g)) (spot_asks v (head_in x.uses (value s x.goal)) (spots.At g y r))
  begun-part v =
      let h = head_in x.uses (value s x.goal) in
      subst (IsPart (find_asks v s (finds.First x g))) (sym (leads-asks g (v g.place) h (reaches.Front k) (steps.Next y r) leads)) (go h (names_behind (v g.place) h Start))
    where
      go : (h : Tree) (xs : List ClauseName) → IsPart (like h Start ∷ first_asks x.uses h xs) (like h Start ∷ names_asks h xs)
      go h [] = record { before = []; behind = none_asks x.uses h; is = refl }
      go h (z ∷ zs) = record { before = []; behind = []; is = sym (append-nil (like h Start ∷ names_asks h (z ∷ zs))) }

  pub becomes-own : BecomesWalk s (finds.First x g) begun
  becomes-own = record { sought = x; view = g; first = refl; goal = refl; uses = refl; seen = refl; own = leads.0.1; asks = begun-part }

-- ---- a walk that was answered

module _ (v : Views) (w : Walk) (s new : Reached) (plain : IsPlain new.mode) (in_view : IsInView w.spot) where
  abbrev sought : Tree
  sought = head_in w.uses (value s.stack.env.heap w.goal)

  walk-left : (next : Option Spot) → ((x : Spot) → next ≡ Some x → IsInView x) → (m : Moves s.stack new.stack w next) → (q : Query) → Spends (spot_asks v sought w.spot) q (left_asks v sought next) → WalkAsked v w s new q
  walk-left None viewed m q spends = record { others = []; spends = spends; outside = m.more; walks = walk-was s.stack new.stack w None in_view m; plain = plain; left = inr m.walks }
  walk-left (Some x) viewed m q spends = record {
    others = spot_asks v sought x;
    spends = spends;
    outside = m.more;
    walks = walk-was s.stack new.stack w (Some x) in_view m;
    plain = plain;
    left = inl (x, m.walks ∙ ap (λ ws. ws ++ m.more) (viewed-is (spotted w x) x (viewed x refl)), refl);
  }

  pub walk-found : (g : View) (c : Cursor) (o : Option ClauseName) (step : Step) → LooksBehind w.spot g (reaches.Base c) → ((x : Spot) → spot_behind w.spot step ≡ Some x → IsInView x) → Ordered (v g.place) →
      next_like_of (first_key sought) c (living (v g.place) (indicator sought)) ≡ o → LeadsFound g o step → Moves s.stack new.stack w (spot_behind w.spot step) → WalkAsked v w s new (like sought c)
  walk-found g c o step looks viewed ordered e leads m =
      walk-left (spot_behind w.spot step) viewed m (like sought c)
      (subst (λ qs. Spends qs (like sought c) (left_asks v sought (spot_behind w.spot step))) (sym (looks-asks v sought w.spot g (reaches.Base c) looks))
      (subst (Spends (hand_asks w.spot ++ behind_asks (v g.place) sought c) (like sought c)) (sym (behind-asks v sought w.spot g (reaches.Base c) looks step))
      (found-spends g (v g.place) sought ordered (hand_asks w.spot) c o step e leads)))

  pub walk-tries : (g : View) (x : ClauseName) (y : Option Ahead) → w.spot ≡ spots.Known g x y → x.place ≢ g.place → ((z : Spot) → spot_ahead g y ≡ Some z → IsInView z) → Moves s.stack new.stack w (spot_ahead g y) → WalkAsked v w s new (Query.Clause x)
  walk-tries g x y at other viewed m =
      walk-left (spot_ahead g y) viewed m (Query.Clause x) (record {
        before = [];
        gone = [];
        behind = ahead_asks g (v g.place) sought y;
        was = ap (spot_asks v sought) at ∙ ap (λ qs. qs ++ ahead_asks g (v g.place) sought y) (journal-asks g x other);
        is = ahead-left v sought g y;
      })

-- ---- a look-up for the first clause

none-left : (v : Views) (u : Use) (c : Cell) (g : View) (s new : Reached) → new ≡ record s { mode = mode_none (record { goal = c; uses = u }) g } →
    FindLeft v (finds.First (record { goal = c; uses = u }) g) s new (none_asks u (head_in u (value s.stack.env.heap c)))
none-left v uses.Call c g s new is =
    inl (finds.Exists c g, ap (λ x. x.mode) is, ap (λ (x : Reached). find_asks v x.stack.env.heap (finds.Exists c g)) is, ap (λ (x : Reached). walks_in x.stack) is)
none-left v uses.Tell c g s new is = inr (subst (λ x. IsPlain x.mode) (sym is) tt, inr (ap (λ (x : Reached). walks_in x.stack) is))
none-left v uses.Erase c g s new is = inr (subst (λ x. IsPlain x.mode) (sym is) tt, inr (ap (λ (x : Reached). walks_in x.stack) is))

module _ (v : Views) (x : Sought) (g : View) (s new : Reached) (ordered : Ordered (v g.place)) where
  abbrev h : Tree
  h = head_in x.uses (value s.stack.env.heap x.goal)

  abbrev us : List Stamped
  us = v g.place

  abbrev seek : Spot
  seek = spots.Seek g (reaches.Base Start)

  module _ (o : Option ClauseName) (e : next_like_of (first_key h) Start (living us (indicator h)) ≡ o) (step : Step) (leads : LeadsFound g o step) where
    first-spends : (z : Spot) → spot_behind seek step ≡ Some z → Spends (like h Start ∷ first_asks x.uses h (names_behind us h Start)) (like h Start) (spot_asks v h z)
    first-spends z is = go o e step leads is
      where
        go : (o : Option ClauseName) → next_like_of (first_key h) Start (living us (indicator h)) ≡ o → (step : Step) → LeadsFound g o step → spot_behind seek step ≡ Some z →
            Spends (like h Start ∷ first_asks x.uses h (names_behind us h Start)) (like h Start) (spot_asks v h z)
        go None e (steps.Next y r) leads is = record {
          before = [];
          gone = none_asks x.uses h;
          behind = [];
          was = ap (λ xs. like h Start ∷ first_asks x.uses h xs) (behind-next us h Start None ordered e) ∙ ap (λ qs. like h Start ∷ qs) (sym (append-nil (none_asks x.uses h)));
          is = ap (spot_asks v h) (sym (some-spot is)) ∙ ap₂ (λ qs q. qs ++ reach_asks us h q) (own-asks g y leads.0) leads.2;
        }
        go None e steps.Nothing leads is = absurd (cc)
        go None e (steps.Asks d) leads is = absurd leads
        go (Some y) e step leads is =
            subst (λ qs. Spends qs (like h Start) (spot_asks v h z)) (ap (λ xs. like h Start ∷ names_asks h xs) (behind-next us h Start (Some y) ordered e) ∙ sym (ap (λ xs. like h Start ∷ first_asks x.uses h xs) (behind-next us h Start (Some y) ordered e)))
            (subst (Spends (behind_asks us h Start) (like h Start)) (sym (behind-asks v h seek g (reaches.Base Start) (inl refl) step) ∙ ap (left_asks v h) is) (found-spends g us h ordered [] Start (Some y) step e leads))

    pub first-found : (z : Spot) → spot_behind seek step ≡ Some z → IsPlain new.mode → walks_in new.stack ≡ viewed (record { goal = x.goal; uses = x.uses; spot = z }) z ++ walks_in s.stack → IsInView z → FindAsked v (finds.First x g) s new (like h Start)
    first-found z is plain walks in_view = record {
      others = spot_asks v h z;
      spends = first-spends z is;
      left = inr (plain, inl (z, walks ∙ ap (λ ws. ws ++ walks_in s.stack) (viewed-is (record { goal = x.goal; uses = x.uses; spot = z }) z in_view), refl));
    }

    pub first-none : spot_behind seek step ≡ None → new ≡ record s { mode = mode_none x g } → FindAsked v (finds.First x g) s new (like h Start)
    first-none is at = go o e step leads is
      where
        go : (o : Option ClauseName) → next_like_of (first_key h) Start (living us (indicator h)) ≡ o → (step : Step) → LeadsFound g o step → spot_behind seek step ≡ None → FindAsked v (finds.First x g) s new (like h Start)
        go None e step leads is = record {
          others = none_asks x.uses h;
          spends = record { before = []; gone = []; behind = none_asks x.uses h; was = ap (λ xs. like h Start ∷ first_asks x.uses h xs) (behind-next us h Start None ordered e); is = refl };
          left = none-left v x.uses x.goal g s new at;
        }
        go (Some y) e (steps.Next z r) leads is = absurd (cc)
        go (Some y) e steps.Nothing leads is = absurd leads
        go (Some y) e (steps.Asks d) leads is = absurd (cc)

-- ---- whether a procedure exists

pub exists-asked : (v : Views) (c : Cell) (g : View) (s new : Reached) → IsPlain new.mode → EndsWalks s.stack new.stack → FindAsked v (finds.Exists c g) s new (Query.Exists (indicator (value s.stack.env.heap c)))
exists-asked v c g s new plain ends = record { others = []; spends = record { before = []; gone = []; behind = []; was = refl; is = refl }; left = inr (plain, ends) }

pub all-ends : (v : Views) (c : Cell) (g : View) (s new : Reached) → IsPlain new.mode → EndsWalks s.stack new.stack → FindAsked v (finds.All c g) s new (Query.Exists (indicator (value s.stack.env.heap c)))
all-ends v c g s new plain ends = record {
  others = [];
  spends = record { before = []; gone = behind_asks (v g.place) (value s.stack.env.heap c) Start; behind = []; was = ap (λ qs. Query.Exists (indicator (value s.stack.env.heap c)) ∷ qs) (sym (append-nil (behind_asks (v g.place) (value s.stack.env.heap c) Start))); is = refl };
  left = inr (plain, ends);
}

pub all-begins : (v : Views) (c : Cell) (g : View) (s : Reached) (w : Sweep) (k : OwnCursor) → w.view ≡ g → w.spot ≡ sweeps.Seek (reaches.Front k) →
    FindAsked v (finds.All c g) s (record s { mode = modes.Find (finds.Sweep c w) }) (Query.Exists (indicator (value s.stack.env.heap c)))
all-begins v c g s w k view spot = record {
  others = behind_asks (v g.place) (value s.stack.env.heap c) Start;
  spends = record { before = []; gone = []; behind = behind_asks (v g.place) (value s.stack.env.heap c) Start; was = refl; is = refl };
  left = inl (finds.Sweep c w, refl, ap₂ (λ (b : View) z. sweep_asks b (v b.place) (value s.stack.env.heap c) z) view spot, refl);
}

-- ---- a sweep

-- where it stands behind a step
pub spot-asked : (g : View) (us : List Stamped) (h : Tree) (step : Step) (spot : SweepSpot) → sweep_behind step ≡ Some spot → sweep_asks g us h spot ≡ step_asks g us h step
spot-asked g us h (steps.Next y r) spot is = ap (sweep_asks g us h) (let same : spot ≡ sweeps.At y r = cc in same)
spot-asked g us h steps.Nothing spot is = absurd (cc)
spot-asked g us h (steps.Asks d) spot is = ap (sweep_asks g us h) (let same : spot ≡ sweeps.Seek (reaches.Base d) = cc in same)

module _ (v : Views) (c : Cell) (w : Sweep) (s new : Reached) where
  abbrev head : Tree
  head = value s.stack.env.heap c

  -- it goes on as another one
  sweep-left : (x : Sweep) (q : Query) (qs : List Query) → x.view ≡ w.view → sweep_asks w.view (v w.view.place) head x.spot ≡ qs → new.mode ≡ modes.Find (finds.Sweep c x) → value new.stack.env.heap c ≡ head → walks_in new.stack ≡ walks_in s.stack →
      Spends (sweep_asks w.view (v w.view.place) head w.spot) q qs → FindAsked v (finds.Sweep c w) s new q
  sweep-left x q qs view asks mode same walks spends = record {
    others = qs;
    spends = spends;
    left = inl (finds.Sweep c x, mode, ap₂ (λ (b : View) t. sweep_asks b (v b.place) t x.spot) view same ∙ asks, walks);
  }

  module _ (cur : Cursor) (at : w.spot ≡ sweeps.Seek (reaches.Base cur)) (ordered : Ordered (v w.view.place)) (o : Option ClauseName) (e : next_like_of (first_key head) cur (living (v w.view.place) (indicator head)) ≡ o) (step : Step) (leads : LeadsFound w.view o step) where
    sweep-spends : Spends (sweep_asks w.view (v w.view.place) head w.spot) (like head cur) (step_asks w.view (v w.view.place) head step)
    sweep-spends = subst (λ z. Spends (sweep_asks w.view (v w.view.place) head z) (like head cur) (step_asks w.view (v w.view.place) head step)) (sym at) (found-spends w.view (v w.view.place) head ordered [] cur o step e leads)

    pub sweep-found : (x : Sweep) → x.view ≡ w.view → sweep_behind step ≡ Some x.spot → new.mode ≡ modes.Find (finds.Sweep c x) → value new.stack.env.heap c ≡ head → walks_in new.stack ≡ walks_in s.stack → FindAsked v (finds.Sweep c w) s new (like head cur)
    sweep-found x view is mode same walks = sweep-left x (like head cur) (step_asks w.view (v w.view.place) head step) view (spot-asked w.view (v w.view.place) head step x.spot is) mode same walks sweep-spends

    pub sweep-ends : IsPlain new.mode → EndsWalks s.stack new.stack → FindAsked v (finds.Sweep c w) s new (like head cur)
    sweep-ends plain ends = record { others = step_asks w.view (v w.view.place) head step; spends = sweep-spends; left = inr (plain, ends) }

  pub sweep-past : (y : ClauseName) (r : Reach) (x : Sweep) → w.spot ≡ sweeps.At y r → y.place ≢ w.view.place → x.view ≡ w.view → x.spot ≡ sweeps.Seek r → new.mode ≡ modes.Find (finds.Sweep c x) → value new.stack.env.heap c ≡ head → walks_in new.stack ≡ walks_in s.stack →
      FindAsked v (finds.Sweep c w) s new (Query.Clause y)
  sweep-past y r x at other view spot mode same walks =
      sweep-left x (Query.Clause y) (reach_asks (v w.view.place) head r) view (ap (sweep_asks w.view (v w.view.place) head) spot) mode same walks (record {
        before = [];
        gone = [];
        behind = reach_asks (v w.view.place) head r;
        was = ap (sweep_asks w.view (v w.view.place) head) at ∙ ap (λ qs. qs ++ reach_asks (v w.view.place) head r) (journal-asks w.view y other);
        is = refl;
      })

-- ---- what is sought without an answer

pub seeks-same : (s : Reached) → SeeksOn s s
seeks-same s f at = (f, at, looks_same s.stack.env.heap f)

pub seeks-trans : (a b c : Reached) → SeeksOn a b → SeeksOn b c → SeeksOn a c
seeks-trans a b c x y f at =
    let n = y f at in
    let m = x n.0 n.1 in
    (m.0, m.1, looks_trans a.stack.env.heap b.stack.env.heap c.stack.env.heap m.0 n.0 f m.2 n.2)

-- a look-up goes on as a sweep
to-sweep : (f : Find) (c : Cell) (x : Sweep) (s new : Reached) → s.mode ≡ modes.Find f → new.mode ≡ modes.Find (finds.Sweep c x) →
    ((v : Views) → (gone : List Query) × (find_asks v s.stack.env.heap f ≡ gone ++ find_asks v new.stack.env.heap (finds.Sweep c x))) → SeeksOn s new
to-sweep f c x s new at mode asks g is =
    let e : modes.Find (finds.Sweep c x) ≡ modes.Find g = sym mode ∙ is in
    let that : finds.Sweep c x ≡ g = cc in
    (f, at, subst (LooksOn s.stack.env.heap f new.stack.env.heap) that (record { first = λ y b e. absurd (cc); asks = asks }))

-- a sweep as another one
pub sweep-on : (c : Cell) (w x : Sweep) (s new : Reached) → s.mode ≡ modes.Find (finds.Sweep c w) → new.mode ≡ modes.Find (finds.Sweep c x) → value new.stack.env.heap c ≡ value s.stack.env.heap c → (gone : Views → List Query) →
    ((v : Views) → sweep_asks w.view (v w.view.place) (value s.stack.env.heap c) w.spot ≡ gone v ++ sweep_asks x.view (v x.view.place) (value s.stack.env.heap c) x.spot) → SeeksOn s new
sweep-on c w x s new at mode same gone asks =
    to-sweep (finds.Sweep c w) c x s new at mode (λ v. (gone v, asks v ∙ ap (λ t. gone v ++ sweep_asks x.view (v x.view.place) t x.spot) (sym same)))

-- and one at its beginning
pub all-on : (c : Cell) (g : View) (s : Reached) (w : Sweep) (k : OwnCursor) → s.mode ≡ modes.Find (finds.All c g) → w.view ≡ g → w.spot ≡ sweeps.Seek (reaches.Front k) → SeeksOn s (record s { mode = modes.Find (finds.Sweep c w) })
all-on c g s w k at view spot =
    let h : Tree = value s.stack.env.heap c in
    to-sweep (finds.All c g) c w s (record s { mode = modes.Find (finds.Sweep c w) }) at refl
    (λ v. (Query.Exists (indicator h) ∷ [], ap (λ qs. Query.Exists (indicator h) ∷ qs) (sym (ap₂ (λ (b : View) z. sweep_asks b (v b.place) h z) view spot))))

pub if_ok_all : {T E A : Type 0} (r : Outcomes T E) → A → IfOk r (λ x. A)
if_ok_all (Ok x) a = a
if_ok_all (Err e) a = tt

-- ---- what was asked

-- by the look-up in hand
pub seeks-of : (s : Reached) (g : ℕ) (q : Query) (f : Find) → s.mode ≡ modes.Find f → Seeks s g q ⊎ WalksOn s g q → (g ≡ (find_view f).place) × FindAsks s.layer.own.updates s.stack.env.heap f q
seeks-of s g q f at (inl x) =
    let e : modes.Find x.0 ≡ modes.Find f = sym x.1 ∙ at in
    let same : x.0 ≡ f = cc in
    (x.2 ∙ ap (λ y. (find_view y).place) same, subst (λ y. FindAsks s.layer.own.updates s.stack.env.heap y q) same x.3)
seeks-of s g q f at (inr on) = let e : modes.Find f ≡ modes.Back outcomes.Fail = sym at ∙ on.fails in absurd cc

-- where nothing is sought, by the innermost walk
pub walks-on : (s : Reached) (g : ℕ) (q : Query) → ((f : Find) → s.mode ≡ modes.Find f → ⊥) → Seeks s g q ⊎ WalksOn s g q → WalksOn s g q
walks-on s g q none (inl x) = absurd (none x.0 x.1)
walks-on s g q none (inr on) = on

pub asked-find : (v : Views) (s new : Reached) (f : Find) (q r : Query) → s.mode ≡ modes.Find f → q ≡ r → FindAsked v f s new r → AsksNext v s new q
asked-find v s new f q r at is a = record {
  find = λ x there.
      let e : modes.Find f ≡ modes.Find x = sym at ∙ there in
      let same : f ≡ x = cc in
      subst (λ y. FindAsked v y s new q) same (subst (FindAsked v f s new) (sym is) a);
  walk = λ p w there fails. let e : modes.Find f ≡ modes.Back outcomes.Fail = sym at ∙ fails in absurd cc;
}

-- by the innermost walk
pub asked-walk : (v : Views) (s new : Reached) (p : Point) (w : Walk) (q r : Query) → AtWalk s.stack p w → s.mode ≡ modes.Back outcomes.Fail → q ≡ r → WalkAsked v w s new r → AsksNext v s new q
asked-walk v s new p w q r at fails is a = record {
  find = λ x there. let e : modes.Find x ≡ modes.Back outcomes.Fail = sym there ∙ fails in absurd cc;
  walk = λ k u there again. subst (λ y. WalkAsked v y s new q) (same-walking s.stack p k w u at.walking there.walking) (subst (WalkAsked v w s new) (sym is) a);
}

pub asked-walking : (v : Views) (s new : Reached) (p : Point) (w : Walk) → IsWalking s.stack p w → (g : ℕ) (q r : Query) → WalksOn s g q → q ≡ r → WalkAsked v w s new r → AsksNext v s new q
asked-walking v s new p w walking g q r on is a = asked-walk v s new on.point on.walk q r on.at on.fails is (subst (λ u. WalkAsked v u s new r) (same-walking s.stack p on.point w on.walk walking on.at.walking) a)
