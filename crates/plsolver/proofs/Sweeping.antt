-- The erasure of all clauses of a head: what is still to be erased, clause by clause.
use Rattle.std.proofs.Common.{◌≡◌, inl, ◌<◌, ℕ, suc, ◌+◌, ◌*◌, Bool, true, false, cond, List, [], ◌∷◌, ◌++◌, length, map, filter, Option, Some, None, is_some, refl, sym, ap, ap₂, ◌∙◌, subst, append_assoc, if◌then◌else◌, arith}
use Rattle.std.proofs.lemmas.List.{append-nil}
use Rattle.plterm.specs.Tree.{Tree}
use Rattle.plterm.specs.declared.indicator.Indicator.{Indicator}
use Rattle.plsubst.specs.Subst.{shift}
use Rattle.plsubst.specs.Unify.{unify}
use Rattle.plcells.specs.declared.cell.Cell.{Cell}
use Rattle.plcells.specs.Store.{value}
use Rattle.plclause.specs.Clause.{Clause}
use Rattle.plclause.specs.Indicators.{indicator}
use Rattle.plevent.specs.declared.update.ClauseName.{ClauseName}
use Rattle.plevent.specs.declared.update.Living.{Living}
use Rattle.plevent.specs.declared.update.Update.{Update}
use Rattle.plevent.specs.declared.update.Update.TheVariants.{Declare, Erase}
use Rattle.plevent.specs.Alive.{exists, lives_as, living, names_of}
use Rattle.plevent.specs.Keys.{first_key}
use Rattle.plevent.specs.Search.{Answer}
use Rattle.plprogram.specs.Program.{Program}
use Rattle.plsearch.specs.Types.{Element, ToRetractAll}
use Rattle.plsearch.specs.Lookups.{has_head}
use Rattle.plsearch.specs.Moves.{publish}
use Rattle.plsearch.specs.Machines.Machine.{Rest, move}
use Rattle.plsearch.specs.Search.{ending_of}
use Rattle.plstore.specs.Like.{next_like_of}
use Rattle.plstore.specs.Looking.{Views, clause_alive}
use Rattle.plstore.specs.declared.query.Query.{Query}
use Rattle.plrecords.specs.declared.record.Cursor.{Cursor}
use Rattle.pltx.specs.declared.own.OwnCursor.TheVariants.{Start as OwnStart}
use Rattle.plviews.specs.declared.lookup.Reach.{Reach}
use Rattle.plviews.specs.declared.lookup.Reach.TheVariants as reaches
use Rattle.plviews.specs.declared.lookup.Step.{Step}
use Rattle.plviews.specs.declared.lookup.Step.TheVariants as steps
use Rattle.plviews.specs.declared.view.View.{View}
use Rattle.plviews.specs.Layers.{Layered}
use Rattle.plviews.specs.Views.{seen_in, sight_in, whole, AreOrdered, IsUntouched, Sight}
use Rattle.plviews.specs.Lookups.{likely, rest_at, Begins, IsStepOf}
use Rattle.plviews.proofs.Seen.{from-start}
use Rattle.plstack.specs.Places.{alive_as, named_so}
use Rattle.plstack.specs.State.{goals_of, walks_in}
use Rattle.plmachine.specs.declared.machine.Find.TheVariants as finds
use Rattle.plmachine.specs.declared.machine.Mode.TheVariants as modes
use Rattle.plmachine.specs.declared.machine.Sweep.{Sweep}
use Rattle.plmachine.specs.declared.machine.SweepSpot.{SweepSpot}
use Rattle.plmachine.specs.declared.machine.SweepSpot.TheVariants as sweeps
use Rattle.plmachine.specs.declared.machine.Machine.{Machine as Reached}
use Rattle.plmachine.specs.declared.machine.Mode.{Mode as Going}
use Rattle.plmachine.specs.Machine.{after, cases_in, local_of, machine, now, run_in, swept, to_sweep, IsViewed, MayAsk, MayCarry, Moved}
use Rattle.plmachine.specs.Machine.{Stays as StaysThere}
use Rattle.plmachine.proofs.Moves.{begun-by, tied-as}
use Rattle.plsolver.specs.declared.progress.Progress.{Progress}
use Rattle.plsolver.specs.Asking.{clause_asks, reach_asks, sweep_asks, SeeksOn}
use Rattle.plsolver.specs.Fetching.{erased_if, has_if, like, sweep_behind, IsFetching, SweepAsks, Sweeping}
use Rattle.plsolver.specs.Going.{own_behind, sweep_left, sweeps_left, GoesPast, IsSweeping, IsSwept}
use Rattle.plsolver.specs.Knowing.{Steps, StepsFound, Tells}
use Rattle.plsolver.specs.Solver.{latest_view, IsOf, Keeps, KeepsRest, Stays}
use Rattle.plsolver.proofs.Asked.{leads-asks, spot-asked, sweep-on}
use Rattle.plsolver.proofs.Behind.{alive-is}
use Rattle.plsolver.proofs.Keeping.{finds_keeps}
use Rattle.plsolver.proofs.Passing.{heads-as, heads-likely}
use Rattle.plsolver.proofs.Runs.{stays_of}
use Rattle.plsolver.proofs.Seeking.{find-machine, finds-last, finds-plain, looked}

-- ---- what is left to be erased

module _ (s : Sight) (n : ℕ) (h : Tree) where
  abbrev erasures : List Living → List Update
  erasures xs = map Erase (names_of (filter (has_head n h) xs))

  -- a clause of a name, and those behind it
  kept : (x : ClauseName) (o : Option Clause) (ys : List Living) → erasures (named_so x o ++ ys) ≡ erased_if (has_if n h o) x ++ erasures ys
  kept x None ys = refl
  kept x (Some c) ys = go (is_some (unify h (shift n c.head)))
    where
      go : (b : Bool) → map Erase (names_of (cond b (lives_as x c ∷ filter (has_head n h) ys) (filter (has_head n h) ys))) ≡ erased_if b x ++ erasures ys
      go true = refl
      go false = refl

  -- the clause of a name was looked at
  pub swept-past : (w x : Sweep) (y : ClauseName) (r : Reach) (o : Option Clause) → w.spot ≡ sweeps.At y r → o ≡ clause_alive y (whole s) → x.spot ≡ sweeps.Seek r → x.updates.items ≡ w.updates.items ++ erased_if (has_if n h o) y →
      swept s n h w ≡ swept s n h x
  swept-past w x y r o at is spot updates =
      ap (λ z. w.updates.items ++ erasures (to_sweep s (indicator h) z)) at
      ∙ ap (λ o. w.updates.items ++ erasures (named_so y o ++ rest_at s (indicator h) r)) (sym is)
      ∙ ap (λ es. w.updates.items ++ es) (kept y o (rest_at s (indicator h) r))
      ∙ sym (append_assoc w.updates.items (erased_if (has_if n h o) y) (erasures (rest_at s (indicator h) r)))
      ∙ ap₂ (λ us z. us ++ erasures (to_sweep s (indicator h) z)) (sym updates) (sym spot)

  -- a clause comes first, and others behind it
  begins-heads : (y : ClauseName) (xs ys : List Living) → Begins (whole s) y (likely (first_key h) xs) (likely (first_key h) ys) → filter (has_head n h) xs ≡ filter (has_head n h) (alive_as s y ++ ys)
  begins-heads y xs ys b =
      heads-likely n h xs
      ∙ ap (filter (has_head n h)) b.whole
      ∙ ap (λ zs. cond (has_head n h (lives_as y b.clause)) (lives_as y b.clause ∷ zs) zs) (sym (heads-likely n h ys))
      ∙ sym (ap (λ zs. filter (has_head n h) (zs ++ ys)) (alive-is s y b.clause b.alive))

  -- where a step leads the same is to be erased
  pub swept-behind : (w x : Sweep) (r : Reach) (step : Step) → w.spot ≡ sweeps.Seek r → IsStepOf s (indicator h) (first_key h) (likely (first_key h) (rest_at s (indicator h) r)) step → sweep_behind step ≡ Some x.spot → x.updates.items ≡ w.updates.items →
      swept s n h w ≡ swept s n h x
  swept-behind w x r step at says is updates =
      ap (λ z. w.updates.items ++ erasures (to_sweep s (indicator h) z)) at
      ∙ go step says is
      ∙ ap (λ us. us ++ erasures (to_sweep s (indicator h) x.spot)) (sym updates)
    where
      to-spot : {y z : SweepSpot} → Some y ≡ Some z → y ≡ z
      to-spot e = cc

      go : (step : Step) → IsStepOf s (indicator h) (first_key h) (likely (first_key h) (rest_at s (indicator h) r)) step → sweep_behind step ≡ Some x.spot → w.updates.items ++ erasures (rest_at s (indicator h) r) ≡ w.updates.items ++ erasures (to_sweep s (indicator h) x.spot)
      go (steps.Next y q) says is =
          ap (λ xs. w.updates.items ++ map Erase (names_of xs)) (begins-heads y (rest_at s (indicator h) r) (rest_at s (indicator h) q) says)
          ∙ ap (λ z. w.updates.items ++ erasures (to_sweep s (indicator h) z)) (to-spot is)
      go steps.Nothing says is = absurd (cc)
      go (steps.Asks c) says is =
          ap (λ xs. w.updates.items ++ map Erase (names_of xs)) (heads-as n h (rest_at s (indicator h) r) (rest_at s (indicator h) (reaches.Base c)) says)
          ∙ ap (λ z. w.updates.items ++ erasures (to_sweep s (indicator h) z)) (to-spot is)

  -- no clause is left
  pub swept-all : (w : Sweep) (r : Reach) (step : Step) → w.spot ≡ sweeps.Seek r → IsStepOf s (indicator h) (first_key h) (likely (first_key h) (rest_at s (indicator h) r)) step → sweep_behind step ≡ None → swept s n h w ≡ w.updates.items
  swept-all w r step at says none =
      ap (λ z. w.updates.items ++ erasures (to_sweep s (indicator h) z)) at
      ∙ ap (λ xs. w.updates.items ++ map Erase (names_of xs)) (heads-likely n h (rest_at s (indicator h) r) ∙ ap (filter (has_head n h)) (go step says none))
      ∙ append-nil w.updates.items
    where
      go : (step : Step) → IsStepOf s (indicator h) (first_key h) (likely (first_key h) (rest_at s (indicator h) r)) step → sweep_behind step ≡ None → likely (first_key h) (rest_at s (indicator h) r) ≡ []
      go (steps.Next y q) says none = absurd (cc)
      go steps.Nothing says none = says
      go (steps.Asks c) says none = absurd (cc)

-- ---- how often a sweep goes on

module _ (own : List Update) (h : Tree) (g : View) where
  pub sweep-fewer : (r : Reach) (step : Step) (new : SweepSpot) → Tells own h g r step → ((c : Cursor) → step ≡ steps.Asks c → ⊥) → sweep_behind step ≡ Some new → sweep_left own h g new < sweep_left own h g (sweeps.Seek r)
  sweep-fewer r (steps.Next y q) new tells asks is =
      let b = tells [] tt tt in
      let fewer : own_behind own h g r ≡ suc (own_behind own h g q) = ap length b.whole in
      let spot : sweeps.At y q ≡ new = cc in
      subst (λ z. sweep_left own h g z < sweep_left own h g (sweeps.Seek r)) spot (omega (arith, fewer))
  sweep-fewer r steps.Nothing new tells asks is = absurd (cc)
  sweep-fewer r (steps.Asks c) new tells asks is = absurd (asks c refl)

-- ---- the search

-- what is swept is published
module _ (P : Program) (v : Views) (s : Reached) (c : Cell) (w : Sweep) (at : s.mode ≡ modes.Find (finds.Sweep c w)) where
  abbrev head : Tree
  head = value s.stack.env.heap c

  abbrev es : List Element
  es = goals_of s.stack s.stack.goals

  abbrev to_erase : Sweep → List Update
  to_erase x = swept (sight_in v s.layer.own.updates x.view) s.stack.env.count head x

  pub swept-now : (most left : ℕ) (answers : List Answer) → now P v s most left answers ≡ after P v s most left answers (publish (to_erase w) es s.stack.env.count (local_of s))
  swept-now most left answers = ap (λ m. ending_of most (Rest P m)) (find-machine P v s (finds.Sweep c w) at left answers)

  -- a sweep by which the same is still to be erased
  pub swept-same : (x : Sweep) → to_erase w ≡ to_erase x → (most left : ℕ) (answers : List Answer) → now P v s most left answers ≡ now P v (record s { mode = modes.Find (finds.Sweep c x) }) most left answers
  swept-same x same most left answers =
      swept-now most left answers
      ∙ ap (λ us. after P v s most left answers (publish us es s.stack.env.count (local_of s))) same
      ∙ sym (ap (λ m. ending_of most (Rest P m)) (find-machine P v (record s { mode = modes.Find (finds.Sweep c x) }) (finds.Sweep c x) refl left answers))

  pub swept-done : AreOrdered v → (new : Reached) (us : List Update) → to_erase w ≡ us → Moved P s new (publish us es s.stack.env.count (local_of s)) → (most left : ℕ) (answers : List Answer) → now P v s most left answers ≡ now P v new most left answers
  swept-done ordered new us all moved most left answers =
      swept-now most left answers
      ∙ ap (λ us. after P v s most left answers (publish us es s.stack.env.count (local_of s))) all
      ∙ moved.moved.ends v ordered most left answers

-- whether a head's procedure exists was found
module _ (P : Program) (v : Views) (ordered : AreOrdered v) (s : Reached) (c : Cell) (g : View) (at : s.mode ≡ modes.Find (finds.All c g)) (there : Bool)
    (is : there ≡ exists (whole (sight_in v s.layer.own.updates g)) (indicator (value s.stack.env.heap c))) where
  abbrev all-head : Tree
  all-head = value s.stack.env.heap c

  abbrev seen : Sight
  seen = sight_in v s.layer.own.updates g

  abbrev goals : List Element
  goals = goals_of s.stack s.stack.goals

  abbrev all-erasures : List Update
  all-erasures = map Erase (names_of (filter (has_head s.stack.env.count all-head) (living (whole seen) (indicator all-head))))

  all-looked : (most left : ℕ) (answers : List Answer) →
      now P v s most left answers ≡ after P v s most left answers (publish (if there then all-erasures else Declare (indicator all-head) ∷ []) goals s.stack.env.count (local_of s))
  all-looked most left answers =
      looked P v s (finds.All c g) at (ToRetractAll all-head) g.place (whole seen) (λ left answers. refl) most left answers
      ∙ ap (λ b. after P v s most left answers (publish (if b then all-erasures else Declare (indicator all-head) ∷ []) goals s.stack.env.count (local_of s))) (sym is)

  pub all-swept : (w : Sweep) → w.view ≡ g → w.spot ≡ sweeps.Seek (reaches.Front OwnStart) → w.updates.items ≡ [] → there ≡ true →
      (most left : ℕ) (answers : List Answer) → now P v s most left answers ≡ now P v (record s { mode = modes.Find (finds.Sweep c w) }) most left answers
  all-swept w view spot none present most left answers =
      all-looked most left answers
      ∙ ap (λ b. after P v s most left answers (publish (if b then all-erasures else Declare (indicator all-head) ∷ []) goals s.stack.env.count (local_of s))) present
      ∙ ap (λ us. after P v s most left answers (publish us goals s.stack.env.count (local_of s)))
      (ap (λ xs. map Erase (names_of (filter (has_head s.stack.env.count all-head) xs))) (sym (from-start seen (indicator all-head) (ordered.under g.place)))
      ∙ ap₂ (λ us z. us ++ map Erase (names_of (filter (has_head s.stack.env.count all-head) (to_sweep seen (indicator all-head) z)))) (sym none) (sym spot)
      ∙ ap (λ b. swept (sight_in v s.layer.own.updates b) s.stack.env.count all-head w) (sym view))
      ∙ sym (swept-now P v (record s { mode = modes.Find (finds.Sweep c w) }) c w refl most left answers)

  pub all-declared : (new : Reached) (p : Indicator) → p ≡ indicator all-head → there ≡ false → Moved P s new (publish (Declare p ∷ []) goals s.stack.env.count (local_of s)) →
      (most left : ℕ) (answers : List Answer) → now P v s most left answers ≡ now P v new most left answers
  all-declared new p named absent moved most left answers =
      all-looked most left answers
      ∙ ap (λ b. after P v s most left answers (publish (if b then all-erasures else Declare (indicator all-head) ∷ []) goals s.stack.env.count (local_of s))) absent
      ∙ ap (λ q. after P v s most left answers (publish (Declare q ∷ []) goals s.stack.env.count (local_of s))) (sym named)
      ∙ moved.moved.ends v ordered most left answers

-- ---- the sweep that is carried

pub same-sweep : (c d : Cell) (w x : Sweep) → modes.Find (finds.Sweep c w) ≡ modes.Find (finds.Sweep d x) → (c ≡ d) × (w ≡ x)
same-sweep c d w x e = (cc, cc)

-- what holds of a sweep holds of it by another name
pub as-sweep : (Is : Cell → Sweep → Type 0) (c d : Cell) (w x : Sweep) → modes.Find (finds.Sweep c w) ≡ modes.Find (finds.Sweep d x) → Is c w → Is d x
as-sweep Is c d w x e is = let same = same-sweep c d w x e in subst (λ y. Is d y) same.1 (subst (λ b. Is b w) same.0 is)

-- a machine whose sweep is another one in the same view
module _ (s new : Reached) (c : Cell) (w x : Sweep) (at : s.mode ≡ modes.Find (finds.Sweep c w)) (is : new ≡ record s { mode = modes.Find (finds.Sweep c x) }) (view : x.view ≡ w.view) where
  still-found : MayAsk s.layer.own s.stack s.mode → MayAsk new.layer.own new.stack new.mode
  still-found may =
      let found = subst (MayAsk s.layer.own s.stack) at may in
      subst (λ (n : Reached). MayAsk n.layer.own n.stack n.mode) (sym is) ((found.0.0, subst (IsViewed s.layer.own s.stack) (sym view) found.0.1), found.1)

  pub sweeps-of : (P : Program) → IsOf P s → IsOf P new
  sweeps-of P of = record {
    begun = begun-by P new.stack.basis s.stack.basis (ap (λ n. n.stack.basis) is) of.begun;
    sound = record {
      tied = λ more. tied-as s new (ap (λ n. n.stack.basis) is) (ap (λ n. n.layer) is) (of.sound.tied (finds-last s.mode (finds.Sweep c w) at));
      askable = still-found of.sound.askable;
      carry = subst (λ (n : Reached). MayCarry n.stack n.mode) (sym is) tt;
    };
  }

  -- by which the same is to be erased
  pub sweep-stays : x.spot ≡ w.spot → x.updates.items ≡ w.updates.items → (P : Program) → StaysThere P s new
  sweep-stays spot updates P = record {
    basis = ap (λ n. n.stack.basis) is;
    layer = ap (λ n. n.layer) is;
    mode = λ plain. absurd (finds-plain s.mode (finds.Sweep c w) at plain);
    walks = ap (λ n. walks_in n.stack) is;
    cases = λ v. ap (cases_in P v) is;
    local = ap local_of is;
    askable = still-found;
    carry = λ may. subst (λ (n : Reached). MayCarry n.stack n.mode) (sym is) tt;
    same = λ may v left answers.
        ap (machine P v left answers) is
        ∙ find-machine P v (record s { mode = modes.Find (finds.Sweep c x) }) (finds.Sweep c x) refl left answers
        ∙ ap (λ us. move (cases_in P v s) (run_in v left answers s) (publish us (goals_of s.stack s.stack.goals) s.stack.env.count (local_of s))) (same v)
        ∙ sym (find-machine P v s (finds.Sweep c w) at left answers);
  }
    where
      head : Tree
      head = value s.stack.env.heap c

      same : (v : Views) → swept (sight_in v s.layer.own.updates x.view) s.stack.env.count head x ≡ swept (sight_in v s.layer.own.updates w.view) s.stack.env.count head w
      same v =
          ap (λ g. swept (sight_in v s.layer.own.updates g) s.stack.env.count head x) view
          ∙ ap₂ (λ us z. us ++ map Erase (names_of (filter (has_head s.stack.env.count head) (to_sweep (sight_in v s.layer.own.updates w.view) (indicator head) z)))) updates spot

-- the same of a search
pub still-stays : (s new : Progress) (c : Cell) (w x : Sweep) → s.machine.mode ≡ modes.Find (finds.Sweep c w) → new ≡ record s { machine = record s.machine { mode = modes.Find (finds.Sweep c x) } } → x.view ≡ w.view → x.spot ≡ w.spot → x.updates.items ≡ w.updates.items →
    (P : Program) → Stays P s new
still-stays s new c w x at is view spot updates P = record {
  used = ap (λ n. n.used) is;
  limit = ap (λ n. n.limit) is;
  places = ap (λ n. n.places.items) is;
  there = sweep-stays s.machine new.machine c w x at (ap (λ n. n.machine) is) view spot updates P;
}

-- a sweep that stands at a clause does so by each name
pub at-clause : (s : Progress) (c : Cell) (g : View) (z : SweepSpot) (y : ClauseName) (r : Reach) → Sweeping s c g z → (d : Cell) × (k : View) × Sweeping s d k (sweeps.At y r) → z ≡ sweeps.At y r
at-clause s c g z y r at (d, k, b) = sym at.3 ∙ ap (λ (x : Sweep). x.spot) (same-sweep c d at.0 b.0 (sym at.1 ∙ b.1)).1 ∙ b.3

-- a sweep that begins
pub all-of : (P : Program) (s : Reached) (c : Cell) (g : View) (w : Sweep) → s.mode ≡ modes.Find (finds.All c g) → w.view ≡ g → IsOf P s → IsOf P (record s { mode = modes.Find (finds.Sweep c w) })
all-of P s c g w at view of =
    let found = subst (MayAsk s.layer.own s.stack) at of.sound.askable in
    record {
      begun = of.begun;
      sound = record {
        tied = λ more. tied-as s (record s { mode = modes.Find (finds.Sweep c w) }) refl refl (of.sound.tied (finds-last s.mode (finds.All c g) at));
        askable = ((found.0.0, subst (IsViewed s.layer.own s.stack) (sym view) found.0.1), found.1);
        carry = tt;
      };
    }

-- ---- a sweep that goes on

-- to another one by which the same is to be erased
pub sweeps-keep : (P : Program) (s : Progress) (c : Cell) (w x : Sweep) → s.machine.mode ≡ modes.Find (finds.Sweep c w) → x.view ≡ w.view →
    ((v : Views) → AreOrdered v → swept (sight_in v s.machine.layer.own.updates w.view) s.machine.stack.env.count (value s.machine.stack.env.heap c) w ≡ swept (sight_in v s.machine.layer.own.updates x.view) s.machine.stack.env.count (value s.machine.stack.env.heap c) x) →
    Keeps P s (record s { machine = record s.machine { mode = modes.Find (finds.Sweep c x) } })
sweeps-keep P s c w x at view same =
    finds_keeps P s (record s { machine = record s.machine { mode = modes.Find (finds.Sweep c x) } }) (finds.Sweep c w) at refl refl (sweeps-of s.machine (record s.machine { mode = modes.Find (finds.Sweep c x) }) c w x at refl view P)
    (λ v ordered. swept-same P v s.machine c w at x (same v ordered))

-- a step behind its spot
module _ (s : Progress) (c : Cell) (w : Sweep) (r : Reach) (step : Step) (at : s.machine.mode ≡ modes.Find (finds.Sweep c w)) (at_spot : w.spot ≡ sweeps.Seek r)
    (told : Steps s.machine.layer.own.updates (value s.machine.stack.env.heap c) w.view r step) where
  abbrev own : List Update
  own = s.machine.layer.own.updates

  abbrev sought : Tree
  sought = value s.machine.stack.env.heap c

  -- no clause is left
  pub step-ends : sweep_behind step ≡ None → IsSwept s.machine
  step-ends none d x v ordered mode =
      as-sweep (λ b y. swept (sight_in v own y.view) s.machine.stack.env.count (value s.machine.stack.env.heap b) y ≡ y.updates.items) c d w x (sym at ∙ mode)
      (swept-all (sight_in v own w.view) s.machine.stack.env.count sought w r step at_spot (told.tells (v w.view.place) (ordered.ordered w.view.place) (ordered.under w.view.place)) none)

  module _ (spot : SweepSpot) (new : Progress) (is : sweep_behind step ≡ Some spot) (to : new ≡ record s { machine = record s.machine { mode = modes.Find (finds.Sweep c (record w { spot = spot })) } }) where
    pub step-keeps : (P : Program) → Keeps P s new
    step-keeps P =
        subst (Keeps P s) (sym to)
        (sweeps-keep P s c w (record w { spot = spot }) at refl
        (λ v ordered. swept-behind (sight_in v own w.view) s.machine.stack.env.count sought w (record w { spot = spot }) r step at_spot (told.tells (v w.view.place) (ordered.ordered w.view.place) (ordered.under w.view.place)) is refl))

    pub step-on : SeeksOn s.machine new.machine
    step-on =
        sweep-on c w (record w { spot = spot }) s.machine new.machine at (ap (λ n. n.machine.mode) to) (ap (λ n. value n.machine.stack.env.heap c) to) (λ v. [])
        (λ v. ap (sweep_asks w.view (v w.view.place) sought) at_spot ∙ sym (leads-asks w.view (v w.view.place) sought r step told.leads) ∙ sym (spot-asked w.view (v w.view.place) sought step spot is))

    pub step-sweeps : IsSweeping new
    step-sweeps = (c, record w { spot = spot }, ap (λ n. n.machine.mode) to)

    pub step-fewer : ((k : Cursor) → step ≡ steps.Asks k → ⊥) → sweeps_left new.machine new.machine.mode < sweeps_left s.machine s.machine.mode
    step-fewer none =
        subst (λ n. sweeps_left n.machine n.machine.mode < sweeps_left s.machine s.machine.mode) (sym to)
        (subst (λ n. sweep_left own sought w.view spot < sweeps_left s.machine n) (sym at)
        (subst (λ z. sweep_left own sought w.view spot < sweep_left own sought w.view z) (sym at_spot) (sweep-fewer own sought w.view r step spot told.tells none is)))

    -- the journal is to be asked
    pub step-asks : (k : Cursor) → step ≡ steps.Asks k → IsFetching new
    step-asks k asks =
        subst IsFetching (sym to) (w.view.place, like sought k, inl (finds.Sweep c (record w { spot = spot }), refl, refl, subst (λ z. SweepAsks own w.view sought z (like sought k)) same refl))
      where
        same : sweeps.Seek (reaches.Base k) ≡ spot
        same = let e : Some (sweeps.Seek (reaches.Base k)) ≡ Some spot = sym (ap sweep_behind asks) ∙ is in cc

-- the journal told what comes next behind the spot of a sweep
module _ (s : Progress) (c : Cell) (g : View) (z : SweepSpot) (found : Option ClauseName) (step : Step) (stands : Sweeping s c g z) (told : StepsFound s.machine.layer.own.updates (value s.machine.stack.env.heap c) g found step)
    (d : Cell) (w : Sweep) (cur : Cursor) (at : s.machine.mode ≡ modes.Find (finds.Sweep d w)) (at_spot : w.spot ≡ sweeps.Seek (reaches.Base cur)) where
  abbrev looked-for : Tree
  looked-for = value s.machine.stack.env.heap d

  abbrev drafted : List Update
  drafted = s.machine.layer.own.updates

  pub step-of : StepsFound drafted looked-for w.view found step
  step-of =
      let same = same-sweep c d stands.0 w (sym stands.1 ∙ at) in
      subst (λ k. StepsFound drafted looked-for k found step) (sym stands.2 ∙ ap (λ (x : Sweep). x.view) same.1) (subst (λ b. StepsFound drafted (value s.machine.stack.env.heap b) g found step) same.0 told)

  module _ (v : Views) (ordered : AreOrdered v) (is : found ≡ next_like_of (first_key looked-for) cur (living (v w.view.place) (indicator looked-for))) where
    abbrev told-there : IsStepOf (sight_in v drafted w.view) (indicator looked-for) (first_key looked-for) (likely (first_key looked-for) (rest_at (sight_in v drafted w.view) (indicator looked-for) (reaches.Base cur))) step
    told-there = step-of.tells (v w.view.place) cur (ordered.ordered w.view.place) (ordered.under w.view.place) is

    -- the sweep stands there
    pub found-keeps : (P : Program) (spot : SweepSpot) (new : Progress) → sweep_behind step ≡ Some spot → new ≡ record s { machine = record s.machine { mode = modes.Find (finds.Sweep d (record w { spot = spot })) } } → KeepsRest P v s new
    found-keeps P spot new to becomes =
        subst (KeepsRest P v s) (sym becomes)
        (record { used = refl; limit = refl; rest = swept-same P v s.machine d w at (record w { spot = spot }) (swept-behind (sight_in v drafted w.view) s.machine.stack.env.count looked-for w (record w { spot = spot }) (reaches.Base cur) step at_spot told-there to refl) })

    -- no clause is left
    pub found-none : sweep_behind step ≡ None → swept (sight_in v drafted w.view) s.machine.stack.env.count looked-for w ≡ w.updates.items
    found-none none = swept-all (sight_in v drafted w.view) s.machine.stack.env.count looked-for w (reaches.Base cur) step at_spot told-there none

-- own updates don't tell of the clause there
pub spot-asks : (s : Progress) (c : Cell) (w : Sweep) (y : ClauseName) (r : Reach) → s.machine.mode ≡ modes.Find (finds.Sweep c w) → w.spot ≡ sweeps.At y r → IsUntouched s.machine.layer.own.updates w.view y → IsFetching s
spot-asks s c w y r at spot untouched =
    (w.view.place, Query.Clause y, inl (finds.Sweep c w, at, refl, subst (λ z. SweepAsks s.machine.layer.own.updates w.view (value s.machine.stack.env.heap c) z (Query.Clause y)) (sym spot) (untouched, refl)))

-- ---- past the clause of a name

-- what was done with it
module _ (s h new : Progress) (c : Cell) (w x : Sweep) (y : ClauseName) (r : Reach) (o : Option Clause) (at : s.machine.mode ≡ modes.Find (finds.Sweep c w)) (at_spot : w.spot ≡ sweeps.At y r)
    (stays : (P : Program) → Stays P s h) (frame : h ≡ record s { machine = record s.machine { stack = h.machine.stack } }) (same : value h.machine.stack.env.heap c ≡ value s.machine.stack.env.heap c)
    (is : new ≡ record h { machine = record h.machine { mode = modes.Find (finds.Sweep c x) } }) (view : x.view ≡ w.view) (spot : x.spot ≡ sweeps.Seek r) where
  abbrev seeks : Going
  seeks = modes.Find (finds.Sweep c x)

  h-at : h.machine.mode ≡ modes.Find (finds.Sweep c w)
  h-at = ap (λ x. x.machine.mode) frame ∙ at

  pub past-of : (P : Program) → IsOf P s.machine → IsOf P new.machine
  past-of P of = sweeps-of h.machine new.machine c w x h-at (ap (λ n. n.machine) is) view P (stays_of P s h of (stays P))

  pub goes-past : MayAsk s.machine.layer.own s.machine.stack s.machine.mode → x.updates.items ≡ w.updates.items ++ erased_if (has_if h.machine.stack.env.count (value h.machine.stack.env.heap c) o) y → GoesPast s new y r o
  goes-past may updates = record {
    head = c;
    was = w;
    now = x;
    mode_was = at;
    mode_now = ap (λ n. n.machine.mode) is;
    view = view;
    spot_was = at_spot;
    spot_now = spot;
    layer = ap (λ n. n.machine.layer) is ∙ ap (λ n. n.machine.layer) frame;
    same = ap (λ n. value n.machine.stack.env.heap c) is ∙ same;
    keeps = λ P v ordered alive. record {
      used = ap (λ n. n.used) is ∙ (stays P).used;
      limit = ap (λ n. n.limit) is ∙ (stays P).limit;
      rest = λ most left answers.
          ap (λ m. ending_of most (Rest P m)) (sym ((stays P).there.same may v left answers))
          ∙ swept-same P v h.machine c w h-at x (erased v alive) most left answers
          ∙ ap (λ n. now P v n.machine most left answers) (sym is);
    };
  }
    where
      erased : (v : Views) → o ≡ clause_alive y (seen_in v s.machine.layer.own.updates w.view) →
          swept (sight_in v h.machine.layer.own.updates w.view) h.machine.stack.env.count (value h.machine.stack.env.heap c) w ≡ swept (sight_in v h.machine.layer.own.updates x.view) h.machine.stack.env.count (value h.machine.stack.env.heap c) x
      erased v alive =
          swept-past (sight_in v h.machine.layer.own.updates w.view) h.machine.stack.env.count (value h.machine.stack.env.heap c) w x y r o at_spot
          (alive ∙ ap (λ (n : Progress). clause_alive y (seen_in v n.machine.layer.own.updates w.view)) (sym frame)) spot updates
          ∙ ap (λ g. swept (sight_in v h.machine.layer.own.updates g) h.machine.stack.env.count (value h.machine.stack.env.heap c) x) (sym view)

module _ (s new : Progress) (y : ClauseName) (r : Reach) (o : Option Clause) (p : GoesPast s new y r o) where
  -- it comes nearer to the end
  pub past-fewer : sweeps_left new.machine new.machine.mode < sweeps_left s.machine s.machine.mode
  past-fewer =
      let h : Tree = value s.machine.stack.env.heap p.head in
      let later : sweeps_left new.machine new.machine.mode ≡ 2 * own_behind s.machine.layer.own.updates h p.was.view r =
      ap (sweeps_left new.machine) p.mode_now
      ∙ ap (sweep_left new.machine.layer.own.updates (value new.machine.stack.env.heap p.head) p.now.view) p.spot_now
      ∙ ap₂ (λ (l : Layered) t. 2 * own_behind l.own.updates t p.now.view r) p.layer p.same
      ∙ ap (λ g. 2 * own_behind s.machine.layer.own.updates h g r) p.view in
      let sooner : sweeps_left s.machine s.machine.mode ≡ 2 * own_behind s.machine.layer.own.updates h p.was.view r + 1 =
      ap (sweeps_left s.machine) p.mode_was ∙ ap (sweep_left s.machine.layer.own.updates h p.was.view) p.spot_was in
      omega (arith, later, sooner)

  -- and asks no more
  pub past-on : SeeksOn s.machine new.machine
  past-on =
      let h : Tree = value s.machine.stack.env.heap p.head in
      sweep-on p.head p.was p.now s.machine new.machine p.mode_was p.mode_now p.same (λ v. clause_asks p.was.view y)
      (λ v. ap (sweep_asks p.was.view (v p.was.view.place) h) p.spot_was
      ∙ ap (λ (k : View). clause_asks p.was.view y ++ reach_asks (v k.place) h r) (sym p.view)
      ∙ ap (λ z. clause_asks p.was.view y ++ sweep_asks p.now.view (v p.now.view.place) h z) (sym p.spot_now))

  -- and keeps what is left, where the clause is known
  pub past-keeps : (P : Program) → new ≡ record s { machine = new.machine } → latest_view new ≡ latest_view s → (IsOf P s.machine → IsOf P new.machine) → ((v : Views) → AreOrdered v → o ≡ clause_alive y (seen_in v s.machine.layer.own.updates p.was.view)) → Keeps P s new
  past-keeps P frame latest of known = finds_keeps P s new (finds.Sweep p.head p.was) p.mode_was frame latest of (λ v ordered. (p.keeps P v ordered (known v ordered)).rest)
