-- What is sought in a view: look-ups that were answered with what is seen there.
use Rattle.std.specs.Prelude.{Result as Outcomes, Ok, Err}
use Rattle.std.proofs.Common.{OnOk, OnErr, ◌⊎◌, inl, inr, ◌≡◌, ℕ, Bool, true, false, ◌||◌, List, [], map, Option, refl, sym, ap, ◌∙◌, subst, if◌then◌else◌}
use Rattle.std.specs.List.{filter_map}
use Rattle.plterm.specs.Tree.{Tree}
use Rattle.plterm.specs.declared.indicator.Indicator.{Indicator}
use Rattle.plclause.specs.Clause.{Clause}
use Rattle.plclause.specs.Indicators.{indicator}
use Rattle.plevent.specs.declared.update.ClauseName.{ClauseName}
use Rattle.plevent.specs.declared.update.Living.{Living}
use Rattle.plevent.specs.Alive.{Stamped, exists, living, clauses_of, clauses_alive}
use Rattle.plevent.specs.Keys.{first_key}
use Rattle.plevent.specs.Search.{Answer, Seen}
use Rattle.plprogram.specs.Program.{Program}
use Rattle.plsearch.specs.Types.{Lookup as Wanted, ToCall, Element, Local, Give, Fail}
use Rattle.plsearch.specs.Moves.{call, choose}
use Rattle.plsearch.specs.Lookups.{as_fact, looked_up, missing, retract}
use Rattle.plsearch.specs.Rows.{meet}
use Rattle.plsearch.specs.Replies.{answered}
use Rattle.plsearch.specs.Machines.Machine.{Rest, turn}
use Rattle.plsearch.specs.Search.{ending_of}
use Rattle.plsearch.proofs.Turns.{Rest-turn}
use Rattle.plstore.specs.Like.{next_like_of}
use Rattle.plrecords.specs.declared.record.Cursor.{Cursor}
use Rattle.plstore.specs.declared.query.Query.{Query}
use Rattle.plstore.specs.declared.query.Found.{Found}
use Rattle.plstore.specs.declared.query.Found.TheVariants.{Next as NextFound, Clause as ClauseFound, Alive as AliveFound, Exists as ExistsFound}
use Rattle.plstore.specs.Looking.{Views, clause_alive, found}
use Rattle.plcells.specs.declared.cell.Cell.{Cell}
use Rattle.plcells.specs.Store.{Store, value}
use Rattle.plevent.specs.declared.update.Update.{Update}
use Rattle.plviews.specs.declared.lookup.Reach.{Reach}
use Rattle.plviews.specs.declared.lookup.Reach.TheVariants as reaches
use Rattle.plviews.specs.declared.view.View.{View}
use Rattle.plstack.specs.declared.frame.Ahead.{Ahead}
use Rattle.plstack.specs.declared.frame.Spot.TheVariants as spots
use Rattle.plmachine.specs.declared.machine.Find.TheVariants as finds
use Rattle.plmachine.specs.declared.machine.Sweep.{Sweep}
use Rattle.plmachine.specs.declared.machine.SweepSpot.TheVariants as sweeps
use Rattle.plcode.proofs.Numbers.{indicator_same}
use Rattle.plstack.specs.declared.frame.Use.TheVariants as uses
use Rattle.plstack.specs.Places.{candidate_of, head_in, tried}
use Rattle.plstack.specs.State.{goals_of}
use Rattle.plstack.specs.Walks.{IsWalking}
use Rattle.plstack.specs.declared.frame.Point.{Point}
use Rattle.plstack.specs.declared.frame.Walk.{Walk}
use Rattle.plstack.specs.StaticCalls.{database_of}
use Rattle.plstack.proofs.Stacks.{depth-in}
use Rattle.plmachine.specs.declared.machine.Question.{Question}
use Rattle.plmachine.specs.declared.machine.Outcome.{Outcome}
use Rattle.plmachine.specs.declared.machine.Mode.{Mode as Going}
use Rattle.plmachine.specs.declared.machine.Find.{Find}
use Rattle.plmachine.specs.declared.machine.Mode.TheVariants as modes
use Rattle.plmachine.specs.declared.machine.Machine.{Machine as Reached}
use Rattle.plmachine.specs.Machine.{after, bare, depth_of, finding, local_of, looking, lookup_by, machine, machine_in, now, IsLast, IsPlain, IsTold}
use Rattle.plmachine.proofs.Clausal.{called-left, erased-left, told-left}
use Rattle.plsolver.specs.Fetching.{like, ClauseAsks, FindAsks, IsClause, IsExists, IsFoundFor, IsNext, ReachAsks, SpotAsks, SweepAsks, WalksOn}
use Rattle.plsolver.specs.Going.{LooksBehind}
use Rattle.plstack.proofs.Walking.{same-walking}
use Rattle.plsolver.proofs.Behind.{looks-elim}

-- the machine of what is sought
pub find-machine : (P : Program) (v : Views) (s : Reached) (f : Find) → s.mode ≡ modes.Find f → (left : ℕ) (answers : List Answer) → machine P v left answers s ≡ finding P v left answers s f
unfolding machine
find-machine P v s f at left answers = ap (machine_in P v left answers s) at

-- a look-up that was answered
module _ (P : Program) (v : Views) (s : Reached) (f : Find) (at : s.mode ≡ modes.Find f) (u : Wanted) (g : ℕ) (us : List Stamped)
    (is : (left : ℕ) (answers : List Answer) → finding P v left answers s f ≡ looking P v left answers s u (Seen g us)) where
  pub looked : (most left : ℕ) (answers : List Answer) → now P v s most left answers ≡ after P v s most left answers (looked_up us u (depth_of s) (goals_of s.stack s.stack.goals) s.stack.env.count (local_of s))
  unfolding turn meet answered
  looked most left answers =
      ap (λ m. ending_of most (Rest P m)) (find-machine P v s f at left answers ∙ is left answers)
      ∙ ap (ending_of most) (Rest-turn P (looking P v left answers s u (Seen g us)))
      ∙ ap (λ d. after P v s most left answers (looked_up us u d (goals_of s.stack s.stack.goals) s.stack.env.count (local_of s))) (depth-in (database_of P v s.layer.own.updates) s.stack)

-- ---- what clauses are looked up for

-- a goal that is called has the clauses of its procedure, and so have a head and a body
pub looked-call : (us : List Stamped) (d n : ℕ) (t : Tree) (rest : List Element) (w : Local) → exists us (indicator t) ≡ true →
    looked_up us (ToCall t) d rest n w ≡ choose (filter_map (tried d n t rest) (map (candidate_of uses.Call) (living us (indicator t)))) w
looked-call us d n t rest w there =
    ap (λ b. if b then call d n t rest (clauses_alive us (indicator t)) w else missing w.settings.unknown t rest w) there
    ∙ ap (λ ps. choose ps w) (sym (called-left d n t rest (living us (indicator t))))

pub looked-told : (us : List Stamped) (d n : ℕ) (t : Tree) (rest : List Element) (w : Local) → IsTold uses.Tell t →
    looked_up us (lookup_by uses.Tell t) d rest n w ≡ choose (filter_map (tried d n t rest) (map (candidate_of uses.Tell) (living us (indicator (head_in uses.Tell t))))) w
looked-told us d n t rest w told =
    let L : List Living = living us (indicator (head_in uses.Tell t)) in
    ap (λ g. call d n g rest (map as_fact (clauses_of L)) w) told
    ∙ ap (λ ps. choose ps w) (sym (told-left d n t rest L))

pub looked-erased : (us : List Stamped) (d n : ℕ) (t : Tree) (rest : List Element) (w : Local) → IsTold uses.Erase t →
    looked_up us (lookup_by uses.Erase t) d rest n w ≡ choose (filter_map (tried d n t rest) (map (candidate_of uses.Erase) (living us (indicator (head_in uses.Erase t))))) w
looked-erased us d n t rest w told =
    let L : List Living = living us (indicator (head_in uses.Erase t)) in
    ap (λ g. choose (filter_map (retract d n g rest) L) w) told
    ∙ ap (λ ps. choose ps w) (sym (erased-left d n t rest L))

-- where no clause is, only whether the procedure exists counts
pub looked-bare : (us : List Stamped) (d n : ℕ) (t : Tree) (rest : List Element) (w : Local) (b : Bool) → b ≡ exists us (indicator t) →
    (b ≡ true → filter_map (tried d n t rest) (map (candidate_of uses.Call) (living us (indicator t))) ≡ []) →
    looked_up us (ToCall t) d rest n w ≡ (if b then Give Fail w else missing w.settings.unknown t rest w)
looked-bare us d n t rest w true there none = looked-call us d n t rest w (sym there) ∙ ap (λ ps. choose ps w) (none refl)
looked-bare us d n t rest w false there none = ap (λ b. if b then call d n t rest (clauses_alive us (indicator t)) w else missing w.settings.unknown t rest w) (sym there)

-- a view without clauses, in which a procedure exists or not
bare-exists : (b : Bool) (p : Indicator) → exists (bare b p) p ≡ b
unfolding exists
bare-exists true p = ap (λ v. v || false) (indicator_same p p refl)
bare-exists false p = refl

bare-living : (b : Bool) (p : Indicator) → living (bare b p) p ≡ []
unfolding living
bare-living true p = refl
bare-living false p = refl

pub looked-in-bare : (b : Bool) (d n : ℕ) (t : Tree) (rest : List Element) (w : Local) → looked_up (bare b (indicator t)) (ToCall t) d rest n w ≡ (if b then Give Fail w else missing w.settings.unknown t rest w)
looked-in-bare b d n t rest w =
    looked-bare (bare b (indicator t)) d n t rest w b (sym (bare-exists b (indicator t)))
    (λ is. ap (λ xs. filter_map (tried d n t rest) (map (candidate_of uses.Call) xs)) (bare-living b (indicator t)))

-- ---- answers

pub ok_or_err : {T E A B C : Type 0} (r : Outcomes T E) → OnOk r A → OnErr r B → (A → C) → (B → C) → C
ok_or_err (Ok x) a b f g = f a
ok_or_err (Err e) a b f g = g b

-- what an answer tells, by its query
pub next-told : (v : Views) (g : ℕ) (q : Query) (h : Tree) (c : Cursor) (f : Found) (x : Option ClauseName) → q ≡ like h c → f ≡ found (v g) q → f ≡ NextFound x → x ≡ next_like_of (first_key h) c (living (v g) (indicator h))
next-told v g q h c f x asked told is = let e : NextFound x ≡ NextFound (next_like_of (first_key h) c (living (v g) (indicator h))) = sym is ∙ told ∙ ap (found (v g)) asked in cc

pub clause-told : (v : Views) (g : ℕ) (q : Query) (x : ClauseName) (f : Found) (c : Option Clause) → q ≡ Query.Clause x → f ≡ found (v g) q → f ≡ ClauseFound c → c ≡ clause_alive x (v g)
clause-told v g q x f c asked told is = let e : ClauseFound c ≡ ClauseFound (clause_alive x (v g)) = sym is ∙ told ∙ ap (found (v g)) asked in cc

pub exists-told : (v : Views) (g : ℕ) (q : Query) (p : Indicator) (f : Found) (b : Bool) → q ≡ Query.Exists p → f ≡ found (v g) q → f ≡ ExistsFound b → b ≡ exists (v g) p
exists-told v g q p f b asked told is = let e : ExistsFound b ≡ ExistsFound (exists (v g) p) = sym is ∙ told ∙ ap (found (v g)) asked in cc

pub next-kind : (h : Tree) (c : Cursor) (f : Found) → IsFoundFor (like h c) f → IsNext f
next-kind h c (NextFound x) fits = tt
next-kind h c (ClauseFound x) fits = absurd fits
next-kind h c (AliveFound b) fits = absurd fits
next-kind h c (ExistsFound b) fits = absurd fits

pub clause-kind : (x : ClauseName) (f : Found) → IsFoundFor (Query.Clause x) f → IsClause f
clause-kind x (NextFound y) fits = absurd fits
clause-kind x (ClauseFound y) fits = tt
clause-kind x (AliveFound b) fits = absurd fits
clause-kind x (ExistsFound b) fits = absurd fits

pub exists-kind : (p : Indicator) (f : Found) → IsFoundFor (Query.Exists p) f → IsExists f
exists-kind p (NextFound y) fits = absurd fits
exists-kind p (ClauseFound y) fits = absurd fits
exists-kind p (AliveFound b) fits = absurd fits
exists-kind p (ExistsFound b) fits = tt

-- a mode that seeks nothing
pub finds-none : (m : Going) (f : Find) → m ≡ modes.Find f → (m ≡ modes.Visit) ⊎ (((q : Question) × (m ≡ modes.Ask q)) ⊎ ((r : Outcome) × (m ≡ modes.Back r))) → ⊥
finds-none m f is (inl at) = let e : modes.Find f ≡ modes.Visit = sym is ∙ at in cc
finds-none m f is (inr (inl at)) = let e : modes.Find f ≡ modes.Ask at.0 = sym is ∙ at.1 in cc
finds-none m f is (inr (inr at)) = let e : modes.Find f ≡ modes.Back at.0 = sym is ∙ at.1 in cc

-- so it is no last result, and no plain one
pub finds-last : (m : Going) (f : Find) → m ≡ modes.Find f → IsLast m → ⊥
finds-last m f is last = subst IsLast is last

pub finds-plain : (m : Going) (f : Find) → m ≡ modes.Find f → IsPlain m → ⊥
finds-plain m f is plain = subst IsPlain is plain

pub plain-without : (m : Going) → ((f : Find) → m ≡ modes.Find f → ⊥) → IsPlain m
plain-without modes.Visit none = tt
plain-without (modes.Ask q) none = tt
plain-without (modes.Find f) none = absurd (none f refl)
plain-without (modes.Back r) none = tt

-- ---- what is asked behind a reach

-- the journal's clauses
pub base-asks : (h : Tree) (r : Reach) → (q : Query) × ReachAsks h r q → ((c : Cursor) → r ≡ reaches.Base c → ⊥) → ⊥
base-asks h (reaches.Front k) asks none = asks.1
base-asks h (reaches.Base c) asks none = none c refl
base-asks h (reaches.Back k) asks none = asks.1

reach-base : (h : Tree) (r : Reach) (q : Query) → ReachAsks h r q → (c : Cursor) × (r ≡ reaches.Base c) × (q ≡ like h c)
reach-base h (reaches.Front k) q asks = absurd asks
reach-base h (reaches.Base c) q asks = (c, refl, asks)
reach-base h (reaches.Back k) q asks = absurd asks

for-any : (r : Reach) (c : Cursor) → r ≡ reaches.Base c → (h : Tree) → (q : Query) × ReachAsks h r q
for-any r c is h = (like h c, subst (λ z. ReachAsks h z (like h c)) (sym is) refl)

-- by a sweep
pub sweep-base : (own : List Update) (st : Store) (f : Find) (c : Cell) (w : Sweep) (r : Reach) (q : Query) → f ≡ finds.Sweep c w → w.spot ≡ sweeps.Seek r → FindAsks own st f q → (cur : Cursor) × (r ≡ reaches.Base cur) × (q ≡ like (value st c) cur)
sweep-base own st f c w r q is spot asks = reach-base (value st c) r q (subst (λ z. SweepAsks own w.view (value st c) z q) spot (subst (λ y. FindAsks own st y q) is asks))

pub sweep-reach : (own : List Update) (st : Store) (f : Find) (c : Cell) (w : Sweep) (r : Reach) → f ≡ finds.Sweep c w → w.spot ≡ sweeps.Seek r → (q : Query) × FindAsks own st f q → (h : Tree) → (q : Query) × ReachAsks h r q
sweep-reach own st f c w r is spot asks = let b = sweep-base own st f c w r asks.0 is spot asks.1 in for-any r b.0 b.1

-- and of a clause
pub sweep-clause : (own : List Update) (st : Store) (f : Find) (c : Cell) (w : Sweep) (x : ClauseName) (r : Reach) (q : Query) → f ≡ finds.Sweep c w → w.spot ≡ sweeps.At x r → FindAsks own st f q → ClauseAsks own w.view x q
sweep-clause own st f c w x r q is spot asks = subst (λ z. SweepAsks own w.view (value st c) z q) spot (subst (λ y. FindAsks own st y q) is asks)

-- by the innermost walk
module _ (s : Reached) (p : Point) (w : Walk) (walking : IsWalking s.stack p w) where
  abbrev head : Tree
  head = head_in w.uses (value s.stack.env.heap w.goal)

  spot-is : (k : ℕ) (q : Query) → WalksOn s k q → SpotAsks s.layer.own.updates head w.spot k q
  spot-is k q on = subst (λ u. SpotAsks s.layer.own.updates (head_in u.uses (value s.stack.env.heap u.goal)) u.spot k q) (same-walking s.stack on.point p on.walk w on.at.walking walking) on.asks

  pub walk-base : (g : View) (r : Reach) → LooksBehind w.spot g r → (k : ℕ) (q : Query) → WalksOn s k q → (c : Cursor) × (r ≡ reaches.Base c) × (q ≡ like head c) × (k ≡ g.place)
  walk-base g r looks k q on =
      let asks : (k ≡ g.place) × ReachAsks head r q = looks-elim (λ z. SpotAsks s.layer.own.updates head z k q → (k ≡ g.place) × ReachAsks head r q) g r w.spot looks (λ a. a) (λ x a. a) (spot-is k q on) in
      let b = reach-base head r q asks.1 in
      (b.0, b.1, b.2, asks.0)

  pub walk-reach : (g : View) (r : Reach) → LooksBehind w.spot g r → (k : ℕ) × (q : Query) × WalksOn s k q → (h : Tree) → (q : Query) × ReachAsks h r q
  walk-reach g r looks on = let b = walk-base g r looks on.0 on.1 on.2 in for-any r b.0 b.1

  pub walk-clause : (g : View) (x : ClauseName) (y : Option Ahead) → w.spot ≡ spots.Known g x y → (k : ℕ) (q : Query) → WalksOn s k q → (k ≡ g.place) × ClauseAsks s.layer.own.updates g x q
  walk-clause g x y at k q on = subst (λ z. SpotAsks s.layer.own.updates head z k q) at (spot-is k q on)
