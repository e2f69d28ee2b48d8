-- What the rows make of a machine.
use Rattle.std.proofs.Common.{◌≡◌, ◌≤◌, ℕ, List, [], ◌∷◌, ◌++◌, refl, sym, ap, ap₂, ◌∙◌, subst, OnErr, OnOk, Ok, Err, length, map, true, false, arith, reverse}
use Rattle.std.specs.Prelude.{Result as Outcomes}
use Rattle.plterm.specs.Tree.{Tree, var, int, atom, compound}
use Rattle.plterm.specs.Variables.{copied}
use Rattle.plterm.specs.declared.indicator.Indicator.{Indicator}
use Rattle.plevent.specs.Search.{Answer}
use Rattle.plevent.specs.Alive.{Stamped}
use Rattle.plstore.specs.Looking.{Views}
use Rattle.pltx.specs.Own.{any_open}
use Rattle.plviews.specs.Layers.{Layered}
use Rattle.plprogram.specs.Program.{Program}
use Rattle.plsearch.specs.Types.{Throw, Element, Resolvent, Case, Local, Move, Give, Go}
use Rattle.plbuiltin.specs.Lists.{is_variable}
use Rattle.plerror.specs.Errors.{error_term, instantiation_error}
use Rattle.plsearch.specs.Lists.{levels}
use Rattle.plsearch.specs.Moves.{raised, go_on}
use Rattle.plsearch.specs.Rows.{thrown, throw_1}
use Rattle.plsearch.specs.Machines.Machine.{Mode, At, Back, Rest, move}
use Rattle.plsearch.specs.Search.{ending_of}
use Rattle.plcode.specs.Callees.{IsProgramCode}
use Rattle.pllinks.specs.declared.link.Continuation.{Continuation}
use Rattle.plstack.specs.Basis.{Basis}
use Rattle.plstack.specs.State.{State, walks_in, IsList, place_of, cases_of, goals_of, Opens}
use Rattle.plstack.specs.Places.{depth_of as frames_depth, walks_of, Database}
use Rattle.plstack.specs.StaticCalls.{database_of}
use Rattle.plmachine.specs.declared.machine.Outcome.{Outcome}
use Rattle.plmachine.specs.declared.machine.Question.{Question as Asked}
use Rattle.plmachine.specs.declared.machine.Mode.{Mode as Going}
use Rattle.plmachine.specs.declared.machine.Mode.TheVariants as modes
use Rattle.plmachine.specs.declared.machine.Machine.{Machine as Reached}
use Rattle.plmachine.specs.Lists.{Grown, Holds}
use Rattle.plmachine.specs.Machine.{result_of, element_of, machine_in, mode_of, below_in, local_of, run_in, after, cases_in, depth_of, machine, now, IsAskable, IsCarried, IsPlain, IsTied, MayAsk, MayCarry, Moved, MovedBy, Stays, SeeksAnew}
use Rattle.plmachine.proofs.Askable.{carry-as, kinds-as, may-ask, same-machine, ValuesStay}

-- ---- a machine by its parts

pub plain-machine : (P : Program) (v : Views) (s : Reached) (left : ℕ) (answers : List Answer) (m : Going) → IsPlain m →
    machine_in P v left answers s m ≡ record { mode = mode_of m s.stack; cases = cases_in P v s; run = run_in v left answers s }
plain-machine P v s left answers modes.Visit plain = refl
plain-machine P v s left answers (modes.Ask q) plain = refl
plain-machine P v s left answers (modes.Find f) plain = absurd plain
plain-machine P v s left answers (modes.Back r) plain = refl

pub machine-is : (P : Program) (v : Views) (s : Reached) (m : Mode) (cs : List Case) (below : List Stamped) (w : Local) → IsPlain s.mode → mode_of s.mode s.stack ≡ m → cases_in P v s ≡ cs → below_in v s ≡ below → local_of s ≡ w →
    (left : ℕ) (answers : List Answer) → machine P v left answers s ≡ record { mode = m; cases = cs; run = record { steps = left; answers = answers; below = below; local = w } }
unfolding machine
machine-is P v s m cs below w plain at cases on local left answers =
    plain-machine P v s left answers s.mode plain
    ∙ ap₂ (λ x cs. record { mode = x; cases = cs; run = run_in v left answers s }) at cases
    ∙ ap₂ (λ us w. record { mode = m; cases = cs; run = record { steps = left; answers = answers; below = us; local = w } }) on local

-- ---- own updates, and the cases

-- they are tied as before where neither changes
pub tied-as : (s new : Reached) → new.stack.basis ≡ s.stack.basis → new.layer ≡ s.layer → IsTied s → IsTied new
tied-as s new basis layer tied = record {
  starts = ap (λ (b : Basis). reverse b.starts) basis ∙ tied.starts ∙ ap (λ (x : Layered). map (λ l. l.start) x.own.levels) (sym layer);
  count =
      subst (λ (b : Basis). b.latest.count ≤ length new.layer.own.updates) (sym basis)
      (subst (λ (x : Layered). s.stack.basis.latest.count ≤ length x.own.updates) (sym layer) tied.count);
  base = λ open_now. ap (λ (b : Basis). b.latest.place) basis ∙ tied.base (ap (λ (x : Layered). any_open x.own) (sym layer) ∙ open_now) ∙ ap (λ (x : Layered). x.own.base) (sym layer);
  closed = λ none. ap (λ (b : Basis). b.latest.count) basis ∙ tied.closed (ap (λ (x : Layered). any_open x.own) (sym layer) ∙ none);
  outer = λ k ks is. tied.outer k ks (sym (ap (λ (b : Basis). b.starts) basis) ∙ is);
}

pub below-as : (v : Views) (s new : Reached) → new.layer ≡ s.layer → below_in v new ≡ below_in v s
below-as v s new layer = ap (λ (x : Layered). below_of v x) layer
  where
    below_of : Views → Layered → List Stamped
    below_of v x = below_in v (record s { layer = x })

-- the cases stand for the same where the stack's do
pub cases-as : (P : Program) (v : Views) (s new : Reached) → new.layer ≡ s.layer → ((db : Database) → cases_of db new.stack ≡ cases_of db s.stack) → cases_in P v new ≡ cases_in P v s
cases-as P v s new layer cases = ap (λ (x : Layered). cases_of (database_of P v x.own.updates) new.stack) layer ∙ cases (database_of P v s.layer.own.updates)

-- ---- where it stays

-- the code is the same
pub begun-by : (P : Program) (a b : Basis) → a ≡ b → IsProgramCode P b.code → IsProgramCode P a.code
begun-by P a b e i = subst (λ (x : Basis). IsProgramCode P x.code) (sym e) i

pub stays-by : (P : Program) (s new : Reached) → new.stack.basis ≡ s.stack.basis → new.layer ≡ s.layer → walks_in new.stack ≡ walks_in s.stack → new.mode ≡ s.mode → ValuesStay s.stack new.stack → place_of new.stack ≡ place_of s.stack →
    ((db : Database) → cases_of db new.stack ≡ cases_of db s.stack) → local_of new ≡ local_of s → Stays P s new
unfolding machine
stays-by P s new basis layer walks at values place cases local = record {
  basis = basis;
  layer = layer;
  mode = λ plain. at;
  walks = walks;
  cases = λ v. cases-as P v s new layer cases;
  local = local;
  askable = λ may.
      subst (MayAsk new.layer.own new.stack) (sym at)
      (subst (λ (x : Layered). MayAsk x.own new.stack s.mode) (sym layer) (may-ask s.layer.own s.stack new.stack s.mode basis values place (kinds-as s.stack new.stack cases) may));
  carry = λ may. subst (MayCarry new.stack) (sym at) (carry-as s.stack new.stack s.mode cases may);
  same = λ may v left answers.
      ap (machine_in P v left answers new) at ∙ same-machine P v s new left answers s.mode values place (cases-as P v s new layer cases) layer local may;
}

pub stays_put : (P : Program) (s : Reached) → Stays P s s
stays_put P s = record { basis = refl; layer = refl; mode = λ plain. refl; walks = refl; cases = λ v. refl; local = refl; askable = λ may. may; carry = λ may. may; same = λ may v left answers. refl }

pub stays-trans : (P : Program) (a b c : Reached) → Stays P a b → Stays P b c → Stays P a c
stays-trans P a b c f g = record {
  basis = g.basis ∙ f.basis;
  layer = g.layer ∙ f.layer;
  mode = λ plain. g.mode (subst IsPlain (sym (f.mode plain)) plain) ∙ f.mode plain;
  walks = g.walks ∙ f.walks;
  cases = λ v. g.cases v ∙ f.cases v;
  local = g.local ∙ f.local;
  askable = λ may. g.askable (f.askable may);
  carry = λ may. g.carry (f.carry may);
  same = λ may v left answers. g.same (f.askable may) v left answers ∙ f.same may v left answers;
}

-- lists and values were added, and other arguments are those of the goal that is selected
pub grown-with : (P : Program) (s t : Reached) → Grown s.stack t.stack → t ≡ record s { stack = t.stack; args = t.args } → Stays P s t
grown-with P s t g is =
    stays-by P s t g.extends.basis (ap (λ x. x.layer) is) (ap (λ fs. walks_of (reverse fs)) g.extends.frames) (ap (λ x. x.mode) is) g.extends.values
    (ap₂ (λ gs n. record { goals = gs; variables = n }) g.extends.visited g.count)
    g.extends.cases (ap (λ x. local_of x) is)

pub grown-stays : (P : Program) (s t : Reached) → Grown s.stack t.stack → t ≡ record s { stack = t.stack } → Stays P s t
grown-stays P s t g is = grown-with P s t g (is ∙ ap (λ a. record s { stack = t.stack; args = a }) (sym (ap (λ x. x.args) is)))

pub grown-depth : (s t : Reached) → Grown s.stack t.stack → depth_of t ≡ depth_of s
grown-depth s t g = ap (λ fs. frames_depth (reverse fs)) g.extends.frames

-- ---- moves

-- nothing is sought
pub seeks-none : (m : Going) → IsPlain m → SeeksAnew m
seeks-none modes.Visit plain = tt
seeks-none (modes.Ask q) plain = tt
seeks-none (modes.Find f) plain = absurd plain
seeks-none (modes.Back r) plain = tt

pub moved-by-as : (P : Program) (s new : Reached) (m m' : Views → Move) → ((v : Views) → m v ≡ m' v) → MovedBy P s new m → MovedBy P s new m'
moved-by-as P s new m m' same moved = record {
  code = moved.code;
  latest = moved.latest;
  place = moved.place;
  walks = moved.walks;
  seeks = moved.seeks;
  tied = moved.tied;
  askable = moved.askable;
  carry = moved.carry;
  ends = λ v ordered most left answers. ap (after P v s most left answers) (sym (same v)) ∙ moved.ends v ordered most left answers;
}

pub moved-as : (P : Program) (s new : Reached) (m m' : Move) → m ≡ m' → Moved P s new m → Moved P s new m'
moved-as P s new m m' same moved = subst (Moved P s new) same moved

-- a move that no view has a part in, as one by the views
pub moved-views : (P : Program) (s new : Reached) (m : Move) (m' : Views → Move) → ((v : Views) → m ≡ m' v) → Moved P s new m → MovedBy P s new m'
moved-views P s new m m' same moved = moved-by-as P s new (λ v. m) m' same moved.moved

-- a move from where it stood
pub moved-by-from : (P : Program) (s t new : Reached) (m : Views → Move) → Stays P s t → MovedBy P t new m → MovedBy P s new m
moved-by-from P s t new m stay moved = record {
  code = moved.code ∙ ap (λ (b : Basis). b.code) stay.basis;
  latest = moved.latest ∙ ap (λ (b : Basis). b.latest.place) stay.basis;
  place = moved.place ∙ ap (λ (x : Layered). x.place) stay.layer;
  walks = (moved.walks.0, sym stay.walks ∙ moved.walks.1);
  seeks = moved.seeks;
  tied = λ tied. moved.tied (tied-as s t stay.basis stay.layer tied);
  askable = moved.askable;
  carry = moved.carry;
  ends = λ v ordered most left answers.
      ap₂ (λ cs w. ending_of most (Rest P (move cs (record { steps = left; answers = answers; below = below_in v s; local = w }) (m v)))) (sym (stay.cases v)) (sym stay.local)
      ∙ ap (λ us. ending_of most (Rest P (move (cases_in P v t) (record { steps = left; answers = answers; below = us; local = local_of t }) (m v)))) (sym (below-as v s t stay.layer))
      ∙ moved.ends v ordered most left answers;
}

pub moved-from : (P : Program) (s t new : Reached) (m : Move) → Stays P s t → Moved P t new m → Moved P s new m
moved-from P s t new m stay moved = record { plain = moved.plain; moved = moved-by-from P s t new (λ v. m) stay moved.moved }

-- a move that is made where lists and values were added
pub moved-grown : (P : Program) (s t new : Reached) (m m' : Move) → Grown s.stack t.stack → t ≡ record s { stack = t.stack } → m ≡ m' → Moved P t new m → Moved P s new m'
moved-grown P s t new m m' g is same moved = subst (Moved P s new) same (moved-from P s t new m (grown-stays P s t g is) moved)

-- the same of a move that is told by what stands below, the depth, the list, the variables and what the thread has
pub moved-by-grown : (P : Program) (s t new : Reached) (m : List Stamped → ℕ → List Element → ℕ → Local → Move) (es fs : List Element) → Grown s.stack t.stack → t ≡ record s { stack = t.stack } → es ≡ fs →
    MovedBy P t new (λ v. m (below_in v t) (depth_of t) es t.stack.env.count (local_of t)) → MovedBy P s new (λ v. m (below_in v s) (depth_of s) fs s.stack.env.count (local_of s))
moved-by-grown P s t new m es fs g is goals moved =
    moved-by-from P s t new _ (grown-stays P s t g is)
    (moved-by-as P t new _ _ (λ v.
    ap₂ (λ d es. m (below_in v t) d es t.stack.env.count (local_of t)) (grown-depth s t g) goals
    ∙ ap₂ (λ n w. m (below_in v t) (depth_of s) fs n w) g.count (ap (λ x. local_of x) is)
    ∙ ap (λ us. m us (depth_of s) fs s.stack.env.count (local_of s)) (below-as v s t (ap (λ x. x.layer) is))) moved)

-- a list is visited, in more cases
pub goes-at : (P : Program) (v : Views) (s new : Reached) (cs : List Case) (p : Resolvent) (w : Local) → IsPlain new.mode → mode_of new.mode new.stack ≡ At p → cases_in P v new ≡ cs ++ cases_in P v s → below_in v new ≡ below_in v s → local_of new ≡ w →
    (most left : ℕ) (answers : List Answer) → after P v s most left answers (Go cs p w) ≡ now P v new most left answers
goes-at P v s new cs p w plain at cases below local most left answers = ap (λ m. ending_of most (Rest P m)) (sym (machine-is P v new (At p) (cs ++ cases_in P v s) (below_in v s) w plain at cases below local left answers))

-- no result is carried there
carry-at : (s : State) (m : Going) (p : Resolvent) → mode_of m s ≡ At p → MayCarry s m
carry-at s modes.Visit p at = tt
carry-at s (modes.Ask q) p at = tt
carry-at s (modes.Find f) p at = tt
carry-at s (modes.Back r) p at = absurd (cc)

pub goes-to : (P : Program) (s new : Reached) (cs : List Case) (p : Resolvent) (w : Local) → new.stack.basis ≡ s.stack.basis → new.layer ≡ s.layer → walks_in new.stack ≡ walks_in s.stack → MayAsk new.layer.own new.stack new.mode → IsPlain new.mode →
    mode_of new.mode new.stack ≡ At p → ((v : Views) → cases_in P v new ≡ cs ++ cases_in P v s) → local_of new ≡ w → Moved P s new (Go cs p w)
goes-to P s new cs p w basis layer walks may plain at cases local = record {
  plain = plain;
  moved = record {
    code = ap (λ (b : Basis). b.code) basis;
    latest = ap (λ (b : Basis). b.latest.place) basis;
    place = ap (λ (x : Layered). x.place) layer;
    walks = ([], sym walks);
    seeks = seeks-none new.mode plain;
    tied = tied-as s new basis layer;
    askable = may;
    carry = carry-at new.stack new.mode p at;
    ends = λ v ordered. goes-at P v s new cs p w plain at (cases v) (below-as v s new layer) local;
  };
}

pub visit-asks : (s : Reached) → s.mode ≡ modes.Visit → MayAsk s.layer.own s.stack s.mode
visit-asks s at = subst (MayAsk s.layer.own s.stack) (sym at) tt

pub back-asks : (s : Reached) (r : Outcome) → s.mode ≡ modes.Back r → MayAsk s.layer.own s.stack s.mode
back-asks s r at = subst (MayAsk s.layer.own s.stack) (sym at) tt

-- a result is carried
pub gives-at : (P : Program) (v : Views) (s new : Reached) (r : Outcome) (w : Local) → new.mode ≡ modes.Back r → cases_in P v new ≡ cases_in P v s → below_in v new ≡ below_in v s → local_of new ≡ w →
    (most left : ℕ) (answers : List Answer) → after P v s most left answers (Give (result_of r) w) ≡ now P v new most left answers
gives-at P v s new r w at cases below local most left answers =
    ap (λ m. ending_of most (Rest P m)) (sym (machine-is P v new (Back (result_of r)) (cases_in P v s) (below_in v s) w (subst IsPlain (sym at) tt) (ap (λ m. mode_of m new.stack) at) cases below local left answers))

pub gives : (P : Program) (s new : Reached) (r : Outcome) (w : Local) → new.stack.basis ≡ s.stack.basis → new.layer ≡ s.layer → walks_in new.stack ≡ walks_in s.stack → new.mode ≡ modes.Back r → IsCarried new.stack r →
    ((v : Views) → cases_in P v new ≡ cases_in P v s) → local_of new ≡ w → Moved P s new (Give (result_of r) w)
gives P s new r w basis layer walks at carried cases local = record {
  plain = subst IsPlain (sym at) tt;
  moved = record {
    code = ap (λ (b : Basis). b.code) basis;
    latest = ap (λ (b : Basis). b.latest.place) basis;
    place = ap (λ (x : Layered). x.place) layer;
    walks = ([], sym walks);
    seeks = seeks-none new.mode (subst IsPlain (sym at) tt);
    tied = tied-as s new basis layer;
    askable = back-asks new r at;
    carry = subst (MayCarry new.stack) (sym at) carried;
    ends = λ v ordered. gives-at P v s new r w at (cases v) (below-as v s new layer) local;
  };
}

pub gave : (P : Program) (s new : Reached) (r : Outcome) → IsCarried s.stack r → new ≡ record s { mode = modes.Back r } → Moved P s new (Give (result_of r) (local_of s))
gave P s new r carried is =
    gives P s new r (local_of s) (ap (λ x. x.stack.basis) is) (ap (λ x. x.layer) is) (ap (λ x. walks_in x.stack) is) (ap (λ x. x.mode) is) (subst (λ (x : Reached). IsCarried x.stack r) (sym is) carried)
    (λ v. ap (λ x. cases_in P v x) is) (ap (λ x. local_of x) is)

-- a list is visited, in a stack that has grown
pub visits : (P : Program) (s new : Reached) (t : State) (l : Continuation) (es : List Element) (w : Local) → Grown s.stack t → Holds t l es → new.stack ≡ record t { goals = l } → new.layer ≡ s.layer → new.mode ≡ modes.Visit →
    local_of new ≡ w → Moved P s new (go_on es s.stack.env.count w)
unfolding cases_of
visits P s new t l es w g h is layer at wrote =
    goes-to P s new [] (record { goals = es; variables = s.stack.env.count }) w (ap (λ x. x.basis) is ∙ g.extends.basis) layer (ap walks_in is ∙ ap (λ fs. walks_of (reverse fs)) g.extends.frames) (visit-asks new at) (subst IsPlain (sym at) tt)
    (ap₂ mode_of at is ∙ ap₂ (λ gs n. At (record { goals = gs; variables = n })) h.is g.count)
    (λ v. cases-as P v s new layer (λ db. ap (cases_of db) is ∙ g.extends.cases db)) wrote

pub went : (P : Program) (s new : Reached) (t : State) (l : Continuation) (es : List Element) → Grown s.stack t → Holds t l es → new ≡ record s { stack = record t { goals = l }; mode = modes.Visit } →
    Moved P s new (go_on es s.stack.env.count (local_of s))
went P s new t l es g h is = visits P s new t l es (local_of s) g h (ap (λ x. x.stack) is) (ap (λ x. x.layer) is) (ap (λ x. x.mode) is) (ap (λ x. local_of x) is)

-- a list is visited in more cases
pub enters : (P : Program) (s new : Reached) (t : State) (more : List Case) (l : Continuation) → IsList s.stack l → Opens s.stack t more → new ≡ record s { stack = record t { goals = l }; mode = modes.Visit } →
    Moved P s new (Go more (record { goals = goals_of s.stack l; variables = s.stack.env.count }) (local_of s))
unfolding cases_of
enters P s new t more l i o is =
    goes-to P s new more (record { goals = goals_of s.stack l; variables = s.stack.env.count }) (local_of s) (ap (λ x. x.stack.basis) is ∙ o.basis) (ap (λ x. x.layer) is) (ap (λ x. walks_in x.stack) is ∙ o.walks) (visit-asks new (ap (λ x. x.mode) is))
    (subst IsPlain (sym (ap (λ x. x.mode) is)) tt)
    (ap (λ x. mode_of x.mode x.stack) is ∙ ap₂ (λ gs n. At (record { goals = gs; variables = n })) (o.lists l i).1 o.count)
    (λ v. ap (λ x. cases_in P v x) is ∙ o.cases (database_of P v s.layer.own.updates)) (ap (λ x. local_of x) is)

-- something is asked before a list
pub asks : (P : Program) (s new : Reached) (q : Asked) (l : Continuation) → IsAskable s.layer.own (record s.stack { goals = l }) q → new ≡ record s { stack = record s.stack { goals = l }; mode = modes.Ask q } →
    Moved P s new (go_on (element_of s.stack.env.heap q ∷ goals_of s.stack l) s.stack.env.count (local_of s))
unfolding cases_of
asks P s new q l may is =
    goes-to P s new [] (record { goals = element_of s.stack.env.heap q ∷ goals_of s.stack l; variables = s.stack.env.count }) (local_of s) (ap (λ x. x.stack.basis) is) (ap (λ x. x.layer) is) (ap (λ x. walks_in x.stack) is)
    (subst (λ (x : Reached). MayAsk x.layer.own x.stack x.mode) (sym is) may) (subst (λ (x : Reached). IsPlain x.mode) (sym is) tt)
    (ap (λ x. mode_of x.mode x.stack) is) (λ v. ap (λ x. cases_in P v x) is) (ap (λ x. local_of x) is)

-- the same move, by its parts
pub go-same : (cs cs' : List Case) (gs gs' : List Element) (n n' : ℕ) (w w' : Local) → cs ≡ cs' → gs ≡ gs' → n ≡ n' → w ≡ w' → ◌≡◌ {A = Move} (Go cs (record { goals = gs; variables = n }) w) (Go cs' (record { goals = gs'; variables = n' }) w')
go-same cs cs' gs gs' n n' w w' a b c d = ap₂ (λ cs w. Go cs (record { goals = gs; variables = n }) w) a d ∙ ap₂ (λ gs n. Go cs' (record { goals = gs; variables = n }) w') b c

-- ---- errors and balls

pub raises : (P : Program) (s new : Reached) (e : Tree) (p : Indicator) (es : List Element) (r : Outcome) → result_of r ≡ Throw (copied 0 (error_term e p)) (levels es) → IsCarried s.stack r →
    new ≡ record s { mode = modes.Back r } → Moved P s new (raised e p es (local_of s))
unfolding raised
raises P s new e p es r is carried made = subst (λ x. Moved P s new (Give x (local_of s))) is (gave P s new r carried made)

pub thrown-other : (t : Tree) (es : List Element) (w : Local) → is_variable t ≡ false → thrown t es w ≡ Give (Throw (copied 0 t) (levels es)) w
thrown-other (var x) es w not = absurd (grind (arith, not))
thrown-other (int i) es w not = refl
thrown-other (atom f) es w not = refl
thrown-other (compound f ts) es w not = refl

pub thrown-var : (t : Tree) (es : List Element) (w : Local) → is_variable t ≡ true → thrown t es w ≡ raised instantiation_error throw_1 es w
thrown-var (var x) es w is = refl
thrown-var (int i) es w is = absurd (grind (arith, is))
thrown-var (atom f) es w is = absurd (grind (arith, is))
thrown-var (compound f ts) es w is = absurd (grind (arith, is))

pub throws : (P : Program) (s new : Reached) (t : Tree) (es : List Element) (r : Outcome) → is_variable t ≡ false → result_of r ≡ Throw (copied 0 t) (levels es) → IsCarried s.stack r →
    new ≡ record s { mode = modes.Back r } → Moved P s new (thrown t es (local_of s))
throws P s new t es r other is carried made =
    subst (Moved P s new) (sym (thrown-other t es (local_of s) other)) (subst (λ x. Moved P s new (Give x (local_of s))) is (gave P s new r carried made))

-- ---- results

pub on_err : {A E K : Type 0} (r : Outcomes A E) → K → OnErr r K
on_err (Ok a) k = tt
on_err (Err e) k = k

pub on_ok_map : {A E K L : Type 0} (r : Outcomes A E) → (K → L) → OnOk r K → OnOk r L
on_ok_map (Ok a) f k = f k
on_ok_map (Err e) f k = tt

pub on_err_map : {A E K L : Type 0} (r : Outcomes A E) → (K → L) → OnErr r K → OnErr r L
on_err_map (Ok a) f k = tt
on_err_map (Err e) f k = f k

-- the arguments of the goal that is selected are others
pub args-stay : (P : Program) (s new : Reached) → new ≡ record s { args = new.args } → Stays P s new
args-stay P s new is = subst (Stays P s) (sym is) (stays-by P s (record s { args = new.args }) refl refl refl refl (λ v i. (i, refl)) refl (λ db. refl) refl)
