-- What turns and steps say of the whole search.
use Rattle.std.proofs.Common.{◌≡◌, ℕ, suc, ◌+◌, ◌-◌, ◌<◌, ◌≤◌, List, [], ◌∷◌, refl, sym, ap, ap₂, ◌∙◌, subst, arith, min, reverse, le_refl, OnOk, OnErr}
use Rattle.std.specs.Prelude.{codes, Result as Outcomes, Ok, Err}
use Rattle.plterm.specs.Tree.{Tree}
use Rattle.plsubst.specs.Subst.{bind}
use Rattle.plcells.specs.Store.{IsValue, value}
use Rattle.plevent.specs.Search.{Answer}
use Rattle.plstore.specs.Looking.{Views}
use Rattle.plviews.specs.Views.{AreOrdered}
use Rattle.plprogram.specs.Program.{Program}
use Rattle.plsearch.specs.Types.{Element, Goal, Resolvent, Local, Move}
use Rattle.plsearch.specs.Forms.{form}
use Rattle.plsearch.specs.Rows.{select, row, meet}
use Rattle.plsearch.specs.Machines.Machine.{At, Rest, move, turn}
use Rattle.plsearch.specs.Machines.Weight.{weight}
use Rattle.plsearch.specs.Search.{ending_of}
use Rattle.plsearch.proofs.Turns.{Rest-turn}
use Rattle.plcode.specs.Callees.{IsProgramCode}
use Rattle.plcode.specs.declared.op.Step.{Step}
use Rattle.plcode.specs.Steps.{of_two}
use Rattle.plenv.specs.Env.{over}
use Rattle.pllinks.specs.declared.link.Continuation.{Continuation}
use Rattle.plstack.specs.Basis.{Basis}
use Rattle.plstack.specs.Places.{walks_of}
use Rattle.plstack.specs.State.{State, cases_of, goals_of, walks_in, EndsWalks}
use Rattle.plstack.specs.StaticCalls.{database_of}
use Rattle.plstack.specs.First.{AtBoth}
use Rattle.plstack.specs.Giving.{GivesBack}
use Rattle.plstack.proofs.Stacks.{depth-in}
use Rattle.plmachine.specs.declared.machine.Mode.{Mode as Going}
use Rattle.plmachine.specs.declared.machine.Mode.TheVariants as modes
use Rattle.plmachine.specs.declared.machine.Machine.{Machine as Reached}
use Rattle.plmachine.specs.Machine.{below_in, cases_in, depth_of, local_of, machine, mode_of, run_in, IsLast, IsPlain, IsTied, MovedBy}
use Rattle.plmachine.specs.Machine.{Stays as StaysThere}
use Rattle.plmachine.proofs.Moves.{begun-by, goes-to, machine-is, stays-by, stays_put, tied-as, visit-asks}
use Rattle.plsolver.specs.declared.progress.Selected.{Selected}
use Rattle.plsolver.specs.declared.progress.Selected.TheVariants as goals
use Rattle.plsolver.specs.declared.progress.Progress.{Progress}
use Rattle.plsolver.specs.Solver.{latest_view, rest_of, GoesTo, IsOf, IsSelected, Quiet, Selects, Stays, Stepped}
use Rattle.plsolver.proofs.Ending.{ends_same}

-- ---- going on

pub goes_on : (P : Program) (a b c : Progress) → b.limit ≡ a.limit → GoesTo P a b → GoesTo P b c → GoesTo P a c
unfolding GoesTo
goes_on P a b c same f g v ordered =
    let f = f v ordered in
    let g = g v ordered in (
      omega (arith, f.0, g.0),
      (λ le. omega (arith, same, g.1 (omega (arith, same, f.1 le)))),
      (λ n answers le. f.2 n answers (omega (arith, g.0, le)) ∙ g.2 n answers le),
    )

pub goes_nowhere : (P : Program) (a : Progress) → GoesTo P a a
unfolding GoesTo
goes_nowhere P a v ordered = (le_refl _, (λ le. le), λ n answers le. refl)

-- the rest of two searches, by their machines
rest-same : (P : Program) (v : Views) (s new : Progress) → new.used ≡ s.used → new.limit ≡ s.limit → (n : ℕ) (answers : List Answer) →
    ending_of (min n s.limit) (Rest P (machine P v (min n s.limit - s.used) answers new.machine)) ≡ rest_of P v new n answers
unfolding rest_of
rest-same P v s new used limit n answers = ap₂ (λ l u. ending_of (min n l) (Rest P (machine P v (min n l - u) answers new.machine))) (sym limit) (sym used)

pub stays_goes : (P : Program) (s new : Progress) → IsOf P s.machine → Stays P s new → GoesTo P s new
unfolding rest_of GoesTo
stays_goes P s new of t v ordered = (
  omega (arith, t.used),
  (λ le. omega (arith, t.used, le)),
  λ n answers le. ap (λ m. ending_of (min n s.limit) (Rest P m)) (sym (t.there.same of.sound.askable v (min n s.limit - s.used) answers)) ∙ rest-same P v s new t.used t.limit n answers,
)

-- a last result is sought nowhere
last-plain : (m : Going) → IsLast m → IsPlain m
last-plain modes.Visit last = absurd last
last-plain (modes.Ask q) last = absurd last
last-plain (modes.Find f) last = absurd last
last-plain (modes.Back r) last = tt

pub stays_of_there : (P : Program) (s new : Reached) → IsOf P s → StaysThere P s new → IsOf P new
stays_of_there P s new of t = record {
  begun = begun-by P _ _ t.basis of.begun;
  sound = record {
    tied = λ more. tied-as s new t.basis t.layer (of.sound.tied (λ last. more (subst IsLast (sym (t.mode (last-plain s.mode last))) last)));
    askable = t.askable of.sound.askable;
    carry = t.carry of.sound.carry;
  };
}

pub stays_of : (P : Program) (s new : Progress) → IsOf P s.machine → Stays P s new → IsOf P new.machine
stays_of P s new of t = stays_of_there P s.machine new.machine of t.there

pub stays_latest : (P : Program) (s new : Progress) → Stays P s new → latest_view new ≡ latest_view s
stays_latest P s new t = ap (λ (b : Basis). b.latest.place) t.there.basis

pub quiet_goes : (P : Program) (s new : Progress) → s.used ≤ s.limit → Quiet P s new → GoesTo P s new
unfolding rest_of GoesTo
quiet_goes P s new within quiet v ordered =
    let q = quiet v ordered in (
      omega (arith, q.used),
      (λ le. omega (arith, q.used, le)),
      λ n answers le.
          let few : (min n s.limit - s.used) + s.used ≤ s.limit = omega (arith, within) in
          ap (ending_of (min n s.limit)) (sym (q.rest (min n s.limit - s.used) answers few)) ∙ rest-same P v s new q.used q.limit n answers,
    )

-- views without updates
abbrev pub no_views : Views
no_views g = []

pub no_order : AreOrdered no_views
no_order = record { ordered = λ g. tt; under = λ g. tt }

pub quiet_of : (P : Program) (s new : Progress) → IsOf P s.machine → Quiet P s new → IsOf P new.machine
quiet_of P s new of quiet = (quiet no_views no_order).of of

-- how much a solver has before it without a step
pub load : Program → Progress → ℕ
load P s = weight (machine P no_views 0 [] s.machine)

pub quiet_lighter : (P : Program) (s new : Progress) → s.used ≤ s.limit → Quiet P s new → load P new < load P s
unfolding load
quiet_lighter P s new within q = (q no_views no_order).lighter within

-- ---- steps

pub at-place : (P : Program) (v : Views) (s : Reached) (p : Resolvent) → IsPlain s.mode → mode_of s.mode s.stack ≡ At p → (left : ℕ) (answers : List Answer) →
    machine P v left answers s ≡ record { mode = At p; cases = cases_in P v s; run = run_in v left answers s }
at-place P v s p plain at left answers = machine-is P v s (At p) (cases_in P v s) (below_in v s) (local_of s) plain at refl refl refl left answers

pub visit-place : (s : Reached) (es : List Element) → s.mode ≡ modes.Visit → goals_of s.stack s.stack.goals ≡ es → mode_of s.mode s.stack ≡ At (record { goals = es; variables = s.stack.env.count })
visit-place s es at goals = ap (λ m. mode_of m s.stack) at ∙ ap (λ gs. At (record { goals = gs; variables = s.stack.env.count })) goals

-- the turn of a goal that is due
due-turn : (P : Program) (v : Views) (s : Reached) (k : ℕ) (t : Tree) (rest : List Element) → s.mode ≡ modes.Visit → goals_of s.stack s.stack.goals ≡ Goal k t ∷ rest → (left : ℕ) (answers : List Answer) →
    turn P (machine P v (suc left) answers s) ≡ move (cases_in P v s) (run_in v left answers s) (select P (below_in v s) k t (depth_of s) rest s.stack.env.count (local_of s))
unfolding turn meet
due-turn P v s k t rest at goals left answers =
    ap (turn P) (at-place P v s (record { goals = Goal k t ∷ rest; variables = s.stack.env.count }) (subst IsPlain (sym at) tt) (visit-place s (Goal k t ∷ rest) at goals) (suc left) answers)
    ∙ ap (λ d. move (cases_in P v s) (run_in v left answers s) (select P (below_in v s) k t d rest s.stack.env.count (local_of s))) (depth-in (database_of P v s.layer.own.updates) s.stack)

pub steps : (P : Program) (s new : Progress) (k : ℕ) (t : Tree) (rest : List Element) → s.machine.mode ≡ modes.Visit → goals_of s.machine.stack s.machine.stack.goals ≡ Goal k t ∷ rest → s.used + 1 ≤ s.limit →
    Selects P s.machine new.machine → new.used ≡ s.used + 1 → new.limit ≡ s.limit → new.places ≡ s.places → Stepped P s new
unfolding rest_of GoesTo
steps P s new k t rest at goals some did used limit places = record {
  used = used;
  limit = limit;
  places = ap (λ v. v.items) places;
  goes = λ v ordered. (
    omega (arith, used),
    (λ le. omega (arith, used, some)),
    λ n answers le.
        let moved = did k t rest goals in
        let left : ℕ = min n s.limit - (s.used + 1) in
        let one : min n s.limit - s.used ≡ suc left = omega (arith, le, used, some) in
        ap (λ k. ending_of (min n s.limit) (Rest P (machine P v k answers s.machine))) one
        ∙ ap (ending_of (min n s.limit)) (Rest-turn P (machine P v (suc left) answers s.machine))
        ∙ ap (λ x. ending_of (min n s.limit) (Rest P x)) (due-turn P v s.machine k t rest at goals left answers)
        ∙ moved.ends v ordered (min n s.limit) left answers
        ∙ ap₂ (λ l u. ending_of (min n l) (Rest P (machine P v (min n l - u) answers new.machine))) (sym limit) (sym used),
  );
}

-- a step, and then no more than it gave back
pub steps_on : (P : Program) (s t new : Progress) → IsOf P t.machine → Stepped P s t → Stays P t new → Stepped P s new
steps_on P s t new of a b = record {
  goes = goes_on P s t new a.limit a.goes (stays_goes P t new of b);
  used = b.used ∙ a.used;
  limit = b.limit ∙ a.limit;
  places = b.places ∙ a.places;
}

-- ---- a goal that is selected

-- a goal that is to be selected begins the list
pub selected-goal : (s : Reached) (x : Selected) → IsSelected s x → (k : ℕ) × (t : Tree) × (rest : List Element) × (goals_of s.stack s.stack.goals ≡ Goal k t ∷ rest)
selected-goal s (goals.Both next x) is = (is.1.level, of_two (codes ",") is.1.left is.1.right, is.1.rest, is.1.goals)
selected-goal s (goals.Step r x rest) is = (r.level, bind (over s.stack.env r.base) is.1.goal, goals_of s.stack rest, is.1.goals)
selected-goal s (goals.Goal k v rest) is = (k, value s.stack.env.heap v, goals_of s.stack rest, is.1.goals)

-- the row of the goal that stands first
pub selects-row : (P : Program) (s new : Reached) (k : ℕ) (t : Tree) (rest : List Element) → goals_of s.stack s.stack.goals ≡ Goal k t ∷ rest →
    MovedBy P s new (λ v. row P (below_in v s) (form t) k t (depth_of s) rest s.stack.env.count (local_of s)) → Selects P s new
unfolding select
selects-row P s new k t rest is moved k' t' rest' goals =
    let same : Goal k t ∷ rest ≡ Goal k' t' ∷ rest' = sym is ∙ goals in
    let level : k ≡ k' = cc in
    let goal : t ≡ t' = cc in
    let behind : rest ≡ rest' = cc in
    subst (λ (m : Views → Move). MovedBy P s new m)
    (ap₂ (λ k t v. row P (below_in v s) (form t) k t (depth_of s) rest s.stack.env.count (local_of s)) level goal ∙ ap (λ es v. row P (below_in v s) (form t') k' t' (depth_of s) es s.stack.env.count (local_of s)) behind) moved

pub selects-both : (P : Program) (s new : Reached) (next : Continuation) (x : Step) → AtBoth s.stack (goals_of s.stack s.stack.goals) next x → new ≡ record s { stack = record s.stack { goals = next }; mode = modes.Visit } → Selects P s new
unfolding row cases_of
selects-both P s new next x b is =
    let n : ℕ = s.stack.env.count in
    let w : Local = local_of s in
    selects-row P s new b.level (of_two (codes ",") b.left b.right) b.rest b.goals
    (subst (λ f. MovedBy P s new (λ v. row P (below_in v s) f b.level (of_two (codes ",") b.left b.right) (depth_of s) b.rest n w)) (sym b.form_is)
    (goes-to P s new [] (record { goals = Goal b.level b.left ∷ Goal b.level b.right ∷ b.rest; variables = n }) w (ap (λ x. x.stack.basis) is) (ap (λ x. x.layer) is) (ap (λ x. walks_in x.stack) is) (visit-asks new (ap (λ x. x.mode) is))
    (subst (λ x. IsPlain x.mode) (sym is) tt) (ap (λ x. mode_of x.mode x.stack) is ∙ ap (λ gs. At (record { goals = gs; variables = n })) b.next_goals) (λ v. ap (λ x. cases_in P v x) is) (ap (λ x. local_of x) is)).moved)

-- what was given back
pub given-back : (P : Program) (s : Progress) (st : State) → GivesBack s.machine.stack st → Stays P s (record s { machine = record s.machine { stack = st } })
given-back P s st back = record {
  used = refl;
  limit = refl;
  places = refl;
  there = stays-by P s.machine (record s.machine { stack = st }) back.basis refl (ap (λ fs. walks_of (reverse fs)) back.frames) refl (λ v i. (subst (λ h. IsValue h v) (sym back.heap) i, ap (λ h. value h v) back.heap)) back.place back.cases refl;
}

-- it stands where it stood
pub stays-same : (P : Program) (s : Progress) → Stays P s s
stays-same P s = record { used = refl; limit = refl; places = refl; there = stays_put P s.machine }

pub stays-as : (P : Program) (s new : Progress) → new ≡ s → Stays P s new
stays-as P s new same = subst (Stays P s) (sym same) (stays-same P s)

-- ---- moves

-- a row that was not at a last result
pub moved_of : (P : Program) (s new : Reached) (m : Views → Move) → IsOf P s → (IsLast s.mode → ⊥) → MovedBy P s new m → IsOf P new
moved_of P s new m of more moved = record {
  begun = subst (IsProgramCode P) (sym moved.code) of.begun;
  sound = record { tied = λ still. moved.tied (of.sound.tied more); askable = moved.askable; carry = moved.carry };
}

-- after a row, or where it was refused memory
pub either_of : {T E : Type 0} (P : Program) (s new : Reached) (m : Views → Move) (r : Outcomes T E) → IsOf P s → (IsLast s.mode → ⊥) → OnOk r (MovedBy P s new m) → OnErr r (StaysThere P s new) → IsOf P new
either_of P s new m (Ok x) of more ok err = moved_of P s new m of more ok
either_of P s new m (Err e) of more ok err = stays_of_there P s new of err

pub either_latest : {T E : Type 0} (P : Program) (s new : Reached) (m : Views → Move) (r : Outcomes T E) → OnOk r (MovedBy P s new m) → OnErr r (StaysThere P s new) → new.stack.basis.latest.place ≡ s.stack.basis.latest.place
either_latest P s new m (Ok x) ok err = ok.latest
either_latest P s new m (Err e) ok err = ap (λ (b : Basis). b.latest.place) err.basis

pub either_walks : {T E : Type 0} (P : Program) (s new : Reached) (m : Views → Move) (r : Outcomes T E) → OnOk r (MovedBy P s new m) → OnErr r (StaysThere P s new) → EndsWalks s.stack new.stack
either_walks P s new m (Ok x) ok err = ok.walks
either_walks P s new m (Err e) ok err = ends_same _ _ err.walks

-- where it stands if memory is refused
pub err_stays : {T E : Type 0} (s new : Progress) (r : Outcomes T E) → ((P : Program) → Stays P s new) → OnErr r ((P : Program) → Stays P s new)
err_stays s new (Ok x) stays = tt
err_stays s new (Err e) stays = stays

-- own updates are tied where a list is visited
pub visits-tied : (P : Program) (s : Reached) → s.mode ≡ modes.Visit → IsOf P s → IsTied s
visits-tied P s at of = of.sound.tied (λ last. subst IsLast at last)
