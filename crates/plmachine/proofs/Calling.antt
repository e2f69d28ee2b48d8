-- What a call of a static procedure makes of a machine.
use Rattle.std.proofs.Common.{◌≡◌, ℕ, List, [], ◌∷◌, refl, sym, ap, ap₂, ◌∙◌, subst}
use Rattle.plterm.specs.Tree.{Tree}
use Rattle.plterm.specs.declared.indicator.Indicator.{Indicator}
use Rattle.plviews.specs.Layers.{Layered}
use Rattle.plprogram.specs.Program.{Program, clauses_for}
use Rattle.plsearch.specs.Types.{Resolvent, Choice}
use Rattle.plsearch.specs.Moves.{call, choose}
use Rattle.plsearch.specs.Engine.{deeper}
use Rattle.plsearch.specs.Machines.Machine.{At}
use Rattle.pllinks.specs.declared.link.Continuation.{Continuation}
use Rattle.plstack.specs.Basis.{Basis}
use Rattle.plstack.specs.State.{State, walks_in, goals_of, place_of, cases_of}
use Rattle.plstore.specs.Looking.{Views}
use Rattle.plstack.specs.Places.{called, places_left}
use Rattle.plstack.specs.Calls.{Calls, CallsNone, StaysAt}
use Rattle.plstack.specs.StaticCalls.{statics_of, database_of}
use Rattle.plstack.proofs.Program.{static-clauses, static-name}
use Rattle.plstack.proofs.Stacks.{depth-in}
use Rattle.plmachine.specs.declared.machine.Outcome.TheVariants as outcomes
use Rattle.plmachine.specs.declared.machine.Mode.TheVariants as modes
use Rattle.plmachine.specs.declared.machine.Machine.{Machine as Reached}
use Rattle.plmachine.specs.Machine.{IsPlain, after, below_in, cases_in, depth_of, local_of, machine, mode_of, MayCarry, Moved, Stays}
use Rattle.plmachine.specs.Selected.{IsStaticCall}
use Rattle.plmachine.proofs.Moves.{below-as, gives, goes-at, machine-is, moved-as, seeks-none, tied-as, visit-asks}

-- the first of some places is visited, in a choice of the others
pub chooses : (P : Program) (s new : Reached) (st : State) (ps : List Resolvent) → s.mode ≡ modes.Visit → st.basis ≡ s.stack.basis → walks_in st ≡ walks_in s.stack → new ≡ record s { stack = st } →
    ((v : Views) → (others : List Resolvent) × (ps ≡ place_of st ∷ others) × (cases_of (database_of P v s.layer.own.updates) st ≡ Choice others ∷ cases_of (database_of P v s.layer.own.updates) s.stack)) → Moved P s new (choose ps (local_of s))
chooses P s new st ps at basis walks made chosen =
    let visits : new.mode ≡ modes.Visit = ap (λ x. x.mode) made ∙ at in
    let rests : new.stack.basis ≡ s.stack.basis = ap (λ x. x.stack.basis) made ∙ basis in
    let layer : new.layer ≡ s.layer = ap (λ x. x.layer) made in
    record {
      plain = subst IsPlain (sym visits) tt;
      moved = record {
        code = ap (λ (b : Basis). b.code) rests;
        latest = ap (λ (b : Basis). b.latest.place) rests;
        place = ap (λ (x : Layered). x.place) layer;
        walks = ([], sym walks ∙ ap (λ x. walks_in x.stack) (sym made));
        seeks = seeks-none new.mode (subst IsPlain (sym visits) tt);
        tied = tied-as s new rests layer;
        askable = visit-asks new visits;
        carry = subst (MayCarry new.stack) (sym visits) tt;
        ends = λ v ordered most left answers.
            let c = chosen v in
            ap (λ qs. after P v s most left answers (choose qs (local_of s))) c.1
            ∙ goes-at P v s new (Choice c.0 ∷ []) (place_of st) (local_of s) (subst IsPlain (sym visits) tt) (ap (λ m. mode_of m new.stack) visits ∙ ap (λ x. At (place_of x.stack)) made) (ap (λ x. cases_in P v x) made ∙ c.2)
            (below-as v s new layer) (ap (λ x. local_of x) made) most left answers;
      };
    }

-- there is none
pub chooses-none : (P : Program) (s new : Reached) (st : State) (ps : List Resolvent) → st.basis ≡ s.stack.basis → walks_in st ≡ walks_in s.stack → new ≡ record s { stack = st; mode = modes.Back outcomes.Fail } →
    ps ≡ [] → ((v : Views) → cases_of (database_of P v s.layer.own.updates) st ≡ cases_of (database_of P v s.layer.own.updates) s.stack) → Moved P s new (choose ps (local_of s))
chooses-none P s new st ps basis walks made none cases =
    subst (λ qs. Moved P s new (choose qs (local_of s))) (sym none)
    (gives P s new outcomes.Fail (local_of s) (ap (λ x. x.stack.basis) made ∙ basis) (ap (λ x. x.layer) made) (ap (λ x. walks_in x.stack) made ∙ walks) (ap (λ x. x.mode) made) tt (λ v. ap (λ x. cases_in P v x) made ∙ cases v) (ap (λ x. local_of x) made))

module _ (P : Program) (s : Reached) (st : State) (p : Indicator) (t : Tree) (i : ℕ) (rest : Continuation) (is : IsStaticCall P s p i t) (basis : st.basis ≡ s.stack.basis) (walks : walks_in st ≡ walks_in s.stack) where
  goal-is : called s.stack.env.heap (statics_of P i).name s.args.items ≡ t
  goal-is = ap (λ n. called s.stack.env.heap n s.args.items) (static-name _ _ P p i is.static) ∙ is.goal

  -- the call of the procedure at the place is that of the clauses for p
  same-call : call (depth_of s) s.stack.env.count (called s.stack.env.heap (statics_of P i).name s.args.items) (goals_of s.stack rest) (statics_of P i).clauses (local_of s)
      ≡ call (depth_of s) s.stack.env.count t (goals_of s.stack rest) (clauses_for P p) (local_of s)
  same-call = ap₂ (λ u cs. call (depth_of s) s.stack.env.count u (goals_of s.stack rest) cs (local_of s)) goal-is (static-clauses _ _ P p i is.static)

  -- the level of a new case, whatever the views are
  level-is : (v : Views) → places_left (deeper (cases_of (database_of P v s.layer.own.updates) s.stack) 0) s.stack.env (called s.stack.env.heap (statics_of P i).name s.args.items) (goals_of s.stack rest) (statics_of P i).clauses
      ≡ places_left (depth_of s) s.stack.env (called s.stack.env.heap (statics_of P i).name s.args.items) (goals_of s.stack rest) (statics_of P i).clauses
  level-is v = ap (λ d. places_left d s.stack.env (called s.stack.env.heap (statics_of P i).name s.args.items) (goals_of s.stack rest) (statics_of P i).clauses) (depth-in (database_of P v s.layer.own.updates) s.stack)

  pub calls : (new : Reached) → s.mode ≡ modes.Visit → new ≡ record s { stack = st } → ((v : Views) → Calls (database_of P v s.layer.own.updates) s.stack st (called s.stack.env.heap (statics_of P i).name s.args.items) rest (statics_of P i).clauses) →
      Moved P s new (call (depth_of s) s.stack.env.count t (goals_of s.stack rest) (clauses_for P p) (local_of s))
  calls new at made c = moved-as P s new _ _ same-call (chooses P s new st _ at basis walks made (λ v. ((c v).others, sym (level-is v) ∙ (c v).places, (c v).cases)))

  pub calls-none : (new : Reached) → new ≡ record s { stack = st; mode = modes.Back outcomes.Fail } → ((v : Views) → CallsNone (database_of P v s.layer.own.updates) s.stack st (called s.stack.env.heap (statics_of P i).name s.args.items) rest (statics_of P i).clauses) → Views →
      Moved P s new (call (depth_of s) s.stack.env.count t (goals_of s.stack rest) (clauses_for P p) (local_of s))
  calls-none new made c v = moved-as P s new _ _ same-call (chooses-none P s new st _ basis walks made (sym (level-is v) ∙ (c v).none) (λ u. (c u).cases))

-- memory gave out
pub stays-at : (P : Program) (s new : Reached) (st : State) → s.mode ≡ modes.Visit → st.basis ≡ s.stack.basis → walks_in st ≡ walks_in s.stack → new ≡ record s { stack = st } → StaysAt s.stack st → Stays P s new
unfolding machine
stays-at P s new st at basis walks made stays =
    let visits : new.mode ≡ modes.Visit = ap (λ x. x.mode) made ∙ at in
    let cases : (v : Views) → cases_in P v new ≡ cases_in P v s = λ v. ap (λ x. cases_in P v x) made ∙ stays.cases (database_of P v s.layer.own.updates) in
    let local = ap (λ x. local_of x) made in
    record {
      basis = ap (λ x. x.stack.basis) made ∙ basis;
      layer = ap (λ x. x.layer) made;
      mode = λ plain. ap (λ x. x.mode) made;
      walks = ap (λ x. walks_in x.stack) made ∙ walks;
      cases = cases;
      local = local;
      askable = λ may. visit-asks new visits;
      carry = λ may. subst (MayCarry new.stack) (sym visits) tt;
      same = λ may v left answers.
          machine-is P v new (mode_of modes.Visit s.stack) (cases_in P v s) (below_in v s) (local_of s) (subst IsPlain (sym visits) tt)
          (ap (λ m. mode_of m new.stack) visits ∙ ap (λ x. At (place_of x.stack)) made ∙ ap At stays.place) (cases v) (below-as v s new (ap (λ x. x.layer) made)) local left answers
          ∙ sym (machine-is P v s (mode_of modes.Visit s.stack) (cases_in P v s) (below_in v s) (local_of s) (subst IsPlain (sym at) tt) (ap (λ m. mode_of m s.stack) at) refl refl refl left answers);
    }
