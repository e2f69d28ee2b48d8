-- The predicates on clauses.
use Rattle.std.proofs.Common.{◌≡◌, ℕ, ◌+◌, List, [], ◌∷◌, ◌++◌, length, map, Option, Some, None, option_map, refl, reverse, sym, ap, ap₂, ◌∙◌, subst, arith}
use Rattle.std.specs.List.{filter_map, cons_option}
use Rattle.plterm.specs.Tree.{Tree}
use Rattle.plsubst.specs.Subst.{shift}
use Rattle.plsubst.specs.Unify.{unify}
use Rattle.plclause.specs.Clause.{Clause}
use Rattle.plevent.specs.declared.update.ClauseName.{ClauseName}
use Rattle.plevent.specs.declared.update.Living.{Living}
use Rattle.plevent.specs.Alive.{clauses_of, Stamped}
use Rattle.pltx.specs.Own.{State as Own}
use Rattle.plprogram.specs.Program.{Program}
use Rattle.plsearch.specs.Types.{Asking, Fail, Case, Choice, Element, Erase, Resolvent, Local, Move, Supply, ToRetrieve}
use Rattle.plsearch.specs.Machines.Machine.{At, Back, Rest, move, turn}
use Rattle.plsearch.specs.Lists.{bind_goals}
use Rattle.plsearch.specs.Moves.{resolve, choose}
use Rattle.plsearch.specs.Lookups.{as_fact, retrieve, retract, seek}
use Rattle.plsearch.specs.Rows.{retrieving}
use Rattle.plsearch.specs.Search.{ending_of}
use Rattle.plsearch.proofs.Turns.{Rest-turn}
use Rattle.plcells.specs.Store.{value}
use Rattle.plenv.specs.Env.{Env}
use Rattle.pllinks.specs.declared.link.Continuation.{Continuation}
use Rattle.plstack.specs.declared.frame.Use.{Use}
use Rattle.plstack.specs.declared.frame.Use.TheVariants as uses
use Rattle.plstack.specs.declared.frame.Spot.{Spot}
use Rattle.plstack.specs.declared.frame.Walk.{Walk}
use Rattle.plstore.specs.Looking.{Views}
use Rattle.plstack.specs.Basis.{Basis}
use Rattle.plstack.specs.Places.{candidate_of, candidates_left, clause_by, left_at, place_asked, text_candidate, tried, viewed, walks_of}
use Rattle.plstack.specs.State.{State, IsList, depth_in, goals_of, place_of, walks_in}
use Rattle.plstack.specs.StaticCalls.{database_of}
use Rattle.plstack.specs.Walks.{OpensWalk}
use Rattle.plstack.proofs.Stacks.{depth-in}
use Rattle.plmachine.specs.declared.machine.Outcome.TheVariants as outcomes
use Rattle.plmachine.specs.declared.machine.Mode.TheVariants as modes
use Rattle.plmachine.specs.declared.machine.Machine.{Machine as Reached}
use Rattle.plmachine.specs.Machine.{after, below_in, cases_in, depth_of, local_of, mode_of, run_in, IsPlain, MayAsk, MayCarry, MovedBy}
use Rattle.plmachine.specs.Lists.{Grown}
use Rattle.plmachine.specs.Clauses.{mode_by, Walks}
use Rattle.plmachine.proofs.Moves.{back-asks, grown-depth, machine-is, seeks-none, tied-as}

-- ---- what is next

pub may-by : (own : Own) (s : State) (x : Option ClauseName) → MayAsk own s (mode_by x)
may-by own s None = tt
may-by own s (Some x) = tt

pub carry-by : (s : State) (x : Option ClauseName) → MayCarry s (mode_by x)
carry-by s None = tt
carry-by s (Some x) = tt

pub plain-by : (x : Option ClauseName) → IsPlain (mode_by x)
plain-by None = tt
plain-by (Some x) = tt

pub at-by : (st : State) (x : Option ClauseName) → mode_of (mode_by x) st ≡ At (place_asked x (place_of st))
at-by st None = refl
at-by st (Some x) = refl

-- ---- walks

-- a walk of which no clause was tried is the choice of its places
walks-rest : (P : Program) (cs : List Case) (ps : List Resolvent) (run : Supply) → Rest P (move cs run (choose ps run.local)) ≡ Rest P (record { mode = Back Fail; cases = Choice ps ∷ cs; run = run })
unfolding turn
walks-rest P cs [] run = sym (Rest-turn P (record { mode = Back Fail; cases = Choice [] ∷ cs; run = run }))
walks-rest P cs (p ∷ ps) run = sym (Rest-turn P (record { mode = Back Fail; cases = Choice (p ∷ ps) ∷ cs; run = run }))

pub walks : (P : Program) (s : Reached) (st : State) (w : Walk) (rest : Continuation) → OpensWalk s.stack st w rest →
    Walks P s (record s { stack = st; mode = modes.Back outcomes.Fail }) (value s.stack.env.heap w.goal) w.uses w.spot (goals_of s.stack rest)
walks P s st w rest o = record {
  basis = o.basis;
  walks = (w.goal, o.walks);
  frame = refl;
  ends = λ v most left answers.
      let t = value s.stack.env.heap w.goal in
      let db = database_of P v s.layer.own.updates in
      let ps : ℕ → List Resolvent = λ d. candidates_left d s.stack.env t (goals_of s.stack rest) (left_at db w.uses t w.spot) in
      ap (ending_of most) (walks-rest P (cases_in P v s) (ps (depth_of s)) (run_in v left answers s))
      ∙ ap (λ d. ending_of most (Rest P (record { mode = Back Fail; cases = Choice (ps d) ∷ cases_in P v s; run = run_in v left answers s }))) (sym (depth-in db s.stack))
      ∙ ap (λ m. ending_of most (Rest P m)) (sym (machine-is P v (record s { stack = st; mode = modes.Back outcomes.Fail }) (Back Fail) _ (below_in v s) (local_of s) tt refl (o.cases db) refl refl left answers));
}

-- where values were added first
pub walks-grown : (P : Program) (s new : Reached) (st : State) (g : Tree) (u : Use) (spot : Spot) (l : Continuation) → Grown s.stack st → IsList s.stack l →
    Walks P (record s { stack = st }) new g u spot (goals_of st l) → Walks P s new g u spot (goals_of s.stack l)
walks-grown P s new st g u spot l grown there w = record {
  basis = w.basis ∙ grown.extends.basis;
  walks = (w.walks.0, w.walks.1 ∙ ap (λ fs. viewed (record { goal = w.walks.0; uses = u; spot = spot }) spot ++ walks_of (reverse fs)) grown.extends.frames);
  frame = w.frame;
  ends = λ v most left answers.
      let db = database_of P v s.layer.own.updates in
      let xs = left_at db u g spot in
      ap₂ (λ d n. after P v s most left answers (choose (filter_map (tried d n g (goals_of s.stack l)) xs) (local_of s))) (sym (grown-depth s (record s { stack = st }) grown)) (sym grown.count)
      ∙ ap (λ es. after P v s most left answers (choose (candidates_left (depth_in st) st.env g es xs) (local_of s))) (sym (grown.extends.lists l there).1)
      ∙ ap (λ cs. ending_of most (Rest P (move cs (run_in v left answers s) (choose (candidates_left (depth_in st) st.env g (goals_of st l) xs) (local_of s))))) (sym (grown.extends.cases db))
      ∙ w.ends v most left answers;
}

-- a walk that has the same places as a move in each view, and goes on in none
pub walks-moved : (P : Program) (s new : Reached) (t : Tree) (u : Use) (spot : Spot) (es : List Element) (m : Views → Move) → Walks P s new t u spot es → ((w : Walk) → viewed w spot ≡ []) →
    ((v : Views) → choose (candidates_left (depth_of s) s.stack.env t es (left_at (database_of P v s.layer.own.updates) u t spot)) (local_of s) ≡ m v) → MovedBy P s new m
walks-moved P s new t u spot es m w none same = record {
  code = ap (λ (b : Basis). b.code) w.basis;
  latest = ap (λ (b : Basis). b.latest.place) w.basis;
  place = ap (λ x. x.layer.place) w.frame;
  walks = ([], sym (w.walks.1 ∙ ap (λ ws. ws ++ walks_in s.stack) (none (record { goal = w.walks.0; uses = u; spot = spot }))));
  seeks = seeks-none new.mode (subst IsPlain (sym (ap (λ x. x.mode) w.frame)) tt);
  tied = tied-as s new w.basis (ap (λ x. x.layer) w.frame);
  askable = back-asks new outcomes.Fail (ap (λ x. x.mode) w.frame);
  carry = subst (MayCarry new.stack) (sym (ap (λ x. x.mode) w.frame)) tt;
  ends = λ v ordered most left answers. ap (after P v s most left answers) (sym (same v)) ∙ w.ends v most left answers;
}

-- ---- candidates

tried-none : (d n : ℕ) (t : Tree) (rest : List Element) (u : Use) (c : Clause) → tried d n t rest (text_candidate u c) ≡ resolve d n t rest (clause_by u c)
tried-none d n t rest u c = go (resolve d n t rest (clause_by u c))
  where
    go : (o : Option Resolvent) → option_map (place_asked None) o ≡ o
    go None = refl
    go (Some p) = refl

-- clauses of the program's text
pub text-left : (d : ℕ) (e : Env) (t : Tree) (rest : List Element) (u : Use) (cs : List Clause) → candidates_left d e t rest (map (text_candidate u) cs) ≡ filter_map (resolve d e.count t rest) (map (clause_by u) cs)
text-left d e t rest u [] = refl
text-left d e t rest u (c ∷ cs) = ap₂ cons_option (tried-none d e.count t rest u c) (text-left d e t rest u cs)

-- clauses that are alive
pub called-left : (d n : ℕ) (t : Tree) (rest : List Element) (xs : List Living) → filter_map (tried d n t rest) (map (candidate_of uses.Call) xs) ≡ filter_map (resolve d n t rest) (clauses_of xs)
called-left d n t rest [] = refl
called-left d n t rest (x ∷ xs) = ap₂ cons_option (tried-none d n t rest uses.Call x.clause) (called-left d n t rest xs)

pub told-left : (d n : ℕ) (t : Tree) (rest : List Element) (xs : List Living) → filter_map (tried d n t rest) (map (candidate_of uses.Tell) xs) ≡ filter_map (resolve d n t rest) (map as_fact (clauses_of xs))
told-left d n t rest [] = refl
told-left d n t rest (x ∷ xs) = ap₂ cons_option (tried-none d n t rest uses.Tell x.clause) (told-left d n t rest xs)

tried-erased : (d n : ℕ) (t : Tree) (rest : List Element) (x : Living) → tried d n t rest (candidate_of uses.Erase x) ≡ retract d n t rest x
tried-erased d n t rest x = go (unify t (shift n (as_fact x.clause).head))
  where
    go : (o : Option (ℕ → Tree)) →
        option_map (place_asked (Some x.name)) (option_map (λ σ. record { goals = bind_goals σ rest; variables = n + x.clause.variables }) o)
        ≡ option_map (λ σ. record { goals = bind_goals σ (Asking (Erase x.name) ∷ rest); variables = n + x.clause.variables }) o
    go None = refl
    go (Some σ) = refl

pub erased-left : (d n : ℕ) (t : Tree) (rest : List Element) (xs : List Living) → filter_map (tried d n t rest) (map (candidate_of uses.Erase) xs) ≡ filter_map (retract d n t rest) xs
erased-left d n t rest [] = refl
erased-left d n t rest (x ∷ xs) = ap₂ cons_option (tried-erased d n t rest x) (erased-left d n t rest xs)

-- clauses of the program's text, of which there are some, and where there are none
pub retrieving-some : (below : List Stamped) (cs : List Clause) (d : ℕ) (h b : Tree) (rest : List Element) (n : ℕ) (w : Local) → (length cs ≡ 0 → ⊥) → retrieve d n h b rest cs w ≡ retrieving below cs d h b rest n w
retrieving-some below [] d h b rest n w some = absurd (some refl)
retrieving-some below (c ∷ cs) d h b rest n w some = refl

pub retrieving-none : (below : List Stamped) (cs : List Clause) (d : ℕ) (h b : Tree) (rest : List Element) (n : ℕ) (w : Local) → length cs ≡ 0 → seek below (ToRetrieve h b) d rest n w ≡ retrieving below cs d h b rest n w
retrieving-none below [] d h b rest n w none = refl
retrieving-none below (c ∷ cs) d h b rest n w none = absurd (omega (arith, none))
