-- A catcher and its ball, over the stack.
use Rattle.std.proofs.Common.{◌≡◌, ℕ, ◌+◌, ◌-◌, true, List, [], ◌∷◌, length, reverse, refl, sym, ap, ap₂, ◌∙◌, subst, arith, Option, Some, None, IfSome, IfNone, drop}
use Rattle.plterm.specs.Tree.{Tree}
use Rattle.plterm.specs.Variables.{copied, variables}
use Rattle.plsubst.specs.Subst.{bind}
use Rattle.plsubst.specs.Unify.{unify}
use Rattle.plcells.specs.declared.cell.Cell.{Cell}
use Rattle.plcells.specs.Store.{IsValue, value}
use Rattle.plprogram.specs.Program.{Program}
use Rattle.plsearch.specs.Types.{Goal, Element, Case, Choice, Throw, Kept}
use Rattle.plsearch.specs.Collecting.{dropped, kept_below}
use Rattle.plerror.specs.Errors.{error_term}
use Rattle.plsearch.specs.Lists.{levels, bind_goals}
use Rattle.plsearch.specs.Running.{Runs, Raises, runnable}
use Rattle.plsearch.specs.Rows.{catch_3, catching}
use Rattle.plsearch.specs.Handlers.{recovers, has}
use Rattle.plsearch.specs.Engine.{deeper}
use Rattle.plsearch.specs.Machines.Machine.{At, Back, return}
use Rattle.pllinks.specs.declared.link.Continuation.{Continuation}
use Rattle.plstack.specs.declared.frame.Catcher.{Catcher}
use Rattle.plstack.specs.declared.frame.Handler.TheVariants as handlers
use Rattle.plstack.specs.declared.frame.Handling.{Handling}
use Rattle.plstack.specs.declared.frame.Closed.{Closed}
use Rattle.plstack.specs.declared.frame.Closed.TheVariants as closes
use Rattle.plstack.specs.declared.frame.Resume.TheVariants as resumes
use Rattle.plstack.specs.declared.frame.Frame.{Frame}
use Rattle.plstack.specs.declared.frame.Frame.TheVariants.{Plain, Open}
use Rattle.plstore.specs.Looking.{Views}
use Rattle.plstack.specs.Places.{Database}
use Rattle.plstack.specs.State.{State, IsList, IsHandler, IsUndo, BeginsWith, HasHandler, AtHandler, Extends, Unifies, Recovers, cases_of, goals_of, place_of, kinds_in}
use Rattle.plstack.specs.Basis.{BasisBehind}
use Rattle.plstack.specs.Opening.{ClosedAs}
use Rattle.plstack.proofs.Fitted.{kinds-in}
use Rattle.plstack.proofs.Undoing.{guards-frame}
use Rattle.plstack.proofs.Stacks.{depth-in}
use Rattle.plmachine.specs.declared.machine.Outcome.{Outcome}
use Rattle.plmachine.specs.declared.machine.Mode.TheVariants as modes
use Rattle.plmachine.specs.Machine.{result_of, below_in, local_of, cases_in, depth_of, run_in, IsCarried}
use Rattle.plmachine.specs.Lists.{Grown}
use Rattle.plmachine.proofs.Moves.{machine-is, stays-trans, grown-stays as grown-there}
use Rattle.plsolver.specs.declared.progress.Progress.{Progress}
use Rattle.plsolver.specs.Solver.{Stays, QuietIn, Recovered, Rethrown}
use Rattle.plstack.specs.Levels.{kinds, kinds_of, AreNamed, Choosing, FitsIn, Sort}
use Rattle.plstack.proofs.Naming.{fits-bound, new-precedes, no-database}
use Rattle.plmachine.proofs.Levels.{depth-kinds}
use Rattle.plsolver.proofs.Quiets.{to, at_stack, carried, db_in}
use Rattle.plsolver.proofs.Handling.{quiet-other, quiet-caught}

tail_is : (x y : Case) (xs ys : List Case) → x ∷ xs ≡ y ∷ ys → xs ≡ ys
tail_is x y xs ys e = cc

-- the innermost case was closed
pub closed-below : (db : Database) (s new : State) (h : Case) (below : List Case) (r : Option Closed) → IfSome r (λ k. (db : Database) → ClosedAs db s new k) → IfNone r ((db : Database) → cases_of db s ≡ []) →
    cases_of db s ≡ h ∷ below → cases_of db new ≡ below
closed-below db s new h below None some none was = let e : h ∷ below ≡ [] = sym was ∙ none db in absurd cc
closed-below db s new h below (Some closes.Choice) some none was = tail_is _ h _ below (sym (some db).1 ∙ was)
closed-below db s new h below (Some closes.Handler) some none was = tail_is _ h _ below (sym (some db).2 ∙ was)
closed-below db s new h below (Some closes.Transaction) some none was = tail_is _ h _ below (sym (some db).1 ∙ was)

-- a handler is not where a transaction ends
handler-only : (fs : List Frame) → BeginsWith IsHandler fs → BeginsWith IsUndo fs → ⊥
handler-only [] handler undo = handler
handler-only (Plain n ∷ fs) handler undo = handler
handler-only (Open p (resumes.Clauses c) ∷ fs) handler undo = handler
handler-only (Open p (resumes.Walk w) ∷ fs) handler undo = handler
handler-only (Open p (resumes.Answers a) ∷ fs) handler undo = handler
handler-only (Open p resumes.List ∷ fs) handler undo = handler
handler-only (Open p (resumes.Handle x) ∷ fs) handler undo = guards-frame p x handler undo

some-frame : (s : State) → HasHandler s → ((db : Database) → cases_of db s ≡ []) → ⊥
some-frame s has none = go (reverse s.frames) has (no-kinds ∙ refl)
  where
    no-kinds : kinds_in s ≡ []
    no-kinds = sym (kinds-in no-database s) ∙ ap kinds (none no-database)

    go : (fs : List Frame) → BeginsWith IsHandler fs → kinds_of fs ≡ [] → ⊥
    go [] has e = has
    go (Plain n ∷ fs) has e = has
    go (Open p r ∷ fs) has e = cc

-- what the cases rest on stays where a handler is closed
pub closed-basis : (s new : State) (r : Option Closed) → IfSome r (λ k. (db : Database) → ClosedAs db s new k) → IfNone r ((db : Database) → cases_of db s ≡ []) → IfSome r (λ k. BasisBehind k s.basis new.basis) → HasHandler s → new.basis ≡ s.basis
closed-basis s new None some none basis has = absurd (some-frame s has none)
closed-basis s new (Some closes.Choice) some none basis has = basis
closed-basis s new (Some closes.Handler) some none basis has = basis
closed-basis s new (Some closes.Transaction) some none basis has = absurd (handler-only (reverse s.frames) has (some no-database).2)

-- a ball with the levels of a list that fits behind the innermost case is for each Undo there
named-behind : (s new : State) (ls : List ℕ) (list : Continuation) → ((cs : List Case) → FitsIn (kinds cs) (goals_of s list) → AreNamed ls cs) → FitsIn (drop 1 (kinds_in s)) (goals_of s list) →
    (db : Database) (c : Case) → cases_of db s ≡ c ∷ cases_of db new → AreNamed ls (cases_of db new)
named-behind s new ls list named fits db c was =
    named (cases_of db new) (subst (λ ks. FitsIn ks (goals_of s list)) (ap (drop 1) (sym (kinds-in db s) ∙ ap kinds was)) fits)

-- so it is where a handler was closed
pub closed-named : (s new : State) (ls : List ℕ) (list : Continuation) (r : Option Closed) → IfSome r (λ k. (db : Database) → ClosedAs db s new k) → IfNone r ((db : Database) → cases_of db s ≡ []) → HasHandler s →
    ((cs : List Case) → FitsIn (kinds cs) (goals_of s list) → AreNamed ls cs) → FitsIn (drop 1 (kinds_in s)) (goals_of s list) → (db : Database) → AreNamed ls (cases_of db new)
closed-named s new ls list None some none has named fits db = absurd (some-frame s has none)
closed-named s new ls list (Some closes.Choice) some none has named fits db = named-behind s new ls list named fits db _ (some db).1
closed-named s new ls list (Some closes.Handler) some none has named fits db = named-behind s new ls list named fits db _ (some db).2
closed-named s new ls list (Some closes.Transaction) some none has named fits db = named-behind s new ls list named fits db _ (some db).1

pub rethrows : (P : Program) (s new : Progress) (st : State) (e : Tree) (list : Continuation) (o : Outcome) → result_of o ≡ Throw (copied 0 (error_term e catch_3)) (levels (goals_of s.machine.stack list)) → st.basis ≡ s.machine.stack.basis → IsCarried st o →
    ((v : Views) (h : Case) (below : List Case) → cases_in P v s.machine ≡ h ∷ below → cases_of (db_in P v s.machine) st ≡ below) → new ≡ to s st (modes.Back o) → Rethrown P s new e list
rethrows P s new st e list o is basis may closed made = subst (λ x. Rethrown P s x e list) (sym made) (record {
  frame = refl;
  basis = basis;
  plain = tt;
  askable = tt;
  carry = may;
  is = λ v h below was left answers.
      carried P v (record s.machine { stack = st; mode = modes.Back o }) o below refl (closed v h below was) left answers
      ∙ ap (λ x. record { mode = Back x; cases = below; run = run_in v left answers s.machine }) is;
})

-- lists and values were added
pub grown-stays : (P : Program) (s new : Progress) → Grown s.machine.stack new.machine.stack → new ≡ record s { machine = record s.machine { stack = new.machine.stack } } → Stays P s new
grown-stays P s new g is = record {
  used = ap (λ x. x.used) is;
  limit = ap (λ x. x.limit) is;
  places = ap (λ x. x.places.items) is;
  there = grown-there P s.machine new.machine g (ap (λ x. x.machine) is);
}

-- the recovery is no goal
pub recovered-raises : (P : Program) (s new : Progress) (st : State) (e : Tree) (recovery : Cell) (list : Continuation) → Grown s.machine.stack st → IsList s.machine.stack list → runnable (value s.machine.stack.env.heap recovery) ≡ Raises e →
    Rethrown P (at_stack s st) new e list → Recovered P s new recovery list
recovered-raises P s new st e recovery list g l runs did = record {
  frame =
      let same : new.machine.kept ≡ s.machine.kept = ap (λ x. x.machine.kept) did.frame in
      did.frame ∙ ap (λ k. record s { machine = record s.machine { stack = new.machine.stack; mode = new.machine.mode; kept = k } }) (sym same);
  basis = did.basis ∙ g.extends.basis;
  plain = did.plain;
  askable = did.askable;
  carry = did.carry;
  is = λ v h below was left answers.
      did.is v h below (g.extends.cases (db_in P v s.machine) ∙ was) left answers
      ∙ ap (λ es. record { mode = Back (Throw (copied 0 (error_term e catch_3)) (levels es)); cases = below; run = run_in v left answers s.machine }) (g.extends.lists list l).1
      ∙ ap (λ x. return below (run_in v left answers s.machine) (recovers x (deeper below 0) (goals_of s.machine.stack list) s.machine.stack.env.count (local_of s.machine))) (sym runs);
}

-- the recovery is run
pub recovered-runs : (P : Program) (s : Progress) (st linked last : State) (recovery : Cell) (list : Continuation) (goal : Cell) (level : ℕ) (made : Continuation) → Grown s.machine.stack st → IsList s.machine.stack list →
    runnable (value s.machine.stack.env.heap recovery) ≡ Runs (value st.env.heap goal) → ((db : Database) → deeper (cases_of db st) 0 ≡ level + 1) → Extends st linked → linked.env ≡ st.env →
    goals_of linked made ≡ Goal level (value st.env.heap goal) ∷ goals_of st list → Recovers linked last made → last.basis ≡ linked.basis → (kept : List Kept) → kept ≡ kept_below level s.machine.kept →
    Recovered P s (record s { machine = record s.machine { stack = last; mode = modes.Visit; kept = kept } }) recovery list
recovered-runs P s st linked last recovery list goal level made g l runs at e env goals did basis kept kept_is = record {
  frame = refl;
  basis = basis ∙ e.basis ∙ g.extends.basis;
  plain = tt;
  askable = tt;
  carry = tt;
  is = λ v h below was left answers.
      let was_st : cases_of (db_in P v s.machine) st ≡ h ∷ below = g.extends.cases (db_in P v s.machine) ∙ was in
      let deep : level ≡ deeper below 0 = omega (arith, at (db_in P v s.machine), ap (λ cs. deeper cs 0) was_st) in
      let rest : goals_of st list ≡ goals_of s.machine.stack list = (g.extends.lists list l).1 in
      let count : linked.env.count ≡ s.machine.stack.env.count = ap (λ e. e.count) env ∙ g.count in
      let gs : List Element = Goal (deeper below 0) (value st.env.heap goal) ∷ goals_of s.machine.stack list in
      let place : place_of last ≡ record { goals = gs; variables = s.machine.stack.env.count } =
      did.place ∙ ap₂ (λ gs n. record { goals = gs; variables = n }) (goals ∙ ap₂ (λ k es. Goal k (value st.env.heap goal) ∷ es) deep rest) count in
      let local : local_of (record s.machine { kept = kept }) ≡ dropped (deeper below 0) (local_of s.machine) =
      ap (λ k. record (local_of s.machine) { kept = k }) (kept_is ∙ ap (λ d. kept_below d s.machine.kept) deep) in
      machine-is P v (record s.machine { stack = last; mode = modes.Visit; kept = kept }) (At (record { goals = gs; variables = s.machine.stack.env.count })) (Choice [] ∷ below) (below_in v s.machine) (dropped (deeper below 0) (local_of s.machine)) tt (ap At place)
      (did.cases (db_in P v s.machine) h below (e.cases (db_in P v s.machine) ∙ was_st)) refl local left answers
      ∙ ap (λ x. return below (run_in v left answers s.machine) (recovers x (deeper below 0) (goals_of s.machine.stack list) s.machine.stack.env.count (local_of s.machine))) (sym runs);
}

pub handler-stays : (s t : State) → t.frames ≡ s.frames → HasHandler s → HasHandler t
handler-stays s t same has = subst (λ fs. BeginsWith IsHandler (reverse fs)) (sym same) has

-- the ball at its catcher
module _ (P : Program) (v : Views) (s : Progress) (o : Outcome) (ball : Tree) (found : List ℕ) (at : s.machine.mode ≡ modes.Back o) (carries : result_of o ≡ Throw ball found) (st : State) (k : Handling) (basis : st.basis ≡ s.machine.stack.basis)
    (same : (db : Database) → cases_of db st ≡ cases_of db s.machine.stack) (x : Catcher) (here : AtHandler st (handlers.Catch x) k.list) (active : has (depth_of s.machine - 1) found ≡ true) where
  -- the handler that the frame stands for
  abbrev catcher : Tree
  catcher = value st.env.heap x.catcher

  abbrev recovery : Tree
  recovery = value st.env.heap x.recovery

  cases-are : cases_in P v s.machine ≡ catching catcher recovery (goals_of st k.list) st.env.count ∷ here.below (db_in P v s.machine)
  cases-are = sym (same (db_in P v s.machine)) ∙ here.cases (db_in P v s.machine)

  is-active : has (deeper (here.below (db_in P v s.machine)) 0) found ≡ true
  is-active =
      let d : depth_of s.machine - 1 ≡ deeper (here.below (db_in P v s.machine)) 0 = omega (arith, depth-in (db_in P v s.machine) s.machine.stack, ap (λ cs. deeper cs 0) cases-are) in
      subst (λ d. has d found ≡ true) d active

  -- it is another one: the catcher has no unifier with a copy of it
  pub catches-none : (last : State) → last.basis ≡ st.basis → unify catcher (copied st.env.count ball) ≡ None →
      ((db : Database) (h : Case) (below : List Case) → cases_of db st ≡ h ∷ below → cases_of db last ≡ below) → QuietIn P v s (at_stack s last)
  catches-none last stays none closed =
      quiet-other P v s o ball found at carries catcher recovery (goals_of st k.list) st.env.count (here.below (db_in P v s.machine)) cases-are is-active last (stays ∙ basis) none
      (behind (db_in P v s.machine)) (λ ls db named. subst (AreNamed ls) (sym (behind db)) (subst (AreNamed ls) (sym (same db) ∙ here.cases db) named).1)
    where
      behind : (db : Database) → cases_of db last ≡ here.below db
      behind db = closed db _ (here.below db) (here.cases db)

  -- it was put
  module _ (put : State) (grew : Extends st put) (b : Cell) (copy : value put.env.heap b ≡ copied st.env.count ball) where
    sides : unify catcher (copied st.env.count ball) ≡ unify (value put.env.heap x.catcher) (value put.env.heap b)
    sides = ap₂ unify (sym (grew.values x.catcher here.there.0).1) (sym copy)

    pub catches-other : (last : State) → last.basis ≡ put.basis → unify (value put.env.heap x.catcher) (value put.env.heap b) ≡ None →
        ((db : Database) (h : Case) (below : List Case) → cases_of db put ≡ h ∷ below → cases_of db last ≡ below) → QuietIn P v s (at_stack s last)
    catches-other last stays none closed = catches-none last (stays ∙ grew.basis) (sides ∙ none) (λ db h below was. closed db h below (grew.cases db ∙ was))

    module _ (count : put.env.count ≡ st.env.count + length (variables ball)) (last : State) (u : Unifies put last x.catcher b) where
      pub recovery-there : IsValue last.env.heap x.recovery
      recovery-there = (u.values x.recovery (grew.values x.recovery here.there.1).0).0

      pub list-there : IsList last k.list
      list-there = (u.lists k.list (grew.lists k.list here.list_there).0).0

      pub handler-there : HasHandler last
      handler-there = handler-stays st last (u.frames ∙ grew.frames) here.has

      pub catches-it : (new : Progress) → Recovered P (at_stack s last) new x.recovery k.list → QuietIn P v s new
      catches-it new did =
          let list = grew.lists k.list here.list_there in
          let r = grew.values x.recovery here.there.1 in
          quiet-caught P v s o ball found at carries catcher recovery (goals_of st k.list) st.env.count (here.below (db_in P v s.machine)) cases-are is-active
          last new u.unifier x.recovery k.list (catching catcher recovery (goals_of st k.list) st.env.count) (u.basis ∙ grew.basis ∙ basis)
          (sides ∙ u.is)
          ((u.values x.recovery r.0).1 ∙ ap (bind u.unifier) r.1)
          ((u.lists k.list list.0).1 ∙ ap (bind_goals u.unifier) list.1)
          (u.count ∙ count)
          (u.cases (db_in P v s.machine) ∙ grew.cases (db_in P v s.machine) ∙ here.cases (db_in P v s.machine))
          did

-- what stays from where it stayed
pub stays-after : (P : Program) (s t new : Progress) → Stays P s t → Stays P t new → Stays P s new
stays-after P s t new a b = record {
  used = b.used ∙ a.used;
  limit = b.limit ∙ a.limit;
  places = b.places ∙ a.places;
  there = stays-trans P s.machine t.machine new.machine a.there b.there;
}

-- the list of a handler fits outside of it once a unifier was put in
pub bound-fits : (s t : State) (l : Continuation) (σ : ℕ → Tree) → t.frames ≡ s.frames → goals_of t l ≡ bind_goals σ (goals_of s l) → FitsIn (drop 1 (kinds_in s)) (goals_of s l) → FitsIn (drop 1 (kinds_in t)) (goals_of t l)
bound-fits s t l σ frames goals f =
    subst (λ fs. FitsIn (drop 1 (kinds_of (reverse fs))) (goals_of t l)) (sym frames)
    (subst (FitsIn (drop 1 (kinds_in s))) (sym goals) (fits-bound (drop 1 (kinds_in s)) σ (goals_of s l) f))

pub fits-grown-behind : (s t : State) (l : Continuation) → Grown s t → IsList s l → FitsIn (drop 1 (kinds_in s)) (goals_of s l) → FitsIn (drop 1 (kinds_in t)) (goals_of t l)
fits-grown-behind s t l g i f =
    subst (λ fs. FitsIn (drop 1 (kinds_of (reverse fs))) (goals_of t l)) (sym g.extends.frames) (subst (FitsIn (drop 1 (kinds_in s))) (sym (g.extends.lists l i).1) f)

-- how many cases are open at a handler
pub level-kinds : (s : State) (level : ℕ) → ((db : Database) → deeper (cases_of db s) 0 ≡ level + 1) → level + 1 ≡ length (kinds_in s)
level-kinds s level up = sym (up no-database) ∙ depth-in no-database s ∙ sym (depth-kinds s)

behind-one : (ks : List Sort) (level : ℕ) → level + 1 ≡ length ks → level ≡ length (drop 1 ks)
behind-one [] level e = absurd (omega arith)
behind-one (b ∷ ks) level e = omega (arith, e)

-- a recovery before it, where its handler becomes a choice
pub recovery-fits : (s linked : State) (level : ℕ) (t : Tree) (list made : Continuation) → linked.frames ≡ s.frames → level + 1 ≡ length (kinds_in s) → goals_of linked made ≡ Goal level t ∷ goals_of s list → FitsIn (drop 1 (kinds_in s)) (goals_of s list) →
    FitsIn (Choosing ∷ drop 1 (kinds_in linked)) (goals_of linked made)
recovery-fits s linked level t list made frames many goals f =
    subst (λ fs. FitsIn (Choosing ∷ drop 1 (kinds_of (reverse fs))) (goals_of linked made)) (sym frames)
    (subst (FitsIn (Choosing ∷ drop 1 (kinds_in s))) (sym goals) (new-precedes (drop 1 (kinds_in s)) level (goals_of s list) (behind-one (kinds_in s) level many) f))
