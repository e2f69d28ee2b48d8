-- Where what is open ends, with success or without.
use Rattle.std.proofs.Common.{◌≡◌, ℕ, zero, suc, ◌+◌, ◌≤◌, Bool, true, false, List, [], ◌∷◌, ◌++◌, length, map, take, reverse, Option, Some, None, IfSome, IfNone, refl, sym, ap, ap₂, ◌∙◌, subst, arith, if◌then◌else◌}
use Rattle.std.specs.Prelude.{Result as Outcomes, Ok, Err, OnOk}
use Rattle.std.proofs.lemmas.List.{length-take, reverse-append}
use Rattle.plevent.specs.Search.{Answer}
use Rattle.plevent.specs.Alive.{change_if}
use Rattle.plevent.specs.declared.update.Update.{Update}
use Rattle.plevent.specs.declared.update.ClauseName.{ClauseName}
use Rattle.plevent.specs.declared.request.Request.TheVariants.{Publish}
use Rattle.plstore.specs.Looking.{Views}
use Rattle.pltx.specs.Own.{any_open, ended, ended_at, ending, ending_at, is_kept, nothing}
use Rattle.pltx.specs.Own.{published as own_published}
use Rattle.pltx.specs.Own.{State as Own}
use Rattle.pltx.specs.declared.level.Ended.{Ended}
use Rattle.pltx.specs.declared.level.Level.{Level}
use Rattle.plviews.specs.Layers.{Layered}
use Rattle.plprogram.specs.Program.{Program}
use Rattle.plterm.specs.Tree.{Tree}
use Rattle.plsearch.specs.Types.{Throw, Undo, Transact, Marker, Element, Asking, Erase, Await, GoesOn, Handle, Keep, Resolvent, Mark, Local, Move, Supply}
use Rattle.plsearch.specs.Moves.{publishing}
use Rattle.plsearch.specs.Rows.{meet, published}
use Rattle.plsearch.specs.Handlers.{has, resume, undone}
use Rattle.plsearch.specs.Engine.{deeper}
use Rattle.plsearch.specs.Machines.Levels.{AreAtMost}
use Rattle.plsearch.specs.Machines.Machine.{At, Back, Rest, return, turn}
use Rattle.plsearch.specs.Machines.Weight.{goals_weight, weight}
use Rattle.plsearch.proofs.Turns.{Rest-turn}
use Rattle.plsearch.proofs.Cuts.{cuts-empty}
use Rattle.plcode.specs.Callees.{IsProgramCode}
use Rattle.pllinks.specs.declared.item.MarkerKind.TheVariants as markers
use Rattle.pllinks.specs.declared.link.Continuation.{Continuation}
use Rattle.plstack.specs.Basis.{Basis, BasisBehind, Ends}
use Rattle.plstack.specs.Levels.{kinds, kinds_of, AreNamed}
use Rattle.plstack.specs.Opening.{ClosedAs}
use Rattle.plstack.specs.declared.frame.Closed.{Closed}
use Rattle.plstack.specs.declared.frame.Closed.TheVariants as closings
use Rattle.plstack.specs.declared.frame.Frame.{Frame}
use Rattle.plstack.specs.declared.frame.Frame.TheVariants.{Open, Plain}
use Rattle.plstack.proofs.Fitted.{kinds-in}
use Rattle.plstack.proofs.Naming.{no-database}
use Rattle.plstack.specs.Places.{Database, IsOwnSoFar}
use Rattle.plstack.specs.Cutting.{Empties, Passes}
use Rattle.plstack.specs.State.{State, cases_of, goals_of, BeginsWith, HasUndo, IsUndo}
use Rattle.plstack.specs.First.{AtMarker}
use Rattle.plmachine.specs.declared.machine.Outcome.{Outcome}
use Rattle.plmachine.specs.declared.machine.Outcome.TheVariants as outcomes
use Rattle.plmachine.specs.declared.machine.Then.TheVariants as thens
use Rattle.plmachine.specs.declared.machine.Question.TheVariants as questions
use Rattle.plmachine.specs.declared.machine.Mode.{Mode as Going}
use Rattle.plmachine.specs.declared.machine.Mode.TheVariants as modes
use Rattle.plmachine.specs.declared.machine.Machine.{Machine as Reached}
use Rattle.plmachine.specs.Machine.{below_in, cases_in, local_of, machine, mode_of, result_of, run_in, IsCarried, IsFinal, IsLast, IsMachine, IsPlain, IsTied, MayAsk, MayCarry, Moved}
use Rattle.plmachine.specs.Seeking.{erasing, turned, ErasesBefore}
use Rattle.plmachine.proofs.Moves.{machine-is}
use Rattle.plsolver.specs.declared.progress.Progress.{Progress}
use Rattle.plsolver.specs.Solver.{IsBack, Quiet, QuietIn}
use Rattle.plsolver.proofs.Quiets.{at-goals, at_stack, back-may, carried, carried-behind, db_in, from-visit, quiet-at, some_case, sound-of}
use Rattle.plsolver.proofs.Runs.{at-place, moved_of}
use Rattle.plsolver.proofs.Cutting.{cut-weight}

-- ---- own updates behind an end

-- what ends began last
record Innermost (own : Own) (older : List ℕ) (start : ℕ) : Type 0 where
  level : Level
  others : List Level
  levels : own.levels ≡ level ∷ others
  starts : level.start ≡ start
  outside : map (λ l. l.start) others ≡ reverse older

innermost : (s : Reached) (b : Basis) → IsTied s → (e : Ends s.stack.basis b) → Innermost s.layer.own e.older e.start
innermost s b tied e = go s.layer.own.levels refl (sym tied.starts ∙ ap reverse e.was ∙ reverse-append e.older (e.start ∷ []))
  where
    go : (ls : List Level) → s.layer.own.levels ≡ ls → map (λ l. l.start) s.layer.own.levels ≡ e.start ∷ reverse e.older → Innermost s.layer.own e.older e.start
    go [] is all = let f : [] ≡ e.start ∷ reverse e.older = ap (map (λ l. l.start)) (sym is) ∙ all in absurd cc
    go (l ∷ ls) is all =
        let f : l.start ∷ map (λ l. l.start) ls ≡ e.start ∷ reverse e.older = ap (map (λ l. l.start)) (sym is) ∙ all in
        record { level = l; others = ls; levels = is; starts = cc; outside = cc }

no-reverse : {A : Type 0} (xs : List A) → reverse xs ≡ [] → xs ≡ []
no-reverse [] e = refl
no-reverse (x ∷ xs) e = let f : reverse xs ++ x ∷ [] ≡ [] = sym (reverse-append (x ∷ []) xs) ∙ e in absurd (none (reverse xs) x f)
  where
    none : {A : Type 0} (ys : List A) (y : A) → ys ++ y ∷ [] ≡ [] → ⊥
    none [] y e = cc
    none (z ∷ zs) y e = cc

take-again : {A : Type 0} (n : ℕ) (xs : List A) → take n (take n xs) ≡ take n xs
take-again zero xs = refl
take-again (suc n) [] = refl
take-again (suc n) (x ∷ xs) = ap (λ ys. x ∷ ys) (take-again n xs)

-- at least as many as at its start are left, and up to there they are the same
module _ (kept : Bool) (us : List Update) (start : ℕ) where
  abbrev left-over : List Update
  left-over = change_if kept us (take start us)

  enough : start ≤ length us → start ≤ length left-over
  enough le = go kept
    where
      go : (b : Bool) → start ≤ length (change_if b us (take start us))
      go true = le
      go false = omega (arith, le, length-take start us)

  so-far : take start left-over ≡ take start us
  so-far = go kept
    where
      go : (b : Bool) → take start (change_if b us (take start us)) ≡ take start us
      go true = refl
      go false = take-again start us

module _ (s : Reached) (t : Reached) (success : Bool) (tied : IsTied s) (e : Ends s.stack.basis t.stack.basis) (layer : t.layer ≡ record s.layer { own = ended success s.layer.own }) where
  abbrev own : Own
  own = s.layer.own

  in-own : Innermost own e.older e.start
  in-own = innermost s t.stack.basis tied e

  own-is : t.layer.own ≡ ended_at success own own.levels
  own-is = ap (λ (x : Layered). x.own) layer

  first-start : (ks : List ℕ) → e.older ≡ [] → e.start ≡ 0
  first-start ks none = tied.outer e.start [] (e.was ∙ ap (λ xs. xs ++ e.start ∷ []) none)

  -- the outermost one: nothing is open any more
  module _ (l : Level) (levels : own.levels ≡ l ∷ []) (outside : [] ≡ reverse e.older) where
    outer-own : t.layer.own ≡ nothing
    outer-own = own-is ∙ ap (ended_at success own) levels

    none-older : e.older ≡ []
    none-older = no-reverse e.older (sym outside)

    at-zero : e.start ≡ 0
    at-zero = first-start [] none-older

    count-is : t.stack.basis.latest.count ≡ 0
    count-is = ap (λ (b : Basis). b.latest.count) e.is ∙ at-zero

    outer-tied : IsTied t
    outer-tied = record {
      starts = ap (λ (b : Basis). reverse b.starts) e.is ∙ sym outside ∙ sym (ap (λ (x : Own). map (λ l. l.start) x.levels) outer-own);
      count = omega (arith, count-is);
      base = λ open_now. let f : false ≡ true = ap any_open (sym outer-own) ∙ open_now in absurd cc;
      closed = λ closed. count-is;
      outer = λ k ks is. let f : [] ≡ k ∷ ks = sym none-older ∙ sym (ap (λ (b : Basis). b.starts) e.is) ∙ is in absurd cc;
    }

    outer-so-far : take t.stack.basis.latest.count t.layer.own.updates ≡ take t.stack.basis.latest.count own.updates
    outer-so-far = ap (λ n. take n t.layer.own.updates) count-is ∙ sym (ap (λ n. take n own.updates) count-is)

  -- one inside of another
  module _ (l m : Level) (ms : List Level) (levels : own.levels ≡ l ∷ m ∷ ms) (begins : l.start ≡ e.start) (outside : map (λ l. l.start) (m ∷ ms) ≡ reverse e.older) where
    abbrev left : Own
    left = record own { updates = change_if (is_kept success l.kind) own.updates (take l.start own.updates); levels = m ∷ ms }

    inner-own : t.layer.own ≡ left
    inner-own = own-is ∙ ap (ended_at success own) levels

    inner-updates : t.layer.own.updates ≡ left-over (is_kept success l.kind) own.updates e.start
    inner-updates = ap (λ (x : Own). x.updates) inner-own ∙ ap (λ n. change_if (is_kept success l.kind) own.updates (take n own.updates)) begins

    at-start : t.stack.basis.latest.count ≡ e.start
    at-start = ap (λ (b : Basis). b.latest.count) e.is

    is-open : any_open own ≡ true
    is-open = ap (λ ls. any_open (record own { levels = ls })) levels

    inner-tied : IsTied t
    inner-tied = record {
      starts = ap (λ (b : Basis). reverse b.starts) e.is ∙ sym outside ∙ sym (ap (λ (x : Own). map (λ l. l.start) x.levels) inner-own);
      count = omega (arith, at-start, enough (is_kept success l.kind) own.updates e.start (omega (arith, e.rises, tied.count)), ap length inner-updates);
      base = λ open_now. ap (λ (b : Basis). b.latest.place) e.is ∙ tied.base is-open ∙ sym (ap (λ (x : Own). x.base) inner-own);
      closed = λ closed. let f : true ≡ false = ap any_open (sym inner-own) ∙ closed in absurd cc;
      outer = λ k ks is. tied.outer k (ks ++ e.start ∷ []) (e.was ∙ ap (λ xs. xs ++ e.start ∷ []) (sym (ap (λ (b : Basis). b.starts) e.is) ∙ is));
    }

    inner-so-far : take t.stack.basis.latest.count t.layer.own.updates ≡ take t.stack.basis.latest.count own.updates
    inner-so-far = ap₂ take at-start inner-updates ∙ so-far (is_kept success l.kind) own.updates e.start ∙ sym (ap (λ n. take n own.updates) at-start)

  pub record Behind : Type 0 where
    pub tied_then : IsTied t
    pub same_so_far : take t.stack.basis.latest.count t.layer.own.updates ≡ take t.stack.basis.latest.count own.updates

  pub behind-end : Behind
  behind-end = go in-own.others in-own.levels in-own.outside
    where
      go : (ls : List Level) → own.levels ≡ in-own.level ∷ ls → map (λ l. l.start) ls ≡ reverse e.older → Behind
      go [] levels outside = record { tied_then = outer-tied in-own.level levels outside; same_so_far = outer-so-far in-own.level levels outside }
      go (m ∷ ms) levels outside = record { tied_then = inner-tied in-own.level m ms levels in-own.starts outside; same_so_far = inner-so-far in-own.level m ms levels in-own.starts outside }

-- something is open where the basis ends it
pub open-before : (s : Reached) (b : Basis) → IsTied s → Ends s.stack.basis b → any_open s.layer.own ≡ true
open-before s b tied e = let i = innermost s b tied e in ap (λ ls. any_open (record s.layer.own { levels = ls })) i.levels

abbrev pub SeesSoFar : State → Type 0
SeesSoFar st = (db : Database) (own : List Update) → IsOwnSoFar st.basis.latest db own → cases_of (record db { own = own }) st ≡ cases_of db st

pub code-ends : (old new : Basis) → Ends old new → new.code ≡ old.code
code-ends old new e = ap (λ (b : Basis). b.code) e.is

pub place-ends : (old new : Basis) → Ends old new → new.latest.place ≡ old.latest.place
place-ends old new e = ap (λ (b : Basis). b.latest.place) e.is

-- ---- with success

-- no batch without an update is published
pub publish-some : (own : Own) (us : List Update) → ending true own ≡ Ended.Publish us → us ≡ [] → ⊥
publish-some own us ends none = go own.levels own.updates ends
  where
    one : (b : Bool) (vs : List Update) → change_if b (own_published vs) Ended.Dropped ≡ Ended.Publish us → ⊥
    one true [] e = cc
    one true (u ∷ vs) e = let f : u ∷ vs ≡ us = cc in let g : u ∷ vs ≡ [] = f ∙ none in cc
    one false vs e = cc

    inner : (b : Bool) → change_if b Ended.Merged Ended.Dropped ≡ Ended.Publish us → ⊥
    inner true e = cc
    inner false e = cc

    go : (ls : List Level) (vs : List Update) → ending_at true vs ls ≡ Ended.Publish us → ⊥
    go [] vs e = cc
    go (l ∷ []) vs e = one (is_kept true l.kind) vs e
    go (l ∷ m ∷ ls) vs e = inner (is_kept true l.kind) e

-- what is published before a list names no level
publishing-most : (k : ℕ) (us : List Update) (es : List Element) → AreAtMost k es → AreAtMost k (publishing us es)
publishing-most k [] es most = most
publishing-most k (u ∷ us) es most = (tt, most)

publishing-weight : (us : List Update) (es : List Element) → goals_weight (publishing us es) ≤ goals_weight es + 2
publishing-weight [] es = omega arith
publishing-weight (u ∷ us) es = omega arith

module _ (P : Program) (v : Views) (s : Progress) (st : State) (m : Going) (outer mark : ℕ) (rest : Continuation) (at : s.machine.mode ≡ modes.Visit)
    (marker : AtMarker s.machine.stack (goals_of s.machine.stack s.machine.stack.goals) (markers.Transact outer) mark rest) (tied : IsTied s.machine) (passes : Passes s.machine.stack st outer rest) (sees : SeesSoFar st) where
  abbrev later : Reached
  later = record s.machine { stack = st; layer = record s.machine.layer { own = ended true s.machine.layer.own }; mode = m }

  abbrev updates : List Update
  updates = published (ending true s.machine.layer.own)

  abbrev place : Resolvent
  place = record { goals = publishing updates (goals_of s.machine.stack rest); variables = s.machine.stack.env.count }

  e : Empties (db_in P v s.machine) s.machine.stack st outer
  e = passes.cases (db_in P v s.machine)

  same-cases : cases_in P v later ≡ cases_of (db_in P v s.machine) st
  same-cases = sees (db_in P v s.machine) later.layer.own.updates (behind-end s.machine later true tied passes.basis refl).same_so_far

  pub quiet-end : IsPlain m → MayAsk later.layer.own st m → MayCarry st m → mode_of m st ≡ At place → QuietIn P v s (record s { machine = later })
  unfolding turn meet weight
  quiet-end plain may carry goes = record {
    used = refl;
    limit = refl;
    places = refl;
    of = sound-of P s.machine later (code-ends _ _ passes.basis) (λ was. (behind-end s.machine later true was passes.basis refl).tied_then) (from-visit s.machine m at) (λ is. may) (λ is. carry);
    latest = place-ends _ _ passes.basis;
    plain = plain;
    rest = λ left answers few.
        let run : Supply = run_in v left answers later in
        ap (Rest P) (after left answers)
        ∙ ap (λ cs. Rest P (record { mode = At place; cases = cs; run = run })) e.cases
        ∙ sym (cuts-empty P outer e.inside e.below e.places place run e.at (publishing-most outer updates (goals_of s.machine.stack rest) passes.most))
        ∙ ap (λ cs. Rest P (record { mode = At place; cases = Mark outer ∷ cs; run = run })) (sym e.was)
        ∙ sym (Rest-turn P (record { mode = At (record { goals = Marker (Transact outer) mark ∷ goals_of s.machine.stack rest; variables = s.machine.stack.env.count }); cases = cases_in P v s.machine; run = run_in v left answers s.machine }))
        ∙ sym (ap (Rest P) (here left answers));
    lighter = λ within. rw (after 0 [], here 0 []) (omega (arith, cut-weight (db_in P v s.machine) s.machine.stack st outer e, publishing-weight updates (goals_of s.machine.stack rest)));
  }
    where
      here : (left : ℕ) (answers : List Answer) → machine P v left answers s.machine ≡ record { mode = At (record { goals = Marker (Transact outer) mark ∷ goals_of s.machine.stack rest; variables = s.machine.stack.env.count }); cases = cases_in P v s.machine; run = run_in v left answers s.machine }
      here left answers = at-goals P v s.machine (Marker (Transact outer) mark ∷ goals_of s.machine.stack rest) at marker.goals left answers

      after : (left : ℕ) (answers : List Answer) → machine P v left answers later ≡ record { mode = At place; cases = cases_of (db_in P v s.machine) st; run = run_in v left answers later }
      after left answers = machine-is P v later (At place) (cases_of (db_in P v s.machine) st) (below_in v later) (local_of later) plain goes same-cases refl refl left answers

  goals-are : goals_of st st.goals ≡ goals_of s.machine.stack rest
  goals-are = ap (goals_of st) passes.goals ∙ (passes.keeps.lists rest marker.there).1

  -- nothing is to be published
  pub quiet-merged : m ≡ modes.Visit → updates ≡ [] → QuietIn P v s (record s { machine = later })
  quiet-merged is none =
      quiet-end (subst IsPlain (sym is) tt) (subst (MayAsk later.layer.own st) (sym is) tt) (subst (MayCarry st) (sym is) tt)
      (ap (λ m. mode_of m st) is ∙ ap₂ (λ gs n. At (record { goals = gs; variables = n })) (goals-are ∙ ap (λ us. publishing us (goals_of s.machine.stack rest)) (sym none)) passes.keeps.count)

  pub quiet-published : (us : List Update) → ending true s.machine.layer.own ≡ Ended.Publish us → m ≡ modes.Ask (questions.Await (Publish us) thens.GoesOn) → QuietIn P v s (record s { machine = later })
  quiet-published us ends is =
      quiet-end (subst IsPlain (sym is) tt) (subst (MayAsk later.layer.own st) (sym is) tt) (subst (MayCarry st) (sym is) tt)
      (ap (λ m. mode_of m st) is ∙ ap₂ (λ gs n. At (record { goals = gs; variables = n })) (some us (publish-some s.machine.layer.own us ends) ∙ ap (λ us. publishing us (goals_of s.machine.stack rest)) (sym (ap published ends))) passes.keeps.count)
    where
      some : (us : List Update) → (us ≡ [] → ⊥) → ◌≡◌ {A = List Element} (Asking (Await (Publish us) GoesOn) ∷ goals_of st st.goals) (publishing us (goals_of s.machine.stack rest))
      some [] not = absurd (not refl)
      some (u ∷ us) not = ap (λ es. Asking (Await (Publish (u ∷ us)) GoesOn) ∷ es) goals-are

-- ---- without success

-- the level of the case is among those of a ball that is carried
undoes : (p : Resolvent) (d : ℕ) (r : Outcome) (w : Local) → (IsFinal r → ⊥) → ((b : Tree) (ls : List ℕ) → result_of r ≡ Throw b ls → has d ls ≡ true) → resume Undo p d (result_of r) w ≡ Keep (result_of r) (undone w)
unfolding resume
undoes p d outcomes.Stop w more named = absurd (more tt)
undoes p d outcomes.Fail w more named = refl
undoes p d (outcomes.Throw b ls) w more named = ap (λ h. Keep (Throw b ls.items) (if h then undone w else w)) (named b ls.items refl)
undoes p d (outcomes.Halted n) w more named = absurd (more tt)
undoes p d outcomes.Spent w more named = absurd (more tt)

keeps-last : (p : Resolvent) (d : ℕ) (r : Outcome) (w : Local) → IsFinal r → resume Undo p d (result_of r) w ≡ Keep (result_of r) w
unfolding resume
keeps-last p d outcomes.Stop w last = refl
keeps-last p d outcomes.Fail w last = absurd last
keeps-last p d (outcomes.Throw b ls) w last = absurd last
keeps-last p d (outcomes.Halted n) w last = refl
keeps-last p d outcomes.Spent w last = refl

module _ (P : Program) (v : Views) (s : Progress) (st : State) (back : IsBack s) (sound : IsMachine s.machine) (p : (db : Database) → Resolvent) (was : (db : Database) → cases_of db s.machine.stack ≡ Handle Undo (p db) ∷ cases_of db st) (ends : Ends s.machine.stack.basis st.basis) where
  less : (ls : List ℕ) (db : Database) → AreNamed ls (cases_of db s.machine.stack) → AreNamed ls (cases_of db st)
  less ls db named = (subst (AreNamed ls) (was db) named).1

  -- a last result is carried
  pub quiet-undo-last : IsLast s.machine.mode → QuietIn P v s (at_stack s st)
  unfolding turn
  quiet-undo-last last =
      let db : Database = db_in P v s.machine in
      let t : Reached = record s.machine { stack = st } in
      quiet-at P v s (subst IsPlain (sym back.1) tt) t
      (λ of. record {
        begun = subst (IsProgramCode P) (sym (code-ends _ _ ends)) of.begun;
        sound = record {
          tied = λ more. absurd (more last);
          askable = back-may s.machine.layer.own st s.machine.mode back.0 back.1;
          carry = carried-behind s.machine.stack st s.machine.mode back.0 back.1 less of.sound.carry;
        };
      })
      (place-ends _ _ ends) (subst IsPlain (sym back.1) tt)
      (λ left answers few.
      carried P v t back.0 (cases_of db st) back.1 refl left answers
      ∙ sym (ap (turn P) (carried P v s.machine back.0 (Handle Undo (p db) ∷ cases_of db st) back.1 (was db) left answers)
      ∙ ap (return (cases_of db st) (run_in v left answers s.machine)) (keeps-last (p db) (deeper (cases_of db st) 0) back.0 (local_of s.machine) (subst IsLast back.1 last))))
      (λ x is no. some_case _ _ _ (was db) no)

  -- any other one
  module _ (more : IsLast s.machine.mode → ⊥) (sees : SeesSoFar st) where
    abbrev undone-then : Reached
    undone-then = record s.machine { stack = st; layer = record s.machine.layer { own = ended false s.machine.layer.own } }

    pub was-open : any_open s.machine.layer.own ≡ true
    was-open = open-before s.machine st.basis (sound.tied more) ends

    is-named : (db : Database) (b : Tree) (ls : List ℕ) → result_of back.0 ≡ Throw b ls → has (deeper (cases_of db st) 0) ls ≡ true
    is-named db b ls is = go back.0 (subst (MayCarry s.machine.stack) back.1 sound.carry) is
      where
        go : (r : Outcome) → IsCarried s.machine.stack r → result_of r ≡ Throw b ls → has (deeper (cases_of db st) 0) ls ≡ true
        go outcomes.Stop may e = absurd cc
        go outcomes.Fail may e = absurd cc
        go (outcomes.Throw c ks) may e = let same : ks.items ≡ ls = cc in subst (λ xs. has (deeper (cases_of db st) 0) xs ≡ true) same (subst (AreNamed ks.items) (was db) (may db)).0
        go (outcomes.Halted n) may e = absurd cc
        go outcomes.Spent may e = absurd cc

    pub quiet-undo : QuietIn P v s (record s { machine = undone-then })
    unfolding turn
    quiet-undo =
        let db : Database = db_in P v s.machine in
        quiet-at P v s (subst IsPlain (sym back.1) tt) undone-then
        (sound-of P s.machine undone-then (code-ends _ _ ends) (λ tied. (behind-end s.machine undone-then false tied ends refl).tied_then) (λ last. last) (λ is. back-may undone-then.layer.own st s.machine.mode back.0 back.1)
        (λ is. carried-behind s.machine.stack st s.machine.mode back.0 back.1 less is.carry))
        (place-ends _ _ ends) (subst IsPlain (sym back.1) tt)
        (λ left answers few.
        carried P v undone-then back.0 (cases_of db st) back.1 (sees db undone-then.layer.own.updates (behind-end s.machine undone-then false (sound.tied more) ends refl).same_so_far) left answers
        ∙ sym (ap (turn P) (carried P v s.machine back.0 (Handle Undo (p db) ∷ cases_of db st) back.1 (was db) left answers)
        ∙ ap (return (cases_of db st) (run_in v left answers s.machine)) (undoes (p db) (deeper (cases_of db st) 0) back.0 (local_of s.machine) (λ last. more (subst IsLast (sym back.1) last)) (is-named db))))
        (λ x is no. some_case _ _ _ (was db) no)

-- the innermost case was closed, where what is open ends
pub record Undone (s st : State) : Type 0 where
  pub place : (db : Database) → Resolvent
  pub was : (db : Database) → cases_of db s ≡ Handle Undo (place db) ∷ cases_of db st
  pub ends : Ends s.basis st.basis
  pub sees : SeesSoFar st

some-undo : (s : State) → HasUndo s → ((db : Database) → cases_of db s ≡ []) → ⊥
some-undo s has none = go (reverse s.frames) has (sym (kinds-in no-database s) ∙ ap kinds (none no-database))
  where
    go : (fs : List Frame) → BeginsWith IsUndo fs → kinds_of fs ≡ [] → ⊥
    go [] has e = has
    go (Plain n ∷ fs) has e = has
    go (Open p r ∷ fs) has e = cc

pub closed-undo : (s st : State) (r : Option Closed) → IfSome r (λ k. (db : Database) → ClosedAs db s st k) → IfNone r ((db : Database) → cases_of db s ≡ []) → IfSome r (λ k. BasisBehind k s.basis st.basis) →
    IfSome r (λ k. HasUndo s → k ≡ closings.Transaction) → IfSome r (λ k. SeesSoFar st) → HasUndo s → Undone s st
closed-undo s st None some none basis undo sees has = absurd (some-undo s has none)
closed-undo s st (Some k) some none basis undo sees has =
    let is = undo has in
    let closed = subst (λ k. (db : Database) → ClosedAs db s st k) is some in
    record { place = λ db. (closed db).0; was = λ db. (closed db).1; ends = subst (λ k. BasisBehind k s.basis st.basis) is basis; sees = sees }

-- ---- a clause that is erased of what is open

pub quiet-erase : (P : Program) (v : Views) (s : Progress) (t : Reached) (x : ClauseName) (m : Move) → s.machine.mode ≡ modes.Ask (questions.Erase x) → any_open s.machine.layer.own ≡ true → Moved P s.machine t m →
    ErasesBefore P (any_open s.machine.layer.own) s.machine t x (goals_of s.machine.stack s.machine.stack.goals) → QuietIn P v s (record s { machine = t })
quiet-erase P v s t x m at opened moved erases =
    quiet-at P v s (subst IsPlain (sym at) tt) t (λ of. moved_of P s.machine t (λ v. m) of (λ last. subst IsLast at last) moved.moved) moved.moved.latest moved.plain
    (λ left answers few.
    erases v left answers
    ∙ ap (λ b. turned b P (erasing P v left answers s.machine x (goals_of s.machine.stack s.machine.stack.goals))) opened
    ∙ sym (ap (turn P) (at-place P v s.machine (record { goals = Asking (Erase x) ∷ goals_of s.machine.stack s.machine.stack.goals; variables = s.machine.stack.env.count }) (subst IsPlain (sym at) tt) (ap (λ m. mode_of m s.machine.stack) at) left answers)))
    (λ r is no. let f : At (record { goals = Asking (Erase x) ∷ goals_of s.machine.stack s.machine.stack.goals; variables = s.machine.stack.env.count }) ≡ Back r = ap (λ m. mode_of m s.machine.stack) (sym at) ∙ is in absurd cc)

pub erased-ok : {T E : Type 0} (P : Program) (s : Progress) (t : Reached) (x : ClauseName) (m : Move) (r : Outcomes T E) → s.machine.mode ≡ modes.Ask (questions.Erase x) → any_open s.machine.layer.own ≡ true → OnOk r (Moved P s.machine t m) →
    OnOk r (ErasesBefore P (any_open s.machine.layer.own) s.machine t x (goals_of s.machine.stack s.machine.stack.goals)) → OnOk r (Quiet P s (record s { machine = t }))
erased-ok P s t x m (Ok y) at opened moved erases = λ v ordered. quiet-erase P v s t x m at opened moved erases
erased-ok P s t x m (Err e) at opened moved erases = tt
