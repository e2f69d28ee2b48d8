-- Levels of results: the search from a list that names some levels cuts to these alone, and throws no ball that has others behind it.
use Rattle.std.specs.Prelude.{not}
use Rattle.std.proofs.Common.{◌≡◌, ℕ, zero, suc, ◌+◌, ◌<◌, ◌≤◌, Bool, true, false, ◌||◌, if◌then◌else◌, List, [], ◌∷◌, length, Option, Some, None, refl, sym, subst, arith, nat_eq}
use Rattle.std.specs.Option.{option_map}
use Rattle.plterm.specs.Tree.{Tree}
use Rattle.plterm.specs.Variables.{copied, variables}
use Rattle.plsubst.specs.Subst.{bind}
use Rattle.plsubst.specs.Unify.{unify}
use Rattle.plevent.specs.declared.update.Update.{Update}
use Rattle.plevent.specs.declared.update.Update.TheVariants.{Erase}
use Rattle.plevent.specs.declared.update.ClauseName.{ClauseName}
use Rattle.plevent.specs.declared.request.Request.TheVariants.{EraseOne, Publish}
use Rattle.plevent.specs.Search.{Item, Ask, Answer}
use Rattle.pltx.specs.Own.{any_open, ended, ending, erased_in, made, target_at}
use Rattle.plprogram.specs.Program.{Program}
use Rattle.plbuiltin.specs.Solution.{Solution}
use Rattle.plsearch.specs.Types.{Result, Stop, Fail, CutTo, Throw, Halted, Spent, Awaits, Stopped, Unfit, Commit, Never, Until, Collect, Transact, GoesOn, Question, Await, Element, Goal, Marker, Raise, Asking, Resolvent, Case, Choice, Mark, Handle, Handler, Catch, Gather, Undo, Return, Keep, Again, Anew, Local, Move, Give, Go, Asks, End, Pass, Supply}
use Rattle.plsearch.specs.Lists.{bind_goals}
use Rattle.plsearch.specs.Running.{Runnable, Runs, Raises, runnable}
use Rattle.plsearch.specs.Collecting.{copies_from, dropped, gathered}
use Rattle.plsearch.specs.Moves.{run}
use Rattle.plsearch.specs.Rows.{solved, row, select, asked, erasing, published, meet}
use Rattle.plsearch.specs.Replies.{answered, founded}
use Rattle.plsearch.specs.Handlers.{has, recovers, met_by, goes_on, resume}
use Rattle.plsearch.specs.Engine.{Ended, stop_cut, mark, deeper, choice, returned, out, outs, moved, stepped, asks, publishes, met, walk, left, Visit}
use Rattle.plsearch.proofs.Fuel.{Visit-walk}
use Rattle.plsearch.proofs.Ends.{Visit-left, out-left}
use Rattle.plsearch.proofs.Levels.{Levels, also, Holds, Bounded, GivesUp, Allows, AllAllow, also-it, allow-more, allow-bound, levels-in, PlacesAllow, inside, CaseAllows, within, CasesAllow, MoveAllows, select-allowed, answered-allowed}

holds-deeper : (N : Levels) (d e : ℕ) → d ≤ e → Holds N d → Holds N e
holds-deeper N d e le holds l le' = holds l (omega arith)

deeper-above : (cs : List Case) (d : ℕ) → d ≤ deeper cs d
deeper-above [] d = omega arith
deeper-above (c ∷ cs) d = let up = deeper-above cs d in omega arith

stop-if-bounded : (C N : Levels) (d l : ℕ) (b : Bool) → nat_eq l d ≡ b → also C d l ≡ true → Bounded C N (if b then Fail else CutTo l)
unfolding Bounded
stop-if-bounded C N d l true is h = tt
stop-if-bounded C N d l false is h = only (C l) (nat_eq l d) is h
  where
    only : (a b : Bool) → b ≡ false → (a || b) ≡ true → a ≡ true
    only true b is h = refl
    only false true is h = sym is
    only false false is h = h

stop-bounded : (C N : Levels) (d : ℕ) (r : Result) → Bounded (also C d) N r → Bounded C N (stop_cut d r)
unfolding Bounded
stop-bounded C N d Stop h = tt
stop-bounded C N d Fail h = tt
stop-bounded C N d (CutTo l) h = stop-if-bounded C N d l (nat_eq l d) refl h
stop-bounded C N d (Throw b ls) h = h
stop-bounded C N d (Halted n) h = tt
stop-bounded C N d Spent h = tt
stop-bounded C N d (Awaits q) h = tt
stop-bounded C N d Stopped h = tt
stop-bounded C N d Unfit h = tt

mark-bounded : (C N : Levels) (l : ℕ) (r : Result) → C l ≡ true → Bounded C N r → Bounded C N (mark l r)
unfolding Bounded
mark-bounded C N l Stop is h = tt
mark-bounded C N l Fail is h = is
mark-bounded C N l (CutTo m) is h = h
mark-bounded C N l (Throw b ls) is h = h
mark-bounded C N l (Halted n) is h = tt
mark-bounded C N l Spent is h = tt
mark-bounded C N l (Awaits q) is h = tt
mark-bounded C N l Stopped is h = tt
mark-bounded C N l Unfit is h = tt

-- what a handler goes on with
unfoldable ReturnAllows : Levels → Levels → ℕ → Return → Type 0
ReturnAllows C N d (Keep r w) = Bounded C N r
ReturnAllows C N d (Again p w) = AllAllow C N p.goals
ReturnAllows C N d (Anew p w) = AllAllow (also C d) N p.goals

resume-allowed : (C N : Levels) (d : ℕ) (h : Handler) (p : Resolvent) (r : Result) (w : Local) → AllAllow C N p.goals → Bounded C N r → ReturnAllows C N d (resume h p d r w)
unfolding resume ReturnAllows Bounded AllAllow Allows
resume-allowed C N d (Catch c r) p (Throw b ls) w all bounded = met (has d ls)
  where
    recovers-allowed : (x : Runnable) (es : List Element) (n : ℕ) → AllAllow C N es → ReturnAllows C N d (recovers x d es n w)
    recovers-allowed (Runs g) es n all = (also-it C d, allow-more C N d es all)
    recovers-allowed (Raises e) es n all = levels-in C N es all

    met-allowed : (o : Option (ℕ → Tree)) → ReturnAllows C N d (met_by o r b ls p d w)
    met-allowed None = bounded
    met-allowed (Some σ) = recovers-allowed (runnable (bind σ r)) (bind_goals σ p.goals) (p.variables + length (variables b)) (allow-bound C N σ p.goals all)

    met : (x : Bool) → ReturnAllows C N d (if x then met_by (unify c (copied p.variables b)) r b ls p d w else Keep (Throw b ls) w)
    met false = bounded
    met true = met-allowed (unify c (copied p.variables b))
resume-allowed C N d (Catch c r) p x w all bounded = bounded
resume-allowed C N d (Gather l) p Fail w all bounded = goes (gathered l (copies_from d w.kept) p.variables)
  where
    goes : (s : Solution) → ReturnAllows C N d (goes_on (solved p.goals p.variables s) (dropped d w))
    goes s = from (unify s.left s.right)
      where
        from : (o : Option (ℕ → Tree)) → ReturnAllows C N d (goes_on (option_map (λ σ. record { goals = bind_goals σ p.goals; variables = p.variables + s.new }) o) (dropped d w))
        from None = bounded
        from (Some σ) = allow-bound C N σ p.goals all
resume-allowed C N d (Gather l) p x w all bounded = bounded
resume-allowed C N d Undo p x w all bounded = undo x bounded
  where
    undo : (r : Result) → Bounded C N r → ReturnAllows C N d (resume Undo p d r w)
    undo Fail bounded = bounded
    undo (Throw b ls) bounded = bounded
    undo r bounded = bounded

module _ (P : Program) where
  Claim : ℕ → Type 0
  Claim k = (C N : Levels) (d : ℕ) (p : Resolvent) (run : Supply) → left run < k → Holds N d → AllAllow C N p.goals → Bounded C N (Visit P d p run).0

  choice-bounded : (k : ℕ) → Claim k → (C N : Levels) (d : ℕ) → Holds N d → (ps : List Resolvent) (r : Result) (run : Supply) → left run < k →
      PlacesAllow (also C d) N ps → Bounded (also C d) N r → Bounded C N (choice (Visit P) d ps r run).0
  unfolding choice Claim PlacesAllow
  choice-bounded k h C N d holds (p ∷ ps) Fail run lt all bounded =
      let e = Visit P (suc d) p run in
      choice-bounded k h C N d holds ps e.0 e.1 (omega (arith, Visit-left P (suc d) p run)) all.1 (h (also C d) N (suc d) p run lt (holds-deeper N d (suc d) (omega arith) holds) all.0)
  choice-bounded k h C N d holds [] Fail run lt all bounded = stop-bounded C N d Fail bounded
  choice-bounded k h C N d holds ps r run lt all bounded = stop-bounded C N d r bounded

  returned-bounded : (k : ℕ) → Claim k → (C N : Levels) (d : ℕ) → Holds N d → (b : Return) (run : Supply) → left run < k →
      ReturnAllows C N d b → Bounded C N (returned (Visit P) d b run).0
  unfolding Claim ReturnAllows PlacesAllow
  returned-bounded k h C N d holds (Keep r w) run lt all = all
  returned-bounded k h C N d holds (Again p w) run lt all = h C N d p (record run { local = w }) lt holds all
  returned-bounded k h C N d holds (Anew p w) run lt all =
      let run' : Supply = record run { local = w } in
      let e = Visit P (suc d) p run' in
      choice-bounded k h C N d holds [] e.0 e.1 (omega (arith, Visit-left P (suc d) p run')) (none (also C d)) (h (also C d) N (suc d) p run' lt (holds-deeper N d (suc d) (omega arith) holds) all)
    where
      none : (D : Levels) → PlacesAllow D N []
      none D = tt

  out-bounded : (k : ℕ) → Claim k → (C N : Levels) (d : ℕ) → Holds N d → (c : Case) (e : Ended) → left e.1 < k →
      CaseAllows C N d c → Bounded (inside C d c) N e.0 → Bounded C N (out (Visit P) d c e).0
  unfolding out CaseAllows
  out-bounded k h C N d holds (Choice ps) e lt all bounded = choice-bounded k h C N d holds ps e.0 e.1 lt all bounded
  out-bounded k h C N d holds (Mark l) e lt all bounded = mark-bounded C N l e.0 all bounded
  out-bounded k h C N d holds (Handle x p) e lt all bounded = returned-bounded k h C N d holds (resume x p d e.0 e.1.local) e.1 lt (resume-allowed C N d x p e.0 e.1.local all bounded)

  outs-bounded : (k : ℕ) → Claim k → (C N : Levels) (d : ℕ) → Holds N d → (cs : List Case) (e : Ended) → left e.1 < k →
      CasesAllow C N d cs → Bounded (within C d cs) N e.0 → Bounded C N (outs (Visit P) d cs e).0
  unfolding outs CasesAllow
  outs-bounded k h C N d holds [] e lt all bounded = bounded
  outs-bounded k h C N d holds (c ∷ cs) e lt all bounded =
      outs-bounded k h C N d holds cs (out (Visit P) (deeper cs d) c e) (omega (arith, out-left P [] (deeper cs d) c e)) all.1
      (out-bounded k h (within C d cs) N (deeper cs d) (holds-deeper N d (deeper cs d) (deeper-above cs d) holds) c e lt all.0 bounded)

  moved-bounded : (k : ℕ) → Claim k → (C N : Levels) (d : ℕ) → Holds N d → (m : Move) (run : Supply) → left run < k → MoveAllows C N d m → Bounded C N (moved (Visit P) d m run).0
  unfolding moved Claim MoveAllows
  moved-bounded k h C N d holds (Give r w) run lt all = all
  moved-bounded k h C N d holds (Go cs p w) run lt all =
      let run' : Supply = record run { local = w } in
      outs-bounded k h C N d holds cs (Visit P (deeper cs d) p run') (omega (arith, Visit-left P (deeper cs d) p run')) all.0
      (h (within C d cs) N (deeper cs d) p run' lt (holds-deeper N d (deeper cs d) (deeper-above cs d) holds) all.1)

  stepped-bounded : (k : ℕ) → Claim k → (C N : Levels) (d : ℕ) → Holds N d → (row : Local → Move) → ((w : Local) → MoveAllows C N d (row w)) →
      (run : Supply) (n : ℕ) → n + length run.answers ≤ k → Bounded C N (stepped (Visit P) row d (record run { steps = n }) n).0
  unfolding Bounded
  stepped-bounded k h C N d holds row all run zero le = tt
  stepped-bounded k h C N d holds row all run (suc n) le = moved-bounded k h C N d holds (row run.local) (record run { steps = n }) (omega (arith, le)) (all run.local)

  asks-bounded : (k : ℕ) → Claim k → (C N : Levels) (d : ℕ) → Holds N d → (e : Element) (es : List Element) (n : ℕ) → AllAllow C N es →
      (q : Item) (run : Supply) (xs : List Answer) → run.steps + length xs ≤ k → Bounded C N (asks (Visit P) e es n q d (record run { answers = xs }) xs).0
  unfolding Bounded
  asks-bounded k h C N d holds e es n all q run [] le = tt
  asks-bounded k h C N d holds e es n all q run (a ∷ xs) le =
      moved-bounded k h C N d holds (answered e a d es n run.local) (record run { answers = xs; below = founded e a run.below }) (omega (arith, le)) (answered-allowed C N d holds e a es n run.local all)

  erasing-bounded : (k : ℕ) → Claim k → (C N : Levels) (d : ℕ) → Holds N d → (x : ClauseName) (es : List Element) (n : ℕ) → AllAllow C N es →
      (run : Supply) → left run ≤ k → ((w : Local) → Bounded C N (walk P (Visit P) es n d (record run { local = w })).0) →
      Bounded C N (met P (Visit P) (walk P (Visit P) es n) (Asking (Question.Erase x)) es n d run (erasing x run.local)).0
  unfolding Bounded
  erasing-bounded k h C N d holds x es n all run le on = go (not (any_open run.local.own)) (erased_in (target_at run.local.own.base x) run.local.own.updates)
    where
      go : (b c : Bool) → Bounded C N (met P (Visit P) (walk P (Visit P) es n) (Asking (Question.Erase x)) es n d run
          (if b then Asks (Ask (EraseOne x)) else (if c then End Fail run.local else Pass (record run.local { own = made (Erase x) run.local.own })))).0
      go true c = asks-bounded k h C N d holds (Asking (Question.Erase x)) es n all (Ask (EraseOne x)) run run.answers le
      go false true = tt
      go false false = on (record run.local { own = made (Erase x) run.local.own })

  publishes-bounded : (k : ℕ) → Claim k → (C N : Levels) (d : ℕ) → Holds N d → (es : List Element) (n : ℕ) → AllAllow C N es → (run : Supply) → left run ≤ k →
      Bounded C N (walk P (Visit P) es n d run).0 → (us : List Update) → Bounded C N (publishes (Visit P) (walk P (Visit P) es n) es n us d run).0
  publishes-bounded k h C N d holds es n all run le on [] = on
  publishes-bounded k h C N d holds es n all run le on (u ∷ us) = asks-bounded k h C N d holds (Asking (Await (Publish (u ∷ us)) GoesOn)) es n all (Ask (Publish (u ∷ us))) run run.answers le

  -- what is behind a marker is visited one level further in
  mark-out : (C N : Levels) (d l : ℕ) (e : Ended) → C l ≡ true → Bounded C N e.0 → Bounded C N (out (Visit P) d (Mark l) e).0
  unfolding out
  mark-out C N d l e is bounded = mark-bounded C N l e.0 is bounded

  walk-bounded : (k : ℕ) → Claim k → (C N : Levels) (es : List Element) (n d : ℕ) → Holds N d → (run : Supply) → left run ≤ k → AllAllow C N es → Bounded C N (walk P (Visit P) es n d run).0
  unfolding walk meet AllAllow Allows GivesUp Bounded
  walk-bounded k h C N [] n d holds run le all = tt
  walk-bounded k h C N (Goal j t ∷ es) n d holds run le all = stepped-bounded k h C N d holds (select P run.below j t d es n) (λ w. select-allowed C N d holds P run.below j t es n w all.0 all.1) run run.steps le
  walk-bounded k h C N (Marker Commit l ∷ es) n d holds run le all = mark-out C N d l (walk P (Visit P) es n (suc d) run) all.0.0 (walk-bounded k h C N es n (suc d) (holds-deeper N d (suc d) (omega arith) holds) run le all.1)
  walk-bounded k h C N (Marker Never l ∷ es) n d holds run le all = all.0.0
  walk-bounded k h C N (Marker Until l ∷ es) n d holds run le all = walk-bounded k h C N es n d holds run le all.1
  walk-bounded k h C N (Marker (Collect t) l ∷ es) n d holds run le all = tt
  walk-bounded k h C N (Marker (Transact c) l ∷ es) n d holds run le all =
      let w : Local = record run.local { own = ended true run.local.own } in
      let further : Holds N (suc d) = holds-deeper N d (suc d) (omega arith) holds in
      mark-out C N d c (publishes (Visit P) (walk P (Visit P) es n) es n (published (ending true run.local.own)) (suc d) (record run { local = w })) all.0.0
      (publishes-bounded k h C N (suc d) further es n all.1 (record run { local = w }) le (walk-bounded k h C N es n (suc d) further (record run { local = w }) le all.1) (published (ending true run.local.own)))
  walk-bounded k h C N (Raise b ∷ es) n d holds run le all = levels-in C N es all.1
  walk-bounded k h C N (Asking (Question.Erase x) ∷ es) n d holds run le all =
      erasing-bounded k h C N d holds x es n all.1 run le (λ w. walk-bounded k h C N es n d holds (record run { local = w }) le all.1)
  walk-bounded k h C N (Asking q ∷ es) n d holds run le all = asks-bounded k h C N d holds (Asking q) es n all.1 (asked q) run run.answers le

  claims : (k : ℕ) → Claim k
  unfolding Claim
  claims zero C N d p run lt holds all = absurd (omega arith)
  claims (suc k) C N d p run lt holds all =
      subst (λ e. Bounded C N e.0) (sym (Visit-walk P d p run)) (walk-bounded k (claims k) C N p.goals p.variables d holds run (omega arith) all)

  pub visit-bounded : (C N : Levels) (d : ℕ) (p : Resolvent) (run : Supply) → Holds N d → AllAllow C N p.goals → Bounded C N (Visit P d p run).0
  unfolding Claim
  visit-bounded C N d p run holds all = claims (suc (left run)) C N d p run (omega arith) holds all
