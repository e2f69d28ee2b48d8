-- How a search ends the run: once that is done, and no sooner.
use Rattle.std.proofs.Common.{◌≡◌, ℕ, zero, suc, ◌<◌, Bool, true, false, not, inl, inr, List, [], ◌∷◌, ◌++◌, min, refl, sym, ap, ◌∙◌, subst, arith, if◌then◌else◌}
use Rattle.plterm.specs.Tree.{Tree}
use Rattle.plevent.specs.declared.request.Request.{Request}
use Rattle.plevent.specs.declared.request.Reply.{Reply}
use Rattle.plevent.specs.declared.request.ThreadEnd.{ThreadEnd}
use Rattle.plevent.specs.declared.update.ClauseName.{ClauseName}
use Rattle.plevent.specs.declared.update.Update.TheVariants.{Erase}
use Rattle.plevent.specs.Alive.{Stamped}
use Rattle.plevent.specs.Search.{Item, View, Ask, Answer, Got, Wants, Finishes}
use Rattle.pltx.specs.Own.{any_open, ending, erased_in, made, target_at}
use Rattle.plprogram.specs.Program.{Program}
use Rattle.plsearch.specs.Types.{Result, Stop, Fail, CutTo, Throw, Halted, Spent, Awaits, Stopped, Unfit, Commit, Never, Until, Collect, Transact, Then, GoesOn, Ends, Question, Look, Begin, Await, Element, Goal, Marker, Raise, Asking, Resolvent, Case, Choice, Mark, Handle, Catch, Gather, Undo, Return, Keep, Again, Anew, Local, Move, Give, Go, Meeting, Asks, End, Pass, Supply}
use Rattle.plsearch.specs.Rows.{asked, erasing, published, select, meet}
use Rattle.plsearch.specs.Replies.{answered, founded}
use Rattle.plsearch.specs.Handlers.{resume}
use Rattle.plsearch.specs.Engine.{choice, out, deeper, outs, Visit, left}
use Rattle.plsearch.specs.Machines.Machine.{Mode, At, Back, Machine, Rest, move, step, ask, meets, visits, backs, turn_in, turn}
use Rattle.plsearch.specs.Machines.Machine as machines
use Rattle.plsearch.specs.Machines.Weight.{weight, Lighter}
use Rattle.plsearch.specs.Search.{Start, start_from, start_of, from_start, next_of, search_of}
use Rattle.plsearch.proofs.Turns.{Rest-turn}
use Rattle.plsearch.proofs.Weight.{lighter-turn}
use Rattle.plsearch.specs.Halts.{IsCommon, AreCommon, HaltsNoSooner, HaltsWhenDone}
use Rattle.plsearch.proofs.HaltingRows.{AreProper, IsProper, AllProper, AreProperCases, IsOther, MoveFits, ReturnFits, answered-fits, cut-other, mark-other, publishing-proper, resume-fits, select-fits}
use Rattle.plsearch.specs.Laws.{EndsRunWhenDone}

-- a machine that carries no end of the run, and has no answer that would make it one
abbrev ModeFits : Mode → Type 0
ModeFits (At p) = AreProper p.goals
ModeFits (Back r) = IsOther r

record Fits (m : Machine) : Type 0 where
  mode : ModeFits m.mode
  cases : AreProperCases m.cases
  answers : AreCommon m.run.answers

proper_append : (cs cases : List Case) → AreProperCases cs → AreProperCases cases → AreProperCases (cs ++ cases)
proper_append [] cases p q = q
proper_append (c ∷ cs) cases p q = (p.0, proper_append cs cases p.1 q)

move_fits : (cases : List Case) (run : Supply) (m : Move) → AreProperCases cases → AreCommon run.answers → MoveFits m → Fits (move cases run m)
move_fits cases run (Give r w) proper answers fits = record { mode = fits; cases = proper; answers = answers }
move_fits cases run (Go cs p w) proper answers fits = record { mode = fits.1; cases = proper_append cs cases fits.0 proper; answers = answers }

-- what asks passes all open cases, and so does the end of the run
outs_asking : (P : Program) (d : ℕ) (cs : List Case) (q : Item) (run : Supply) → outs (Visit P) d cs (Awaits q, run) ≡ (Awaits q, run)
unfolding outs out choice resume
outs_asking P d [] q run = refl
outs_asking P d (Choice [] ∷ cs) q run = outs_asking P d cs q run
outs_asking P d (Choice (p ∷ ps) ∷ cs) q run = outs_asking P d cs q run
outs_asking P d (Mark l ∷ cs) q run = outs_asking P d cs q run
outs_asking P d (Handle (Catch c r) p ∷ cs) q run = outs_asking P d cs q run
outs_asking P d (Handle (Gather l) p ∷ cs) q run = outs_asking P d cs q run
outs_asking P d (Handle Undo p ∷ cs) q run = outs_asking P d cs q run

outs_halted : (P : Program) (d : ℕ) (cs : List Case) (i : ℕ) (run : Supply) → outs (Visit P) d cs (Halted i, run) ≡ (Halted i, run)
unfolding outs out choice resume
outs_halted P d [] i run = refl
outs_halted P d (Choice [] ∷ cs) i run = outs_halted P d cs i run
outs_halted P d (Choice (p ∷ ps) ∷ cs) i run = outs_halted P d cs i run
outs_halted P d (Mark l ∷ cs) i run = outs_halted P d cs i run
outs_halted P d (Handle (Catch c r) p ∷ cs) i run = outs_halted P d cs i run
outs_halted P d (Handle (Gather l) p ∷ cs) i run = outs_halted P d cs i run
outs_halted P d (Handle Undo p ∷ cs) i run = outs_halted P d cs i run

at_no_back : (p : Resolvent) (r : Result) → At p ≡ Back r → ⊥
at_no_back p r is = cc

some_case : (c : Case) (cs : List Case) → c ∷ cs ≡ [] → ⊥
some_case c cs is = cc

-- turns come to an end: what holds where a machine is over, and wherever it holds after a turn, holds of each machine
module _ (P : Program) (C : Machine → Type 0) (over : (m : Machine) (r : Result) → m.mode ≡ Back r → m.cases ≡ [] → C m) (ahead : (m : Machine) → C (turn P m) → C m) where
  lighter_first : (k w : ℕ) (m : Machine) → ((n : Machine) → left n.run < k → C n) → ((n : Machine) → left n.run < suc k → weight n < w → C n) → left m.run < suc k → weight m < suc w → C m
  lighter_first k w m fewer lighter lt lw = go m.mode m.cases refl refl
    where
      further : ((r : Result) → m.mode ≡ Back r → m.cases ≡ [] → ⊥) → C m
      further goes = ahead m (after (lighter-turn P m goes))
        where
          after : Lighter m (turn P m) → C (turn P m)
          after (inl less) = fewer (turn P m) (omega (arith, less, lt))
          after (inr same) = lighter (turn P m) (omega (arith, same.0, lt)) (omega (arith, same.1, lw))

      go : (mode : Mode) (cases : List Case) → m.mode ≡ mode → m.cases ≡ cases → C m
      go (At p) cases mode_is cases_are = further (λ r at none. at_no_back p r (sym mode_is ∙ at))
      go (Back r) [] mode_is cases_are = over m r mode_is cases_are
      go (Back r) (c ∷ cs) mode_is cases_are = further (λ x at none. some_case c cs (sym cases_are ∙ none))

  by_weight : (k w : ℕ) → ((n : Machine) → left n.run < k → C n) → (m : Machine) → left m.run < suc k → weight m < w → C m
  by_weight k zero fewer m lt lw = absurd (omega arith)
  by_weight k (suc w) fewer m lt lw = lighter_first k w m fewer (by_weight k w fewer) lt lw

  by_left : (k : ℕ) (m : Machine) → left m.run < k → C m
  by_left zero m lt = absurd (omega arith)
  by_left (suc k) m lt = by_weight k (suc (weight m)) (by_left k) m lt (omega arith)

  by_turns : (m : Machine) → C m
  by_turns m = by_left (suc (left m.run)) m (omega arith)

same_item : (q i : Item) → Awaits q ≡ Awaits i → q ≡ i
same_item q i is = cc

no_view : (i : ℕ) → View ≡ Ask (Request.HaltRun i) → ⊥
no_view i is = cc

no_erasure : (x : ClauseName) (i : ℕ) → Ask (Request.EraseOne x) ≡ Ask (Request.HaltRun i) → ⊥
no_erasure x i is = cc

-- a reply founds nothing
founded_got : (e : Element) (r : Reply) (below : List Stamped) → founded e (Got r) below ≡ below
founded_got (Goal k t) r below = refl
founded_got (Marker m l) r below = refl
founded_got (Raise b) r below = refl
founded_got (Asking (Look u)) r below = refl
founded_got (Asking (Begin i g)) r below = refl
founded_got (Asking (Await q next)) r below = refl
founded_got (Asking (Question.Erase x)) r below = refl

same_request : (q : Request) (i : ℕ) → Ask q ≡ Ask (Request.HaltRun i) → q ≡ Request.HaltRun i
same_request q i is = cc

module _ (P : Program) where
  -- with Done behind the answers
  abbrev done : Supply → Supply
  done run = record run { answers = run.answers ++ Got Reply.Done ∷ [] }

  abbrev with_done : Machine → Machine
  with_done m = record { mode = m.mode; cases = m.cases; run = done m.run }

  -- a turn does not see a further answer, unless it asks for one; and where it asks to end the run, that has ended then
  data Turned (cases : List Case) (run : Supply) (new more : Machine) : Type 0 where
    Goes : more ≡ with_done new → Fits new → Turned cases run new more
    Waits : (q : Item) → new ≡ record { mode = Back (Awaits q); cases = cases; run = run } →
        ((i : ℕ) → q ≡ Ask (Request.HaltRun i) → more ≡ record { mode = Back (Halted i); cases = cases; run = record run { answers = [] } }) → Turned cases run new more

  move_done : (cases : List Case) (run : Supply) (m : Move) → move cases (done run) m ≡ with_done (move cases run m)
  move_done cases run (Give r w) = refl
  move_done cases run (Go cs p w) = refl

  step_turned : (cases : List Case) (row : Local → Move) (run : Supply) (n : ℕ) → AreProperCases cases → AreCommon run.answers → MoveFits (row run.local) → Turned cases run (step cases row run n) (step cases row (done run) n)
  step_turned cases row run zero proper common fits = Goes refl (record { mode = tt; cases = proper; answers = common })
  step_turned cases row run (suc n) proper common fits =
      Goes (move_done cases (record run { steps = n }) (row run.local)) (move_fits cases (record run { steps = n }) (row run.local) proper common fits)

  ask_turned : (cases : List Case) (e : Element) (es : List Element) (n : ℕ) (q : Item) (run : Supply) (xs : List Answer) → AreProperCases cases → AreCommon xs →
      ((a : Answer) → IsCommon a → MoveFits (answered e a (deeper cases 0) es n run.local)) →
      ((i : ℕ) → q ≡ Ask (Request.HaltRun i) → answered e (Got Reply.Done) (deeper cases 0) es n run.local ≡ Give (Halted i) run.local) →
      Turned cases run (ask cases e es n q run xs) (ask cases e es n q (done run) (xs ++ Got Reply.Done ∷ []))
  ask_turned cases e es n q run [] proper common fits halts =
      Waits q refl
      (λ i is. ap (λ us. move cases (record run { answers = []; below = us }) (answered e (Got Reply.Done) (deeper cases 0) es n run.local)) (founded_got e Reply.Done run.below)
      ∙ ap (move cases (record run { answers = [] })) (halts i is))
  ask_turned cases e es n q run (a ∷ xs) proper common fits halts =
      let after : Supply = record run { answers = xs; below = founded e a run.below } in
      Goes (move_done cases after (answered e a (deeper cases 0) es n run.local)) (move_fits cases after (answered e a (deeper cases 0) es n run.local) proper common.1 (fits a common.0))

  -- Done to the request to end the run
  halted_by : (next : Then) (i d : ℕ) (es : List Element) (n : ℕ) (w : Local) → IsProper (Asking (Await (Request.HaltRun i) next)) → answered (Asking (Await (Request.HaltRun i) next)) (Got Reply.Done) d es n w ≡ Give (Halted i) w
  unfolding answered
  halted_by GoesOn i d es n w never = absurd never
  halted_by (Ends k) i d es n w same = ap (λ k. Give (Halted k) w) same

  halting_item : (q : Question) (i d : ℕ) (es : List Element) (n : ℕ) (w : Local) → IsProper (Asking q) → asked q ≡ Ask (Request.HaltRun i) → answered (Asking q) (Got Reply.Done) d es n w ≡ Give (Halted i) w
  halting_item (Look u) i d es n w proper is = absurd (no_view i is)
  halting_item (Begin k g) i d es n w proper is = absurd (no_view i is)
  halting_item (Await q next) i d es n w proper is =
      let same : q ≡ Request.HaltRun i = same_request q i is in
      ap (λ q. answered (Asking (Await q next)) (Got Reply.Done) d es n w) same ∙ halted_by next i d es n w (subst (λ q. IsProper (Asking (Await q next))) same proper)
  halting_item (Question.Erase x) i d es n w proper is = absurd (no_erasure x i is)

  asking_turned : (cases : List Case) (q : Question) (es : List Element) (n : ℕ) (run : Supply) → IsProper (Asking q) → AreProper es → AreProperCases cases → AreCommon run.answers →
      Turned cases run (ask cases (Asking q) es n (asked q) run run.answers) (ask cases (Asking q) es n (asked q) (done run) (run.answers ++ Got Reply.Done ∷ []))
  asking_turned cases q es n run may proper fine common =
      ask_turned cases (Asking q) es n (asked q) run run.answers fine common
      (λ a is. answered-fits (Asking q) a (deeper cases 0) es n run.local may is proper) (λ i is. halting_item q i (deeper cases 0) es n run.local may is)

  -- a clause is erased by a request, or of what is open
  erasing_turned : (cases : List Case) (x : ClauseName) (es : List Element) (n : ℕ) (run : Supply) → AreProper es → AreProperCases cases → AreCommon run.answers →
      Turned cases run (meets P cases (Asking (Question.Erase x)) es n run (erasing x run.local)) (meets P cases (Asking (Question.Erase x)) es n (done run) (erasing x run.local))
  erasing_turned cases x es n run proper fine common = go (not (any_open run.local.own)) (erased_in (target_at run.local.own.base x) run.local.own.updates)
    where
      meeting : Bool → Bool → Meeting
      meeting asks gone = if asks then Asks (Ask (Request.EraseOne x)) else if gone then End Fail run.local else Pass (record run.local { own = made (Erase x) run.local.own })

      go : (asks gone : Bool) → Turned cases run (meets P cases (Asking (Question.Erase x)) es n run (meeting asks gone)) (meets P cases (Asking (Question.Erase x)) es n (done run) (meeting asks gone))
      go true gone = asking_turned cases (Question.Erase x) es n run tt proper fine common
      go false true = Goes refl (record { mode = tt; cases = fine; answers = common })
      go false false = Goes refl (record { mode = proper; cases = fine; answers = common })

  visit_turned : (cases : List Case) (es : List Element) (n : ℕ) (run : Supply) → AreProper es → AreProperCases cases → AreCommon run.answers → Turned cases run (visits P cases es n run) (visits P cases es n (done run))
  unfolding meet
  visit_turned cases [] n run r proper common = Goes refl (record { mode = tt; cases = proper; answers = common })
  visit_turned cases (Goal k t ∷ es) n run r proper common =
      step_turned cases (select P run.below k t (deeper cases 0) es n) run run.steps proper common (select-fits P run.below k t (deeper cases 0) es n run.local r.1)
  visit_turned cases (Marker Commit l ∷ es) n run r proper common = Goes refl (record { mode = r.1; cases = (tt, proper); answers = common })
  visit_turned cases (Marker Never l ∷ es) n run r proper common = Goes refl (record { mode = tt; cases = proper; answers = common })
  visit_turned cases (Marker Until l ∷ es) n run r proper common = Goes refl (record { mode = r.1; cases = proper; answers = common })
  visit_turned cases (Marker (Collect t) l ∷ es) n run r proper common = Goes refl (record { mode = tt; cases = proper; answers = common })
  visit_turned cases (Marker (Transact d) l ∷ es) n run r proper common =
      Goes refl (record { mode = publishing-proper (published (ending true run.local.own)) es r.1; cases = (tt, proper); answers = common })
  visit_turned cases (Raise b ∷ es) n run r proper common = Goes refl (record { mode = tt; cases = proper; answers = common })
  visit_turned cases (Asking (Question.Erase x) ∷ es) n run r proper common = erasing_turned cases x es n run r.1 proper common
  visit_turned cases (Asking q ∷ es) n run r proper common = asking_turned cases q es n run r.0 r.1 proper common

  choose_turned : (cases : List Case) (run : Supply) (ps : List Resolvent) (r : Result) → AllProper ps → IsOther r → AreProperCases cases → AreCommon run.answers →
      Turned (Choice ps ∷ cases) run (machines.choose cases run ps r) (machines.choose cases (done run) ps r)
  choose_turned cases run (p ∷ ps) Fail all other proper common = Goes refl (record { mode = all.0; cases = (all.1, proper); answers = common })
  choose_turned cases run [] r all other proper common = Goes refl (record { mode = cut-other (deeper cases 0) r other; cases = proper; answers = common })
  choose_turned cases run (p ∷ ps) r all other proper common = Goes refl (record { mode = cut-other (deeper cases 0) r other; cases = proper; answers = common })

  return_turned : (cases all : List Case) (run : Supply) (b : Return) → ReturnFits b → AreProperCases cases → AreCommon run.answers →
      Turned all run (machines.return cases run b) (machines.return cases (done run) b)
  return_turned cases all run (Keep x w) fits proper common = Goes refl (record { mode = fits; cases = proper; answers = common })
  return_turned cases all run (Again p w) fits proper common = Goes refl (record { mode = fits; cases = proper; answers = common })
  return_turned cases all run (Anew p w) fits proper common = Goes refl (record { mode = fits; cases = (tt, proper); answers = common })

  back_turned : (cases : List Case) (r : Result) (run : Supply) → IsOther r → AreProperCases cases → AreCommon run.answers → Turned cases run (backs r run cases) (backs r (done run) cases)
  back_turned [] r run other proper common = Goes refl (record { mode = other; cases = proper; answers = common })
  back_turned (Choice ps ∷ cases) r run other proper common = choose_turned cases run ps r proper.0 other proper.1 common
  back_turned (Mark l ∷ cases) r run other proper common = Goes refl (record { mode = mark-other l r other; cases = proper.1; answers = common })
  back_turned (Handle h p ∷ cases) r run other proper common =
      return_turned cases (Handle h p ∷ cases) run (resume h p (deeper cases 0) r run.local) (resume-fits h p (deeper cases 0) r run.local proper.0 other) proper.1 common

  turned : (m : Machine) → Fits m → Turned m.cases m.run (turn P m) (turn P (with_done m))
  unfolding turn
  turned m fits = go m.mode fits.mode
    where
      go : (mode : Mode) → ModeFits mode → Turned m.cases m.run (turn_in P m.cases m.run mode) (turn_in P m.cases (done m.run) mode)
      go (At p) proper = visit_turned m.cases p.goals p.variables m.run proper fits.cases fits.answers
      go (Back r) other = back_turned m.cases r m.run other fits.cases fits.answers

  -- how a machine ends: not by the end of the run; and where it asks for that, it has ended so once that is done
  record Comes (m : Machine) : Type 0 where
    no_sooner : (i : ℕ) → (Rest P m).0 ≡ Halted i → ⊥
    when_done : (i : ℕ) → (Rest P m).0 ≡ Awaits (Ask (Request.HaltRun i)) → (Rest P (with_done m)).0 ≡ Halted i

  Claim : Machine → Type 0
  Claim m = Fits m → Comes m

  Rest-over : (m : Machine) (r : Result) → m.mode ≡ Back r → m.cases ≡ [] → Rest P m ≡ (r, m.run)
  unfolding Rest outs
  Rest-over m r mode none = rw (mode, none) refl

  never_halted : (r : Result) (i : ℕ) → IsOther r → r ≡ Halted i → ⊥
  never_halted r i other is = subst IsOther is other

  never_asks : (r : Result) (q : Item) → IsOther r → r ≡ Awaits q → ⊥
  never_asks r q other is = subst IsOther is other

  comes_over : (m : Machine) (r : Result) → m.mode ≡ Back r → m.cases ≡ [] → Claim m
  unfolding Claim
  comes_over m r mode none fits =
      let other : IsOther r = subst ModeFits mode fits.mode in
      let here : (Rest P m).0 ≡ r = ap (λ e. e.0) (Rest-over m r mode none) in record {
        no_sooner = λ i is. never_halted r i other (sym here ∙ is);
        when_done = λ i is. absurd (never_asks r (Ask (Request.HaltRun i)) other (sym here ∙ is));
      }

  awaits_no_halt : (q : Item) (i : ℕ) → Awaits q ≡ Halted i → ⊥
  awaits_no_halt q i is = cc

  comes_ahead : (m : Machine) → Claim (turn P m) → Claim m
  unfolding Claim Rest
  comes_ahead m claim fits = go (turned m fits)
    where
      keeps : Rest P m ≡ Rest P (turn P m)
      keeps = Rest-turn P m

      go : Turned m.cases m.run (turn P m) (turn P (with_done m)) → Comes m
      go (Goes same fine) =
          let later = claim fine in record {
            no_sooner = λ i is. later.no_sooner i (sym (ap (λ e. e.0) keeps) ∙ is);
            when_done = λ i is. ap (λ e. e.0) (Rest-turn P (with_done m) ∙ ap (Rest P) same) ∙ later.when_done i (sym (ap (λ e. e.0) keeps) ∙ is);
          }
      go (Waits q new more) =
          let here : (Rest P m).0 ≡ Awaits q = ap (λ e. e.0) (keeps ∙ ap (Rest P) new ∙ outs_asking P 0 m.cases q m.run) in record {
            no_sooner = λ i is. awaits_no_halt q i (sym here ∙ is);
            when_done = λ i is.
                ap (λ e. e.0) (Rest-turn P (with_done m) ∙ ap (Rest P) (more i (same_item q (Ask (Request.HaltRun i)) (sym here ∙ is))) ∙ outs_halted P 0 m.cases i (record m.run { answers = [] }));
          }

  comes : (m : Machine) → Claim m
  comes = by_turns P Claim comes_over comes_ahead

  visit_comes : (p : Resolvent) (run : Supply) → AreProper p.goals → AreCommon run.answers → Comes (record { mode = At p; cases = Choice [] ∷ []; run = run })
  unfolding Claim
  visit_comes p run proper common = comes (record { mode = At p; cases = Choice [] ∷ []; run = run }) (record { mode = proper; cases = (tt, tt); answers = common })

-- the goals at a start ask nothing
start_proper : (gs : List Tree) → AreProper (start_from gs).goals
unfolding start_from
start_proper [] = tt
start_proper (g ∷ gs) = (tt, start_proper gs)

next_halted : (r : Result) (i : ℕ) → next_of r ≡ Finishes (ThreadEnd.Halt i) → r ≡ Halted i
next_halted (Halted n) i is = cc
next_halted Stop i is = cc
next_halted Fail i is = cc
next_halted (CutTo l) i is = cc
next_halted (Throw b ls) i is = cc
next_halted Spent i is = cc
next_halted (Awaits q) i is = cc
next_halted Stopped i is = cc
next_halted Unfit i is = cc

next_asks : (r : Result) (q : Item) → next_of r ≡ Wants q → r ≡ Awaits q
next_asks (Awaits i) q is = cc
next_asks (Halted n) q is = cc
next_asks Stop q is = cc
next_asks Fail q is = cc
next_asks (CutTo l) q is = cc
next_asks (Throw b ls) q is = cc
next_asks Spent q is = cc
next_asks Stopped q is = cc
next_asks Unfit q is = cc

pub halts-no-sooner : (P : Program) (s : Start) (limit : ℕ) → HaltsNoSooner (search_of P s limit)
unfolding search_of start_of Rest outs out
halts-no-sooner P s limit n i answers common is =
    let from = from_start P s (min n limit) answers in
    (visit_comes P (start_of s) from (start_proper s.goals) common).no_sooner i (next_halted (out (Visit P) 0 (Choice []) (Visit P 1 (start_of s) from)).0 i is)

pub halts-when-done : (P : Program) (s : Start) (limit : ℕ) → HaltsWhenDone (search_of P s limit)
unfolding search_of start_of Rest outs out
halts-when-done P s limit n i answers common is =
    let from = from_start P s (min n limit) answers in
    ap next_of ((visit_comes P (start_of s) from (start_proper s.goals) common).when_done i (next_asks (out (Visit P) 0 (Choice []) (Visit P 1 (start_of s) from)).0 (Ask (Request.HaltRun i)) is))

pub laws : EndsRunWhenDone
laws P s limit = (halts-when-done P s limit, halts-no-sooner P s limit)
