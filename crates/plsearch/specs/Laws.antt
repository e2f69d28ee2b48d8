-- The laws of the search and of its machine.
use Rattle.std.specs.Prelude.{◌≡◌, ℕ, suc, List, [], ◌∷◌, ◌++◌, find, Some}
use Rattle.plterm.specs.Tree.{Tree}
use Rattle.plevent.specs.Search.{Answer, Finishes}
use Rattle.plevent.specs.declared.request.ThreadEnd.{ThreadEnd}
use Rattle.plevent.specs.declared.act.Entry.{Entry}
use Rattle.plevent.specs.declared.standing.Thread.{Thread}
use Rattle.plevent.specs.Reading.{reading, is_thread}
use Rattle.plprogram.specs.Program.{Program}
use Rattle.plsearch.specs.Types.{Result, Resolvent, Case, Choice, Mark, Handle, Catch, Supply}
use Rattle.plsearch.specs.Engine.{walk, deeper, Visit}
use Rattle.plsearch.specs.Machines.Machine.{Machine, At, Back, Rest, turn}
use Rattle.plsearch.specs.Machines.Levels.{AreAtMost, emptied}
use Rattle.plsearch.specs.Machines.Weight.{Lighter}
use Rattle.plsearch.specs.Search.{Start, main_start, search_of}
use Rattle.plsearch.specs.Starts.{start_by, start_in}
use Rattle.plsearch.specs.Halts.{HaltsNoSooner, HaltsWhenDone}

-- a list is visited by one walk, and what comes behind a step or an answer by the search again
abbrev pub VisitsByWalks : Type 0
VisitsByWalks = (P : Program) (d : ℕ) (p : Resolvent) (run : Supply) → Visit P d p run ≡ walk P (Visit P) p.goals p.variables d run

-- each turn of the machine keeps the rest of the search
abbrev pub TurnsKeepRest : Type 0
TurnsKeepRest = (P : Program) (m : Machine) → Rest P m ≡ Rest P (turn P m)

-- a turn before the end takes a step or an answer, or makes the machine lighter
abbrev pub TurnsEnd : Type 0
TurnsEnd = (P : Program) (m : Machine) → ((r : Result) → m.mode ≡ Back r → m.cases ≡ [] → ⊥) → Lighter m (turn P m)

-- a search that has ended ignores further answers
abbrev pub EndsIgnoreAnswers : Type 0
EndsIgnoreAnswers = (P : Program) (s : Start) (limit n : ℕ) (answers further : List Answer) (e : ThreadEnd) →
    (search_of P s limit n answers).next ≡ Finishes e → search_of P s limit n (answers ++ further) ≡ search_of P s limit n answers

-- Where a list is visited behind a cut to the level k, and names no level above it, the choice at that level and all cases that
-- are open inside of it may be emptied: nothing of them is tried or caught any more.
abbrev pub CutsEmpty : Type 0
CutsEmpty = (P : Program) (k : ℕ) (cs below : List Case) (ps : List Resolvent) (p : Resolvent) (run : Supply) → deeper below 0 ≡ k → AreAtMost k p.goals →
    Rest P (record { mode = At p; cases = Mark k ∷ (cs ++ Choice ps ∷ below); run = run }) ≡ Rest P (record { mode = At p; cases = emptied (Mark k ∷ cs) (Choice [] ∷ below); run = run })

-- Where a list is visited in a catcher with nothing left inside of it, and names no level from that of the catcher on, the catcher is
-- as good as a choice with nothing left: no ball that the list throws is for it.
abbrev pub CatchersEmpty : Type 0
CatchersEmpty = (P : Program) (k : ℕ) (c r : Tree) (q : Resolvent) (cs below : List Case) (p : Resolvent) (run : Supply) → deeper below 0 ≡ suc k → AreAtMost k p.goals →
    Rest P (record { mode = At p; cases = emptied cs (Handle (Catch c r) q ∷ below); run = run }) ≡ Rest P (record { mode = At p; cases = emptied cs (Choice [] ∷ below); run = run })

-- The search ends the run where it has asked for that and is told that it is done, and in no other way.
abbrev pub EndsRunWhenDone : Type 0
EndsRunWhenDone = (P : Program) (s : Start) (limit : ℕ) → HaltsWhenDone (search_of P s limit) × HaltsNoSooner (search_of P s limit)

-- where a thread starts is settled once it is created, whatever entries come behind
abbrev pub StartsStay : Type 0
StartsStay = (P : Program) (h more : List Entry) (t : ℕ) (x : Thread) → find (is_thread t) (reading h).standing.threads ≡ Some x → start_in P (h ++ more) t ≡ start_by P x

-- and thread 1 is main in each journal
abbrev pub MainStarts : Type 0
MainStarts = (P : Program) (h : List Entry) → start_in P h 1 ≡ main_start P
