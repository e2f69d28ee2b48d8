-- A machine that does one row at a time, over a stack of open cases.
use Rattle.std.specs.Prelude.{ℕ, zero, suc, List, [], ◌∷◌, ◌++◌}
use Rattle.plevent.specs.Search.{Item, Answer}
use Rattle.plprogram.specs.Program.{Program}
use Rattle.plsearch.specs.Types.{Result, Stop, Fail, Spent, Awaits, Element, Resolvent, Case, Choice, Mark, Handle, Local, Move, Give, Go, Meeting, Select, Asks, End, Pass, Marked, Return, Keep, Again, Anew, Supply}
use Rattle.plsearch.specs.Rows.{select, meet}
use Rattle.plsearch.specs.Moves.{publishing}
use Rattle.plsearch.specs.Replies.{answered, founded}
use Rattle.plsearch.specs.Handlers.{resume}
use Rattle.plsearch.specs.Engine.{Ended, stop_cut, mark, deeper, outs, Visit}

-- it visits a place, or carries a result outward
pub data Mode : Type 0 where
  At : Resolvent → Mode
  Back : Result → Mode

-- its open cases, the innermost first
pub record Machine : Type 0 where
  pub mode : Mode
  pub cases : List Case
  pub run : Supply

abbrev pub now_of : Program → Mode → ℕ → Supply → Ended
now_of P (At p) d run = Visit P d p run
now_of P (Back r) d run = (r, run)

-- what the machine stands for: the visit of its place, and what its open cases make of it
unfoldable pub Rest : Program → Machine → Ended
unfolding outs Visit
Rest P m = outs (Visit P) 0 m.cases (now_of P m.mode (deeper m.cases 0) m.run)

abbrev pub move : List Case → Supply → Move → Machine
move cases run (Give r w) = record { mode = Back r; cases = cases; run = record run { local = w } }
move cases run (Go cs p w) = record { mode = At p; cases = cs ++ cases; run = record run { local = w } }

abbrev pub step : List Case → (Local → Move) → Supply → ℕ → Machine
step cases row run zero = record { mode = Back Spent; cases = cases; run = run }
step cases row run (suc n) = move cases (record run { steps = n }) (row run.local)

abbrev pub ask : List Case → Element → List Element → ℕ → Item → Supply → List Answer → Machine
ask cases e es n q run [] = record { mode = Back (Awaits q); cases = cases; run = run }
ask cases e es n q run (a ∷ more) = move cases (record run { answers = more; below = founded e a run.below }) (answered e a (deeper cases 0) es n run.local)

abbrev pub meets : Program → List Case → Element → List Element → ℕ → Supply → Meeting → Machine
meets P cases e es n run (Select k t) = step cases (select P run.below k t (deeper cases 0) es n) run run.steps
meets P cases e es n run (Asks q) = ask cases e es n q run run.answers
meets P cases e es n run (End r w) = record { mode = Back r; cases = cases; run = record run { local = w } }
meets P cases e es n run (Pass w) = record { mode = At (record { goals = es; variables = n }); cases = cases; run = record run { local = w } }
meets P cases e es n run (Marked l us w) = record { mode = At (record { goals = publishing us es; variables = n }); cases = Mark l ∷ cases; run = record run { local = w } }

abbrev pub visits : Program → List Case → List Element → ℕ → Supply → Machine
visits P cases [] n run = record { mode = Back Stop; cases = cases; run = run }
visits P cases (e ∷ es) n run = meets P cases e es n run (meet e es run.local)

abbrev pub choose : List Case → Supply → List Resolvent → Result → Machine
choose cases run (p ∷ ps) Fail = record { mode = At p; cases = Choice ps ∷ cases; run = run }
choose cases run (p ∷ ps) r = record { mode = Back (stop_cut (deeper cases 0) r); cases = cases; run = run }
choose cases run [] r = record { mode = Back (stop_cut (deeper cases 0) r); cases = cases; run = run }

abbrev pub return : List Case → Supply → Return → Machine
return cases run (Keep r w) = record { mode = Back r; cases = cases; run = record run { local = w } }
return cases run (Again p w) = record { mode = At p; cases = cases; run = record run { local = w } }
return cases run (Anew p w) = record { mode = At p; cases = Choice [] ∷ cases; run = record run { local = w } }

abbrev pub backs : Result → Supply → List Case → Machine
backs r run [] = record { mode = Back r; cases = []; run = run }
backs r run (Choice ps ∷ cases) = choose cases run ps r
backs r run (Mark l ∷ cases) = record { mode = Back (mark l r); cases = cases; run = run }
backs r run (Handle h p ∷ cases) = return cases run (resume h p (deeper cases 0) r run.local)

-- one turn
abbrev pub turn_in : Program → List Case → Supply → Mode → Machine
turn_in P cases run (At p) = visits P cases p.goals p.variables run
turn_in P cases run (Back r) = backs r run cases

unfoldable pub turn : Program → Machine → Machine
turn P m = turn_in P m.cases m.run m.mode
