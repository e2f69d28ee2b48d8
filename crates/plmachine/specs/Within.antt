-- Where a transaction or a snapshot begins.
use Rattle.std.specs.Prelude.{◌≡◌, ℕ, List, [], ◌∷◌, Some}
use Rattle.std.specs.Bool.{⊤}
use Rattle.plterm.specs.Tree.{Tree}
use Rattle.plterm.specs.declared.indicator.Indicator.{Indicator}
use Rattle.plevent.specs.Search.{Answer}
use Rattle.plstore.specs.Looking.{Views}
use Rattle.plprogram.specs.Program.{Program}
use Rattle.plsearch.specs.Types.{Case, Choice, Element, Goal, Move, Raise}
use Rattle.plsearch.specs.Lists.{levels}
use Rattle.plsearch.specs.Moves.{first_of}
use Rattle.plsearch.specs.Running.{Runnable}
use Rattle.plsearch.specs.Machines.Machine.{Rest, move}
use Rattle.plsearch.specs.Search.{ending_of}
use Rattle.pllinks.specs.declared.link.Continuation.{Continuation}
use Rattle.plstack.specs.Levels.{kinds, AreNamed, FitsIn}
use Rattle.plstack.specs.Opening.{undo_of}
use Rattle.plstack.specs.State.{State, walks_in, IsFit, IsList}
use Rattle.plmachine.specs.declared.machine.Machine.{Machine as Reached}
use Rattle.plmachine.specs.declared.machine.Mode.TheVariants as modes
use Rattle.plmachine.specs.declared.machine.Outcome.TheVariants as outcomes
use Rattle.plmachine.specs.declared.within.Entry.{Entry}
use Rattle.plmachine.specs.declared.within.Entry.TheVariants as entries
use Rattle.plmachine.specs.Lists.{Holds}
use Rattle.plmachine.specs.Machine.{cases_in, now, run_in, IsPlain, IsTied, MayAsk, MayCarry}

-- it made a move on the view of a place, which was the answer to what it asked
pub record BeginsAt (P : Program) (old new : Reached) (g : ℕ) (m : Move) : Type 0 where
  pub code : new.stack.basis.code ≡ old.stack.basis.code
  pub latest : new.stack.basis.latest.place ≡ g
  pub place : new.layer.place ≡ Some g
  pub walks : walks_in new.stack ≡ walks_in old.stack
  pub plain : IsPlain new.mode
  pub tied : IsTied new
  pub askable : MayAsk new.layer.own new.stack new.mode
  pub carry : MayCarry new.stack new.mode
  pub ends : (v : Views) (most left : ℕ) (answers : List Answer) →
      ending_of most (Rest P (move (cases_in P v old) (record (run_in v left answers old) { below = v g }) m)) ≡ now P v new most left answers

-- what comes first in them, of a term that is run by p at the cut level k before a list: that list with its goal, or the ball of its error
abbrev pub IsEntry : State → Runnable → Indicator → ℕ → List Element → Entry → Type 0
IsEntry s r p k es (entries.Visits l) = (t : Tree) × (first_of r p k ≡ Goal k t) × Holds s l (Goal k t ∷ es)
IsEntry s r p k es (entries.Throws b ls) = (first_of r p k ≡ Raise b) × (ls.items ≡ levels es) × ((cs : List Case) → FitsIn (kinds cs) es → AreNamed ls.items cs)

-- a list that is visited there fits
abbrev pub IsEntryFit : State → Entry → Type 0
IsEntryFit s (entries.Visits l) = IsList s l × IsFit s l
IsEntryFit s (entries.Throws b ls) = ⊤

-- what comes first is next, in a stack
abbrev pub entered : Reached → State → Entry → Reached
entered s st (entries.Visits l) = record s { stack = record st { goals = l }; mode = modes.Visit }
entered s st (entries.Throws b ls) = record s { stack = st; mode = modes.Back (outcomes.Throw b ls) }
