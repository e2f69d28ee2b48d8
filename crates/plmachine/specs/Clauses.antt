-- The predicates on clauses.
use Rattle.std.specs.Prelude.{◌≡◌, ℕ, List, ◌++◌, Option, Some, None}
use Rattle.plterm.specs.Tree.{Tree}
use Rattle.plclause.specs.Clausal.{neck_parts}
use Rattle.plevent.specs.declared.update.ClauseName.{ClauseName}
use Rattle.plevent.specs.Search.{Answer}
use Rattle.plprogram.specs.Program.{Program}
use Rattle.plsearch.specs.Types.{Element}
use Rattle.plsearch.specs.Moves.{choose}
use Rattle.plcells.specs.declared.cell.Cell.{Cell}
use Rattle.plcells.specs.Store.{Store, IsValue, value}
use Rattle.plstack.specs.declared.frame.Use.{Use}
use Rattle.plstack.specs.declared.frame.Spot.{Spot}
use Rattle.plstack.specs.declared.walk.Entered.{Entered}
use Rattle.plstore.specs.Looking.{Views}
use Rattle.plstack.specs.Places.{candidates_left, left_at, viewed}
use Rattle.plstack.specs.State.{walks_in}
use Rattle.plstack.specs.StaticCalls.{database_of}
use Rattle.plmachine.specs.declared.walk.Neck.{Neck}
use Rattle.plmachine.specs.declared.machine.Machine.{Machine as Reached}
use Rattle.plmachine.specs.declared.machine.Outcome.TheVariants as outcomes
use Rattle.plmachine.specs.declared.machine.Mode.{Mode}
use Rattle.plmachine.specs.declared.machine.Mode.TheVariants as modes
use Rattle.plmachine.specs.declared.machine.Question.TheVariants as questions
use Rattle.plmachine.specs.Machine.{after, depth_of, local_of, now}

-- the values of a head and a body that stand in the term of a value
pub record IsNeck (h : Store) (c : Cell) (n : Neck) : Type 0 where
  pub is : neck_parts (value h c) ≡ Some (value h n.head, value h n.body)
  pub head : IsValue h n.head
  pub body : IsValue h n.body

-- what is next, where a candidate was resolved with
abbrev pub mode_by : Option ClauseName → Mode
mode_by None = modes.Visit
mode_by (Some x) = modes.Ask (questions.Erase x)

abbrev pub entered_mode : Entered → Mode
entered_mode e = mode_by e.erased

-- a walk of the goal t before a list stands at a spot: what is left of it is still to be tried
pub record Walks (P : Program) (old new : Reached) (t : Tree) (u : Use) (spot : Spot) (es : List Element) : Type 0 where
  pub basis : new.stack.basis ≡ old.stack.basis
  pub walks : (goal : Cell) × (walks_in new.stack ≡ viewed (record { goal = goal; uses = u; spot = spot }) spot ++ walks_in old.stack)
  pub frame : new ≡ record old { stack = new.stack; mode = modes.Back outcomes.Fail }
  pub ends : (v : Views) (most left : ℕ) (answers : List Answer) →
      after P v old most left answers (choose (candidates_left (depth_of old) old.stack.env t es (left_at (database_of P v old.layer.own.updates) u t spot)) (local_of old)) ≡ now P v new most left answers
