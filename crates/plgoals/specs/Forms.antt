-- What a goal is, by the values of its arguments.
use Rattle.std.specs.Prelude.{◌≡◌, ℕ, suc, ◌+◌, ◌<◌, ◌≤◌, ◌^◌, pos, List, [], ◌∷◌, length, map, codes}
use Rattle.std.specs.Bool.{⊤}
use Rattle.plterm.specs.Tree.{Tree, int, atom, compound, trees}
use Rattle.plterm.specs.declared.indicator.Indicator.{Indicator}
use Rattle.plsearch.specs.Forms.{Form, True, False, Both, Either, IfThenElse, Not, Once, Catching, FindAll, Within, Throwing, CallWith, Cut, Halting, Adding, Retrieving, Retracting, RetractingAll, Declaring, BuiltIn, Call, NoGoal}
use Rattle.plcells.specs.declared.cell.Cell.{Cell}
use Rattle.plcells.specs.Store.{Store, at, terms, value, IsHead, IsValue}
use Rattle.plcode.specs.declared.callee.Callee.{Callee}
use Rattle.plcode.specs.declared.callee.Callee.TheVariants as callees
use Rattle.plgoals.specs.declared.form.Form.{Form as Found}
use Rattle.plgoals.specs.declared.form.Form.TheVariants as found
use Rattle.plgoals.specs.declared.form.Procedure.{Procedure}
use Rattle.plgoals.specs.declared.form.Procedure.TheVariants as procedures

-- the first term as a goal with the others as its further arguments
abbrev pub call_with : List Tree → Form
call_with [] = NoGoal
call_with (g ∷ us) = CallWith g us

-- what a form over values stands for, with the procedure and the arguments of its goal
abbrev pub shown_form : Store → Indicator → List Cell → Found → Form
shown_form h p args found.True = True
shown_form h p args found.False = False
shown_form h p args (found.Both a b) = Both (value h a) (value h b)
shown_form h p args (found.Either a b) = Either (value h a) (value h b)
shown_form h p args (found.IfThen c a) = IfThenElse (value h c) (value h a) (atom (codes "fail"))
shown_form h p args (found.IfThenElse c a b) = IfThenElse (value h c) (value h a) (value h b)
shown_form h p args (found.Not a) = Not (value h a)
shown_form h p args (found.Once a) = Once (value h a)
shown_form h p args (found.Catching g c r) = Catching (value h g) (value h c) (value h r)
shown_form h p args (found.FindAll a g l) = FindAll (value h a) (value h g) (value h l)
shown_form h p args (found.Within i g) = Within i (value h g)
shown_form h p args (found.Throwing a) = Throwing (value h a)
shown_form h p args found.CallWith = call_with (map (value h) args)
shown_form h p args found.Cut = Cut
shown_form h p args found.Halt = Halting (int (pos 0))
shown_form h p args (found.HaltWith a) = Halting (value h a)
shown_form h p args (found.Adding side a) = Adding side (value h a)
shown_form h p args (found.Retrieving a b) = Retrieving (value h a) (value h b)
shown_form h p args (found.Retracting a) = Retracting (value h a)
shown_form h p args (found.RetractingAll a) = RetractingAll (value h a)
shown_form h p args (found.Declaring a) = Declaring (value h a)
shown_form h p args (found.BuiltIn b) = BuiltIn b (map (value h) args)
shown_form h p args (found.Call q) = Call p
shown_form h p args found.NoGoal = NoGoal

-- its values are values of the heap, and call/N has a goal
abbrev pub IsInside : Store → List Cell → Found → Type 0
IsInside h args found.True = ⊤
IsInside h args found.False = ⊤
IsInside h args (found.Both a b) = IsValue h a × IsValue h b
IsInside h args (found.Either a b) = IsValue h a × IsValue h b
IsInside h args (found.IfThen c a) = IsValue h c × IsValue h a
IsInside h args (found.IfThenElse c a b) = IsValue h c × IsValue h a × IsValue h b
IsInside h args (found.Not a) = IsValue h a
IsInside h args (found.Once a) = IsValue h a
IsInside h args (found.Catching g c r) = IsValue h g × IsValue h c × IsValue h r
IsInside h args (found.FindAll a g l) = IsValue h a × IsValue h g × IsValue h l
IsInside h args (found.Within i g) = IsValue h g
IsInside h args (found.Throwing a) = IsValue h a
IsInside h args found.CallWith = 0 < length args
IsInside h args found.Cut = ⊤
IsInside h args found.Halt = ⊤
IsInside h args (found.HaltWith a) = IsValue h a
IsInside h args (found.Adding side a) = IsValue h a
IsInside h args (found.Retrieving a b) = IsValue h a × IsValue h b
IsInside h args (found.Retracting a) = IsValue h a
IsInside h args (found.RetractingAll a) = IsValue h a
IsInside h args (found.Declaring a) = IsValue h a
IsInside h args (found.BuiltIn b) = ⊤
IsInside h args (found.Call q) = ⊤
IsInside h args found.NoGoal = ⊤

-- what is called where a procedure is
abbrev pub callee_of : Procedure → Callee
callee_of (procedures.Static i) = callees.Static i
callee_of procedures.Unknown = callees.Unknown

-- the block of a value's compound, which is of `->`/2
pub record IsArrow (h : Store) (v : Cell) (p : ℕ) : Type 0 where
  pub is : value h v ≡ compound (codes "->") (trees (terms h (suc p) 2))
  pub within : p + 2 < length h.cells
  pub plain : (d : ℕ) → p < d → d ≤ p + 2 → IsHead (at h.cells d) → ⊥
  pub few : length h.cells < 2 ^ 32
