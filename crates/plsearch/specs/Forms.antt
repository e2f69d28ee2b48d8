-- What a goal is (ISO/IEC 13211-1 7.7, 7.8): a control construct with its arguments, a built-in predicate, a call of a procedure, or none.
use Rattle.std.specs.Prelude.{pos, List, [], ◌∷◌, Option, Some, None, codes, bytes_eq, if◌then◌else◌}
use Rattle.plterm.specs.Tree.{Tree, var, int, atom, compound, none, more, list_of}
use Rattle.plterm.specs.declared.indicator.Indicator.{Indicator}
use Rattle.plclause.specs.Indicators.{indicator}
use Rattle.pltx.specs.declared.level.Isolation.{Isolation}
use Rattle.pltx.specs.declared.level.Isolation.TheVariants.{Transaction, Snapshot}
use Rattle.plnames.specs.Names.{kind_of}
use Rattle.plnames.specs.declared.kind.Kind.{Kind}
use Rattle.plnames.specs.declared.kind.Kind.TheVariants as kinds
use Rattle.plnames.specs.declared.kind.Side.{Side}
use Rattle.plnames.specs.declared.kind.Control.{Control}
use Rattle.plnames.specs.declared.kind.Control.TheVariants as controls
use Rattle.plnames.specs.declared.kind.BuiltIn.{BuiltIn as Predicate}

pub data Form : Type 0 where
  True : Form
  False : Form
  Both : Tree → Tree → Form
  Either : Tree → Tree → Form
  IfThenElse : Tree → Tree → Tree → Form
  Not : Tree → Form
  Once : Tree → Form
  Catching : Tree → Tree → Tree → Form
  FindAll : Tree → Tree → Tree → Form
  Within : Isolation → Tree → Form
  Throwing : Tree → Form
  CallWith : Tree → List Tree → Form
  Cut : Form
  Halting : Tree → Form
  Adding : Side → Tree → Form
  Retrieving : Tree → Tree → Form
  Retracting : Tree → Form
  RetractingAll : Tree → Form
  Declaring : Tree → Form
  BuiltIn : Predicate → List Tree → Form
  Call : Indicator → Form
  NoGoal : Form

-- `C->T;E` is one construct
abbrev pub either : Tree → Tree → Form
either (compound f (more c (more t none))) e = if bytes_eq f (codes "->") then IfThenElse c t e else Either (compound f (more c (more t none))) e
either t e = Either t e

-- a control construct with its arguments; `C->T` without an else is `C->T;fail`
abbrev pub construct : Control → List Tree → Form
construct controls.True [] = True
construct controls.Fail [] = False
construct controls.Cut [] = Cut
construct controls.And (a ∷ b ∷ []) = Both a b
construct controls.Or (a ∷ b ∷ []) = either a b
construct controls.IfThen (c ∷ a ∷ []) = IfThenElse c a (atom (codes "fail"))
construct controls.Not (g ∷ []) = Not g
construct controls.Once (g ∷ []) = Once g
construct controls.Call (g ∷ us) = CallWith g us
construct controls.Catch (g ∷ c ∷ r ∷ []) = Catching g c r
construct controls.FindAll (t ∷ g ∷ l ∷ []) = FindAll t g l
construct controls.Transaction (g ∷ []) = Within Transaction g
construct controls.Snapshot (g ∷ []) = Within Snapshot g
construct controls.Throw (b ∷ []) = Throwing b
construct (controls.Add side) (c ∷ []) = Adding side c
construct controls.Retrieve (h ∷ b ∷ []) = Retrieving h b
construct controls.Retract (c ∷ []) = Retracting c
construct controls.RetractAll (h ∷ []) = RetractingAll h
construct controls.Declare (ps ∷ []) = Declaring ps
construct controls.Halt [] = Halting (int (pos 0))
construct controls.Halt (i ∷ []) = Halting i
construct c us = NoGoal

abbrev pub form_by : Option Kind → Indicator → List Tree → Form
form_by (Some (kinds.Control c)) p us = construct c us
form_by (Some (kinds.BuiltIn b)) p us = BuiltIn b us
form_by None p us = Call p

abbrev pub arguments : Tree → List Tree
arguments (compound f ts) = list_of ts
arguments t = []

abbrev pub form_at : Indicator → List Tree → Form
form_at p us = form_by (kind_of p.name p.arity) p us

-- an integer or a variable is no goal
abbrev pub form : Tree → Form
form (var x) = NoGoal
form (int i) = NoGoal
form t = form_at (indicator t) (arguments t)
