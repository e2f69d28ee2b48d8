-- A goal that is selected.
use Rattle.std.specs.Prelude.{◌≡◌, ℕ, ◌≤◌, [], length, map, Option, IfSome, IfNone}
use Rattle.std.specs.Bool.{⊤}
use Rattle.plterm.specs.Tree.{Tree}
use Rattle.plterm.specs.declared.indicator.Indicator.{Indicator}
use Rattle.plsubst.specs.Subst.{bind}
use Rattle.plclause.specs.Indicators.{indicator}
use Rattle.plcells.specs.Store.{value, AreValues, IsValue}
use Rattle.plprogram.specs.Program.{Program, clauses_for}
use Rattle.plsearch.specs.Forms.{form as form_of}
use Rattle.plcode.specs.declared.callee.Number.{Number}
use Rattle.plcode.specs.Steps.{renamed}
use Rattle.plcode.specs.Callees.{IsStatic}
use Rattle.plenv.specs.Env.{over}
use Rattle.plgoals.specs.declared.form.Form.{Form}
use Rattle.plgoals.specs.declared.form.Form.TheVariants as forms
use Rattle.plgoals.specs.declared.form.Procedure.{Procedure}
use Rattle.plgoals.specs.declared.form.Procedure.TheVariants as procedures
use Rattle.plgoals.specs.Forms.{shown_form, IsInside}
use Rattle.plgoals.specs.Callables.{called as called_by, IsCallable, IsNoGoal}
use Rattle.pllinks.specs.declared.item.ClauseGoals.{ClauseGoals}
use Rattle.plstack.specs.Arguments.{IsArgument}
use Rattle.plstack.specs.Places.{called}
use Rattle.plstack.specs.State.{State}
use Rattle.plmachine.specs.declared.machine.Machine.{Machine}
use Rattle.plmachine.specs.declared.machine.Mode.TheVariants as modes
use Rattle.plmachine.specs.declared.select.Source.{Source}
use Rattle.plmachine.specs.declared.select.Source.TheVariants as sources
use Rattle.plmachine.specs.Machine.{IsBegun}

-- a term of a clause, with what stands for its variables under the slots of a run
abbrev pub bound_at : State → ClauseGoals → Tree → Tree
bound_at s r t = bind (over s.env r.base) t

-- the term of a goal by where it stands
abbrev pub StandsFor : State → Source → Tree → Type 0
StandsFor s (sources.Value v) t = IsValue s.env.heap v × (value s.env.heap v ≡ t)
StandsFor s (sources.Node r at) t = (u : Tree) × IsArgument s r at u × (bound_at s r u ≡ t)

-- a goal calls a procedure p of the program's text, the one of a place
pub record IsStaticCall (P : Program) (s : Machine) (p : Indicator) (i : ℕ) (t : Tree) : Type 0 where
  pub static : IsStatic (renamed s.stack.env.heap.names s.stack.basis.code.text) s.stack.basis.code.procedures P p i
  pub goal : called s.stack.env.heap p.name s.args.items ≡ t

-- a goal calls a procedure p: one of the program's text by its place, or one that is not there
abbrev pub IsCallOf : Program → Machine → Indicator → Procedure → Tree → Type 0
IsCallOf P s p (procedures.Static i) t = IsStaticCall P s p i t
IsCallOf P s p procedures.Unknown t = clauses_for P p ≡ []

-- which procedure a goal of a form calls, if it calls one
abbrev pub IsCall : Program → Machine → Form → Tree → Type 0
IsCall P s (forms.Call procedure) t = IsCallOf P s (indicator t) procedure t
IsCall P s f t = ⊤

-- a goal, whose term stands at the source, is called by a number, with the values of its arguments; by none where it is a variable or an integer
pub record IsCalledBy (s : Machine) (number : Option Number) (source : Source) (t : Tree) : Type 0 where
  pub values : AreValues s.stack.env.heap s.args.items
  pub few : length s.args.items ≤ 1024
  pub stands : StandsFor s.stack source t
  pub callable : IfSome number (λ n. IsCallable s.stack.env.heap.names n (length s.args.items))
  pub is : IfSome number (λ n. t ≡ called_by s.stack.env.heap.names n (map (value s.stack.env.heap) s.args.items))
  pub none : IfNone number (IsNoGoal t)

-- a goal of this form is selected, whose term stands at the source
pub record IsSelected (P : Program) (s : Machine) (f : Form) (source : Source) (t : Tree) : Type 0 where
  pub begun : IsBegun P s
  pub visits : s.mode ≡ modes.Visit
  pub args : AreValues s.stack.env.heap s.args.items
  pub few : length s.args.items ≤ 1024
  pub inside : IsInside s.stack.env.heap s.args.items f
  pub is : shown_form s.stack.env.heap (indicator t) s.args.items f ≡ form_of t
  pub stands : StandsFor s.stack source t
  pub call : IsCall P s f t
