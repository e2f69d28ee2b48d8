-- Goals by the numbers by which they are called.
use Rattle.std.specs.Prelude.{◌≡◌, ℕ, List, Option, Some, None}
use Rattle.std.specs.Bool.{⊤}
use Rattle.plterm.specs.Tree.{Tree, var, int, atom, compound, trees}
use Rattle.plterm.specs.declared.indicator.Indicator.{Indicator}
use Rattle.plnames.specs.declared.kind.Kind.{Kind}
use Rattle.plnames.specs.declared.kind.Kind.TheVariants as kinds
use Rattle.plnames.specs.Names.{kind_of}
use Rattle.platoms.specs.Names.{Table, atom_at, functor_name}
use Rattle.plcode.specs.declared.callee.Callee.{Callee}
use Rattle.plcode.specs.declared.callee.Callee.TheVariants.{Control, BuiltIn, Static, Unknown}
use Rattle.plcode.specs.declared.callee.Callees.{Callees}
use Rattle.plcode.specs.declared.callee.Number.{Number}
use Rattle.plcode.specs.declared.callee.Number.TheVariants.{Atom, Functor}
use Rattle.plcode.specs.Callees.{callee_at, IsNumber}

-- the name of a procedure, by its number
abbrev pub name_of : Table → Number → List ℕ
name_of t (Atom a) = atom_at t a
name_of t (Functor f) = functor_name t f

-- the procedure of a number, with so many arguments
abbrev pub procedure_of : Table → Number → ℕ → Indicator
procedure_of t n k = record { name = name_of t n; arity = k }

-- the goal of a procedure, by its number, and of arguments
abbrev pub called : Table → Number → List Tree → Tree
called t (Atom a) us = atom (atom_at t a)
called t (Functor f) us = compound (functor_name t f) (trees us)

-- the number of a procedure with so many arguments
abbrev pub IsCallable : Table → Number → ℕ → Type 0
IsCallable t n k = IsNumber t n (procedure_of t n k)

-- a variable or an integer, which nothing calls
abbrev pub IsNoGoal : Tree → Type 0
IsNoGoal (var x) = ⊤
IsNoGoal (int i) = ⊤
IsNoGoal (atom f) = ⊥
IsNoGoal (compound f ts) = ⊥

-- what the table of names has for a procedure, by what is called
abbrev pub kind_by : Callee → Option Kind
kind_by (Control c) = Some (kinds.Control c)
kind_by (BuiltIn b) = Some (kinds.BuiltIn b)
kind_by (Static i) = None
kind_by Unknown = None

-- what is called by each number is what the table of names has for its procedure
abbrev pub HasKinds : Table → Callees → Type 0
HasKinds t m = (n : Number) (p : Indicator) → IsNumber t n p → kind_of p.name p.arity ≡ kind_by (callee_at m n)
