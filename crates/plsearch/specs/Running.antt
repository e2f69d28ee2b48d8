-- What running a term as a goal comes to (ISO/IEC 13211-1 7.8.3).
use Rattle.std.specs.Prelude.{ℕ, nat_le, List, [], ◌∷◌, ◌++◌, length, Option, Some, None, if◌then◌else◌}
use Rattle.plterm.specs.Tree.{Tree, var, int, atom, compound, trees, list_of}
use Rattle.plclause.specs.Conversion.{converted}
use Rattle.plerror.specs.Errors.{instantiation_error, callable_error, arity_error}

-- the goal that it converts to, or an error
pub data Runnable : Type 0 where
  Runs : Tree → Runnable
  Raises : Tree → Runnable

abbrev pub runnable_if : Option Tree → Tree → Runnable
runnable_if None g = Raises (callable_error g)
runnable_if (Some b) g = Runs b

abbrev pub runnable : Tree → Runnable
runnable (var x) = Raises instantiation_error
runnable (int i) = Raises (callable_error (int i))
runnable (atom f) = runnable_if (converted (atom f)) (atom f)
runnable (compound f ts) = runnable_if (converted (compound f ts)) (compound f ts)

-- a name with arguments, of which there are at most 1,024
abbrev pub compound_of : List ℕ → List Tree → Runnable
compound_of f ts = if nat_le (length ts) 1024 then Runs (compound f (trees ts)) else Raises arity_error

-- a callable term with further arguments behind its own
abbrev pub with_arguments : Tree → List Tree → Runnable
with_arguments (var x) us = Raises instantiation_error
with_arguments (int i) us = Raises (callable_error (int i))
with_arguments (atom f) us = compound_of f us
with_arguments (compound f ts) us = compound_of f (list_of ts ++ us)

abbrev pub then_run : Runnable → Runnable
then_run (Runs t) = runnable t
then_run (Raises e) = Raises e

-- the goal of call/N: arguments are added first, and then the term is converted (8.15.4.1)
abbrev pub called : Tree → List Tree → Runnable
called g [] = runnable g
called g (u ∷ us) = then_run (with_arguments g (u ∷ us))
