-- A term on the machine's heap with further arguments.
use Rattle.std.specs.Prelude.{◌≡◌, ℕ, suc, List, map}
use Rattle.plerror.specs.Errors.{instantiation_error, callable_error, arity_error}
use Rattle.plsearch.specs.Running.{Runnable, Runs, Raises, with_arguments}
use Rattle.plcells.specs.declared.cell.Cell.{Cell}
use Rattle.plcells.specs.Store.{Store, terms, value, IsValue, AreValues}
use Rattle.plgoals.specs.declared.extend.Extended.{Extended}
use Rattle.plgoals.specs.declared.extend.Extended.TheVariants.{Is, Unbound, Number, TooLong}

-- what the term of a value and further arguments come to
abbrev pub extended : Store → Cell → Extended → Runnable
extended h v (Is w) = Runs (value h w)
extended h v Unbound = Raises instantiation_error
extended h v Number = Raises (callable_error (value h v))
extended h v TooLong = Raises arity_error

abbrev pub IsThere : Store → Extended → Type 0
IsThere h (Is w) = IsValue h w
IsThere h Unbound = Unit {0}
IsThere h Number = Unit {0}
IsThere h TooLong = Unit {0}

-- values of the first k arguments of the block at the cell p
pub record AreArguments (h : Store) (p k : ℕ) (vs : List Cell) : Type 0 where
  pub values : AreValues h vs
  pub are : map (value h) vs ≡ terms h (suc p) k

-- a term with further arguments behind its own
pub record Extends (old new : Store) (v : Cell) (further : List Cell) (r : Extended) : Type 0 where
  pub is : with_arguments (value old v) (map (value old) further) ≡ extended new v r
  pub there : IsThere new r
