-- What expressions come to, and their errors (ISO/IEC 13211-1 7.9.2, 7.12.2).
use Rattle.std.specs.Prelude.{ℤ, Result, codes}
use Rattle.plterm.specs.Tree.{Tree, int}
use Rattle.plerror.specs.Errors.{indicator_term, instantiation_error, type_error, evaluation_error}
use Rattle.plarith.specs.declared.error.ArithError.{ArithError}
use Rattle.plarith.specs.declared.error.ArithError.TheVariants.{Unbound, NotEvaluable, NotFloat, ZeroDivisor, Undefined, IntOverflow}

-- an integer or an error
abbrev pub Evaluated : Type 0
Evaluated = Result ℤ ArithError

-- the term of an error, the E of `error(E, PI)`
abbrev pub error_of : ArithError → Tree
error_of Unbound = instantiation_error
error_of (NotEvaluable p) = type_error (codes "evaluable") (indicator_term p)
error_of (NotFloat x) = type_error (codes "float") (int x)
error_of ZeroDivisor = evaluation_error (codes "zero_divisor")
error_of Undefined = evaluation_error (codes "undefined")
error_of IntOverflow = evaluation_error (codes "int_overflow")
