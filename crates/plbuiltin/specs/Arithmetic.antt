-- Arithmetic (ISO/IEC 13211-1 8.6, 8.7).
use Rattle.std.specs.Prelude.{ℤ, Bool, not, List, [], ◌∷◌, Ok, Err, int_lt, int_le}
use Rattle.std.specs.Ordering.{int_eq}
use Rattle.plterm.specs.Tree.{Tree, int}
use Rattle.plarith.specs.Errors.{Evaluated, error_of}
use Rattle.plarith.specs.Evaluation.{eval}
use Rattle.plnames.specs.declared.kind.Comparison.{Comparison}
use Rattle.plnames.specs.declared.kind.Comparison.TheVariants.{Equal, Unequal, Less, AtMost, Greater, AtLeast}
use Rattle.plnames.specs.declared.kind.Arithmetic.{Arithmetic}
use Rattle.plnames.specs.declared.kind.Arithmetic.TheVariants.{Is, Compare}
use Rattle.plprogram.specs.declared.settings.Settings.{Settings}
use Rattle.plbuiltin.specs.Solution.{Solved, Raises, fails, unifies, decides}

abbrev pub compares : Comparison → ℤ → ℤ → Bool
compares Equal x y = int_eq x y
compares Unequal x y = not (int_eq x y)
compares Less x y = int_lt x y
compares AtMost x y = int_le x y
compares Greater x y = int_lt y x
compares AtLeast x y = int_le y x

-- a term is unified with what an expression comes to
abbrev pub equals : Tree → Evaluated → Settings → Solved
equals t (Ok n) settings = unifies t (int n) settings
equals t (Err e) settings = Raises (error_of e)

-- an error of the left one comes first
abbrev pub compared : Comparison → Evaluated → Evaluated → Settings → Solved
compared c (Ok x) (Ok y) settings = decides (compares c x y) settings
compared c (Ok x) (Err e) settings = Raises (error_of e)
compared c (Err e) r settings = Raises (error_of e)

abbrev pub of_two : Arithmetic → Tree → Tree → Settings → Solved
of_two Is t u settings = equals t (eval u) settings
of_two (Compare c) t u settings = compared c (eval t) (eval u) settings

abbrev pub on_arithmetic : Arithmetic → List Tree → Settings → Solved
on_arithmetic b (t ∷ u ∷ []) settings = of_two b t u settings
on_arithmetic b us settings = fails settings
