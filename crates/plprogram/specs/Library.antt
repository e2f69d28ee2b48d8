-- Programs with the procedures of a library.
use Rattle.std.specs.Prelude.{Bool, true, false, ◌&&◌, not, if◌then◌else◌, List, [], ◌∷◌, fold, flat_map}
use Rattle.std.specs.List.{list_any}
use Rattle.plterm.specs.Indicators.{same_indicator}
use Rattle.plterm.specs.declared.indicator.Indicator.{Indicator}
use Rattle.plclause.specs.Clause.{Clause}
use Rattle.plevent.specs.declared.update.Update.{Update}
use Rattle.plevent.specs.declared.update.Update.TheVariants.{Declare, First, Last, Erase, EraseOwn}
use Rattle.plprogram.specs.Program.{Program, clauses_for, with_clause}

abbrev pub is_none : List Clause → Bool
is_none [] = true
is_none (c ∷ cs) = false

abbrev pub declares : Indicator → Update → Bool
declares p (Declare q) = same_indicator p q
declares p (First c) = false
declares p (Last c) = false
declares p (Erase name) = false
declares p (EraseOwn number) = false

-- the program neither defines nor declares a procedure
abbrev pub lacks : Program → Indicator → Bool
lacks program p = is_none (clauses_for program p) && not (list_any (declares p) program.first)

-- the clauses of a procedure, if a program lacks it
abbrev pub lacked : Program → Indicator × List Clause → List Clause
lacked program e = if lacks program e.0 then e.1 else []

-- the program, with those procedures of a library that it lacks
abbrev pub with_library : Program → Program → Program
with_library program library = record program { procedures = fold with_clause program.procedures (flat_map (lacked program) library.procedures) }
