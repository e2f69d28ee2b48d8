-- A loaded program as contracts see it.
use Rattle.std.specs.Prelude.{◌≡◌, ℕ, if◌then◌else◌, List, [], ◌∷◌, ◌++◌, Option, Some, None, fold, refl}
use Rattle.std.specs.Coded.{Coded, code_by, coded×, coded_list, coded_ℕ}
use Rattle.plterm.specs.Tree.{Tree}
use Rattle.plterm.specs.Reading.{tree_code}
use Rattle.plterm.specs.Indicators.{same_indicator}
use Rattle.plterm.specs.declared.indicator.Indicator.{Indicator}
use Rattle.plterm.specs.contracts.indicator.Indicator as indicators
use Rattle.plclause.specs.Clause.{Clause, clause_code}
use Rattle.plclause.specs.Indicators.{indicator}
use Rattle.plevent.specs.declared.update.Update.{Update}
use Rattle.plevent.specs.contracts.update.Update as updates
use Rattle.plprogram.specs.declared.settings.Settings.{Settings}
use Rattle.plprogram.specs.contracts.settings.Settings as settings

-- Each static procedure with its clauses in text order, by its first clause; the goals of main, in order; the first batch;
-- the operators and flags at the end; and how many clauses and directives the text has.
pub record Program : Type 0 where
  pub procedures : List (Indicator × List Clause)
  pub goals : List Tree
  pub first : List Update
  pub settings : Settings
  pub clauses : ℕ
  pub directives : ℕ

-- procedures, and a program, are stored as their parts
abbrev pub procedures_code : Coded (List (Indicator × List Clause))
procedures_code = coded_list (coded× indicators.the_row.coded (coded_list clause_code))

abbrev pub program_code : Coded Program
program_code =
    code_by (List (Indicator × List Clause) × (List Tree × (List Update × (Settings × (ℕ × ℕ)))))
    (coded× procedures_code (coded× (coded_list tree_code) (coded× (coded_list updates.the_row.coded) (coded× settings.the_row.coded (coded× coded_ℕ coded_ℕ)))))
    (λ p. (p.procedures, (p.goals, (p.first, (p.settings, (p.clauses, p.directives))))))
    (λ p. record { procedures = p.0; goals = p.1.0; first = p.1.1.0; settings = p.1.1.1.0; clauses = p.1.1.1.1.0; directives = p.1.1.1.1.1 })
    (λ _. refl)

-- the clauses of a procedure, in text order; of one that is not there, none
abbrev pub clauses_in : List (Indicator × List Clause) → Indicator → List Clause
clauses_in [] p = []
clauses_in (e ∷ es) p = if same_indicator p e.0 then e.1 else clauses_in es p

abbrev pub clauses_for : Program → Indicator → List Clause
clauses_for program p = clauses_in program.procedures p

-- the procedures with one more clause, the last of its procedure
abbrev pub with_entry : List (Indicator × List Clause) → Indicator → Clause → List (Indicator × List Clause)
with_entry [] p c = (p, c ∷ []) ∷ []
with_entry (e ∷ es) p c = if same_indicator p e.0 then (e.0, e.1 ++ c ∷ []) ∷ es else e ∷ with_entry es p c

abbrev pub with_clause : List (Indicator × List Clause) → Clause → List (Indicator × List Clause)
with_clause es c = with_entry es (indicator c.head) c

abbrev pub procedures_of : List Clause → List (Indicator × List Clause)
procedures_of cs = fold with_clause [] cs

-- clauses of a procedure: their heads have its name and so many arguments
abbrev pub AreOf : Indicator → List Clause → Type 0
AreOf p [] = Unit {0}
AreOf p (c ∷ cs) = (indicator c.head ≡ p) × AreOf p cs

-- each procedure has clauses of its own
abbrev pub AreOwn : List (Indicator × List Clause) → Type 0
AreOwn [] = Unit {0}
AreOwn (e ∷ es) = AreOf e.0 e.1 × AreOwn es

-- the program with one more goal of main, behind those of the text
abbrev pub with_goal : Program → Option Tree → Program
with_goal program None = program
with_goal program (Some goal) = record program { goals = program.goals ++ goal ∷ [] }
