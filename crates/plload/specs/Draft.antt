-- What a text holds so far, and the program that it comes to.
use Rattle.std.specs.Prelude.{ℕ, ◌+◌, Bool, not, if◌then◌else◌, List, [], ◌∷◌, ◌++◌, length, map, filter, fold, refl}
use Rattle.std.specs.List.{list_any}
use Rattle.std.specs.Coded.{Coded, code_by, coded×, coded_list, coded_ℕ}
use Rattle.plterm.specs.Tree.{Tree}
use Rattle.plterm.specs.Reading.{tree_code}
use Rattle.plterm.specs.Indicators.{same_indicator}
use Rattle.plterm.specs.declared.indicator.Indicator.{Indicator}
use Rattle.plterm.specs.contracts.indicator.Indicator as indicators
use Rattle.plclause.specs.Clause.{Clause, clause_code}
use Rattle.plclause.specs.Indicators.{indicator}
use Rattle.plevent.specs.declared.update.Update.{Update}
use Rattle.plevent.specs.declared.update.Update.TheVariants.{Declare, Last}
use Rattle.plprogram.specs.declared.settings.Settings.{Settings}
use Rattle.plprogram.specs.Program.{Program, procedures_of}
use Rattle.plload.specs.Meaning.{Meaning, Adds, Runs, Declares, Operates, Sets, Passes, Refused, meaning}

-- What a text holds so far: its clauses in order; the procedures that directives name as dynamic, each once; the goals of
-- main; and how many directives there are.
pub record Draft : Type 0 where
  pub clauses : List Clause
  pub declared : List Indicator
  pub goals : List Tree
  pub directives : ℕ

abbrev pub draft_code : Coded Draft
draft_code =
    code_by (List Clause × (List Indicator × (List Tree × ℕ)))
    (coded× (coded_list clause_code) (coded× (coded_list indicators.the_row.coded) (coded× (coded_list tree_code) coded_ℕ)))
    (λ d. (d.clauses, (d.declared, (d.goals, d.directives))))
    (λ d. record { clauses = d.0; declared = d.1.0; goals = d.1.1.0; directives = d.1.1.1 })
    (λ _. refl)

abbrev pub empty_draft : Draft
empty_draft = record { clauses = []; declared = []; goals = []; directives = 0 }

abbrev pub with_name : List Indicator → Indicator → List Indicator
with_name ps p = if list_any (same_indicator p) ps then ps else ps ++ p ∷ []

-- the draft with what a clause or a directive means
abbrev pub with_meaning : Draft → Meaning → Draft
with_meaning d (Adds c) = record d { clauses = d.clauses ++ c ∷ [] }
with_meaning d (Runs goal) = record d { goals = d.goals ++ goal ∷ []; directives = d.directives + 1 }
with_meaning d (Declares ps) = record d { declared = fold with_name d.declared ps; directives = d.directives + 1 }
with_meaning d (Operates priority kind names) = record d { directives = d.directives + 1 }
with_meaning d (Sets flag) = record d { directives = d.directives + 1 }
with_meaning d Passes = record d { directives = d.directives + 1 }
with_meaning d (Refused kind) = d

abbrev pub with_term : Draft → Settings → Tree → Draft
with_term d s t = with_meaning d (meaning t)

-- a directive of the text names the clause's procedure as dynamic
abbrev pub is_dynamic : List Indicator → Clause → Bool
is_dynamic ps c = list_any (same_indicator (indicator c.head)) ps

-- Before the first batch's clauses it declares the dynamic procedures, in the order of their naming.
abbrev pub first_batch : Draft → List Update
first_batch d = map Declare d.declared ++ map Last (filter (is_dynamic d.declared) d.clauses)

-- the program of a draft, where these are the settings at the text's end
abbrev pub program_of : Settings → Draft → Program
program_of s d = record {
  procedures = procedures_of (filter (λ c. not (is_dynamic d.declared c)) d.clauses);
  goals = d.goals;
  first = first_batch d;
  settings = s;
  clauses = length d.clauses;
  directives = d.directives;
}
