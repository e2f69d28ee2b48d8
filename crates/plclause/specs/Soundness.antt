-- What holds of each clause.
use Rattle.std.specs.Prelude.{◌≡◌, ℕ, List, length, Some}
use Rattle.plterm.specs.Tree.{Tree, var, int, atom, compound}
use Rattle.plterm.specs.Reading.{spelling}
use Rattle.plterm.specs.Variables.{AllBelow, place, renamed, seen_after, variables}
use Rattle.plclause.specs.Clause.{Clause}
use Rattle.plclause.specs.Conversion.{converted}

-- an atom or a compound
abbrev pub IsCallable : Tree → Type 0
IsCallable (var v) = ⊥
IsCallable (int i) = ⊥
IsCallable (atom s) = Unit {0}
IsCallable (compound s ts) = Unit {0}

-- the variables of a head and then of a body, each once, by first occurrence
abbrev pub both_variables : Tree → Tree → List ℕ
both_variables head body = seen_after (variables head) (spelling body)

-- the clause of a head and a goal: their variables are 0, 1, .. by first occurrence, the head's first
abbrev pub clause_from : Tree → Tree → Clause
clause_from head goal =
    let seen = both_variables head goal in
    record { head = renamed (λ v. place v seen) head; body = renamed (λ v. place v seen) goal; variables = length seen }

-- the head is an atom or a compound, the body is converted, there are no other variables, and they are numbered by first occurrence
pub record IsSound (c : Clause) : Type 0 where
  pub callable : IsCallable c.head
  pub converted_body : converted c.body ≡ Some c.body
  pub head_below : AllBelow c.variables c.head
  pub body_below : AllBelow c.variables c.body
  pub numbered : clause_from c.head c.body ≡ c
