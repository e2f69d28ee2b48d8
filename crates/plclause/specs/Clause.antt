-- A clause as contracts see it.
use Rattle.std.specs.Prelude.{ℕ, refl}
use Rattle.std.specs.Coded.{Coded, code_by, coded×, coded_ℕ}
use Rattle.plterm.specs.Tree.{Tree}
use Rattle.plterm.specs.Reading.{tree_code}

-- a head, a converted body, and how many variables they have
pub record Clause : Type 0 where
  pub head : Tree
  pub body : Tree
  pub variables : ℕ

-- a clause is stored as its parts
abbrev pub clause_code : Coded Clause
clause_code =
    code_by (Tree × (Tree × ℕ)) (coded× tree_code (coded× tree_code coded_ℕ)) (λ c. (c.head, (c.body, c.variables))) (λ p. record { head = p.0; body = p.1.0; variables = p.1.1 }) (λ _. refl)
