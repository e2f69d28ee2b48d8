-- What the code of a clause is, and of procedures.
use Rattle.std.specs.Prelude.{◌≡◌, ℕ, List, [], ◌∷◌, length}
use Rattle.plterm.specs.Tree.{Tree, atom}
use Rattle.plterm.specs.declared.indicator.Indicator.{Indicator}
use Rattle.plclause.specs.Clause.{Clause}
use Rattle.plclause.specs.Soundness.{IsSound}
use Rattle.plsearch.specs.Forms.{arguments}
use Rattle.plsearch.specs.Moves.{is_true}
use Rattle.plcode.specs.declared.clause.ClauseCode.{ClauseCode}
use Rattle.plcode.specs.Steps.{Text, Args}
use Rattle.plcode.specs.Bodies.{Begins}
use Rattle.plcode.specs.Keys.{IsFirstKey}

-- a head without arguments is an atom: a compound has one at least
abbrev pub IsProper : Tree → Type 0
IsProper head = arguments head ≡ [] → (s : List ℕ) × (head ≡ atom s)

-- the code of a clause, which is sound: its head's arguments and the key of the first, its body, and how many variables it has
pub record IsCodeOf (c : Text) (k : ClauseCode) (clause : Clause) : Type 0 where
  pub sound : IsSound clause
  pub proper : IsProper clause.head
  pub head : Args c k.head (arguments clause.head)
  pub arity : k.arity ≡ length (arguments clause.head)
  pub key : IsFirstKey c.names k.key (arguments clause.head)
  pub body : Begins c k.body clause.body
  pub variables : k.variables ≡ clause.variables
  pub fact : k.is_fact ≡ is_true clause.body

-- the code of clauses, in their order
abbrev pub AreCodeOf : Text → List ClauseCode → List Clause → Type 0
AreCodeOf c [] [] = Unit {0}
AreCodeOf c [] (x ∷ xs) = ⊥
AreCodeOf c (k ∷ ks) [] = ⊥
AreCodeOf c (k ∷ ks) (x ∷ xs) = IsCodeOf c k x × AreCodeOf c ks xs

-- the code of procedures, in their order
abbrev pub AreProcedures : Text → List (List ClauseCode) → List (Indicator × List Clause) → Type 0
AreProcedures c [] [] = Unit {0}
AreProcedures c [] (e ∷ es) = ⊥
AreProcedures c (ks ∷ kss) [] = ⊥
AreProcedures c (ks ∷ kss) (e ∷ es) = AreCodeOf c ks e.1 × AreProcedures c kss es
