-- The levels of a ball, which never rise.
use Rattle.std.proofs.Common.{◌≡◌, ◌⊎◌, inl, inr, ℕ, ◌<◌, ◌≤◌, ◌==◌, Bool, true, false, nat_lt, List, [], ◌∷◌, length, AllPairs, sym, ap, ◌∙◌, subst, arith}
use Rattle.std.specs.List.{slice_index_or}
use Rattle.std.specs.List.Sorted.{IsPartitionedBy, IsPartitionPoint}
use Rattle.std.proofs.lemmas.Bool.{cases_lt}
use Rattle.std.proofs.lemmas.Bool.Decides.{nat_tests}
use Rattle.std.proofs.lemmas.List.Folds.{list_any_at, list_any_none}
use Rattle.plsearch.specs.Types.{Case, Choice, Mark, Handle}
use Rattle.plsearch.specs.Handlers.{has}
use Rattle.plstack.specs.Levels.{AreNamed}

module _ (ls : List ℕ) (falls : AllPairs (λ k l. l ≤ k) ls) (d : ℕ) where
  falls-to : (i j e : ℕ) → i ≤ j → j < length ls → slice_index_or ls j e ≤ slice_index_or ls i e
  falls-to i j e le within = by-case (cases_lt i j)
    where
      by-case : (i < j) ⊎ (j ≤ i) → slice_index_or ls j e ≤ slice_index_or ls i e
      by-case (inl lt) = falls i j e lt within
      by-case (inr ge) = let same : i ≡ j = omega (arith, le, ge) in subst (λ k. slice_index_or ls j e ≤ slice_index_or ls k e) (sym same) omega arith

  pub parts : IsPartitionedBy (λ l. nat_lt d l) ls
  parts i j e le within above = let no_lower = falls-to i j e le within in grind (arith, nat_tests)

  module _ (place : ℕ) (point : IsPartitionPoint (λ l. nat_lt d l ≡ true) (λ l. nat_lt d l ≡ false) ls place) where
    above-other : (l : ℕ) → nat_lt d l ≡ true → (l == d) ≡ false
    above-other l above = grind (arith, nat_tests)

    pub none-there : length ls ≤ place → has d ls ≡ false
    none-there past = list_any_none (λ l. l == d) ls (λ i e within. above-other (slice_index_or ls i e) (point.0 i e (omega arith) (omega (arith, within, past))))

    module _ (l : ℕ) (within : place < length ls) (at : (e : ℕ) → l ≡ slice_index_or ls place e) where
      pub found-there : (b : Bool) → (l == d) ≡ b → has d ls ≡ b
      found-there true is = list_any_at (λ k. k == d) ls place 0 within (ap (λ k. k == d) (sym (at 0)) ∙ is)
      found-there false is = list_any_none (λ k. k == d) ls (λ i e low. other i e low (cases_lt i place))
        where
          other : (i e : ℕ) → i < length ls → (i < place) ⊎ (place ≤ i) → (slice_index_or ls i e == d) ≡ false
          other i e low (inl before) = above-other (slice_index_or ls i e) (point.0 i e (omega arith) before)
          other i e low (inr behind) =
              let first : nat_lt d l ≡ false = ap (nat_lt d) (at e) ∙ point.1 place e (omega arith) within in
              let no_higher : slice_index_or ls i e ≤ l = subst (λ k. slice_index_or ls i e ≤ k) (sym (at e)) (falls-to place i e behind low) in
              grind (arith, nat_tests)

-- those of a ball that may be carried outward
pub named-falls : (ls : List ℕ) (cs : List Case) → AreNamed ls cs → AllPairs (λ k l. l ≤ k) ls
named-falls ls [] n = n
named-falls ls (Choice ps ∷ cs) n = named-falls ls cs n
named-falls ls (Mark l ∷ cs) n = named-falls ls cs n
named-falls ls (Handle h p ∷ cs) n = named-falls ls cs n.1
