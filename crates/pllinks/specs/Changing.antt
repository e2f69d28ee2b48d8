-- Environments in which goal lists stand for the same.
use Rattle.std.specs.Prelude.{◌≡◌, ℕ, ◌<◌, List, length}
use Rattle.plterm.specs.Tree.{Tree}
use Rattle.plcells.specs.declared.cell.Cell.{Cell}
use Rattle.plcells.specs.Store.{IsValue, value}
use Rattle.plsearch.specs.Lists.{bind_goals}
use Rattle.plenv.specs.Env.{Env, variable}
use Rattle.plenv.specs.Changes.{Substitutes}
use Rattle.pllinks.specs.declared.item.Portion.{Portion}
use Rattle.pllinks.specs.Lists.{Goals, all_elements, AreItems}

-- values, and the first n slots, stand for the same
pub record Agrees (n : ℕ) (old new : Env) : Type 0 where
  pub values : (v : Cell) → IsValue old.heap v → IsValue new.heap v × (value new.heap v ≡ value old.heap v)
  pub variables : (i : ℕ) → i < n → variable new i ≡ variable old i

-- lists that ask for no more slots are lists still, and stand for the same
abbrev pub ListsAgree : Type 0
ListsAgree = (code : Goals) (n : ℕ) (old new : Env) (xs : List Portion) → Agrees n old new → AreItems code old.heap n xs
    → AreItems code new.heap n xs × (all_elements code new xs ≡ all_elements code old xs)

-- what is put for variables is put into each list
abbrev pub ListsSubstitute : Type 0
ListsSubstitute = (code : Goals) (old new : Env) (σ : ℕ → Tree) (xs : List Portion) → Substitutes old new σ → AreItems code old.heap (length old.slots) xs
    → AreItems code new.heap (length new.slots) xs × (all_elements code new xs ≡ bind_goals σ (all_elements code old xs))
