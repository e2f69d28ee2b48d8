-- Goal lists that a row puts together.
use Rattle.std.specs.Prelude.{◌≡◌, ℕ, List, length}
use Rattle.std.specs.Bool.{⊤}
use Rattle.plsearch.specs.Types.{Element}
use Rattle.plcode.specs.Steps.{FAIL}
use Rattle.pllinks.specs.declared.item.ClauseGoals.{ClauseGoals}
use Rattle.pllinks.specs.declared.item.Portion.{Portion}
use Rattle.pllinks.specs.declared.item.Portion.TheVariants as items
use Rattle.pllinks.specs.declared.link.Continuation.{Continuation}
use Rattle.pllinks.specs.Lists.{elements, IsItem}
use Rattle.plstack.specs.State.{State, goals_in, goals_of, IsList, Extends}

-- what a part of a stack's lists stands for
abbrev pub elements_of : State → Portion → List Element
elements_of s x = elements (goals_in s) s.env x

abbrev pub IsPart : State → Portion → Type 0
IsPart s x = IsItem (goals_in s) s.env.heap (length s.env.slots) x

-- goals at another cut level
abbrev pub at_level : ℕ → Portion → Portion
at_level k (items.Clause r) = items.Clause (record r { level = k })
at_level k (items.Goal l v) = items.Goal k v
at_level k (items.Marker m l) = items.Marker m l

-- it is goals, and no marker
abbrev pub AreGoals : Portion → Type 0
AreGoals (items.Clause r) = ⊤
AreGoals (items.Goal k v) = ⊤
AreGoals (items.Marker m l) = ⊥

-- there are more lists and values, and no more variables
pub record Grown (old new : State) : Type 0 where
  pub extends : Extends old new
  pub count : new.env.count ≡ old.env.count

-- there are more lists
pub record Lengthened (old new : State) : Type 0 where
  pub extends : Extends old new
  pub env : new.env ≡ old.env

-- a list is there for these goals
pub record Holds (s : State) (l : Continuation) (es : List Element) : Type 0 where
  pub there : IsList s l
  pub is : goals_of s l ≡ es

-- the goal fail/0, by its place in each program's code
abbrev pub failing : ℕ → Portion
failing k = items.Clause (record { position = FAIL; owed = 0; base = 0; «end» = 0; level = k })

-- a branch of a goal of a clause's body, by the place where it begins
abbrev pub branch_at : ClauseGoals → ℕ → Portion
branch_at r place = items.Clause (record r { position = place; owed = 0 })
