-- Terms that are put in prefix order, while parts of them are still to come.
use Rattle.std.specs.Prelude.{◌≡◌, ℕ, suc, ◌+◌, ◌-◌, ◌<◌, ◌≤◌, List, [], ◌∷◌, ◌++◌, length, take, drop, map, get_or}
use Rattle.std.specs.Bool.{⊤}
use Rattle.plterm.specs.declared.node.Node.{Node}
use Rattle.plterm.specs.declared.node.Node.TheVariants.{Var, Compound}
use Rattle.plterm.specs.Tree.{Tree, var}
use Rattle.plterm.specs.Reading.{arity, read}
use Rattle.platoms.specs.Names.{Table, functor_name}
use Rattle.plpack.specs.Items.{after as seen_with}
use Rattle.plcells.specs.declared.cell.Cell.{Cell}
use Rattle.plcells.specs.declared.cell.Argument.TheVariants.{Value}
use Rattle.plcells.specs.declared.cell.Cell.TheVariants.{Ref}
use Rattle.plcells.specs.Store.{Store, value, frees, IsValue, IsFresh, IsFunctorOf, Preserves}
use Rattle.plcells.specs.Blocks.{stands_for}
use Rattle.plcells.specs.Putting.{AreGiven, AddsNoVariable, laid}
use Rattle.plpacked.specs.declared.unfinished.Open.{Open}
use Rattle.plpacked.specs.declared.unfinished.Stage.{Stage}
use Rattle.plpacked.specs.declared.unfinished.Stage.TheVariants.{Full, Whole, Waiting}
use Rattle.plpacked.specs.declared.unfinished.Unfinished.{Unfinished}

-- trees with a compound closed: it takes its arguments from those behind its place
abbrev pub closed : Table → Open → List Tree → List Tree
closed t o us = take o.first us ++ read (Compound (functor_name t o.functor) (o.end - o.first)) (drop o.first us)

-- with each closed, the innermost first
abbrev pub all_closed : Table → List Open → List Tree → List Tree
all_closed t [] us = us
all_closed t (o ∷ os) us = closed t o (all_closed t os us)

-- what the values come to, where these trees are still to come behind them
abbrev pub comes_to : Store → Unfinished → List Tree → List Tree
comes_to h w ts = all_closed h.names w.compounds.items (map (stands_for h) w.values.items ++ ts)

-- where the arguments of the innermost compound end among the values
abbrev pub end_from : ℕ → List Open → ℕ
end_from e [] = e
end_from e (o ∷ os) = end_from o.end os

-- each begins among the arguments of the one around it
abbrev pub AreNested : Table → ℕ → List Open → Type 0
AreNested t e [] = ⊤
AreNested t e (o ∷ os) = (o.first < e) × (o.first < o.end) × IsFunctorOf t o.functor (o.end - o.first) × AreNested t o.end os

-- how many arguments they have together
abbrev pub arguments : List Open → ℕ
arguments [] = 0
arguments (o ∷ os) = (o.end - o.first) + arguments os

-- so many trees are still to come
abbrev pub AreToCome : Unfinished → ℕ → Type 0
AreToCome w m = m + length w.values.items + length w.compounds.items ≡ suc (arguments w.compounds.items)

-- the cells of variables of the numbers from n on
abbrev pub AreVariables : Store → ℕ → List ℕ → Type 0
AreVariables h n cs = (x : ℕ) → x < length cs → IsValue h (Ref (get_or cs x 0)) × (value h (Ref (get_or cs x 0)) ≡ var (n + x))

-- values of the heap, the compounds that wait for some of their arguments, and the variables
pub record IsUnfinished (h : Store) (w : Unfinished) : Type 0 where
  pub given : AreGiven h w.values.items
  pub nested : AreNested h.names 1 w.compounds.items
  pub room : length w.values.items ≤ end_from 1 w.compounds.items
  pub variables : AreVariables h w.number w.variables.items

-- the innermost compound has all its arguments
pub record IsFull (w : Unfinished) (o : Open) : Type 0 where
  pub around : List Open
  pub innermost : w.compounds.items ≡ around ++ o ∷ []
  pub full : length w.values.items ≡ o.end

abbrev pub IsStage : Unfinished → Stage → Type 0
IsStage w (Full o) = IsFull w o
IsStage w (Whole v) = (w.compounds.items ≡ []) × (w.values.items ≡ Value v ∷ [])
IsStage w Waiting = length w.values.items < end_from 1 w.compounds.items

-- the innermost compound became a value
pub record Closes (old new : Store) (w after : Unfinished) : Type 0 where
  pub unfinished : IsUnfinished new after
  pub same : (ts : List Tree) → comes_to new after ts ≡ comes_to old w ts
  pub come : (m : ℕ) → AreToCome w m → AreToCome after m
  pub adds : AddsNoVariable old new
  pub variables : after.variables.items ≡ w.variables.items
  pub number : after.number ≡ w.number
  pub fewer : suc (length after.compounds.items) ≡ length w.compounds.items

-- variables of the numbers from n on are on the heap, and then more of them, and no other is new
pub record AddsVariables (old new : Store) (n : ℕ) (before after : List ℕ) : Type 0 where
  pub are : AreVariables new n after
  pub preserves : Preserves old new
  pub more : length before ≤ length after
  pub fresh : (m : ℕ) → IsFresh old m → (n + length before ≤ m → m < n + length after → ⊥) → IsFresh new m
  pub frees : frees new.cells + length before ≡ frees old.cells + length after

-- the value of the variable x of a term, counted from n on
pub record PutsVariable (old new : Store) (n x : ℕ) (v : Cell) (before after : List ℕ) : Type 0 where
  pub fits : IsValue new v
  pub is : value new v ≡ var (n + x)
  pub adds : AddsVariables old new n before after
  pub seen : length after ≡ seen_with (length before) (Var x)

-- a node was the next
pub record Adds (old new : Store) (n : Node) (w after : Unfinished) : Type 0 where
  pub unfinished : IsUnfinished new after
  pub same : (ts : List Tree) → comes_to new after ts ≡ comes_to old w (laid (λ x. var (w.number + x)) n ts)
  pub come : (m : ℕ) → 0 < m → AreToCome w m → AreToCome after (m - 1 + arity n)
  pub adds : AddsVariables old new w.number w.variables.items after.variables.items
  pub seen : length after.variables.items ≡ seen_with (length w.variables.items) n
  pub number : after.number ≡ w.number
  pub few : length after.compounds.items ≤ suc (length w.compounds.items)
