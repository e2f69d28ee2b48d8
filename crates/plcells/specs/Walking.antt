-- Walks over the blocks of a term.
use Rattle.std.specs.Prelude.{◌≡◌, ℕ, zero, suc, ◌+◌, ◌<◌, ◌≤◌, Bool, false, List, [], ◌∷◌, ◌++◌, length, map}
use Rattle.std.specs.Bool.{⊤}
use Rattle.plterm.specs.Tree.{Tree, Trees, var, int, atom, compound, none, more, trees}
use Rattle.plterm.specs.declared.node.Node.{Node}
use Rattle.plterm.specs.Reading.{read, arity, Fits as FitsNode}
use Rattle.plsubst.specs.Subst.{occurs, occurs_in}
use Rattle.plcells.specs.Store.{Store, at, term, terms, IsHead}

-- how many nodes a term has
unfoldable mutual
  pub weight : Tree → ℕ
  weight (var x) = 1
  weight (int i) = 1
  weight (atom f) = 1
  weight (compound f ts) = suc (weights ts)

  pub weights : Trees → ℕ
  weights none = 0
  weights (more t ts) = weight t + weights ts

-- so do the terms of these cells together
abbrev pub weigh : Store → List ℕ → ℕ
weigh h cs = weights (trees (map (term h) cs))

-- whether a variable stands in the term of one of these cells
abbrev pub occurs_any : ℕ → Store → List ℕ → Bool
occurs_any n h cs = occurs_in n (trees (map (term h) cs))

-- first cells of blocks
abbrev pub AreBlocks : Store → List ℕ → Type 0
AreBlocks h [] = ⊤
AreBlocks h (c ∷ cs) = ((c < length h.cells) × IsHead (at h.cells c)) × AreBlocks h cs

-- the variable of the cell x stands in none of the terms of the cells below b
abbrev pub IsFloor : Store → ℕ → ℕ → Type 0
IsFloor h x b = (n c : ℕ) → term h x ≡ var n → c < b → occurs n (term h c) ≡ false

-- so many cells from one on, the first one last
abbrev pub run : ℕ → ℕ → List ℕ
run a zero = []
run a (suc k) = run (suc a) k ++ a ∷ []

-- cells that hold arguments
abbrev pub AreArguments : Store → List ℕ → Type 0
AreArguments h [] = ⊤
AreArguments h (c ∷ cs) = ((c < length h.cells) × (IsHead (at h.cells c) → ⊥)) × AreArguments h cs

-- of a term the node was put behind the others, and the cells of its arguments on a stack
pub record IsTaken (h : Store) (before after : List Node) (left now : List ℕ) (t : Tree) : Type 0 where
  pub node : Node
  pub first : ℕ
  pub count : ℕ
  pub nodes : after ≡ before ++ node ∷ []
  pub stack : now ≡ left ++ run first count
  pub fits : FitsNode node
  pub arity : arity node ≡ count
  pub reads : (ts : List Tree) → read node (terms h first count ++ ts) ≡ t ∷ ts
  pub arguments : (d : ℕ) → first ≤ d → d < first + count → (d < length h.cells) × (IsHead (at h.cells d) → ⊥)
  pub lighter : weights (trees (terms h first count)) < weight t
