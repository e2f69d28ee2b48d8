-- What the heads of clauses make of values.
use Rattle.std.specs.Prelude.{◌≡◌, ℕ, ◌+◌, ◌<◌, ◌≤◌, List, Some, None, suc, length, Bool, true, false}
use Rattle.plterm.specs.Tree.{Tree, compound, trees}
use Rattle.plsubst.specs.Subst.{bind}
use Rattle.plsubst.specs.Unify.{unify}
use Rattle.platoms.specs.Names.{Table, functor_arity, functor_name}
use Rattle.plcells.specs.declared.cell.Cell.{Cell}
use Rattle.plcells.specs.Store.{Store, at as cell_at, terms, spread, IsHead, IsHeap}
use Rattle.plcode.specs.declared.node.Node.{Node}
use Rattle.plcode.specs.declared.node.Node.TheVariants.{Fun}
use Rattle.plcode.specs.Packed.{node_at, IsArgument}
use Rattle.plenv.specs.Env.{Env}
use Rattle.plenv.specs.Changes.{Substitutes, Unifies}
use Rattle.plenv.specs.Rows.{tree_at}
use Rattle.plhead.specs.Equations.{Terms, Solves}
use Rattle.plhead.specs.declared.compare.Verdict.{Verdict}
use Rattle.plhead.specs.declared.compare.Verdict.TheVariants.{Same, Clash, Args}

-- the most general unifier of two rows of terms, as arguments of any name, was put into each value and slot
pub record UnifiesAll (old new : Env) (ts us : List Tree) : Type 0 where
  pub unifier : ℕ → Tree
  pub is : (f : List ℕ) → unify (compound f (trees ts)) (compound f (trees us)) ≡ Some unifier
  pub made : Substitutes old new unifier

-- two rows of terms have no unifier
abbrev pub NotUnifiable : List Tree → List Tree → Type 0
NotUnifiable ts us = (f : List ℕ) → unify (compound f (trees ts)) (compound f (trees us)) ≡ None

-- u is the compound of the block of nodes at a place
pub record IsCompoundAt (t : Table) (nodes : List Node) (root : ℕ) (u : Tree) : Type 0 where
  pub functor : ℕ
  pub arity : ℕ
  pub head : node_at nodes root ≡ Fun functor arity
  pub known : functor < length t.functors
  pub arity_is : functor_arity t functor ≡ arity
  pub within : root + arity < length nodes
  pub whole : (j : ℕ) → root < j → j ≤ root + arity → IsArgument 0 j (node_at nodes j)
  pub is : u ≡ compound (functor_name t functor) (trees (spread (tree_at t nodes) (suc root) arity))

abbrev pub said : Bool → Verdict
said true = Same
said false = Clash

-- s and t are compounds of one name, with k arguments each: the terms of nodes from i on, and of cells from c on
pub record HasArgs (h : Store) (nodes : List Node) (w : Terms) (s t : Tree) (i c k : ℕ) : Type 0 where
  pub name : List ℕ
  pub left_is : s ≡ compound name (trees (spread w i k))
  pub right_is : t ≡ compound name (trees (terms h c k))
  pub nodes_within : i + k ≤ length nodes
  pub whole : (j : ℕ) → i ≤ j → j < i + k → IsArgument 0 j (node_at nodes j)
  pub cells_within : c + k ≤ length h.cells
  pub plain : (d : ℕ) → c ≤ d → d < c + k → IsHead (cell_at h.cells d) → ⊥
  pub heap : IsHeap h

-- what a verdict says of the terms of a node and of a value, whatever the node's variables stand for
unfoldable pub IsVerdict : Store → List Node → Terms → Tree → Tree → Verdict → Type 0
IsVerdict h nodes w s t Same = (σ τ : ℕ → Tree) → bind τ (bind σ s) ≡ bind τ t
IsVerdict h nodes w s t Clash = (σ τ : ℕ → Tree) → bind τ (bind σ s) ≡ bind τ t → ⊥
IsVerdict h nodes w s t (Args i c k) = HasArgs h nodes w s t i c k

-- what a node's term u, which stands for s, and a value's term t came to: their unifier was put, they have none, or their arguments are left
unfoldable pub Comes : Env → Env → List Node → Terms → Tree → Tree → Tree → Verdict → Type 0
Comes old new nodes w u s t Same = Unifies old new s t
Comes old new nodes w u s t Clash = unify s t ≡ None
Comes old new nodes w u s t (Args i c k) = HasArgs old.heap nodes w u t i c k × (new ≡ old)

-- the equations ask for what makes s and t one term
pub record Stands (e : Env) (base : ℕ) (w : Terms) (work : List (ℕ × Cell)) (s t : Tree) : Type 0 where
  pub to : (τ : ℕ → Tree) → bind τ s ≡ bind τ t → Solves τ e base w work
  pub back : (τ : ℕ → Tree) → Solves τ e base w work → bind τ s ≡ bind τ t

-- the answer of a unification
unfoldable pub Answers : Env → Env → Tree → Tree → Bool → Type 0
Answers old new s t true = Unifies old new s t
Answers old new s t false = unify s t ≡ None
