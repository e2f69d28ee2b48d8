-- Goals of clauses, whose arguments are put.
use Rattle.std.proofs.Common.{◌≡◌, ℕ, suc, ◌+◌, ◌<◌, ◌≤◌, List, [], ◌∷◌, length, map, refl, sym, ap, ap₂, ◌∙◌, subst, arith}
use Rattle.std.proofs.lemmas.List.{length-map}
use Rattle.plterm.specs.Tree.{Tree, compound, trees}
use Rattle.plterm.specs.Variables.{AllBelow, EachBelow}
use Rattle.plsubst.specs.Subst.{bind}
use Rattle.platoms.specs.Names.{Table, functor_name, functor_arity}
use Rattle.plcells.specs.declared.cell.Cell.{Cell}
use Rattle.plcells.specs.Store.{value}
use Rattle.plcells.proofs.Nodes.{bind-trees}
use Rattle.plcode.specs.declared.callee.Number.TheVariants.{Functor}
use Rattle.plcode.specs.declared.node.Node.{Node}
use Rattle.plcode.specs.declared.node.Node.TheVariants.{Var, Int, Atom, Fun, Sub}
use Rattle.plcode.specs.Nodes.{row, IsNamed}
use Rattle.plcode.specs.Laying.{IsLaid}
use Rattle.plcode.specs.Packed.{node_at, IsArgument}
use Rattle.plgoals.specs.Callables.{called, IsCallable}
use Rattle.plenv.specs.declared.slot.Row.{Row}
use Rattle.plenv.specs.Env.{Env, over, Covers}
use Rattle.plenv.specs.Blocks.{block_at}
use Rattle.plenv.specs.Changes.{PutsAll}
use Rattle.plenv.specs.Rows.{row_at, AllBelowEach, CoversAll}
use Rattle.plenv.proofs.Nodes.{block-is, named-at, row-terms}
use Rattle.plenv.proofs.Rows.{for-are, row-length}

-- an argument of a block is one of a row
pub argument-any : (from place : ℕ) (n : Node) → IsArgument from place n → (j : ℕ) → place ≤ j → IsArgument 0 j n
argument-any from place (Var s) is j le = tt
argument-any from place (Int i) is j le = tt
argument-any from place (Atom a) is j le = tt
argument-any from place (Fun f k) is j le = is
argument-any from place (Sub first root) is j le = (omega arith, omega (arith, is.1, le))

each-row : (v : ℕ) (ts : List Tree) → EachBelow v (trees ts) → AllBelowEach v ts
each-row v [] b = tt
each-row v (t ∷ ts) b = (b.0, each-row v ts b.1)

-- the arguments of the block at a place
abbrev pub arguments_at : ℕ → ℕ → Row
arguments_at root k = record { at = root + 1; count = k }

module _ (t : Table) (nodes : List Node) (root f k : ℕ) (laid : IsLaid t nodes) (lt : root < length nodes) (is : node_at nodes root ≡ Fun f k) where
  pub named : (f < length t.functors) × (functor_arity t f ≡ k)
  named = subst (IsNamed t) is (named-at t nodes root laid.sound.named lt)

  pub block-row : block_at t nodes root ≡ compound (functor_name t f) (trees (row_at t nodes (arguments_at root k)))
  unfolding row
  block-row =
      let next : suc root ≡ root + 1 = omega arith in
      block-is t nodes root f k laid.sound.rest lt is
      ∙ ap (λ us. compound (functor_name t f) (trees us)) (sym (row-terms t nodes (suc root) k laid.sound.rest))
      ∙ ap (λ at. compound (functor_name t f) (trees (row t nodes at k))) next

-- the arguments of the block are put
module _ (old new : Env) (base : ℕ) (nodes : List Node) (root f k : ℕ) (laid : IsLaid old.heap.names nodes) (within : root + k < length nodes) (is : node_at nodes root ≡ Fun f k) where
  lt : root < length nodes
  lt = omega (arith, within)

  ts : List Tree
  ts = row_at old.heap.names nodes (arguments_at root k)

  pub row-covered : Covers old base (block_at old.heap.names nodes root) → CoversAll old base (row_at old.heap.names nodes (arguments_at root k))
  row-covered c = record {
    width = c.width;
    below = each-row c.width (row_at old.heap.names nodes (arguments_at root k)) (subst (AllBelow c.width) (block-row old.heap.names nodes root f k laid lt is) c.below);
    within = c.within;
  }

  module _ (vs : List Cell) (names : new.heap.names ≡ old.heap.names) (puts : PutsAll old new vs (map (bind (over old base)) (row_at old.heap.names nodes (arguments_at root k)))) where
    are : map (value new.heap) vs ≡ map (bind (over old base)) (row_at old.heap.names nodes (arguments_at root k))
    are = for-are new.heap vs (map (bind (over old base)) (row_at old.heap.names nodes (arguments_at root k))) puts.are

    many : length vs ≡ k
    many =
        let us = row_at old.heap.names nodes (arguments_at root k) in
        let room : root + 1 + k ≤ length nodes = omega (arith, within) in
        sym (length-map vs (value new.heap)) ∙ ap length are ∙ length-map us (bind (over old base)) ∙ row-length old.heap.names nodes (arguments_at root k) room

    pub block-few : length vs ≤ 1024
    block-few = let n = named old.heap.names nodes root f k laid lt is in omega (arith, many, n.1, (laid.table.functors f n.0).most)

    pub block-callable : IsCallable new.heap.names (Functor f) (length vs)
    block-callable = subst (λ t. IsCallable t (Functor f) (length vs)) (sym names) (
        let n = named old.heap.names nodes root f k laid lt is in
        record { within = n.0; name = refl; arity = n.1 ∙ sym many })

    pub block-called : bind (over old base) (block_at old.heap.names nodes root) ≡ called new.heap.names (Functor f) (map (value new.heap) vs)
    unfolding bind
    block-called =
        ap (bind (over old base)) (block-row old.heap.names nodes root f k laid lt is)
        ∙ ap (compound (functor_name old.heap.names f)) (bind-trees (over old base) (row_at old.heap.names nodes (arguments_at root k)))
        ∙ ap₂ (λ t us. called t (Functor f) us) (sym names) (sym are)
