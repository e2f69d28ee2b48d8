-- Slots and terms beside integers.
use Rattle.std.proofs.Common.{◌≡◌, ◌↔◌, ◌≤◌, ◌+◌, IsTrue, ℕ, ℤ, Bool, true, false, Result, Ok, Err, List, None, refl, sym, ap, ◌∙◌, subst, inl, inr, le_refl}
use Rattle.std.specs.Prelude.{IfOk, OnErr}
use Rattle.plterm.specs.Tree.{Tree, var, int, atom, compound}
use Rattle.platoms.specs.Names.{atom_at}
use Rattle.plsubst.specs.Subst.{bind, put}
use Rattle.plsubst.specs.Unify.{unify}
use Rattle.plsubst.proofs.Unify.{int≢atom, int≢compound}
use Rattle.plsubst.proofs.UnifyUnique.{unify-is, unify-none, var-variable, int≢var, atom≢var, compound≢var}
use Rattle.plcells.specs.declared.cell.Cell.{Cell}
use Rattle.plcells.specs.Store.{value, IsFresh, IsHeap, IsValue}
use Rattle.plcode.specs.declared.node.Node.{Node}
use Rattle.plcode.specs.declared.node.Node.TheVariants as node
use Rattle.plcode.specs.Packed.{node_at}
use Rattle.plenv.specs.declared.slot.Slot.TheVariants.{Free}
use Rattle.plenv.specs.Env.{Env, over, slot_at, variable}
use Rattle.plenv.specs.Changes.{Stays, Substitutes, Unifies}
use Rattle.plenv.specs.Rows.{tree_at}
use Rattle.plenv.proofs.Putting.{Stays-refl}
use Rattle.plhead.proofs.Slots.{fresh-absent, put-is, substitutes-none}
use Rattle.plexpression.specs.Nodes.{IsNode, IsOffHeap}
use Rattle.plexpression.proofs.Clauses.{shows, compound_there, variable_shown}

-- what a term that is no variable comes to under a substitution is an integer where it is one itself
bound-integer : (τ : ℕ → Tree) (t : Tree) (i : ℤ) → ((n : ℕ) → t ≡ var n → ⊥) → bind τ t ≡ int i → t ≡ int i
unfolding bind
bound-integer τ (var n) i other e = absurd (other n refl)
bound-integer τ (int j) i other e = e
bound-integer τ (atom f) i other e = int≢atom (sym e)
bound-integer τ (compound f ts) i other e = int≢compound (sym e)

-- a term that is no variable has no unifier with another integer
pub integer-apart : (t u : Tree) (i : ℤ) → u ≡ int i → ((n : ℕ) → t ≡ var n → ⊥) → (t ≡ int i → ⊥) → unify t u ≡ None
unfolding bind
integer-apart t u i is other apart = unify-none t u (λ τ e. apart (bound-integer τ t i other (e ∙ ap (bind τ) is)))

-- a term is unified with itself, and nothing changes
pub same-unifies : (e : Env) (t u : Tree) → t ≡ u → Unifies e e t u
unfolding bind
same-unifies e t u same = record {
  unifier = var;
  is = unify-is t u var (ap (bind var) same, λ τ q y. refl) (λ w z q. subst (λ k. k ≤ w) (var-variable q) (le_refl w));
  made = substitutes-none e;
}

-- two integers, and whether they are the same
pub integers-same : (e : Env) (t u : Tree) (i : ℤ) (b : Bool) → t ≡ int i → IsTrue b ↔ (u ≡ int i) → b ≡ true → Unifies e e t u
integers-same e t u i b is test one = same-unifies e t u (is ∙ sym (test.0 one))

pub integers-apart : (t u : Tree) (i j : ℤ) (b : Bool) → t ≡ int i → u ≡ int j → IsTrue b ↔ (u ≡ int i) → b ≡ false → unify t u ≡ None
integers-apart t u i j b is number test none =
    integer-apart t u j number (λ n q. int≢var (sym is ∙ q)) (λ q. let one : b ≡ true = test.1 (number ∙ sym q ∙ is) in absurd (cc))

-- what a node stands for beside an integer
module _ (e : Env) (nodes : List Node) (base at : ℕ) (is : IsNode e nodes base at) where
  abbrev own : Tree
  own = bind (over e base) (tree_at e.heap.names nodes at)

  pub number-own : (i : ℤ) → node_at nodes at ≡ node.Int i → own ≡ int i
  unfolding bind
  number-own i here = ap (bind (over e base)) (shows e nodes base at (node.Int i) is here)

  pub atom-apart : (a : ℕ) → node_at nodes at ≡ node.Atom a → (u : Tree) (i : ℤ) → u ≡ int i → unify own u ≡ None
  unfolding bind
  atom-apart a here u i number =
      let shown : own ≡ atom (atom_at e.heap.names a) = ap (bind (over e base)) (shows e nodes base at (node.Atom a) is here) in
      integer-apart own u i number (λ n q. atom≢var (sym shown ∙ q)) (λ q. int≢atom (sym q ∙ shown))

  pub compound-apart : (from root : ℕ) → node_at nodes at ≡ node.Sub from root → (u : Tree) (i : ℤ) → u ≡ int i → unify own u ≡ None
  unfolding bind
  compound-apart from root here u i number =
      let shown = ap (bind (over e base)) (compound_there e nodes base at from root is here).is in
      integer-apart own u i number (λ n q. compound≢var (sym shown ∙ q)) (λ q. int≢compound (sym q ∙ shown))

  -- a variable whose slot is free, or which stands for no variable
  pub off-heap : (new : Env) (x slot : ℕ) → node_at nodes at ≡ node.Var x → slot ≡ base + x → ((n : ℕ) → slot_at e.slots slot ≡ Free n → new.heap ≡ e.heap) → (((n : ℕ) → variable e slot ≡ var n → ⊥) → new.heap ≡ e.heap) →
      IsOffHeap e base (tree_at e.heap.names nodes at) → new.heap ≡ e.heap
  off-heap new x slot here place free other (inl f) =
      let shown : var x ≡ var f.place = sym (shows e nodes base at (node.Var x) is here) ∙ f.is in
      free f.number (ap (slot_at e.slots) (place ∙ ap (λ y. base + y) (var-variable shown)) ∙ f.free)
  off-heap new x slot here place free other (inr none) = other (λ n q. none n (sym (variable_shown e nodes base at x is here) ∙ ap (variable e) (sym place) ∙ q))

module _ (old new : Env) {E : Type 0} (r : Result Bool E) where
  -- what changes nothing leaves all that stays
  pub stays-no : (X : Type 0) → IfOk r (λ fits. fits ≡ false → X × (new ≡ old)) → IfOk r (λ fits. fits ≡ false → Stays old new)
  stays-no X f = go r f
    where
      go : (q : Result Bool E) → IfOk q (λ fits. fits ≡ false → X × (new ≡ old)) → IfOk q (λ fits. fits ≡ false → Stays old new)
      go (Ok b) f = λ e. subst (Stays old) (sym (f e).1) (Stays-refl old)
      go (Err x) f = tt

  pub stays-err : OnErr r (new ≡ old) → OnErr r (Stays old new)
  stays-err f = go r f
    where
      go : (q : Result Bool E) → OnErr q (new ≡ old) → OnErr q (Stays old new)
      go (Ok b) f = tt
      go (Err x) f = subst (Stays old) (sym f) (Stays-refl old)

  -- a unification that can have no unifier changes nothing
  pub unchanged : (X : Type 0) (t u : Tree) → unify t u ≡ None → IfOk r (λ fits. fits ≡ true → Unifies old new t u) → IfOk r (λ fits. fits ≡ false → X × (new ≡ old)) → OnErr r (new ≡ old) → new ≡ old
  unchanged X t u none f g h = go r f g h
    where
      go : (q : Result Bool E) → IfOk q (λ fits. fits ≡ true → Unifies old new t u) → IfOk q (λ fits. fits ≡ false → X × (new ≡ old)) → OnErr q (new ≡ old) → new ≡ old
      go (Ok true) f g h = let no = sym none ∙ (f refl).is in absurd (cc)
      go (Ok false) f g h = (g refl).1
      go (Err x) f g h = h

-- an integer is no variable, and has none
pub number-unifies : (old new : Env) (n : ℕ) (v : Cell) (i : ℤ) → IsHeap old.heap → IsFresh old.heap n → IsValue old.heap v → value old.heap v ≡ int i → Substitutes old new (put n (value old.heap v)) → Unifies old new (var n) (value old.heap v)
number-unifies old new n v i heap fresh fits is made = record {
  unifier = put n (value old.heap v);
  is = put-is n (value old.heap v) (fresh-absent old.heap heap n fresh v fits) (λ u e. let d : int i ≡ var u = sym is ∙ e in absurd (cc));
  made = made;
}
