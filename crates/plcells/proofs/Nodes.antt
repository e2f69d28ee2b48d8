-- Terms whose nodes are walked from their end.
use Rattle.std.proofs.Common.{◌≡◌, ℕ, zero, suc, ◌+◌, ◌<◌, ◌≤◌, List, [], ◌∷◌, ◌++◌, length, take, drop, map, reverse, refl, sym, ap, ap₂, ◌∙◌, subst, get_or}
use Rattle.std.proofs.lemmas.List.{reverse-append, take_more, take-append-drop}
use Rattle.plterm.specs.declared.node.Node.{Node}
use Rattle.plterm.specs.declared.node.Node.TheVariants.{Var, Int as IntNode, Atom as AtomNode, Compound}
use Rattle.plterm.specs.Tree.{Tree, Trees, var, int, atom, compound, none, more, trees}
use Rattle.plterm.specs.Reading.{IsForest, IsTerm, arity, read, reading, tree_of, Fits as FitsNode}
use Rattle.plterm.specs.Variables.{AllBelow, EachBelow}
use Rattle.plterm.proofs.Forests.{reading_term}
use Rattle.plsubst.specs.Subst.{bind, bind_all}

pub bind-trees : (σ : ℕ → Tree) (ts : List Tree) → bind_all σ (trees ts) ≡ trees (map (bind σ) ts)
unfolding bind
bind-trees σ [] = refl
bind-trees σ (t ∷ ts) = ap (more (bind σ t)) (bind-trees σ ts)

-- substitutions that agree on the variables of a term
mutual
  unfolding bind

  pub bind-agree : (v : ℕ) (σ τ : ℕ → Tree) → ((x : ℕ) → x < v → σ x ≡ τ x) → (t : Tree) → AllBelow v t → bind σ t ≡ bind τ t
  bind-agree v σ τ same (var x) lt = same x lt
  bind-agree v σ τ same (int i) b = refl
  bind-agree v σ τ same (atom f) b = refl
  bind-agree v σ τ same (compound f ts) b = ap (compound f) (bind_all-agree v σ τ same ts b)

  pub bind_all-agree : (v : ℕ) (σ τ : ℕ → Tree) → ((x : ℕ) → x < v → σ x ≡ τ x) → (ts : Trees) → EachBelow v ts → bind_all σ ts ≡ bind_all τ ts
  bind_all-agree v σ τ same none b = refl
  bind_all-agree v σ τ same (more t ts) b = ap₂ more (bind-agree v σ τ same t b.0) (bind_all-agree v σ τ same ts b.1)

-- all trees of a list
abbrev pub AreBelow : ℕ → List Tree → Type 0
AreBelow v [] = Unit {0}
AreBelow v (t ∷ ts) = AllBelow v t × AreBelow v ts

each-list : (v : ℕ) (ts : List Tree) → EachBelow v (trees ts) → AreBelow v ts
each-list v [] b = tt
each-list v (t ∷ ts) b = (b.0, each-list v ts b.1)

below-split : (v k : ℕ) (ts : List Tree) → AreBelow v (take k ts) → AreBelow v (drop k ts) → AreBelow v ts
below-split v zero ts a b = b
below-split v (suc k) [] a b = tt
below-split v (suc k) (t ∷ ts) a b = (a.0, below-split v k ts a.1 b)

-- what a node takes its arguments from
below-read : (v : ℕ) (n : Node) (ts : List Tree) → AreBelow v (read n ts) → AreBelow v ts
below-read v (Var x) ts b = b.1
below-read v (IntNode i) ts b = b.1
below-read v (AtomNode s) ts b = b.1
below-read v (Compound s k) ts b = below-split v k ts (each-list v (take k ts) b.0) b.1

below-behind : (v : ℕ) (xs ys : List Node) → AreBelow v (reading (xs ++ ys)) → AreBelow v (reading ys)
below-behind v [] ys b = b
below-behind v (x ∷ xs) ys b = below-behind v xs ys (below-read v x (reading (xs ++ ys)) b)

forest-behind : (xs ys : List Node) → IsForest (xs ++ ys) → IsForest ys
forest-behind [] ys f = f
forest-behind (x ∷ xs) ys f = forest-behind xs ys f.2

reverse-more : (nodes : List Node) (i : ℕ) (d : Node) → i < length nodes → reverse (take (i + 1) nodes) ≡ get_or nodes i d ∷ reverse (take i nodes)
reverse-more nodes i d lt = ap reverse (take_more nodes i d lt) ∙ reverse-append (take i nodes) (get_or nodes i d ∷ [])

parts : (nodes : List Node) (i : ℕ) → reverse nodes ≡ reverse (drop i nodes) ++ reverse (take i nodes)
parts nodes i = ap reverse (sym (take-append-drop i nodes)) ∙ reverse-append (take i nodes) (drop i nodes)

pub reading-at : (nodes : List Node) (i : ℕ) (d n : Node) → i < length nodes → get_or nodes i d ≡ n → read n (reading (reverse (take i nodes))) ≡ reading (reverse (take (i + 1) nodes))
reading-at nodes i d n lt e = ap (λ m. read m (reading (reverse (take i nodes)))) (sym e) ∙ ap reading (sym (reverse-more nodes i d lt))

-- the node at i fits, and finds its arguments
pub node-at : (nodes : List Node) (i : ℕ) (d n : Node) → i < length nodes → get_or nodes i d ≡ n → IsForest (reverse nodes) → FitsNode n × (arity n ≤ length (reading (reverse (take i nodes))))
node-at nodes i d n lt e f =
    let g = forest-behind (reverse (drop (i + 1) nodes)) (reverse (take (i + 1) nodes)) (subst IsForest (parts nodes (i + 1)) f) in
    let h : IsForest (get_or nodes i d ∷ reverse (take i nodes)) = subst IsForest (reverse-more nodes i d lt) g in
    subst (λ m. FitsNode m × (arity m ≤ length (reading (reverse (take i nodes))))) e (h.0, h.1)

-- its variables are below v
pub below-at : (v : ℕ) (nodes : List Node) (i : ℕ) (d n : Node) → i < length nodes → get_or nodes i d ≡ n → AreBelow v (reading (reverse nodes)) → AreBelow v (read n (reading (reverse (take i nodes))))
below-at v nodes i d n lt e b =
    let g = below-behind v (reverse (drop (i + 1) nodes)) (reverse (take (i + 1) nodes)) (subst (λ ns. AreBelow v (reading ns)) (parts nodes (i + 1)) b) in
    subst (AreBelow v) (sym (reading-at nodes i d n lt e)) g

pub below-tree : (v : ℕ) (ns : List Node) → IsTerm ns → AllBelow v (tree_of ns) → AreBelow v (reading ns)
below-tree v ns is b = subst (AreBelow v) (sym (reading_term ns is)) (b, tt)
