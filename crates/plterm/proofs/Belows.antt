-- The variables of a copy are below their number.
use Rattle.std.proofs.Common.{◌≡◌, ℕ, ◌+◌, ◌<◌, List, [], ◌∷◌, ◌++◌, length, map, subst, arith}
use Rattle.plterm.specs.declared.node.Node.{Node}
use Rattle.plterm.specs.declared.node.Node.TheVariants.{Var, Int, Atom, Compound}
use Rattle.plterm.specs.Tree.{Tree, var, int, atom, compound, Trees, none, more}
use Rattle.plterm.specs.Reading.{spelling, spellings}
use Rattle.plterm.specs.Variables.{place, added, with_node, seen_after, variables, copied, rename, AllBelow, EachBelow}
use Rattle.plterm.proofs.Spellings.{place-added, kept_by_node, spelling-renamed}

-- each variable among the nodes is below n
abbrev pub NodesBelow : ℕ → List Node → Type 0
NodesBelow n [] = Unit {0}
NodesBelow n (Var v ∷ ns) = (v < n) × NodesBelow n ns
NodesBelow n (Int i ∷ ns) = NodesBelow n ns
NodesBelow n (Atom s ∷ ns) = NodesBelow n ns
NodesBelow n (Compound s k ∷ ns) = NodesBelow n ns

below_front : (n : ℕ) (ms ns : List Node) → NodesBelow n (ms ++ ns) → NodesBelow n ms × NodesBelow n ns
below_front n [] ns h = (tt, h)
below_front n (Var v ∷ ms) ns h = let b = below_front n ms ns h.1 in ((h.0, b.0), b.1)
below_front n (Int i ∷ ms) ns h = below_front n ms ns h
below_front n (Atom s ∷ ms) ns h = below_front n ms ns h
below_front n (Compound s k ∷ ms) ns h = below_front n ms ns h

mutual
  pub AllBelow-spelling : (n : ℕ) (t : Tree) → NodesBelow n (spelling t) → AllBelow n t
  AllBelow-spelling n (var v) h = h.0
  AllBelow-spelling n (int i) h = tt
  AllBelow-spelling n (atom s) h = tt
  AllBelow-spelling n (compound s ts) h = EachBelow-spellings n ts h

  pub EachBelow-spellings : (n : ℕ) (ts : Trees) → NodesBelow n (spellings ts) → EachBelow n ts
  EachBelow-spellings n none h = tt
  EachBelow-spellings n (more t ts) h =
      let b = below_front n (spelling t) (spellings ts) h in (AllBelow-spelling n t b.0, EachBelow-spellings n ts b.1)

-- more variables are seen
pub known_after : (ns : List Node) (v : ℕ) (seen : List ℕ) → place v seen < length seen → place v (seen_after seen ns) < length (seen_after seen ns)
known_after [] v seen h = h
known_after (n ∷ ns) v seen h = let k = kept_by_node n v seen h in known_after ns v (with_node seen n) (rw k.0 k.1)

found_after : (v : ℕ) (ns : List Node) (seen : List ℕ) → place v (seen_after (added seen v) ns) < length (seen_after (added seen v) ns)
found_after v ns seen = let k = place-added v seen in known_after ns v (added seen v) (rw k.0 k.1)

numbered_below : (from : ℕ) (ns : List Node) (seen : List ℕ) → NodesBelow (from + length (seen_after seen ns)) (map (rename (λ v. from + place v (seen_after seen ns))) ns)
numbered_below from [] seen = tt
numbered_below from (Var v ∷ ns) seen = (omega (arith, found_after v ns seen), numbered_below from ns (added seen v))
numbered_below from (Int i ∷ ns) seen = numbered_below from ns seen
numbered_below from (Atom s ∷ ns) seen = numbered_below from ns seen
numbered_below from (Compound s k ∷ ns) seen = numbered_below from ns seen

-- the variables of a copy from a number are below it and their number
pub AllBelow-copied : (from : ℕ) (t : Tree) → AllBelow (from + length (variables t)) (copied from t)
AllBelow-copied from t =
    AllBelow-spelling (from + length (variables t)) (copied from t)
    (rw (spelling-renamed (λ v. from + place v (variables t)) t) (numbered_below from (spelling t) []))

-- and so for one from 0
pub AllBelow-copied_0 : (t : Tree) → AllBelow (length (variables t)) (copied 0 t)
AllBelow-copied_0 t = let e : 0 + length (variables t) ≡ length (variables t) = omega arith in subst (λ n. AllBelow n (copied 0 t)) e (AllBelow-copied 0 t)
