-- What is out and what is left on the stack, together, while the nodes of a term are taken.
use Rattle.std.proofs.Common.{◌≡◌, ℕ, zero, suc, ◌+◌, ◌<◌, ◌≤◌, List, [], ◌∷◌, ◌++◌, length, length-append, map, reverse, refl, sym, ap, ap₂, ◌∙◌, subst, arith, append_assoc, append-nil}
use Rattle.std.proofs.lemmas.List.{reverse-append, map-append, take_at, drop_at}
use Rattle.plterm.specs.Tree.{Tree, compound, trees}
use Rattle.plterm.specs.declared.node.Node.{Node}
use Rattle.plterm.specs.declared.node.Node.TheVariants.{Compound}
use Rattle.std.specs.List.{flat_map}
use Rattle.plterm.specs.Reading.{read, reading, arity, spelling, AllFit, IsName, IsForest, Fits as FitsNode}
use Rattle.plterm.proofs.Spellings.{spelling-read}
use Rattle.platoms.specs.Names.{functor_at, functor_name}
use Rattle.plcells.specs.Store.{Store, at, term, terms, spread, IsHead, IsHeap, IsBlock}
use Rattle.plcells.specs.Walking.{run, weight, weights, AreArguments, IsTaken}
use Rattle.plcells.proofs.Searching.{weight-some}

run-terms : (h : Store) (k a : ℕ) → map (term h) (reverse (run a k)) ≡ terms h a k
run-terms h zero a = refl
run-terms h (suc k) a = ap (map (term h)) (reverse-append (run (suc a) k) (a ∷ [])) ∙ ap (λ ts. term h a ∷ ts) (run-terms h k (suc a))

run-length : (k a : ℕ) → length (run a k) ≡ k
run-length zero a = refl
run-length (suc k) a = length-append (run (suc a) k) (a ∷ []) ∙ omega (arith, run-length k (suc a))

-- one more cell, from the last on
pub run-more : (items old : List ℕ) (a i k : ℕ) → items ≡ old ++ run (a + suc i) k → items ++ (a + i) ∷ [] ≡ old ++ run (a + i) (suc k)
run-more items old a i k e =
    ap (λ xs. xs ++ (a + i) ∷ []) e
    ∙ append_assoc old (run (a + suc i) k) ((a + i) ∷ [])
    ∙ ap (λ m. old ++ (run m k ++ (a + i) ∷ [])) (omega arith)

-- whatever is a forest with so many terms is one behind what is out
abbrev pub Plants : List Node → ℕ → Type 0
Plants out n = (rest : List Node) → IsForest rest → n ≤ length (reading rest) → IsForest (out ++ rest)

-- the terms of the cells on a stack, the topmost first
abbrev pub left_terms : Store → List ℕ → List Tree
left_terms h stack = map (term h) (reverse stack)

pub left-popped : (h : Store) (stack rest : List ℕ) (d : ℕ) → stack ≡ rest ++ d ∷ [] → left_terms h stack ≡ term h d ∷ left_terms h rest
left-popped h stack rest d e = ap (left_terms h) e ∙ ap (map (term h)) (reverse-append rest (d ∷ []))

left-run : (h : Store) (rest : List ℕ) (k a : ℕ) → left_terms h (rest ++ run a k) ≡ terms h a k ++ left_terms h rest
left-run h rest k a =
    ap (map (term h)) (reverse-append rest (run a k)) ∙ map-append (term h) (reverse (run a k)) (reverse rest)
    ∙ ap (λ us. us ++ left_terms h rest) (run-terms h k a)

weights-append : (ts us : List Tree) → weights (trees (ts ++ us)) ≡ weights (trees ts) + weights (trees us)
unfolding weight
weights-append [] us = omega arith
weights-append (t ∷ ts) us = omega (arith, weights-append ts us)

spread-length : (w : ℕ → Tree) (k c : ℕ) → length (spread w c k) ≡ k
spread-length w zero c = refl
spread-length w (suc k) c = ap suc (spread-length w k (suc c))

arguments-append : (h : Store) (xs ys : List ℕ) → AreArguments h xs → AreArguments h ys → AreArguments h (xs ++ ys)
arguments-append h [] ys p q = q
arguments-append h (x ∷ xs) ys p q = (p.0, arguments-append h xs ys p.1 q)

arguments-run : (h : Store) (k a : ℕ) → ((d : ℕ) → a ≤ d → d < a + k → (d < length h.cells) × (IsHead (at h.cells d) → ⊥)) → AreArguments h (run a k)
arguments-run h zero a each = tt
arguments-run h (suc k) a each = arguments-append h (run (suc a) k) (a ∷ []) (arguments-run h k (suc a) (λ d le lt. each d (omega arith) (omega arith))) (each a (omega arith) (omega arith), tt)

pub arguments-pop : (h : Store) (cs : List ℕ) (c : ℕ) → AreArguments h (cs ++ c ∷ []) → AreArguments h cs × ((c < length h.cells) × (IsHead (at h.cells c) → ⊥))
arguments-pop h [] c p = (tt, p.0)
arguments-pop h (d ∷ cs) c p = let r = arguments-pop h cs c p.1 in ((p.0, r.0), r.1)

-- how many nodes they have
abbrev pub weigh_left : Store → List ℕ → ℕ
weigh_left h stack = weights (trees (left_terms h stack))

pub weigh-popped : (h : Store) (stack rest : List ℕ) (d : ℕ) → stack ≡ rest ++ d ∷ [] → weigh_left h stack ≡ weight (term h d) + weigh_left h rest
unfolding weight
weigh-popped h stack rest d e = ap (λ ts. weights (trees ts)) (left-popped h stack rest d e)

-- a term's node was taken
module _ (h : Store) (before after : List Node) (left now : List ℕ) (t : Tree) (is : IsTaken h before after left now t) where
  -- the nodes of what was left before it
  spelled-taken : flat_map spelling (t ∷ left_terms h left) ≡ is.node ∷ flat_map spelling (left_terms h now)
  spelled-taken =
      let us : List Tree = terms h is.first is.count ++ left_terms h left in
      let room : arity is.node ≤ length us = omega (arith, is.arity, spread-length (term h) is.count is.first, length-append (terms h is.first is.count) (left_terms h left)) in
      ap (flat_map spelling) (sym (is.reads (left_terms h left))) ∙ spelling-read is.node us room
      ∙ ap (λ (vs : List Tree). is.node ∷ flat_map spelling vs) (sym (ap (left_terms h) is.stack ∙ left-run h left is.count is.first))

  pub nodes-taken : after ++ flat_map spelling (left_terms h now) ≡ before ++ flat_map spelling (t ∷ left_terms h left)
  nodes-taken =
      ap (λ ns. ns ++ flat_map spelling (left_terms h now)) is.nodes ∙ append_assoc before (is.node ∷ []) (flat_map spelling (left_terms h now)) ∙ ap (λ ns. before ++ ns) (sym spelled-taken)

  pub fit-taken : AllFit (flat_map spelling (left_terms h now)) → AllFit (flat_map spelling (t ∷ left_terms h left))
  fit-taken f = subst AllFit (sym spelled-taken) (is.fits, f)

  pub arguments-taken : AreArguments h left → AreArguments h now
  arguments-taken are = subst (AreArguments h) (sym is.stack) (arguments-append h left (run is.first is.count) are (arguments-run h is.count is.first is.arguments))

  pub weigh-taken : weigh_left h now < weight t + weigh_left h left
  unfolding weight
  weigh-taken = omega (arith, is.lighter, ap (λ us. weights (trees us)) (ap (left_terms h) is.stack ∙ left-run h left is.count is.first), weights-append (terms h is.first is.count) (left_terms h left))

-- a term without arguments
pub taken-leaf : (h : Store) (before after : List Node) (left : List ℕ) (t : Tree) (n : Node) → after ≡ before ++ n ∷ [] → FitsNode n → arity n ≡ 0 → ((ts : List Tree) → read n ts ≡ t ∷ ts) → IsTaken h before after left left t
unfolding weight
taken-leaf h before after left t n nodes fits none reads = record {
  node = n;
  first = 0;
  count = 0;
  nodes = nodes;
  stack = sym (append-nil left);
  fits = fits;
  arity = none;
  reads = reads;
  arguments = λ d le lt. absurd (omega (arith, lt));
  lighter = weight-some t;
}

-- a compound
pub taken-block : (h : Store) (before after : List Node) (left now : List ℕ) (name : List ℕ) (p f k first : ℕ) → IsHeap h → IsBlock h p f k → name ≡ functor_name h.names f → first ≡ suc p →
    after ≡ before ++ Compound name k ∷ [] → now ≡ left ++ run first k → IsTaken h before after left now (term h p)
unfolding weight
taken-block h before after left now name p f k first is block named next nodes stack =
    let fun = is.names.functors f block.functor in
    let shows : term h p ≡ compound name (trees (terms h first k)) = block.is ∙ ap₂ (λ n c. compound n (trees (terms h c k))) (sym named) (sym next) in
    let len : length (terms h first k) ≡ k = spread-length (term h) k first in
    record {
      node = Compound name k;
      first = first;
      count = k;
      nodes = nodes;
      stack = stack;
      fits = (subst IsName (sym named) (is.names.atoms ((functor_at h.names f).name) fun.name), omega (arith, fun.some, block.arity), omega (arith, fun.most, block.arity));
      arity = refl;
      reads = λ ts. ap₂ (λ us vs. compound name (trees us) ∷ vs) (take_at (terms h first k) ts k len) (drop_at (terms h first k) ts k len) ∙ ap (λ u. u ∷ ts) (sym shows);
      arguments = λ d le lt. (omega (arith, block.within, lt, next), block.plain d (omega (arith, le, next)) (omega (arith, lt, next)));
      lighter = let w : weight (term h p) ≡ suc (weights (trees (terms h first k))) = ap weight shows in omega (arith, w);
    }
