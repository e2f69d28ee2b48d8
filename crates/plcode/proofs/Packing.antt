-- The blocks of the compounds that wait, and of the block that is laid for them.
use Rattle.std.proofs.Common.{◌≡◌, ℕ, zero, suc, ◌+◌, ◌-◌, ◌<◌, ◌≤◌, List, [], ◌∷◌, ◌++◌, length, take, drop, get_or, inl, inr, subst, ap, ◌∙◌, sym, arith, length-append, length-take}
use Rattle.std.proofs.Math.ListN.{get_or-append}
use Rattle.std.proofs.Math.Seq.{get_or-append_seam, get_or-append_right}
use Rattle.std.proofs.lemmas.Bool.{cases_lt}
use Rattle.plcode.specs.declared.node.Node.{Node}
use Rattle.plcode.specs.declared.node.Node.TheVariants.{Var, Int, Atom, Fun, Sub}
use Rattle.plcode.specs.Packed.{node_at, IsArgument, IsBlockAt, Packed, last, next, ArePacked}
use Rattle.plcode.specs.Laying.{lowest, EndsAt, IsChain}

-- ---- more nodes behind

module _ (old more : List Node) where
  node-more : (i : ℕ) → i < length old → node_at (old ++ more) i ≡ node_at old i
  node-more i lt = get_or-append old more (Var 0) i lt

  IsBlockAt-more : (from place f k : ℕ) → IsBlockAt old from place f k → IsBlockAt (old ++ more) from place f k
  IsBlockAt-more from place f k h =
      let P : ℕ → Node → Type 0 = λ j n. IsArgument from place n in
      record {
        head = node-more place (omega (arith, h.within)) ∙ h.head;
        within = omega (arith, h.within, length-append old more);
        arguments = λ j lt le. subst (P j) (sym (node-more j (omega (arith, h.within)))) (h.arguments j lt le);
      }

  pub Packed-more : (from root : ℕ) {place : ℕ} → Packed old from root place → Packed (old ++ more) from root place
  Packed-more from root (last f k h) = last f k (IsBlockAt-more from root f k h)
  Packed-more from root (next place f k h rest) = next place f k (IsBlockAt-more from place f k h) (Packed-more from root rest)

  EndsAt-more : (from root end : ℕ) → EndsAt old from root end → root < length old → EndsAt (old ++ more) from root end
  EndsAt-more from root end h lt = record {
    packed = Packed-more from root h.packed;
    functor = h.functor;
    arity = h.arity;
    head = node-more root lt ∙ h.head;
    end_is = h.end_is;
  }

-- ---- in order

pub packed_order : (nodes : List Node) (from root : ℕ) {place : ℕ} → Packed nodes from root place → place ≤ root
packed_order nodes from root (last f k h) = omega arith
packed_order nodes from root (next place f k h rest) = omega (arith, packed_order nodes from root rest)

packed_within : (nodes : List Node) (from root : ℕ) {place : ℕ} → Packed nodes from root place → root < length nodes
packed_within nodes from root (last f k h) = omega (arith, h.within)
packed_within nodes from root (next place f k h rest) = packed_within nodes from root rest

chain_below : (nodes : List Node) (end : ℕ) (w : List Node) → IsChain nodes end w → lowest end w ≤ end
chain_below nodes end [] h = omega arith
chain_below nodes end (Var s ∷ w) h = chain_below nodes end w h
chain_below nodes end (Int i ∷ w) h = chain_below nodes end w h
chain_below nodes end (Atom a ∷ w) h = chain_below nodes end w h
chain_below nodes end (Fun f k ∷ w) h = absurd h
chain_below nodes end (Sub from root ∷ w) h =
    let e = h.0 in
    omega (arith, chain_below nodes from w h.1, packed_order nodes from root e.packed, e.end_is)

pub IsChain-more : (old more : List Node) (end : ℕ) (w : List Node) → IsChain old end w → IsChain (old ++ more) end w
IsChain-more old more end [] h = tt
IsChain-more old more end (Var s ∷ w) h = IsChain-more old more end w h
IsChain-more old more end (Int i ∷ w) h = IsChain-more old more end w h
IsChain-more old more end (Atom a ∷ w) h = IsChain-more old more end w h
IsChain-more old more end (Fun f k ∷ w) h = h
IsChain-more old more end (Sub from root ∷ w) h =
    let e = h.0 in (EndsAt-more old more from root end e (packed_within old from root e.packed), IsChain-more old more from w h.1)

pub IsChain-drop : (nodes : List Node) (end k : ℕ) (w : List Node) → IsChain nodes end w → IsChain nodes (lowest end (take k w)) (drop k w)
IsChain-drop nodes end zero w h = h
IsChain-drop nodes end (suc k) [] h = tt
IsChain-drop nodes end (suc k) (Var s ∷ w) h = IsChain-drop nodes end k w h
IsChain-drop nodes end (suc k) (Int i ∷ w) h = IsChain-drop nodes end k w h
IsChain-drop nodes end (suc k) (Atom a ∷ w) h = IsChain-drop nodes end k w h
IsChain-drop nodes end (suc k) (Fun f n ∷ w) h = absurd h
IsChain-drop nodes end (suc k) (Sub from root ∷ w) h = IsChain-drop nodes from k w h.1

pub IsChain-take : (nodes : List Node) (end k : ℕ) (w : List Node) → IsChain nodes end w → IsChain nodes end (take k w)
IsChain-take nodes end zero w h = tt
IsChain-take nodes end (suc k) [] h = tt
IsChain-take nodes end (suc k) (Var s ∷ w) h = IsChain-take nodes end k w h
IsChain-take nodes end (suc k) (Int i ∷ w) h = IsChain-take nodes end k w h
IsChain-take nodes end (suc k) (Atom a ∷ w) h = IsChain-take nodes end k w h
IsChain-take nodes end (suc k) (Fun f n ∷ w) h = h
IsChain-take nodes end (suc k) (Sub from root ∷ w) h = (h.0, IsChain-take nodes from k w h.1)

-- ---- blocks one behind the other

IsArgument-lower : (low from place : ℕ) (n : Node) → low ≤ from → IsArgument from place n → IsArgument low place n
IsArgument-lower low from place (Var s) le h = tt
IsArgument-lower low from place (Int i) le h = tt
IsArgument-lower low from place (Atom a) le h = tt
IsArgument-lower low from place (Fun f k) le h = h
IsArgument-lower low from place (Sub first root) le h = (omega (arith, h.0), h.1)

IsArgument-higher : (low place above : ℕ) (n : Node) → place ≤ above → IsArgument low place n → IsArgument low above n
IsArgument-higher low place above (Var s) le h = tt
IsArgument-higher low place above (Int i) le h = tt
IsArgument-higher low place above (Atom a) le h = tt
IsArgument-higher low place above (Fun f k) le h = h
IsArgument-higher low place above (Sub first root) le h = (h.0, omega (arith, h.1))

IsBlockAt-lower : (nodes : List Node) (low from place f k : ℕ) → low ≤ from → IsBlockAt nodes from place f k → IsBlockAt nodes low place f k
IsBlockAt-lower nodes low from place f k le h =
    record { head = h.head; within = h.within; arguments = λ j lt more. IsArgument-lower low from place (node_at nodes j) le (h.arguments j lt more) }

same_arity : (f g k n : ℕ) (x : Node) → x ≡ Fun f k → x ≡ Fun g n → k ≡ n
same_arity f g k n x a b = let e : Fun f k ≡ Fun g n = sym a ∙ b in cc

-- the blocks of a compound, and then others up to one that rests on them all
module _ (nodes : List Node) (low from root end top : ℕ) (le : low ≤ from) (ends : EndsAt nodes from root end) (behind : Packed nodes low top end) where
  packed_join : {place : ℕ} → Packed nodes from root place → Packed nodes low top place
  packed_join (last f k h) =
      let k_is : k ≡ ends.arity = same_arity f ends.functor k ends.arity (node_at nodes root) h.head ends.head in
      let e : end ≡ suc (root + k) = omega (arith, ends.end_is, k_is) in
      let P : ℕ → Type 0 = λ n. Packed nodes low top n in
      next root f k (IsBlockAt-lower nodes low from root f k le h) (subst P e behind)
  packed_join (next place f k h rest) = next place f k (IsBlockAt-lower nodes low from place f k le h) (packed_join rest)

pub gather : (nodes : List Node) (top end : ℕ) (ns : List Node) → IsChain nodes end ns → Packed nodes (lowest end ns) top end → Packed nodes (lowest end ns) top (lowest end ns)
gather nodes top end [] h p = p
gather nodes top end (Var s ∷ ns) h p = gather nodes top end ns h p
gather nodes top end (Int i ∷ ns) h p = gather nodes top end ns h p
gather nodes top end (Atom a ∷ ns) h p = gather nodes top end ns h p
gather nodes top end (Fun f k ∷ ns) h p = absurd h
gather nodes top end (Sub from root ∷ ns) h p =
    let e = h.0 in
    gather nodes top from ns h.1 (packed_join nodes (lowest from ns) from root end top (chain_below nodes from ns h.1) e p e.packed)

-- ---- a row of them

pub chain_arguments : (nodes : List Node) (end : ℕ) (ns : List Node) (i : ℕ) → IsChain nodes end ns → IsArgument (lowest end ns) end (get_or ns i (Var 0))
chain_arguments nodes end [] i h = tt
chain_arguments nodes end (Var s ∷ ns) zero h = tt
chain_arguments nodes end (Var s ∷ ns) (suc i) h = chain_arguments nodes end ns i h
chain_arguments nodes end (Int s ∷ ns) zero h = tt
chain_arguments nodes end (Int s ∷ ns) (suc i) h = chain_arguments nodes end ns i h
chain_arguments nodes end (Atom s ∷ ns) zero h = tt
chain_arguments nodes end (Atom s ∷ ns) (suc i) h = chain_arguments nodes end ns i h
chain_arguments nodes end (Fun f k ∷ ns) i h = absurd h
chain_arguments nodes end (Sub from root ∷ ns) zero h =
    let e = h.0 in
    let o = packed_order nodes from root e.packed in
    (omega (arith, o, chain_below nodes from ns h.1), omega (arith, e.end_is))
chain_arguments nodes end (Sub from root ∷ ns) (suc i) h =
    let e = h.0 in
    IsArgument-higher (lowest from ns) from end (get_or ns i (Var 0)) (omega (arith, packed_order nodes from root e.packed, e.end_is)) (chain_arguments nodes from ns i h.1)

-- behind the nodes whose blocks it rests on it stands as a row
pub row_whole : (nodes ns : List Node) → IsChain nodes (length nodes) ns → (j : ℕ) → length nodes ≤ j → IsArgument 0 j (node_at (nodes ++ ns) j)
row_whole nodes ns h j le =
    let i : ℕ = j - length nodes in
    let n : Node = get_or ns i (Var 0) in
    let same : node_at (nodes ++ ns) j ≡ n = get_or-append_right nodes ns j (Var 0) le in
    let low : IsArgument 0 (length nodes) n =
    IsArgument-lower 0 (lowest (length nodes) ns) (length nodes) n (omega arith) (chain_arguments nodes (length nodes) ns i h) in
    subst (IsArgument 0 j) (sym same) (IsArgument-higher 0 (length nodes) j n le low)

-- the blocks of each compound of a row are there
abbrev pub RowPacked : List Node → List Node → Type 0
RowPacked nodes ms = (j from root : ℕ) → get_or ms j (Var 0) ≡ Sub from root → (root < length nodes) × Packed nodes from root from

pub chain_row : (nodes : List Node) (end : ℕ) (ns : List Node) → IsChain nodes end ns → RowPacked nodes ns
chain_row nodes end [] h j from root e = cc
chain_row nodes end (Var s ∷ ns) h zero from root e = cc
chain_row nodes end (Var s ∷ ns) h (suc j) from root e = chain_row nodes end ns h j from root e
chain_row nodes end (Int s ∷ ns) h zero from root e = cc
chain_row nodes end (Int s ∷ ns) h (suc j) from root e = chain_row nodes end ns h j from root e
chain_row nodes end (Atom s ∷ ns) h zero from root e = cc
chain_row nodes end (Atom s ∷ ns) h (suc j) from root e = chain_row nodes end ns h j from root e
chain_row nodes end (Fun f k ∷ ns) h j from root e = absurd h
chain_row nodes end (Sub first place ∷ ns) h zero from root e =
    let one : first ≡ from = cc in
    let two : place ≡ root = cc in
    let P : ℕ → ℕ → Type 0 = λ a b. (b < length nodes) × Packed nodes a b a in
    let ends = h.0 in
    subst (λ a. P a root) one (subst (P first) two (packed_within nodes first place ends.packed, ends.packed))
chain_row nodes end (Sub first place ∷ ns) h (suc j) from root e = chain_row nodes first ns h.1 j from root e

pub block_row : (nodes ns : List Node) (f k : ℕ) → RowPacked nodes ns → RowPacked nodes (Fun f k ∷ ns)
block_row nodes ns f k h zero from root e = cc
block_row nodes ns f k h (suc j) from root e = h j from root e

pub ArePacked-row : (nodes ms : List Node) → ArePacked nodes → RowPacked nodes ms → ArePacked (nodes ++ ms)
ArePacked-row nodes ms h row i from root lt e =
    elim (cases_lt i (length nodes)) [
      | inl il ↦ let p = h i from root il (sym (node-more nodes ms i il) ∙ e) in (p.0, Packed-more nodes ms from root p.1)
      | inr ge ↦ let p = row (i - length nodes) from root (sym (get_or-append_right nodes ms i (Var 0) ge) ∙ e) in (omega (arith, p.0), Packed-more nodes ms from root p.1)
    ]

-- ---- a block

module _ (nodes w : List Node) (f k : ℕ) (room : k ≤ length w) (h : IsChain nodes (length nodes) w) where
  abbrev row : List Node
  row = take k w

  abbrev grown : List Node
  grown = nodes ++ Fun f k ∷ take k w

  abbrev low : ℕ
  low = lowest (length nodes) (take k w)

  args : IsChain nodes (length nodes) row
  args = IsChain-take nodes (length nodes) k w h

  len : length grown ≡ suc (length nodes + k)
  len = omega (arith, length-append nodes (Fun f k ∷ take k w), length-take k w)

  own : IsBlockAt grown low (length nodes) f k
  own =
      let P : Node → Type 0 = IsArgument low (length nodes) in
      record {
        head = get_or-append_seam nodes (Fun f k) row (Var 0);
        within = omega (arith, len);
        arguments = λ j lt le.
            let m : ℕ = j - suc (length nodes) in
            let e : j - length nodes ≡ suc m = omega arith in
            let same : node_at grown j ≡ get_or row m (Var 0) =
            get_or-append_right nodes (Fun f k ∷ row) j (Var 0) (omega arith) ∙ ap (λ i. get_or (Fun f k ∷ row) i (Var 0)) e in
            subst P (sym same) (chain_arguments nodes (length nodes) row m args);
      }

  pub block_ends : EndsAt grown low (length nodes) (length grown)
  block_ends = record {
    packed = gather grown (length nodes) (length nodes) row (IsChain-more nodes (Fun f k ∷ row) (length nodes) row args) (last f k own);
    functor = f;
    arity = k;
    head = get_or-append_seam nodes (Fun f k) row (Var 0);
    end_is = sym len;
  }

  pub block_packed : ArePacked nodes → ArePacked grown
  block_packed packed = ArePacked-row nodes (Fun f k ∷ row) packed (block_row nodes row f k (chain_row nodes (length nodes) row args))

  pub block_chain : IsChain grown (length grown) (Sub low (length nodes) ∷ drop k w)
  block_chain = (block_ends, IsChain-more nodes (Fun f k ∷ row) low (drop k w) (IsChain-drop nodes (length nodes) k w h))
