-- Bytes stand for the term that was packed.
use Rattle.std.proofs.Common.{◌≡◌, ◌==◌, ℕ, zero, suc, ◌+◌, ◌-◌, ◌^◌, ◌<◌, ◌≤◌, List, [], ◌∷◌, ◌++◌, length, take, drop, refl, sym, ap, ap₂, subst, ◌∙◌, append_assoc, append-nil, arith}
use Rattle.std.specs.Int.{w16, w64, from_be_bytes, to_be_bytes, cast_signed, cast_unsigned}
use Rattle.std.specs.List.{flat_map}
use Rattle.std.proofs.lemmas.Int.{to_z-of_z}
use Rattle.std.proofs.lemmas.List.{length-append, take_at, drop_at, take-append-drop}
use Rattle.std.proofs.Math.Facts.{Fits-of_z}
use Rattle.plterm.specs.declared.node.Node.{Node}
use Rattle.plterm.specs.declared.node.Node.TheVariants.{Var, Int, Atom, Compound}
use Rattle.plterm.specs.Tree.{Tree}
use Rattle.plterm.specs.Reading.{arity, tree_of, spelling, Fits, IsName, tree_of-spelling}
use Rattle.plterm.specs.Variables.{copied, variables, IsVariant}
use Rattle.plpack.specs.Packing.{item, name_item, packed, IsPackable}
use Rattle.plpack.specs.Items.{IsLong, after}
use Rattle.plpack.specs.Unpacking.{NonePacked}
use Rattle.plpack.specs.Shared.{short_of, long_of, name_of, node_of, nodes_of, term_of, ArePacked, IsCanonical, IsHeld}
use Rattle.plpack.proofs.Widths.{wide16, wide64}
use Rattle.plpack.proofs.Numberings.{some_byte, length-items}
use Rattle.plpack.proofs.Leading.{Leads, Leads-same, Leads-fit, Leads-le, IsLong-after}
use Rattle.plpack.proofs.Following.{spelling-leads, Leads-copied}
use Rattle.plpack.proofs.Prefixes.{prefix_free}

-- ---- the node of an item

short_is : (k : ℕ) (rest : List ℕ) → k < 2 ^ 16 → short_of (to_be_bytes w16 k ++ rest) ≡ k
short_is k rest lt = ap (from_be_bytes w16) (take_at (to_be_bytes w16 k) rest 2 (wide16.len k)) ∙ wide16.again k lt

long_is : (v : ℕ) (rest : List ℕ) → v < 2 ^ 64 → long_of (to_be_bytes w64 v ++ rest) ≡ v
long_is v rest lt = ap (from_be_bytes w64) (take_at (to_be_bytes w64 v) rest 8 (wide64.len v)) ∙ wide64.again v lt

name_is : (s rest : List ℕ) → IsName s → name_of (name_item s ++ rest) ≡ s
name_is s rest h =
    let e = append_assoc (to_be_bytes w16 (length s)) s rest in
    ap name_of e
    ∙ ap₂ (λ (k : ℕ) (x : List ℕ). take k x) (short_is (length s) (s ++ rest) (omega (arith, h.0))) (drop_at (to_be_bytes w16 (length s)) (s ++ rest) 2 (wide16.len (length s)))
    ∙ take_at s rest (length s) refl

pub node-of-item : (n : Node) (rest : List ℕ) → Fits n → IsLong n → node_of (item n ++ rest) ≡ n
unfolding node_of
node-of-item (Var v) rest fits long = ap Var (long_is v rest long)
node-of-item (Int i) rest fits long =
    ap (λ (v : ℕ). Int (cast_signed w64 v)) (long_is (cast_unsigned w64 i) rest (omega (arith, Fits-of_z {w = w64} {z = i} fits))) ∙ ap Int (to_z-of_z w64 i fits)
node-of-item (Atom s) rest fits long = ap Atom (name_is s rest fits)
node-of-item (Compound s k) rest fits long =
    let e = append_assoc (to_be_bytes w16 k) (name_item s) rest in
    ap (λ (x : List ℕ). Compound (name_of (drop 2 x)) (short_of x)) e
    ∙ ap₂ Compound
    (ap name_of (drop_at (to_be_bytes w16 k) (name_item s ++ rest) 2 (wide16.len k)) ∙ name_is s rest fits.0)
    (short_is k (name_item s ++ rest) (omega (arith, fits.2)))

-- ---- the nodes of items

nodes-none : (k : ℕ) → nodes_of k [] ≡ []
unfolding nodes_of
nodes-none zero = refl
nodes-none (suc k) = refl

nodes-first : (k : ℕ) (bytes : List ℕ) → 0 < length bytes → nodes_of (suc k) bytes ≡ node_of bytes ∷ nodes_of k (drop (length (item (node_of bytes))) bytes)
unfolding nodes_of
nodes-first k [] some = absurd (omega (arith, some))
nodes-first k (tag ∷ bytes) some = refl

nodes-step : (k : ℕ) (n : Node) (rest : List ℕ) → Fits n → IsLong n → nodes_of (suc k) (item n ++ rest) ≡ n ∷ nodes_of k rest
nodes-step k n rest fits long =
    nodes-first k (item n ++ rest) (omega (arith, some_byte n, length-append (item n) rest))
    ∙ ap (λ (m : Node). m ∷ nodes_of k (drop (length (item m)) (item n ++ rest))) (node-of-item n rest fits long)
    ∙ ap (λ (x : List ℕ). n ∷ nodes_of k x) (drop_at (item n) rest (length (item n)) refl)

nodes-leads : (ns : List Node) (j p k q m : ℕ) → Leads p k ns q m → m ≤ 2 ^ 64 → length ns ≤ j → nodes_of j (flat_map item ns) ≡ ns
nodes-leads [] j p k q m h few room = nodes-none j
nodes-leads (n ∷ ns) zero p k q m h few room = absurd (omega (arith, room))
nodes-leads (n ∷ ns) (suc j) p k q m h few room =
    let le = Leads-le ns (p - 1 + arity n) (after k n) q m h.3 in
    nodes-step j n (flat_map item ns) h.1 (IsLong-after n k m h.2 le.0 few)
    ∙ ap (λ (x : List Node). n ∷ x) (nodes-leads ns j (p - 1 + arity n) (after k n) q m h.3 few (omega (arith, room)))

pub term-of-packed : (t : Tree) → IsPackable t → term_of (packed t) ≡ copied 0 t
unfolding term_of
term-of-packed t h =
    let ns = spelling (copied 0 t) in
    ap tree_of (nodes-leads ns (length (packed t)) 1 0 0 (length (variables t)) (Leads-copied t h.fits) h.numbers (length-items ns)) ∙ tree_of-spelling (copied 0 t)

-- ---- a copy of a copy

module _ (t : Tree) (h : IsPackable t) where
  spelling-again : spelling (copied 0 (copied 0 t)) ≡ spelling (copied 0 t)
  spelling-again =
      let ns = spelling (copied 0 t) in
      ap (λ (u : Tree). spelling (copied 0 u)) (sym (tree_of-spelling (copied 0 t))) ∙ spelling-leads ns (length (variables t)) (Leads-copied t h.fits)

  pub copied-again : copied 0 (copied 0 t) ≡ copied 0 t
  copied-again = sym (tree_of-spelling (copied 0 (copied 0 t))) ∙ ap tree_of spelling-again ∙ tree_of-spelling (copied 0 t)

  pub packed-copied : packed (copied 0 t) ≡ packed t
  packed-copied = ap (flat_map item) spelling-again

  pub packable-copied : IsPackable (copied 0 t)
  packable-copied =
      let ns = spelling (copied 0 t) in
      let m = length (variables t) in
      let l = length (variables (copied 0 t)) in
      let leads = Leads-copied t h.fits in
      let fits = Leads-fit ns 1 0 0 m leads in
      let more = subst (λ (zs : List Node). Leads 1 0 zs 0 l) spelling-again (Leads-copied (copied 0 t) fits) in
      record { fits = fits; numbers = omega (arith, (Leads-same ns 1 0 0 m 0 l leads more).1, h.numbers) }

  pub copied-canonical : IsCanonical (copied 0 t)
  copied-canonical = record { limits = packable-copied; same = copied-again }

-- ---- bytes of a term

module _ (bytes : List ℕ) (t : Tree) (h : ArePacked bytes t) where
  pub held-is : term_of bytes ≡ copied 0 t
  held-is = ap term_of h.is ∙ term-of-packed t h.limits

  pub held : IsHeld bytes
  held = record {
    canonical = subst IsCanonical (sym held-is) (copied-canonical t h.limits);
    own = ap packed held-is ∙ packed-copied t h.limits ∙ sym h.is;
  }

-- what is unpacked of the bytes of a packed term is that term
pub unpacked-is : (t u : Tree) (bytes : List ℕ) (size : ℕ) → IsCanonical t → bytes ≡ packed t → IsCanonical u → take size bytes ≡ packed u → u ≡ t
unpacked-is t u bytes size ht is hu front =
    let parts : packed u ++ drop size bytes ≡ packed t ++ [] =
    ap (λ (x : List ℕ). x ++ drop size bytes) (sym front) ∙ take-append-drop size bytes ∙ is ∙ sym (append-nil (packed t)) in
    sym hu.same ∙ (prefix_free u t (drop size bytes) [] hu.limits ht.limits parts).0 ∙ ht.same

-- some term's bytes begin them
pub some-packed : (t : Tree) (bytes : List ℕ) → IsCanonical t → bytes ≡ packed t → NonePacked bytes → ⊥
some-packed t bytes h is none = none t [] h.limits.fits (is ∙ sym (append-nil (packed t)))
