-- What bytes that begin alike tell.
use Rattle.std.proofs.Common.{◌≡◌, ◌↔◌, ℕ, ◌^◌, ◌<◌, ◌≤◌, List, [], ◌∷◌, ◌++◌, length, drop, sym, ap, subst, ◌∙◌, append-nil, arith, inl, inr}
use Rattle.std.specs.List.{flat_map}
use Rattle.std.proofs.lemmas.List.{length-append, length-drop}
use Rattle.plterm.specs.declared.node.Node.{Node}
use Rattle.plterm.specs.Tree.{Tree}
use Rattle.plterm.specs.Reading.{tree_of, spelling, tree_of-spelling}
use Rattle.plterm.specs.Variables.{copied, variables, IsVariant}
use Rattle.plpack.specs.Packing.{item, packed, IsPackable}
use Rattle.plpack.specs.Unpacking.{IsFault}
use Rattle.plpack.proofs.Leading.{Leads, Leads-parts, Leads-same, Leads-none}
use Rattle.plpack.proofs.Following.{Leads-copied, Begins, along, few_seen, follow_opens, fault_parts, past_fault}

-- a whole term is the start of no other
begins_all : (ms ns : List Node) (m l : ℕ) (r s : List ℕ) → Leads 1 0 ms 0 m → Leads 1 0 ns 0 l → Begins ms ns r s → (ms ≡ ns) × (r ≡ s)
begins_all ms ns m l r s h g b =
    let p = Leads-parts ms b.more 1 0 0 l (subst (λ (zs : List Node). Leads 1 0 zs 0 l) b.nodes g) in
    let ended = Leads-same ms 1 0 p.missing p.seen 0 m p.front h in
    let none : b.more ≡ [] = (Leads-none b.more p.seen 0 l (subst (λ (k : ℕ). Leads k p.seen b.more 0 l) ended.0 p.back)).1 in (
      sym (b.nodes ∙ ap (λ (zs : List Node). ms ++ zs) none ∙ append-nil ms),
      b.bytes ∙ ap (λ (zs : List Node). flat_map item zs ++ s) none,
    )

pub prefix_free : (a b : Tree) (r s : List ℕ) → IsPackable a → IsPackable b → packed a ++ r ≡ packed b ++ s → IsVariant a b × (r ≡ s)
prefix_free a b r s h g e =
    let ms = spelling (copied 0 a) in
    let ns = spelling (copied 0 b) in
    let m = length (variables a) in
    let l = length (variables b) in
    let to_end = Leads-copied a h.fits in
    let to_end' = Leads-copied b g.fits in
    let same : (ms ≡ ns) × (r ≡ s) =
    elim (along ms ns 1 0 0 m 0 l r s to_end to_end' h.numbers g.numbers e) [
      | inl b ↦ begins_all ms ns m l r s to_end to_end' b
      | inr b ↦ let t = begins_all ns ms l m s r to_end' to_end b in (sym t.0, sym t.1)
    ] in
    (sym (tree_of-spelling (copied 0 a)) ∙ ap tree_of same.0 ∙ tree_of-spelling (copied 0 b), same.1)

pub variants : (a b : Tree) → IsPackable a → IsPackable b → ((packed a ≡ packed b) ↔ IsVariant a b)
variants a b h g = (
  λ e. (prefix_free a b [] [] h g (append-nil (packed a) ∙ e ∙ sym (append-nil (packed b)))).0,
  λ e. ap (λ (t : Tree). flat_map item (spelling t)) e,
)

begins_longer : (ms ns : List Node) (r s : List ℕ) → Begins ms ns r s → length s ≤ length r
begins_longer ms ns r s b = omega (arith, ap length b.bytes, length-append (flat_map item b.more) s)

-- the rows of nodes before two faults are as long
pub one_fault : (bytes : List ℕ) (p q : ℕ) → length bytes < 2 ^ 64 → IsFault bytes p → IsFault bytes q → p ≡ q
one_fault bytes p q short f g =
    let o = follow_opens f.nodes f.next f.begun in
    let o' = follow_opens g.nodes g.next g.begun in
    let parts = fault_parts bytes p f in
    let parts' = fault_parts bytes q g in
    let few = few_seen f.nodes o.missing o.seen bytes (drop p bytes) o.leads parts short in
    let few' = few_seen g.nodes o'.missing o'.seen bytes (drop q bytes) o'.leads parts' short in
    let within : p ≤ length bytes = f.within in
    let within' : q ≤ length bytes = g.within in
    elim (along f.nodes g.nodes 1 0 o.missing o.seen o'.missing o'.seen (drop p bytes) (drop q bytes) o.leads o'.leads few few' (sym parts ∙ parts')) [
      | inl b ↦
          let back = past_fault bytes p f g.begun.term g.nodes (g.next ∷ g.begun.rest) (drop q bytes) g.begun.fits g.begun.parts b in
          omega (arith, begins_longer _ _ _ _ b, begins_longer _ _ _ _ back, length-drop p bytes, length-drop q bytes)
      | inr b ↦
          let back = past_fault bytes q g f.begun.term f.nodes (f.next ∷ f.begun.rest) (drop p bytes) f.begun.fits f.begun.parts b in
          omega (arith, begins_longer _ _ _ _ b, begins_longer _ _ _ _ back, length-drop p bytes, length-drop q bytes)
    ]
