-- What is written and what is left, together, while a value is packed.
use Rattle.std.proofs.Common.{◌≡◌, ℕ, List, [], ◌∷◌, ◌++◌, refl, ap, ◌∙◌, append_assoc, append-nil}
use Rattle.std.specs.List.{flat_map}
use Rattle.plterm.specs.declared.node.Node.{Node}
use Rattle.plterm.specs.Tree.{Tree}
use Rattle.plterm.specs.Reading.{arity, read, spelling, Fits as FitsNode}
use Rattle.plterm.specs.Variables.{with_node, numbered}
use Rattle.plterm.proofs.Spellings.{numbering}
use Rattle.plpack.specs.Packing.{item}
use Rattle.plpack.proofs.Numberings.{Packs}
use Rattle.plcells.specs.Store.{Store}
use Rattle.plcells.proofs.Taking.{left_terms, nodes-taken, fit-taken, taken-leaf}
use Rattle.plpacked.specs.Taking.{IsWritten}

-- a term without arguments
pub written-leaf : (h : Store) (out now seen after left : List ℕ) (t : Tree) (n : Node) → FitsNode n → arity n ≡ 0 → ((ts : List Tree) → read n ts ≡ t ∷ ts)
    → now ≡ out ++ item (numbered seen n) → after ≡ with_node seen n → IsWritten h out now seen after left left t
written-leaf h out now seen after left t n fits none reads bytes variables = record {
  node = n;
  taken = taken-leaf h [] (n ∷ []) left t n refl fits none reads;
  bytes = bytes;
  variables = variables;
}

pub packs-none : (t : Tree) → Packs t [] [] (t ∷ [])
packs-none t = record {
  bytes = ap (λ (ns : List Node). flat_map item (numbering [] ns)) (append-nil (spelling t));
  fits = λ f. rw (append-nil (spelling t)) at f;
}

module _ (h : Store) (t u : Tree) (out now seen after left stack : List ℕ) (is : IsWritten h out now seen after left stack u) where
  pub packs-written : Packs t out seen (u ∷ left_terms h left) → Packs t now after (left_terms h stack)
  packs-written p =
      let rest = flat_map spelling (left_terms h stack) in
      rw (is.bytes, is.variables) (record {
        bytes = append_assoc out (item (numbered seen is.node)) (flat_map item (numbering (with_node seen is.node) rest))
            ∙ ap (λ (ns : List Node). out ++ flat_map item (numbering seen ns)) (nodes-taken h [] (is.node ∷ []) left stack u is.taken)
            ∙ p.bytes;
        fits = λ f. p.fits (fit-taken h [] (is.node ∷ []) left stack u is.taken f);
      })
