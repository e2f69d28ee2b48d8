-- The nodes of a copy, and their bytes in one pass.
use Rattle.std.proofs.Common.{◌≡◌, ◌==◌, ℕ, ◌+◌, ◌≤◌, ◌<◌, ◌^◌, Bool, true, false, cond, List, [], ◌∷◌, ◌++◌, length, map, refl, sym, ap, ◌∙◌, append_assoc, append-nil, arith, length-append, zero-add}
use Rattle.std.specs.List.{flat_map}
use Rattle.plterm.specs.declared.node.Node.{Node}
use Rattle.plterm.specs.declared.node.Node.TheVariants.{Var, Int, Atom, Compound}
use Rattle.plterm.specs.Tree.{Tree}
use Rattle.plterm.specs.Reading.{spelling, AllFit}
use Rattle.plterm.specs.Variables.{place, with_node, seen_after, variables, copied, rename, numbered}
use Rattle.plterm.specs.Walking.{Enters}
use Rattle.plterm.proofs.Spellings.{numbering, numbering_is, spelling-renamed}
use Rattle.plpack.specs.Packing.{item, packed, IsPackable}

rename_from_0 : (seen : List ℕ) (n : Node) → rename (λ v. 0 + place v seen) n ≡ rename (λ v. place v seen) n
rename_from_0 seen (Var v) = ap Var (zero-add (place v seen))
rename_from_0 seen (Int i) = refl
rename_from_0 seen (Atom s) = refl
rename_from_0 seen (Compound s k) = refl

map_same : (f g : Node → Node) → ((n : Node) → f n ≡ g n) → (ns : List Node) → map f ns ≡ map g ns
map_same f g h [] = refl
map_same f g h (n ∷ ns) = ap (λ m. m ∷ map f ns) (h n) ∙ ap (λ ms. g n ∷ ms) (map_same f g h ns)

-- the nodes of a copy
pub spelling-copied : (t : Tree) → spelling (copied 0 t) ≡ numbering [] (spelling t)
spelling-copied t =
    spelling-renamed (λ v. 0 + place v (variables t)) t
    ∙ map_same _ _ (rename_from_0 (variables t)) (spelling t)
    ∙ sym (numbering_is (spelling t) [])

-- ---- there are no more variables than bytes

pub some_byte : (n : Node) → 0 < length (item n)
some_byte (Var v) = omega arith
some_byte (Int i) = omega arith
some_byte (Atom s) = omega arith
some_byte (Compound s k) = omega arith

pub length-items : (ns : List Node) → length ns ≤ length (flat_map item ns)
length-items [] = omega arith
length-items (n ∷ ns) = omega (arith, length-items ns, some_byte n, length-append (item n) (flat_map item ns))

length-numbering : (ns : List Node) (seen : List ℕ) → length (numbering seen ns) ≡ length ns
length-numbering [] seen = refl
length-numbering (n ∷ ns) seen = omega (arith, length-numbering ns (with_node seen n))

either_length : (b : Bool) (v : ℕ) (seen : List ℕ) → length (cond b (seen ++ v ∷ []) seen) ≤ length seen + 1
either_length true v seen = omega (arith, length-append seen (v ∷ []))
either_length false v seen = omega arith

length-with_node : (n : Node) (seen : List ℕ) → length (with_node seen n) ≤ length seen + 1
length-with_node (Var v) seen = either_length (place v seen == length seen) v seen
length-with_node (Int i) seen = omega arith
length-with_node (Atom s) seen = omega arith
length-with_node (Compound s k) seen = omega arith

length-seen_after : (ns : List Node) (seen : List ℕ) → length (seen_after seen ns) ≤ length seen + length ns
length-seen_after [] seen = omega arith
length-seen_after (n ∷ ns) seen = omega (arith, length-with_node n seen, length-seen_after ns (with_node seen n))

pub few_variables : (t : Tree) → length (variables t) ≤ length (packed t)
few_variables t =
    omega (arith, length-seen_after (spelling t) [], length-numbering (spelling t) [], ap length (spelling-copied t), length-items (spelling (copied 0 t)))

-- ---- packing

-- the bytes so far and those of the nodes that are left are those of all
pub record Packs (t : Tree) (out : List ℕ) (seen : List ℕ) (terms : List Tree) : Type 0 where
  pub bytes : out ++ flat_map item (numbering seen (flat_map spelling terms)) ≡ flat_map item (numbering [] (spelling t))
  pub fits : AllFit (flat_map spelling terms) → AllFit (spelling t)

pub packs_step : (t : Tree) (out out' seen seen' : List ℕ) (old new : List Tree) (n : Node)
    → Packs t out seen old → Enters n old new → out' ≡ out ++ item (numbered seen n) → seen' ≡ with_node seen n → Packs t out' seen' new
packs_step t out out' seen seen' old new n h enters push add =
    rw (push, add) (record {
      bytes = append_assoc out (item (numbered seen n)) (flat_map item (numbering (with_node seen n) (flat_map spelling new)))
          ∙ ap (λ (ns : List Node). out ++ flat_map item (numbering seen ns)) (sym enters.nodes)
          ∙ h.bytes;
      fits = λ f. h.fits (rw enters.nodes (enters.fits, f));
    })

pub packs_end : (t : Tree) (out seen : List ℕ) (terms : List Tree) → Packs t out seen terms → terms ≡ [] → out ≡ packed t
packs_end t out seen terms h e =
    sym (append-nil out)
    ∙ ap (λ (ts : List Tree). out ++ flat_map item (numbering seen (flat_map spelling ts))) (sym e)
    ∙ h.bytes
    ∙ ap (flat_map item) (sym (spelling-copied t))

pub packs_limits : (t : Tree) (out seen : List ℕ) (terms : List Tree) → Packs t out seen terms → terms ≡ [] → length out ≤ 2 ^ 64 → IsPackable t
packs_limits t out seen terms h e few =
    record {
      fits = h.fits (rw e tt);
      numbers = omega (arith, few_variables t, ap length (packs_end t out seen terms h e));
    }
