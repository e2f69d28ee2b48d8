-- A term over other variables has the same bytes, and the same copy.
use Rattle.std.proofs.Common.{◌≡◌, ◌==◌, ℕ, ◌+◌, Bool, true, false, cond, eqb, not, List, [], ◌∷◌, ◌++◌, length, map, refl, sym, ap, ap₂, ◌∙◌, arith}
use Rattle.std.specs.List.{flat_map}
use Rattle.std.proofs.lemmas.Bool.Decides.{nat_tests}
use Rattle.std.proofs.lemmas.List.{map-append, length-map}
use Rattle.plterm.specs.declared.node.Node.{Node}
use Rattle.plterm.specs.declared.node.Node.TheVariants.{Var, Int, Atom, Compound}
use Rattle.plterm.specs.Tree.{Tree, Trees, var, int, atom, compound, none, more}
use Rattle.plterm.specs.Reading.{spelling, tree_of, tree_of-spelling}
use Rattle.plterm.specs.Variables.{place, added, copied, renamed, all_renamed, rename}
use Rattle.plterm.proofs.Spellings.{numbering, spelling-renamed}
use Rattle.plsubst.specs.Subst.{bind, bind_all, shift}
use Rattle.plpack.specs.Packing.{item, packed}
use Rattle.plpack.proofs.Numberings.{spelling-copied}

mutual
  unfolding bind

  shift-renames : (n : ℕ) (t : Tree) → shift n t ≡ renamed (λ x. n + x) t
  shift-renames n (var v) = refl
  shift-renames n (int i) = refl
  shift-renames n (atom s) = refl
  shift-renames n (compound s ts) = ap (compound s) (shift-all_renames n ts)

  shift-all_renames : (n : ℕ) (ts : Trees) → bind_all (λ x. var (n + x)) ts ≡ all_renamed (λ x. n + x) ts
  shift-all_renames n none = refl
  shift-all_renames n (more t ts) = ap₂ more (shift-renames n t) (shift-all_renames n ts)

same_test : (n x v : ℕ) → (n + x == n + v) ≡ (x == v)
same_test n x v = grind (arith, nat_tests)

place-shifted : (n v : ℕ) (seen : List ℕ) → place (n + v) (map (λ x. n + x) seen) ≡ place v seen
place-shifted n v [] = refl
place-shifted n v (x ∷ seen) =
    ap (λ (k : ℕ). cond (not (n + x == n + v)) (1 + k) 0) (place-shifted n v seen) ∙ ap (λ (b : Bool). cond (not b) (1 + place v seen) 0) (same_test n x v)

either_shifted : (b : Bool) (n v : ℕ) (seen : List ℕ) → cond b (map (λ x. n + x) seen ++ (n + v) ∷ []) (map (λ x. n + x) seen) ≡ map (λ x. n + x) (cond b (seen ++ v ∷ []) seen)
either_shifted true n v seen = sym (map-append (λ x. n + x) seen (v ∷ []))
either_shifted false n v seen = refl

added-shifted : (n v : ℕ) (seen : List ℕ) → added (map (λ x. n + x) seen) (n + v) ≡ map (λ x. n + x) (added seen v)
added-shifted n v seen =
    let us = map (λ x. n + x) seen in
    ap₂ (λ (j k : ℕ). cond (eqb j k) (us ++ (n + v) ∷ []) us) (place-shifted n v seen) (length-map seen (λ x. n + x))
    ∙ either_shifted (place v seen == length seen) n v seen

numbering-shifted : (n : ℕ) (seen : List ℕ) (ns : List Node) → numbering (map (λ x. n + x) seen) (map (rename (λ x. n + x)) ns) ≡ numbering seen ns
numbering-shifted n seen [] = refl
numbering-shifted n seen (Var v ∷ ns) =
    ap₂ (λ (k : ℕ) (us : List ℕ). Var k ∷ numbering us (map (rename (λ x. n + x)) ns)) (place-shifted n v seen) (added-shifted n v seen)
    ∙ ap (λ (ms : List Node). Var (place v seen) ∷ ms) (numbering-shifted n (added seen v) ns)
numbering-shifted n seen (Int i ∷ ns) = ap (λ (ms : List Node). Int i ∷ ms) (numbering-shifted n seen ns)
numbering-shifted n seen (Atom s ∷ ns) = ap (λ (ms : List Node). Atom s ∷ ms) (numbering-shifted n seen ns)
numbering-shifted n seen (Compound s k ∷ ns) = ap (λ (ms : List Node). Compound s k ∷ ms) (numbering-shifted n seen ns)

spelling-shifted : (n : ℕ) (t : Tree) → spelling (copied 0 (shift n t)) ≡ spelling (copied 0 t)
spelling-shifted n t =
    spelling-copied (shift n t)
    ∙ ap (λ (u : Tree). numbering [] (spelling u)) (shift-renames n t)
    ∙ ap (numbering []) (spelling-renamed (λ x. n + x) t)
    ∙ numbering-shifted n [] (spelling t)
    ∙ sym (spelling-copied t)

pub packed-shifted : (n : ℕ) (t : Tree) → packed (shift n t) ≡ packed t
packed-shifted n t = ap (flat_map item) (spelling-shifted n t)

pub copied-shifted : (n : ℕ) (t : Tree) → copied 0 (shift n t) ≡ copied 0 t
copied-shifted n t = sym (tree_of-spelling (copied 0 (shift n t))) ∙ ap tree_of (spelling-shifted n t) ∙ tree_of-spelling (copied 0 t)
