-- A term whose variables stand in order is its own copy.
use Rattle.std.proofs.Common.{◌≡◌, ◌==◌, ◌≤◌, ◌+◌, max, min, ℕ, suc, cond, eqb, List, [], ◌∷◌, ◌++◌, length, length-append, refl, sym, ap, subst, ◌∙◌, arith}
use Rattle.std.proofs.lemmas.Bool.{cond_both, eqb-true, eqb-false}
use Rattle.std.proofs.lemmas.List.Folds.{position_or_len_push}
use Rattle.plterm.specs.declared.node.Node.{Node}
use Rattle.plterm.specs.declared.node.Node.TheVariants.{Var, Int, Atom, Compound}
use Rattle.plterm.specs.Tree.{Tree}
use Rattle.plterm.specs.Reading.{spelling}
use Rattle.plterm.specs.Variables.{place, added, seen_after, variables, copied}
use Rattle.plterm.proofs.Spellings.{spelling-renamed, numbering, numbering_is}
use Rattle.pllaws.proofs.Numbers.{InOrder}
use Rattle.pllaws.proofs.Variants.{next_place, rename_zero, same_tree}
use Rattle.pllaws.proofs.Nodes.{vars}

-- numbers of which each has its own place
record Counted (seen : List ℕ) : Type 0 where
  places : (v : ℕ) → place v seen ≡ min v (length seen)

none_counted : Counted []
none_counted = record { places = λ v. omega arith }

longer-by-one : (seen : List ℕ) → suc (length seen) ≡ length (seen ++ length seen ∷ [])
longer-by-one seen = omega (arith, length-append seen (length seen ∷ []))

one_more : (seen : List ℕ) → Counted seen → Counted (seen ++ length seen ∷ [])
one_more seen c = record {
  places = λ v.
      position_or_len_push (λ x. x == v) seen (length seen)
      ∙ ap (λ q. cond (eqb q (length seen)) (length seen + cond (eqb (length seen) v) 0 1) q) (c.places v)
      ∙ next_place v (length seen) ∙ ap (min v) (longer-by-one seen);
}

record Grown (seen : List ℕ) (v : ℕ) : Type 0 where
  counted : Counted (added seen v)
  size : length (added seen v) ≡ max (length seen) (v + 1)
  place_is : place v seen ≡ v

grown : (seen : List ℕ) (v : ℕ) → Counted seen → v ≤ length seen → Grown seen v
grown seen v c h =
    let here : place v seen ≡ v = c.places v ∙ omega arith in
    let added_is : added seen v ≡ cond (eqb v (length seen)) (seen ++ v ∷ []) seen = ap (λ q. cond (eqb q (length seen)) (seen ++ v ∷ []) seen) here in
    record {
      counted = subst Counted (sym added_is) (cond_both (eqb v (length seen)) (seen ++ v ∷ []) seen Counted (λ b. subst (λ n. Counted (seen ++ n ∷ [])) (sym (eqb-true v (length seen) b)) (one_more seen c)) (λ b. c));
      size = ap length added_is ∙ cond_both (eqb v (length seen)) (seen ++ v ∷ []) seen (λ l. length l ≡ max (length seen) (v + 1))
          (λ b. let e = eqb-true v (length seen) b in omega (arith, length-append seen (v ∷ [])))
          (λ b. let e = eqb-false v (length seen) b in omega arith);
      place_is = here;
    }

record Kept (top : ℕ) (seen : List ℕ) (ns : List Node) : Type 0 where
  same : numbering seen ns ≡ ns
  few : length (seen_after seen ns) ≤ top

kept : (top : ℕ) (seen : List ℕ) (ns : List Node) → Counted seen → length seen ≤ top → InOrder top (length seen) (vars ns []) → Kept top seen ns
kept top seen [] c h o = record { same = refl; few = h }
kept top seen (Var v ∷ ns) c h o =
    let g = grown seen v c o.0 in
    let size : length (added seen v) ≡ max (length seen) (v + 1) = g.size in
    let k = kept top (added seen v) ns g.counted (omega (arith, o.1)) (subst (λ n. InOrder top n (vars ns [])) (sym g.size) o.2) in
    record { same = ap (λ w. Var w ∷ numbering (added seen v) ns) g.place_is ∙ ap (λ l. Var v ∷ l) k.same; few = k.few }
kept top seen (Int i ∷ ns) c h o = let k = kept top seen ns c h o in record { same = ap (λ l. Int i ∷ l) k.same; few = k.few }
kept top seen (Atom s ∷ ns) c h o = let k = kept top seen ns c h o in record { same = ap (λ l. Atom s ∷ l) k.same; few = k.few }
kept top seen (Compound s k ∷ ns) c h o = let r = kept top seen ns c h o in record { same = ap (λ l. Compound s k ∷ l) r.same; few = r.few }

pub record IsNumbered (top : ℕ) (t : Tree) : Type 0 where
  pub copy : copied 0 t ≡ t
  pub few : length (variables t) ≤ top

pub is_numbered : (top : ℕ) (t : Tree) → InOrder top 0 (vars (spelling t) []) → IsNumbered top t
is_numbered top t o =
    let k = kept top [] (spelling t) none_counted (omega arith) o in
    record {
      copy = same_tree (copied 0 t) t (spelling-renamed (λ v. 0 + place v (variables t)) t ∙ rename_zero (λ v. place v (variables t)) (spelling t) ∙ sym (numbering_is (spelling t) []) ∙ k.same);
      few = k.few;
    }
