-- Clauses of heads without variables.
use Rattle.std.proofs.Common.{◌≡◌, ℕ, Bool, true, false, ◌&&◌, List, [], ◌∷◌, ◌++◌, append-nil, append_assoc, codes, length, refl, sym, ap, ap₂, ◌∙◌}
use Rattle.plterm.specs.declared.node.Node.{Node}
use Rattle.plterm.specs.Tree.{Tree, var, int, atom, compound, Trees, none, more}
use Rattle.plterm.specs.Reading.{spelling, spellings}
use Rattle.plterm.specs.Variables.{place, renamed, all_renamed, seen_after, variables}
use Rattle.plterm.specs.Ground.{is_ground, are_ground}
use Rattle.plclause.specs.Clause.{Clause}
use Rattle.plclause.specs.Soundness.{both_variables, clause_from}

both : (p q : Bool) → (p && q) ≡ true → (p ≡ true) × (q ≡ true)
both true q e = (refl, e)
both false q e = cc

mutual
  unfolding is_ground

  renamed-ground : (f : ℕ → ℕ) (t : Tree) → is_ground t ≡ true → renamed f t ≡ t
  renamed-ground f (var v) e = cc
  renamed-ground f (int i) e = refl
  renamed-ground f (atom s) e = refl
  renamed-ground f (compound s ts) e = ap (compound s) (renamed-grounds f ts e)

  renamed-grounds : (f : ℕ → ℕ) (ts : Trees) → are_ground ts ≡ true → all_renamed f ts ≡ ts
  renamed-grounds f none e = refl
  renamed-grounds f (more t ts) e = let b = both (is_ground t) (are_ground ts) e in ap₂ more (renamed-ground f t b.0) (renamed-grounds f ts b.1)

mutual
  unfolding is_ground

  seen-ground : (t : Tree) (ns : List Node) (seen : List ℕ) → is_ground t ≡ true → seen_after seen (spelling t ++ ns) ≡ seen_after seen ns
  seen-ground (var v) ns seen e = cc
  seen-ground (int i) ns seen e = refl
  seen-ground (atom s) ns seen e = refl
  seen-ground (compound s ts) ns seen e = seen-grounds ts ns seen e

  seen-grounds : (ts : Trees) (ns : List Node) (seen : List ℕ) → are_ground ts ≡ true → seen_after seen (spellings ts ++ ns) ≡ seen_after seen ns
  seen-grounds none ns seen e = refl
  seen-grounds (more t ts) ns seen e =
      let b = both (is_ground t) (are_ground ts) e in
      ap (seen_after seen) (append_assoc (spelling t) (spellings ts) ns)
      ∙ seen-ground t (spellings ts ++ ns) seen b.0
      ∙ seen-grounds ts ns seen b.1

none-seen : (t : Tree) → is_ground t ≡ true → variables t ≡ []
none-seen t e = ap (seen_after []) (sym (append-nil (spelling t))) ∙ seen-ground t [] [] e

-- the clause of such a head
pub ground_fact : (head : Tree) → is_ground head ≡ true → record { head = head; body = atom (codes "true"); variables = 0 } ≡ clause_from head (atom (codes "true"))
ground_fact head e =
    let made : Tree → List ℕ → Clause = λ h vs. record { head = h; body = atom (codes "true"); variables = length vs } in
    ap (λ h. made h []) (sym (renamed-ground (λ v. place v (both_variables head (atom (codes "true")))) head e))
    ∙ ap (made (renamed (λ v. place v (both_variables head (atom (codes "true")))) head)) (sym (none-seen head e))
