-- Clauses that the key of a goal's first argument does not fit are passed over: no goal unifies with their heads.
use Rattle.std.proofs.Common.{◌≡◌, ℕ, Bool, true, false, cond, List, [], ◌∷◌, ◌++◌, map, filter, None, is_some, refl, sym, ap, ◌∙◌, subst, true≢false}
use Rattle.std.specs.List.{cons_option, filter_map}
use Rattle.std.proofs.lemmas.List.{map-append}
use Rattle.std.proofs.lemmas.List.Elements.{filter_map-append}
use Rattle.plterm.specs.Tree.{Tree, var, int, atom, compound, Trees, none, more}
use Rattle.plsubst.specs.Subst.{bind, shift}
use Rattle.plsubst.specs.Unify.{unify}
use Rattle.plsubst.proofs.Unify.{compound-parts, more-head}
use Rattle.plsubst.proofs.UnifyFinds.{Found, unify-found}
use Rattle.plsubst.proofs.UnifyUnique.{unify-none}
use Rattle.plclause.specs.Clause.{Clause}
use Rattle.plevent.specs.declared.update.Living.{Living}
use Rattle.plevent.specs.Keys.{first_key, may_fit}
use Rattle.plstore.specs.Like.{fits}
use Rattle.plstore.proofs.Keys.{any-left, passed-over}
use Rattle.plviews.specs.Lookups.{likely}
use Rattle.plsearch.specs.Types.{Element, Resolvent}
use Rattle.plsearch.specs.Lookups.{as_fact, clause_term, has_head}
use Rattle.plstack.specs.declared.frame.Use.{Use}
use Rattle.plstack.specs.declared.frame.Use.TheVariants as uses
use Rattle.plstack.specs.Places.{tried, candidate_of, clause_by, head_in, head_told}

-- a term unifies with a clause as a fact only if its first argument unifies with the clause's head
fact-unfit : (f : List ℕ) (t : Tree) (ts : Trees) (h b : Tree) (n : ℕ) → unify t (shift n h) ≡ None → unify (compound f (more t ts)) (shift n (clause_term h b)) ≡ None
unfolding bind
fact-unfit f t ts h b n e = unify-none (compound f (more t ts)) (shift n (clause_term h b)) (λ τ same. subst Found e (unify-found t (shift n h) τ (more-head (compound-parts same))))

told-unfit : (t : Tree) (c : Clause) → may_fit (first_key (head_told t)) (first_key c.head) ≡ false → (n : ℕ) → unify t (shift n (as_fact c).head) ≡ None
told-unfit (var x) c e n = absurd (true≢false (sym (any-left (first_key c.head)) ∙ e))
told-unfit (int i) c e n = absurd (true≢false (sym (any-left (first_key c.head)) ∙ e))
told-unfit (atom f) c e n = absurd (true≢false (sym (any-left (first_key c.head)) ∙ e))
told-unfit (compound f none) c e n = absurd (true≢false (sym (any-left (first_key c.head)) ∙ e))
told-unfit (compound f (more h ts)) c e n = fact-unfit f h ts c.head c.body n (passed-over h c.head e n)

unfit : (u : Use) (t : Tree) (c : Clause) → may_fit (first_key (head_in u t)) (first_key c.head) ≡ false → (n : ℕ) → unify t (shift n (clause_by u c).head) ≡ None
unfit uses.Call t c e n = passed-over t c.head e n
unfit uses.Tell t c e n = told-unfit t c e n
unfit uses.Erase t c e n = told-unfit t c e n

-- a goal that is tried with clauses that are alive
module _ (u : Use) (t : Tree) (d n : ℕ) (es : List Element) where
  abbrev pub places : List Living → List Resolvent
  places xs = filter_map (tried d n t es) (map (candidate_of u) xs)

  pub places-append : (xs ys : List Living) → places (xs ++ ys) ≡ places xs ++ places ys
  places-append xs ys = ap (filter_map (tried d n t es)) (map-append (candidate_of u) xs ys) ∙ filter_map-append (tried d n t es) (map (candidate_of u) xs) (map (candidate_of u) ys)

  passes : (x : Living) → may_fit (first_key (head_in u t)) (first_key x.clause.head) ≡ false → tried d n t es (candidate_of u x) ≡ None
  passes x e = rw (unfit u t x.clause e n) refl

  -- those that are passed over have no place
  pub places-likely : (xs : List Living) → places xs ≡ places (likely (first_key (head_in u t)) xs)
  places-likely [] = refl
  places-likely (x ∷ xs) = by-case (fits (first_key (head_in u t)) x) refl (places-likely xs)
    where
      by-case : (b : Bool) → fits (first_key (head_in u t)) x ≡ b → places xs ≡ places (likely (first_key (head_in u t)) xs) →
          places (x ∷ xs) ≡ places (cond b (x ∷ likely (first_key (head_in u t)) xs) (likely (first_key (head_in u t)) xs))
      by-case true is r = ap (cons_option (tried d n t es (candidate_of u x))) r
      by-case false is r = ap (λ o. cons_option o (places xs)) (passes x is) ∙ r

  -- where the same may be likely, the places are the same
  pub places-as : (xs ys : List Living) → likely (first_key (head_in u t)) xs ≡ likely (first_key (head_in u t)) ys → places xs ≡ places ys
  places-as xs ys e = places-likely xs ∙ ap places e ∙ sym (places-likely ys)

-- and none of the heads unifies
module _ (n : ℕ) (h : Tree) where
  pub heads-likely : (xs : List Living) → filter (has_head n h) xs ≡ filter (has_head n h) (likely (first_key h) xs)
  heads-likely [] = refl
  heads-likely (x ∷ xs) = by-case (fits (first_key h) x) refl (heads-likely xs)
    where
      by-case : (b : Bool) → fits (first_key h) x ≡ b → filter (has_head n h) xs ≡ filter (has_head n h) (likely (first_key h) xs) →
          filter (has_head n h) (x ∷ xs) ≡ filter (has_head n h) (cond b (x ∷ likely (first_key h) xs) (likely (first_key h) xs))
      by-case true is r = ap (λ ys. cond (has_head n h x) (x ∷ ys) ys) r
      by-case false is r = ap (λ o. cond (is_some o) (x ∷ filter (has_head n h) xs) (filter (has_head n h) xs)) (passed-over h x.clause.head is n) ∙ r

  pub heads-as : (xs ys : List Living) → likely (first_key h) xs ≡ likely (first_key h) ys → filter (has_head n h) xs ≡ filter (has_head n h) ys
  heads-as xs ys e = heads-likely xs ∙ ap (filter (has_head n h)) e ∙ sym (heads-likely ys)
