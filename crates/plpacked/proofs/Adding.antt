-- The next node.
use Rattle.std.proofs.Common.{◌≡◌, ◌==◌, ℕ, ◌+◌, ◌-◌, ◌<◌, cond, List, [], ◌∷◌, ◌++◌, length, length-append, take, drop, get_or, map, refl, sym, ap, ap₂, subst, ◌∙◌, append_assoc, arith, inl, inr}
use Rattle.std.proofs.lemmas.Bool.Decides.{eqb_tells, nat_tests}
use Rattle.std.proofs.lemmas.List.{map-append, length-map, get_or_append_left, get_or_push}
use Rattle.plterm.specs.declared.node.Node.{Node}
use Rattle.plterm.specs.declared.node.Node.TheVariants.{Compound}
use Rattle.plterm.specs.Tree.{Tree, var, compound, trees}
use Rattle.plterm.specs.Reading.{arity}
use Rattle.platoms.specs.Names.{IsTable}
use Rattle.plpack.specs.Items.{after as seen_with}
use Rattle.plcells.specs.declared.cell.Argument.{Argument}
use Rattle.plcells.specs.declared.cell.Argument.TheVariants.{Value}
use Rattle.plcells.specs.declared.cell.Cell.{Cell}
use Rattle.plcells.specs.declared.cell.Cell.TheVariants.{Ref}
use Rattle.plcells.specs.Store.{Store, value, IsValue, AddsVariable}
use Rattle.plcells.specs.Blocks.{stands_for}
use Rattle.plcells.specs.Putting.{AreGiven, AddsNoVariable, IsFunctorNamed, laid}
use Rattle.plcells.proofs.Given.{given-stay}
use Rattle.plcells.proofs.Putting.{Preserves-refl, Preserves-trans, grows-preserves}
use Rattle.plpacked.specs.declared.unfinished.Open.{Open}
use Rattle.plpacked.specs.declared.unfinished.Unfinished.{Unfinished}
use Rattle.plpacked.specs.Unfinished.{all_closed, comes_to, end_from, AreNested, arguments, AreVariables, IsUnfinished, AddsVariables, PutsVariable, Adds}
use Rattle.plpacked.proofs.Nesting.{closed-more, end-more, nested-more, arguments-more, closed-at, nested-stay, comes-same}
use Rattle.plpacked.proofs.Closing.{given-more, variables-stay}

-- ---- variables

old_count : (x k : ℕ) → x < k → k ≡ cond (x == k) (k + 1) k
old_count x k lt = grind (arith, nat_tests)

new_count : (k : ℕ) → k + 1 ≡ cond (k == k) (k + 1) k
new_count k = grind (arith, nat_tests)

-- no variable is new
pub adds-old : (old new : Store) (n : ℕ) (cs : List ℕ) → AreVariables old n cs → AddsNoVariable old new → AddsVariables old new n cs cs
adds-old old new n cs are a = record {
  are = variables-stay old new n cs a.preserves are;
  preserves = a.preserves;
  more = omega arith;
  fresh = λ m f apart. a.fresh m f;
  frees = ap (λ (k : ℕ). k + length cs) a.frees;
}

pub adds-more : (a b c : Store) (n : ℕ) (before mid after : List ℕ) → AddsVariables a b n before mid → AddsVariables b c n mid after → AddsVariables a c n before after
adds-more a b c n before mid after p q = record {
  are = q.are;
  preserves = Preserves-trans a b c p.preserves q.preserves;
  more = omega (arith, p.more, q.more);
  fresh = λ m f apart. q.fresh m (p.fresh m f (λ le lt. apart le (omega (arith, lt, q.more)))) (λ le lt. apart (omega (arith, le, p.more)) lt);
  frees = omega (arith, p.frees, q.frees);
}

-- one that was seen
pub seen-variable : (h : Store) (n x c : ℕ) (cs : List ℕ) → AreVariables h n cs → x < length cs → get_or cs x 0 ≡ c → PutsVariable h h n x (Ref c) cs cs
seen-variable h n x c cs are lt e =
    let a = are x lt in
    record {
      fits = subst (λ (d : ℕ). IsValue h (Ref d)) e a.0;
      is = subst (λ (d : ℕ). value h (Ref d) ≡ var (n + x)) e a.1;
      adds = record { are = are; preserves = Preserves-refl h; more = omega arith; fresh = λ m f apart. f; frees = refl };
      seen = old_count x (length cs) lt;
    }

-- the next one
module _ (old new : Store) (n c : ℕ) (before after : List ℕ) (are : AreVariables old n before) (adds : AddsVariable old new c (n + length before)) (pushed : after ≡ before ++ c ∷ []) where
  count : length after ≡ length before + 1
  count = ap length pushed ∙ length-append before (c ∷ [])

  last : get_or after (length before) 0 ≡ c
  last = ap (λ (cs : List ℕ). get_or cs (length before) 0) pushed ∙ get_or_push before c 0 (length before) refl

  same : (x : ℕ) → x < length before → get_or after x 0 ≡ get_or before x 0
  same x lt = ap (λ (cs : List ℕ). get_or cs x 0) pushed ∙ get_or_append_left before (c ∷ []) 0 x lt

  now : AreVariables new n after
  now x lt =
      elim (eqb_tells x (length before)) [
        | inr (t, other) ↦
            let l : x < length before = omega (arith, lt, count, other) in
            let a = variables-stay old new n before (grows-preserves old new adds.grows) are x l in
            subst (λ (d : ℕ). IsValue new (Ref d) × (value new (Ref d) ≡ var (n + x))) (sym (same x l)) a
        | inl (t, e) ↦
            let a : IsValue new (Ref c) × (value new (Ref c) ≡ var (n + length before)) = (adds.fits, adds.is) in
            let b = subst (λ (d : ℕ). IsValue new (Ref d) × (value new (Ref d) ≡ var (n + length before))) (sym last) a in
            subst (λ (y : ℕ). IsValue new (Ref (get_or after y 0)) × (value new (Ref (get_or after y 0)) ≡ var (n + y))) (sym e) b
      ]

  pub new-variable : PutsVariable old new n (length before) (Ref c) before after
  new-variable = record {
    fits = adds.fits;
    is = adds.is;
    adds = record {
      are = now;
      preserves = grows-preserves old new adds.grows;
      more = omega (arith, count);
      fresh = λ m f apart. adds.fresh m f (λ e. apart (omega (arith, e)) (omega (arith, e, count)));
      frees = omega (arith, adds.frees, count);
    };
    seen = count ∙ new_count (length before);
  }

-- ---- nodes

module _ (old new : Store) (w after : Unfinished) (table : IsTable old.names) (is : IsUnfinished old w) (waiting : length w.values.items < end_from 1 w.compounds.items)
    (variables : AddsVariables old new w.number w.variables.items after.variables.items) (number : after.number ≡ w.number) where
  stay : AreGiven new w.values.items × (map (stands_for new) w.values.items ≡ map (stands_for old) w.values.items)
  stay = given-stay old new w.values.items variables.preserves is.given

  nested : AreNested new.names 1 w.compounds.items
  nested = nested-stay old.names new.names table variables.preserves.keeps.names 1 w.compounds.items is.nested

  comes : (ts : List Tree) → all_closed new.names w.compounds.items (map (stands_for new) w.values.items ++ ts) ≡ comes_to old w ts
  comes ts = comes-same old new w.compounds.items w.values.items ts table variables.preserves is.given is.nested

  -- one without arguments
  pub adds-leaf : (n : Node) (v : Cell) → IsValue new v → arity n ≡ 0 → ((ts : List Tree) → laid (λ x. var (w.number + x)) n ts ≡ value new v ∷ ts)
      → after.values.items ≡ w.values.items ++ Value v ∷ [] → after.compounds.items ≡ w.compounds.items → length after.variables.items ≡ seen_with (length w.variables.items) n → Adds old new n w after
  adds-leaf n v fits none lays values opened seen =
      let long : length after.values.items ≡ length w.values.items + 1 = ap length values ∙ length-append w.values.items (Value v ∷ []) in
      let now : map (stands_for new) after.values.items ≡ map (stands_for new) w.values.items ++ value new v ∷ [] = ap (map (stands_for new)) values ∙ map-append (stands_for new) w.values.items (Value v ∷ []) in
      record {
        unfinished = record {
          given = subst (AreGiven new) (sym values) (given-more new w.values.items v stay.0 fits);
          nested = rw opened nested;
          room = rw opened (omega (arith, long, waiting));
          variables = rw number variables.are;
        };
        same = λ ts.
            ap₂ (λ (os : List Open) (us : List Tree). all_closed new.names os (us ++ ts)) opened now
            ∙ ap (all_closed new.names w.compounds.items) (append_assoc (map (stands_for new) w.values.items) (value new v ∷ []) ts)
            ∙ comes (value new v ∷ ts)
            ∙ ap (comes_to old w) (sym (lays ts));
        come = λ m some h. omega (arith, some, h, none, long, ap length opened, ap arguments opened);
        adds = variables;
        seen = seen;
        number = number;
        few = omega (arith, ap length opened);
      }

  -- a compound
  pub adds-open : (s : List ℕ) (k : ℕ) (o : Open) → IsFunctorNamed new.names o.functor s k → 0 < k → o.first ≡ length w.values.items → o.end ≡ length w.values.items + k
      → after.values.items ≡ w.values.items → after.compounds.items ≡ w.compounds.items ++ o ∷ [] → length after.variables.items ≡ length w.variables.items → Adds old new (Compound s k) w after
  adds-open s k o named some first end values opened seen =
      let size : o.end - o.first ≡ k = omega (arith, first, end) in
      let us = map (stands_for new) w.values.items in
      let at : length us ≡ o.first = length-map w.values.items (stands_for new) ∙ sym first in
      record {
        unfinished = record {
          given = subst (AreGiven new) (sym values) stay.0;
          nested = rw opened (nested-more new.names 1 w.compounds.items o nested (omega (arith, first, waiting)) (omega (arith, first, end, some)) (record { within = named.within; arity = named.arity ∙ sym size }));
          room = rw (opened, end-more 1 w.compounds.items o) (omega (arith, ap length values, end));
          variables = rw number variables.are;
        };
        same = λ ts.
            ap₂ (λ (os : List Open) (vs : List Argument). all_closed new.names os (map (stands_for new) vs ++ ts)) opened values
            ∙ closed-more new.names w.compounds.items o (us ++ ts)
            ∙ ap (all_closed new.names w.compounds.items)
            (closed-at new.names o us ts at ∙ ap₂ (λ (n : List ℕ) (j : ℕ). us ++ compound n (trees (take j ts)) ∷ drop j ts) named.name size)
            ∙ comes (compound s (trees (take k ts)) ∷ drop k ts);
        come = λ m left h. omega (arith, left, h, size, ap length values, ap length opened, ap arguments opened, arguments-more w.compounds.items o, length-append w.compounds.items (o ∷ []));
        adds = variables;
        seen = seen;
        number = number;
        few = omega (arith, ap length opened, length-append w.compounds.items (o ∷ []));
      }
