-- The innermost compound becomes a value.
use Rattle.std.proofs.Common.{◌≡◌, ℕ, suc, ◌-◌, ◌≤◌, List, [], ◌∷◌, ◌++◌, length, length-append, length-drop, length-take-le, take, drop, get_or, map, sym, ap, ap₂, subst, ◌∙◌, arith}
use Rattle.std.proofs.lemmas.List.{map-append, take-append-drop, length-map}
use Rattle.plterm.specs.Tree.{Tree, compound, trees}
use Rattle.platoms.specs.Names.{Table, functor_name}
use Rattle.plcells.specs.declared.cell.Argument.{Argument}
use Rattle.plcells.specs.declared.cell.Argument.TheVariants.{Value, Variable}
use Rattle.plcells.specs.declared.cell.Cell.{Cell}
use Rattle.plcells.specs.declared.cell.Cell.TheVariants.{Str, Ref}
use Rattle.plcells.specs.Store.{Store, IsValue, IsFunctorOf, AddsBlock, Preserves}
use Rattle.plcells.specs.Blocks.{stands_for}
use Rattle.plcells.specs.Putting.{AreGiven, AddsNoVariable}
use Rattle.plcells.proofs.Given.{given-stay, given-take, given-drop}
use Rattle.plcells.proofs.Putting.{adds-block}
use Rattle.plpacked.specs.declared.unfinished.Open.{Open}
use Rattle.plpacked.specs.declared.unfinished.Unfinished.{Unfinished}
use Rattle.plpacked.specs.Unfinished.{all_closed, comes_to, AreNested, arguments, AreVariables, IsUnfinished, IsFull, Closes}
use Rattle.plpacked.proofs.Nesting.{AreParted, closed-more, nested-parts, arguments-more, closed-full}

pub given-more : (h : Store) (xs : List Argument) (v : Cell) → AreGiven h xs → IsValue h v → AreGiven h (xs ++ Value v ∷ [])
given-more h [] v are is = (is, tt)
given-more h (Value u ∷ xs) v are is = (are.0, given-more h xs v are.1 is)
given-more h (Variable x ∷ xs) v are is = absurd are

pub variables-stay : (old new : Store) (n : ℕ) (cs : List ℕ) → Preserves old new → AreVariables old n cs → AreVariables new n cs
variables-stay old new n cs p are x lt =
    let a = are x lt in
    let r = p.values (Ref (get_or cs x 0)) a.0 in
    (r.0, r.1 ∙ a.1)

-- what the innermost compound has
module _ (h : Store) (w : Unfinished) (o : Open) (is : IsUnfinished h w) (full : IsFull w o) where
  parts-full : AreParted h.names 1 full.around o
  parts-full = nested-parts h.names 1 full.around o (subst (AreNested h.names 1) full.innermost is.nested)

  pub first-within : o.first ≤ length w.values.items
  first-within = omega (arith, parts-full.some, full.full)

  pub around-length : length w.compounds.items ≡ suc (length full.around)
  around-length = ap length full.innermost ∙ length-append full.around (o ∷ []) ∙ omega arith

  pub own-functor : IsFunctorOf h.names o.functor (length (drop o.first w.values.items))
  own-functor =
      let len : length (drop o.first w.values.items) ≡ o.end - o.first = omega (arith, length-drop o.first w.values.items, full.full) in
      rw len parts-full.functor

  pub own-given : AreGiven h (drop o.first w.values.items)
  own-given = given-drop h o.first w.values.items is.given

module _ (old new : Store) (w after : Unfinished) (o : Open) (p : ℕ) (is : IsUnfinished old w) (full : IsFull w o)
    (adds : AddsBlock old new p (functor_name old.names o.functor) (map (stands_for old) (drop o.first w.values.items)) [])
    (values : after.values.items ≡ take o.first w.values.items ++ Value (Str p) ∷ []) (around : after.compounds.items ≡ full.around)
    (variables : after.variables.items ≡ w.variables.items) (number : after.number ≡ w.number) where
  abbrev kept : List Argument
  kept = take o.first w.values.items

  abbrev own : List Tree
  own = map (stands_for old) (drop o.first w.values.items)

  none : AddsNoVariable old new
  none = adds-block old new p (functor_name old.names o.functor) own adds

  parts : AreParted old.names 1 full.around o
  parts = parts-full old w o is full

  kept_length : length kept ≡ o.first
  kept_length = length-take-le o.first w.values.items (omega (arith, parts.some, full.full))

  own_length : length own ≡ o.end - o.first
  own_length = length-map (drop o.first w.values.items) (stands_for old) ∙ omega (arith, length-drop o.first w.values.items, full.full)

  stay : AreGiven new kept × (map (stands_for new) kept ≡ map (stands_for old) kept)
  stay = given-stay old new kept none.preserves (given-take old o.first w.values.items is.given)

  now_trees : map (stands_for new) after.values.items ≡ map (stands_for old) kept ++ compound (functor_name old.names o.functor) (trees own) ∷ []
  now_trees =
      ap (map (stands_for new)) values
      ∙ map-append (stands_for new) kept (Value (Str p) ∷ [])
      ∙ ap₂ (λ (us : List Tree) (t : Tree). us ++ t ∷ []) stay.1 adds.is

  old_trees : map (stands_for old) w.values.items ≡ map (stands_for old) kept ++ own
  old_trees = ap (map (stands_for old)) (sym (take-append-drop o.first w.values.items)) ∙ map-append (stands_for old) kept (drop o.first w.values.items)

  same : (ts : List Tree) → comes_to new after ts ≡ comes_to old w ts
  same ts =
      ap (λ (t : Table). all_closed t after.compounds.items (map (stands_for new) after.values.items ++ ts)) adds.grows.names
      ∙ ap₂ (λ (os : List Open) (us : List Tree). all_closed old.names os (us ++ ts)) around now_trees
      ∙ ap (all_closed old.names full.around) (sym (closed-full old.names o (map (stands_for old) kept) own ts (length-map kept (stands_for old) ∙ kept_length) own_length))
      ∙ sym (closed-more old.names full.around o ((map (stands_for old) kept ++ own) ++ ts))
      ∙ ap₂ (λ (os : List Open) (us : List Tree). all_closed old.names os (us ++ ts)) (sym full.innermost) (sym old_trees)

  now_length : length after.values.items ≡ suc o.first
  now_length = ap length values ∙ omega (arith, length-append kept (Value (Str p) ∷ []), kept_length)

  pub closes : Closes old new w after
  closes = record {
    unfinished = record {
      given = subst (AreGiven new) (sym values) (given-more new kept (Str p) stay.0 adds.fits);
      nested = rw (adds.grows.names, around) parts.around;
      room = rw around (omega (arith, now_length, parts.inside));
      variables = rw (number, variables) (variables-stay old new w.number w.variables.items none.preserves is.variables);
    };
    same = same;
    come = λ m h. omega (arith, h, now_length, parts.some, full.full, ap length around, ap arguments around, ap length full.innermost, ap arguments full.innermost, arguments-more full.around o, length-append full.around (o ∷ []));
    adds = none;
    variables = variables;
    number = number;
    fewer = omega (arith, ap length around, ap length full.innermost, length-append full.around (o ∷ []));
  }
