-- Goals by their numbers and arguments.
use Rattle.std.proofs.Common.{◌≡◌, ℕ, suc, ◌<◌, ◌≤◌, List, [], ◌∷◌, length, map, get_or, refl, sym, ap, ap₂, ◌∙◌, subst, arith}
use Rattle.std.proofs.lemmas.List.{length-map}
use Rattle.plterm.specs.Tree.{Tree, compound, trees}
use Rattle.plnames.specs.declared.kind.Control.TheVariants as controls
use Rattle.plnames.specs.Names.{kind_of}
use Rattle.platoms.specs.Names.{Table, functor_name}
use Rattle.plcells.specs.declared.cell.Cell.{Cell}
use Rattle.plcells.specs.declared.cell.Cell.TheVariants.{Free, Lone, Ref, Int, Wide, Atom, Str, Fun, Ground}
use Rattle.plcells.specs.Store.{Store, term, terms, value, IsHeap, IsBlock, IsEnd}
use Rattle.plsearch.specs.Forms.{form, form_by}
use Rattle.plcode.specs.declared.callee.Callee.{Callee}
use Rattle.plcode.specs.declared.callee.Callee.TheVariants as callees
use Rattle.plcode.specs.declared.callee.Callees.{Callees}
use Rattle.plcode.specs.declared.callee.Number.{Number}
use Rattle.plcode.specs.declared.callee.Number.TheVariants.{Atom as AtomNumber, Functor}
use Rattle.plcode.specs.Bodies.{IsNoArrow}
use Rattle.plcode.specs.Callees.{callee_at}
use Rattle.plcode.proofs.Goals.{form_compound, branch_of}
use Rattle.plgoals.specs.Callables.{called, kind_by, name_of, procedure_of, HasKinds, IsCallable, IsNoGoal}
use Rattle.plgoals.specs.Extended.{AreArguments}
use Rattle.plgoals.specs.Forms.{IsArrow}
use Rattle.plgoals.proofs.Joining.{arguments-length, terms-length}
use Rattle.plgoals.proofs.Rows.{arrow_named, by_arrow}
use Rattle.plgoals.proofs.Shapes.{end-variable}

-- ---- what a goal is

form-called : (t : Table) (n : Number) (us : List Tree) → IsCallable t n (length us) → form (called t n us) ≡ form_by (kind_of (name_of t n) (length us)) (procedure_of t n (length us)) us
form-called t (AtomNumber a) [] is = refl
form-called t (AtomNumber a) (u ∷ us) is = absurd (omega (arith, is.0))
form-called t (Functor f) us is = form_compound (functor_name t f) us

pub form-is : (h : Store) (m : Callees) (n : Number) (args : List Cell) (k : Callee) → HasKinds h.names m → IsCallable h.names n (length args) → callee_at m n ≡ k →
    form (called h.names n (map (value h) args)) ≡ form_by (kind_by k) (procedure_of h.names n (length args)) (map (value h) args)
form-is h m n args k knows is e =
    let us = map (value h) args in
    let s = name_of h.names n in
    let many = length-map args (value h) in
    form-called h.names n us (subst (IsCallable h.names n) (sym many) is)
    ∙ ap (λ j. form_by (kind_of s j) (procedure_of h.names n j) us) many
    ∙ ap (λ o. form_by o (procedure_of h.names n (length args)) us) (knows n (procedure_of h.names n (length args)) is ∙ ap kind_by e)

-- ---- the numbers of a compound

module _ (h : Store) (p f k : ℕ) (args : List Cell) (is : IsHeap h) (block : IsBlock h p f k) (are : AreArguments h p k args) where
  pub compound-few : length args ≤ 1024
  compound-few = let l = arguments-length h p k args are in omega (arith, l, block.arity, (is.names.functors f block.functor).most)

  pub compound-callable : IsCallable h.names (Functor f) (length args)
  compound-callable = record { within = block.functor; name = refl; arity = block.arity ∙ sym (arguments-length h p k args are) }

-- ---- what is no goal, and what is no `->`

pub end-no-goal : (h : Store) (w : Cell) → IsHeap h → IsEnd h w → ((a : ℕ) → w ≡ Atom a → ⊥) → ((p : ℕ) → w ≡ Str p → ⊥) → IsNoGoal (value h w)
end-no-goal h (Free p) is end atoms blocks = absurd end
end-no-goal h (Lone p) is end atoms blocks = absurd end
end-no-goal h (Ref j) is end atoms blocks = let x = end-variable h j is end in subst IsNoGoal (sym x.1) tt
end-no-goal h (Int n) is end atoms blocks = tt
end-no-goal h (Wide p) is end atoms blocks = tt
end-no-goal h (Atom a) is end atoms blocks = absurd (atoms a refl)
end-no-goal h (Str p) is end atoms blocks = absurd (blocks p refl)
end-no-goal h (Fun f) is end atoms blocks = absurd end
end-no-goal h (Ground f) is end atoms blocks = absurd end

pub end-no-arrow : (h : Store) (w : Cell) → IsHeap h → IsEnd h w → ((p : ℕ) → w ≡ Str p → ⊥) → IsNoArrow (value h w)
end-no-arrow h (Free p) is end blocks = absurd end
end-no-arrow h (Lone p) is end blocks = absurd end
end-no-arrow h (Ref j) is end blocks = let x = end-variable h j is end in subst IsNoArrow (sym x.1) (λ b. refl)
end-no-arrow h (Int n) is end blocks = λ b. refl
end-no-arrow h (Wide p) is end blocks = λ b. refl
end-no-arrow h (Atom a) is end blocks = λ b. refl
end-no-arrow h (Str p) is end blocks = absurd (blocks p refl)
end-no-arrow h (Fun f) is end blocks = absurd end
end-no-arrow h (Ground f) is end blocks = absurd end

module _ (h : Store) (m : Callees) (v : Cell) (p f k : ℕ) (block : IsBlock h p f k) (same : value h v ≡ term h p) (knows : HasKinds h.names m) where
  kind : kind_of (functor_name h.names f) k ≡ kind_by (callee_at m (Functor f))
  kind = knows (Functor f) (record { name = functor_name h.names f; arity = k }) (record { within = block.functor; name = refl; arity = block.arity })

  pub arrow-is : callee_at m (Functor f) ≡ callees.Control controls.IfThen → IsArrow h v p
  arrow-is e =
      let named = arrow_named (functor_name h.names f) k (kind ∙ ap kind_by e) in
      record {
        is = same ∙ block.is ∙ ap₂ (λ s n. compound s (trees (terms h (suc p) n))) named.0 named.1;
        within = omega (arith, block.within, named.1);
        plain = λ d lo hi. block.plain d lo (omega (arith, hi, named.1));
        few = block.few;
      }

  pub no-arrow : (callee_at m (Functor f) ≡ callees.Control controls.IfThen → ⊥) → IsNoArrow (value h v)
  no-arrow not =
      let s = functor_name h.names f in
      let ts = terms h (suc p) k in
      subst IsNoArrow (sym (same ∙ block.is))
      (branch_of s ts (λ two e. not (by_arrow (callee_at m (Functor f)) (sym kind ∙ ap (kind_of s) (sym (terms-length h (suc p) k) ∙ two) ∙ e))))

-- ---- short lists of arguments

pub list-none : (xs : List Cell) → length xs < 1 → xs ≡ []
list-none [] lt = refl
list-none (x ∷ xs) lt = absurd (omega (arith, lt))

pub list-one : (xs : List Cell) (d : Cell) → 1 ≤ length xs → length xs < 2 → xs ≡ get_or xs 0 d ∷ []
list-one [] d ge lt = absurd (omega (arith, ge))
list-one (x ∷ []) d ge lt = refl
list-one (x ∷ y ∷ xs) d ge lt = absurd (omega (arith, lt))

pub list-two : (xs : List Cell) (d : Cell) → 2 ≤ length xs → length xs < 3 → xs ≡ get_or xs 0 d ∷ get_or xs 1 d ∷ []
list-two [] d ge lt = absurd (omega (arith, ge))
list-two (x ∷ []) d ge lt = absurd (omega (arith, ge))
list-two (x ∷ y ∷ []) d ge lt = refl
list-two (x ∷ y ∷ z ∷ xs) d ge lt = absurd (omega (arith, lt))

pub list-three : (xs : List Cell) (d : Cell) → 3 ≤ length xs → length xs < 4 → xs ≡ get_or xs 0 d ∷ get_or xs 1 d ∷ get_or xs 2 d ∷ []
list-three [] d ge lt = absurd (omega (arith, ge))
list-three (x ∷ []) d ge lt = absurd (omega (arith, ge))
list-three (x ∷ y ∷ []) d ge lt = absurd (omega (arith, ge))
list-three (x ∷ y ∷ z ∷ []) d ge lt = refl
list-three (x ∷ y ∷ z ∷ w ∷ xs) d ge lt = absurd (omega (arith, lt))
