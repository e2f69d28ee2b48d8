-- Open compounds: what closing them comes to, and what stays as names are added.
use Rattle.std.proofs.Common.{◌≡◌, ℕ, ◌+◌, ◌-◌, ◌<◌, ◌≤◌, List, [], ◌∷◌, ◌++◌, length, take, drop, get_or, map, refl, sym, ap, ap₂, ◌∙◌, append_assoc, arith}
use Rattle.std.proofs.lemmas.List.{take_at, drop_at, take_all, take_more}
use Rattle.plterm.specs.declared.node.Node.TheVariants.{Compound}
use Rattle.plterm.specs.Tree.{Tree, compound, trees}
use Rattle.plterm.specs.Reading.{read}
use Rattle.platoms.specs.Names.{Table, IsTable, Extends, atom_at, functor_at, functor_name}
use Rattle.platoms.proofs.Extending.{functors_more, atom_same, functor_same}
use Rattle.plcells.specs.declared.cell.Argument.{Argument}
use Rattle.plcells.specs.Store.{Store, IsFunctorOf, Preserves}
use Rattle.plcells.specs.Blocks.{stands_for}
use Rattle.plcells.specs.Putting.{AreGiven}
use Rattle.plcells.proofs.Given.{given-stay}
use Rattle.plpacked.specs.declared.unfinished.Open.{Open}
use Rattle.plpacked.specs.Unfinished.{closed, all_closed, end_from, AreNested, arguments}

-- ---- one more, the innermost

pub closed-more : (t : Table) (os : List Open) (o : Open) (us : List Tree) → all_closed t (os ++ o ∷ []) us ≡ all_closed t os (closed t o us)
closed-more t [] o us = refl
closed-more t (p ∷ os) o us = ap (closed t p) (closed-more t os o us)

pub end-more : (e : ℕ) (os : List Open) (o : Open) → end_from e (os ++ o ∷ []) ≡ o.end
end-more e [] o = refl
end-more e (p ∷ os) o = end-more p.end os o

pub nested-more : (t : Table) (e : ℕ) (os : List Open) (o : Open) → AreNested t e os → o.first < end_from e os → o.first < o.end → IsFunctorOf t o.functor (o.end - o.first) → AreNested t e (os ++ o ∷ [])
nested-more t e [] o h inside some functor = (inside, some, functor, tt)
nested-more t e (p ∷ os) o h inside some functor = (h.0, h.1, h.2, nested-more t p.end os o h.3 inside some functor)

-- the innermost, and those around it
pub record AreParted (t : Table) (e : ℕ) (os : List Open) (o : Open) : Type 0 where
  pub around : AreNested t e os
  pub inside : o.first < end_from e os
  pub some : o.first < o.end
  pub functor : IsFunctorOf t o.functor (o.end - o.first)

pub nested-parts : (t : Table) (e : ℕ) (os : List Open) (o : Open) → AreNested t e (os ++ o ∷ []) → AreParted t e os o
nested-parts t e [] o h = record { around = tt; inside = h.0; some = h.1; functor = h.2 }
nested-parts t e (p ∷ os) o h =
    let r = nested-parts t p.end os o h.3 in
    record { around = (h.0, h.1, h.2, r.around); inside = r.inside; some = r.some; functor = r.functor }

pub arguments-more : (os : List Open) (o : Open) → arguments (os ++ o ∷ []) ≡ arguments os + (o.end - o.first)
arguments-more [] o = omega arith
arguments-more (p ∷ os) o = omega (arith, arguments-more os o)

-- there is room for fewer values than arguments, since each but the outermost is one
pub end-le : (t : Table) (e : ℕ) (os : List Open) → AreNested t e os → end_from e os + length os ≤ e + arguments os
end-le t e [] h = omega arith
end-le t e (o ∷ os) h =
    let inside : o.first < e = h.0 in
    let some : o.first < o.end = h.1 in
    omega (arith, end-le t o.end os h.3)

-- ---- trees parted at the place of a compound

pub closed-at : (t : Table) (o : Open) (xs ys : List Tree) → length xs ≡ o.first → closed t o (xs ++ ys) ≡ xs ++ read (Compound (functor_name t o.functor) (o.end - o.first)) ys
closed-at t o xs ys e = ap₂ (λ (us vs : List Tree). us ++ read (Compound (functor_name t o.functor) (o.end - o.first)) vs) (take_at xs ys o.first e) (drop_at xs ys o.first e)

-- one with all its arguments
pub closed-full : (t : Table) (o : Open) (xs ys ts : List Tree) → length xs ≡ o.first → length ys ≡ o.end - o.first
    → closed t o ((xs ++ ys) ++ ts) ≡ (xs ++ compound (functor_name t o.functor) (trees ys) ∷ []) ++ ts
closed-full t o xs ys ts e k =
    let name = functor_name t o.functor in
    ap (closed t o) (append_assoc xs ys ts)
    ∙ closed-at t o xs (ys ++ ts) e
    ∙ ap₂ (λ (us vs : List Tree). xs ++ compound name (trees us) ∷ vs) (take_at ys ts (o.end - o.first) k) (drop_at ys ts (o.end - o.first) k)
    ∙ sym (append_assoc xs (compound name (trees ys) ∷ []) ts)

-- ---- more names

module _ (s t : Table) (is : IsTable s) (more : Extends s t) where
  functor-stays : (f k : ℕ) → IsFunctorOf s f k → IsFunctorOf t f k
  functor-stays f k h = record {
    within = omega (arith, h.within, functors_more s t more);
    arity = ap (λ x. x.arity) (functor_same s t more f h.within) ∙ h.arity;
  }

  name-stays : (f : ℕ) → f < length s.functors → functor_name t f ≡ functor_name s f
  name-stays f lt =
      let k = is.functors f lt in
      ap (λ x. atom_at t x.name) (functor_same s t more f lt) ∙ atom_same s t more (functor_at s f).name k.name

  pub nested-stay : (e : ℕ) (os : List Open) → AreNested s e os → AreNested t e os
  nested-stay e [] h = tt
  nested-stay e (o ∷ os) h = (h.0, h.1, functor-stays o.functor (o.end - o.first) h.2, nested-stay o.end os h.3)

  closed-stays : (o : Open) (us : List Tree) → IsFunctorOf s o.functor (o.end - o.first) → closed t o us ≡ closed s o us
  closed-stays o us h = ap (λ (n : List ℕ). take o.first us ++ read (Compound n (o.end - o.first)) (drop o.first us)) (name-stays o.functor h.within)

  pub all_closed-stay : (e : ℕ) (os : List Open) (us : List Tree) → AreNested s e os → all_closed t os us ≡ all_closed s os us
  all_closed-stay e [] us h = refl
  all_closed-stay e (o ∷ os) us h = ap (closed t o) (all_closed-stay o.end os us h.3) ∙ closed-stays o (all_closed s os us) h.2

-- what values come to stays what it is
pub comes-same : (old new : Store) (os : List Open) (vs : List Argument) (ts : List Tree) → IsTable old.names → Preserves old new → AreGiven old vs → AreNested old.names 1 os
    → all_closed new.names os (map (stands_for new) vs ++ ts) ≡ all_closed old.names os (map (stands_for old) vs ++ ts)
comes-same old new os vs ts is p given nested =
    all_closed-stay old.names new.names is p.keeps.names 1 os (map (stands_for new) vs ++ ts) nested
    ∙ ap (λ (us : List Tree). all_closed old.names os (us ++ ts)) (given-stay old new vs p given).1

-- the last of them
pub parts-last : (os : List Open) (o d : Open) → 0 < length os → o ≡ get_or os (length os - 1) d → os ≡ take (length os - 1) os ++ o ∷ []
parts-last os o d some e =
    let whole : length os - 1 + 1 ≡ length os = omega arith in
    sym (take_all (length os) os (omega arith))
    ∙ ap (λ (n : ℕ). take n os) (sym whole)
    ∙ take_more os (length os - 1) d (omega arith)
    ∙ ap (λ (p : Open). take (length os - 1) os ++ p ∷ []) (sym e)

pub end-last : (e : ℕ) (os : List Open) (o d : Open) → 0 < length os → o ≡ get_or os (length os - 1) d → end_from e os ≡ o.end
end-last e os o d some is = ap (end_from e) (parts-last os o d some is) ∙ end-more e (take (length os - 1) os) o
