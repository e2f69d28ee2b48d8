-- The procedures of a program as the map that holds them.
use Rattle.std.proofs.Common.{◌≡◌, ◌==◌, ℕ, zero, suc, Bool, true, false, cond, bytes_eq, List, [], ◌∷◌, ◌++◌, map, Vec, Option, Some, None, slice_get, refl, sym, ap, ◌∙◌, subst}
use Rattle.std.proofs.lemmas.Bool.{and_parts, eqb-true}
use Rattle.std.proofs.lemmas.Slice.Eq.{bytes_eq-Decides}
use Rattle.std.specs.Global.{Global}
use Rattle.std.specs.Map.{lookup, set_value}
use Rattle.indexmap.specs.IndexMap.{insert_entry}
use Rattle.plterm.specs.Indicators.{same_indicator}
use Rattle.plterm.specs.declared.indicator.Indicator.{Indicator}
use Rattle.plclause.specs.Clause.{Clause}
use Rattle.plclause.specs.Indicators.{indicator}
use Rattle.plprogram.specs.Program.{clauses_in, with_entry, AreOf, AreOwn}

abbrev pub shown : Indicator × Vec Clause Global → Indicator × List Clause
shown e = (e.0, e.1.items)

abbrev pub Entries : Type 0
Entries = List (Indicator × Vec Clause Global)

found_at : (b : Bool) (v w : Vec Clause Global) (o : Option (Vec Clause Global)) (cs : List Clause) → cond b (Some v) o ≡ Some w → (o ≡ Some w → cs ≡ w.items) → cond b v.items cs ≡ w.items
found_at true v w o cs e h = ap (λ (x : Option (Vec Clause Global)). items_or [] x) e where
  items_or : List Clause → Option (Vec Clause Global) → List Clause
  items_or d None = d
  items_or d (Some x) = x.items
found_at false v w o cs e h = h e

pub clauses_found : (es : Entries) (p : Indicator) (w : Vec Clause Global) → lookup (same_indicator p) es ≡ Some w → clauses_in (map shown es) p ≡ w.items
clauses_found [] p w e = cc
clauses_found (x ∷ es) p w e = found_at (same_indicator p x.0) x.1 w (lookup (same_indicator p) es) (clauses_in (map shown es) p) e (clauses_found es p w)

none_at : (b : Bool) (v : Vec Clause Global) (o : Option (Vec Clause Global)) (cs : List Clause) → cond b (Some v) o ≡ None → (o ≡ None → cs ≡ []) → cond b v.items cs ≡ []
none_at true v o cs e h = cc
none_at false v o cs e h = h e

pub clauses_none : (es : Entries) (p : Indicator) → lookup (same_indicator p) es ≡ None → clauses_in (map shown es) p ≡ []
clauses_none [] p e = refl
clauses_none (x ∷ es) p e = none_at (same_indicator p x.0) x.1 (lookup (same_indicator p) es) (clauses_in (map shown es) p) e (clauses_none es p)

set_at : (b : Bool) (x : Indicator × Vec Clause Global) (v w : Vec Clause Global) (o : Option (Vec Clause Global)) (es fs : Entries) (c : Clause) (gs : List (Indicator × List Clause))
    → cond b (Some x.1) o ≡ Some v → w.items ≡ v.items ++ c ∷ [] → (o ≡ Some v → map shown fs ≡ gs)
    → map shown (cond b ((x.0, w) ∷ es) (x ∷ fs)) ≡ cond b ((x.0, x.1.items ++ c ∷ []) ∷ map shown es) (shown x ∷ gs)
set_at true x v w o es fs c gs e f h =
    let same : x.1 ≡ v = cc in
    ap (λ (cs : List Clause). (x.0, cs) ∷ map shown es) (f ∙ ap (λ (y : Vec Clause Global). y.items ++ c ∷ []) (sym same))
set_at false x v w o es fs c gs e f h = ap (λ (ys : List (Indicator × List Clause)). shown x ∷ ys) (h e)

pub set_entry : (es : Entries) (p : Indicator) (v w : Vec Clause Global) (c : Clause) → lookup (same_indicator p) es ≡ Some v → w.items ≡ v.items ++ c ∷ []
    → map shown (set_value (same_indicator p) es w) ≡ with_entry (map shown es) p c
set_entry [] p v w c e f = cc
set_entry (x ∷ es) p v w c e f =
    set_at (same_indicator p x.0) x v w (lookup (same_indicator p) es) es (set_value (same_indicator p) es w) c (with_entry (map shown es) p c) e f (λ g. set_entry es p v w c g f)

same_at : (b : Bool) (x : Indicator × Vec Clause Global) (v w : Vec Clause Global) (o : Option (Vec Clause Global)) (es fs : Entries)
    → cond b (Some x.1) o ≡ Some v → w.items ≡ v.items → (o ≡ Some v → map shown fs ≡ map shown es)
    → map shown (cond b ((x.0, w) ∷ es) (x ∷ fs)) ≡ map shown (x ∷ es)
same_at true x v w o es fs e f h =
    let same : x.1 ≡ v = cc in
    ap (λ (cs : List Clause). (x.0, cs) ∷ map shown es) (f ∙ ap (λ (y : Vec Clause Global). y.items) (sym same))
same_at false x v w o es fs e f h = ap (λ (ys : List (Indicator × List Clause)). shown x ∷ ys) (h e)

pub set_same : (es : Entries) (p : Indicator) (v w : Vec Clause Global) → lookup (same_indicator p) es ≡ Some v → w.items ≡ v.items
    → map shown (set_value (same_indicator p) es w) ≡ map shown es
set_same [] p v w e f = cc
set_same (x ∷ es) p v w e f = same_at (same_indicator p x.0) x v w (lookup (same_indicator p) es) es (set_value (same_indicator p) es w) e f (λ g. set_same es p v w g f)

insert_at : (b : Bool) (x : Indicator × Vec Clause Global) (w : Vec Clause Global) (o : Option (Vec Clause Global)) (es fs : Entries) (c : Clause) (gs : List (Indicator × List Clause))
    → cond b (Some x.1) o ≡ None → (o ≡ None → map shown fs ≡ gs)
    → map shown (cond b ((x.0, w) ∷ es) (x ∷ fs)) ≡ cond b ((x.0, x.1.items ++ c ∷ []) ∷ map shown es) (shown x ∷ gs)
insert_at true x w o es fs c gs e h = cc
insert_at false x w o es fs c gs e h = ap (λ (ys : List (Indicator × List Clause)). shown x ∷ ys) (h e)

pub insert_new : (es : Entries) (p : Indicator) (w : Vec Clause Global) (c : Clause) → lookup (same_indicator p) es ≡ None → w.items ≡ c ∷ []
    → map shown (insert_entry same_indicator es p w) ≡ with_entry (map shown es) p c
insert_new [] p w c e f = ap (λ (cs : List Clause). (p, cs) ∷ []) f
insert_new (x ∷ es) p w c e f =
    insert_at (same_indicator p x.0) x w (lookup (same_indicator p) es) es (insert_entry same_indicator es p w) c (with_entry (map shown es) p c) e (λ g. insert_new es p w c g f)

-- the same name and arity
pub indicator_is : (p q : Indicator) → same_indicator p q ≡ true → p ≡ q
indicator_is p q e =
    let both = and_parts (bytes_eq p.name q.name) (p.arity == q.arity) e in
    let P : List ℕ → Indicator = λ s. record { name = s; arity = p.arity } in
    let Q : ℕ → Indicator = λ k. record { name = q.name; arity = k } in
    ap P ((bytes_eq-Decides p.name q.name).0 both.0) ∙ ap Q (eqb-true p.arity q.arity both.1)

own_end : (p : Indicator) (cs : List Clause) (c : Clause) → AreOf p cs → indicator c.head ≡ p → AreOf p (cs ++ c ∷ [])
own_end p [] c o e = (e, tt)
own_end p (x ∷ xs) c o e = (o.0, own_end p xs c o.1 e)

own_at : (b : Bool) (e : Indicator × List Clause) (es fs : List (Indicator × List Clause)) (p : Indicator) (c : Clause) → same_indicator p e.0 ≡ b → indicator c.head ≡ p → AreOf e.0 e.1 → AreOwn es → AreOwn fs
    → AreOwn (cond b ((e.0, e.1 ++ c ∷ []) ∷ es) (e ∷ fs))
own_at true e es fs p c s i o os ofs = (own_end e.0 e.1 c o (i ∙ indicator_is p e.0 s), os)
own_at false e es fs p c s i o os ofs = (o, ofs)

-- one more clause of its own procedure
pub with_own : (es : List (Indicator × List Clause)) (p : Indicator) (c : Clause) → indicator c.head ≡ p → AreOwn es → AreOwn (with_entry es p c)
with_own [] p c i o = ((i, tt), tt)
with_own (e ∷ es) p c i o = own_at (same_indicator p e.0) e es (with_entry es p c) p c refl i o.0 o.1 (with_own es p c i o.1)

-- a procedure at a place
pub own-there : (es : Entries) (i : ℕ) (e : Indicator × Vec Clause Global) → slice_get es i ≡ Some e → AreOwn (map shown es) → AreOf e.0 e.1.items
own-there [] i e s o = cc
own-there (x ∷ es) zero e s o = subst (λ (y : Indicator × Vec Clause Global). AreOf y.0 y.1.items) (ap (λ (z : Option (Indicator × Vec Clause Global)). or_else x z) s) o.0 where
  or_else : Indicator × Vec Clause Global → Option (Indicator × Vec Clause Global) → Indicator × Vec Clause Global
  or_else d None = d
  or_else d (Some y) = y
own-there (x ∷ es) (suc i) e s o = own-there es i e s o.1
