-- What is called by each number, by the entries.
use Rattle.std.proofs.Common.{◌≡◌, ℕ, zero, suc, ◌+◌, ◌<◌, Bool, true, false, Option, Some, None, List, [], ◌∷◌, ◌++◌, length, map, get_or, refl, subst, ap, ◌∙◌, sym, arith, append_assoc, length-append, if◌then◌else◌}
use Rattle.std.proofs.Math.Seq.{get_or-append_seam}
use Rattle.plterm.specs.declared.indicator.Indicator.{Indicator}
use Rattle.plterm.specs.Indicators.{same_indicator}
use Rattle.plclause.specs.Clause.{Clause}
use Rattle.plprogram.specs.Program.{Program, clauses_in, clauses_for}
use Rattle.plnames.specs.declared.kind.Kind.{Kind}
use Rattle.plnames.specs.declared.kind.Kind.TheVariants as kinds
use Rattle.plnames.specs.Names.{Row, rows, kind_of, kind_in}
use Rattle.platoms.specs.Names.{Table, IsTable, Extends}
use Rattle.plcode.specs.declared.callee.Callee.{Callee}
use Rattle.plcode.specs.declared.callee.Callee.TheVariants.{Control, BuiltIn, Static, Unknown}
use Rattle.plcode.specs.declared.callee.Number.{Number}
use Rattle.plcode.specs.declared.callee.Number.TheVariants.{Atom, Functor}
use Rattle.plcode.specs.declared.callee.Entry.{Entry}
use Rattle.plcode.specs.declared.callee.Callees.{Callees}
use Rattle.plcode.specs.declared.clause.ClauseCode.{ClauseCode}
use Rattle.plcode.specs.Steps.{Text}
use Rattle.plcode.specs.Clauses.{AreCodeOf, AreProcedures}
use Rattle.plcode.specs.Callees.{IsNumber, IsNumbered, same_number, is_of, found, callee_at, of_kind, row_callee, of_clauses, statics, AreEntries, IsCallee}
use Rattle.plprogram.proofs.Procedures.{indicator_is}
use Rattle.plcode.proofs.Numbers.{number_is, number_refl, indicator_same, number_one, procedure_one, IsNumbered-more}

-- what the first entry of a procedure says
abbrev pub callee_in : List (Indicator × Callee) → Indicator → Callee
callee_in [] p = Unknown
callee_in (w ∷ ws) p = if same_indicator p w.0 then w.1 else callee_in ws p

-- ---- entries by number

pub found_last : (otherwise : Callee) (es : List Entry) (e : Entry) (n : Number) → found otherwise (es ++ e ∷ []) n ≡ found (if is_of e.number n then e.callee else otherwise) es n
found_last otherwise [] e n = refl
found_last otherwise (x ∷ es) e n = ap (λ (c : Callee). if is_of x.number n then x.callee else c) (found_last otherwise es e n)

pub callees_none : (m : Callees) → m.atoms.items ≡ [] → m.functors.items ≡ [] → (n : Number) → callee_at m n ≡ Unknown
callees_none m atoms functors (Atom a) = ap (λ (cs : List Callee). get_or cs a Unknown) atoms
callees_none m atoms functors (Functor f) = ap (λ (cs : List Callee). get_or cs f Unknown) functors

pub unknown_last : (cs : List Callee) (i : ℕ) → get_or (cs ++ Unknown ∷ []) i Unknown ≡ get_or cs i Unknown
unknown_last [] zero = refl
unknown_last [] (suc i) = refl
unknown_last (c ∷ cs) zero = refl
unknown_last (c ∷ cs) (suc i) = unknown_last cs i

-- ---- the entries of procedures

pub AreEntries-more : (s t : Table) (more : Extends s t) (table : IsTable s) (ws : List (Indicator × Callee)) (es : List Entry) → AreEntries s ws es → AreEntries t ws es
AreEntries-more s t more table [] [] h = h
AreEntries-more s t more table [] (e ∷ es) h = h
AreEntries-more s t more table (w ∷ ws) [] h = h
AreEntries-more s t more table (w ∷ ws) (e ∷ es) h = (IsNumbered-more s t more table w.0 e.number h.0, h.1, AreEntries-more s t more table ws es h.2)

pub AreEntries-put : (t : Table) (ws : List (Indicator × Callee)) (es : List Entry) (w : Indicator × Callee) (e : Entry)
    → AreEntries t ws es → IsNumbered t w.0 e.number → e.callee ≡ w.1 → AreEntries t (ws ++ w ∷ []) (es ++ e ∷ [])
AreEntries-put t [] [] w e h number callee = (number, callee, tt)
AreEntries-put t [] (f ∷ es) w e h number callee = absurd h
AreEntries-put t (v ∷ ws) [] w e h number callee = absurd h
AreEntries-put t (v ∷ ws) (f ∷ es) w e h number callee = (h.0, h.1, AreEntries-put t ws es w e h.2 number callee)

bool_same : (a b : Bool) → (a ≡ true → b ≡ true) → (b ≡ true → a ≡ true) → a ≡ b
bool_same true b there back = sym (there refl)
bool_same false true there back = back refl
bool_same false false there back = refl

module _ (t : Table) (table : IsTable t) (n : Number) (p : Indicator) (is : IsNumber t n p) where
  found_here : (q : Indicator) (o : Option Number) → IsNumbered t q o → is_of o n ≡ same_indicator p q
  found_here q (Some m) h =
      bool_same (same_number m n) (same_indicator p q)
      (λ e. let P : Number → Type 0 = λ x. IsNumber t x q in indicator_same p q (procedure_one t n p q is (subst P (number_is m n e) h)))
      (λ e. let P : Indicator → Type 0 = λ x. IsNumber t n x in
      let k : m ≡ n = number_one t table m n q h (subst P (indicator_is p q e) is) in
      subst (λ x. same_number m x ≡ true) k (number_refl m))
  found_here q None h =
      bool_same false (same_indicator p q) (λ e. absurd (cc)) (λ e. let P : Indicator → Type 0 = λ x. IsNumber t n x in absurd (h t table n (subst P (indicator_is p q e) is)))

  pub found_is : (ws : List (Indicator × Callee)) (es : List Entry) → AreEntries t ws es → found Unknown es n ≡ callee_in ws p
  found_is [] [] h = refl
  found_is [] (e ∷ es) h = absurd h
  found_is (w ∷ ws) [] h = absurd h
  found_is (w ∷ ws) (e ∷ es) h =
      ap (λ (b : Bool). if b then e.callee else found Unknown es n) (found_here w.0 e.number h.0)
      ∙ ap (λ (c : Callee). if same_indicator p w.0 then c else found Unknown es n) h.1
      ∙ ap (λ (c : Callee). if same_indicator p w.0 then w.1 else c) (found_is ws es h.2)

-- ---- what the entries say

fixed : (rs : List Row) (ws : List (Indicator × Callee)) (p : Indicator) (k : Kind) → kind_in rs p.name p.arity ≡ Some k → callee_in (map row_callee rs ++ ws) p ≡ of_kind k
fixed [] ws p k e = cc
fixed (r ∷ rs) ws p k e = go (fixed rs ws p k) (same_indicator p (row_callee r).0) e
  where
    go : (kind_in rs p.name p.arity ≡ Some k → callee_in (map row_callee rs ++ ws) p ≡ of_kind k) → (b : Bool) → (if b then Some r.kind else kind_in rs p.name p.arity) ≡ Some k
        → (if b then of_kind r.kind else callee_in (map row_callee rs ++ ws) p) ≡ of_kind k
    go later true e = let s : r.kind ≡ k = cc in ap of_kind s
    go later false e = later e

free : (rs : List Row) (ws : List (Indicator × Callee)) (p : Indicator) → kind_in rs p.name p.arity ≡ None → callee_in (map row_callee rs ++ ws) p ≡ callee_in ws p
free [] ws p e = refl
free (r ∷ rs) ws p e = go (free rs ws p) (same_indicator p (row_callee r).0) e
  where
    go : (kind_in rs p.name p.arity ≡ None → callee_in (map row_callee rs ++ ws) p ≡ callee_in ws p) → (b : Bool) → (if b then Some r.kind else kind_in rs p.name p.arity) ≡ None → (if b then of_kind r.kind else callee_in (map row_callee rs ++ ws) p) ≡ callee_in ws p
    go later true e = absurd (cc)
    go later false e = later e

-- a callee that is said of the clauses of a procedure
abbrev IsFound : Text → List (List ClauseCode) → List Clause → Callee → Type 0
IsFound c kss cs (Control k) = ⊥
IsFound c kss cs (BuiltIn b) = ⊥
IsFound c kss cs (Static i) = (i < length kss) × AreCodeOf c (get_or kss i []) cs × (cs ≡ [] → ⊥)
IsFound c kss cs Unknown = cs ≡ []

found_first : (c : Text) (before : List (List ClauseCode)) (ks : List ClauseCode) (kss : List (List ClauseCode)) (cs : List Clause) → AreCodeOf c ks cs
    → IsFound c (before ++ ks ∷ kss) cs (of_clauses (length before) cs)
found_first c before ks kss [] h = refl
found_first c before ks kss (x ∷ xs) h =
    let P : List ClauseCode → Type 0 = λ v. AreCodeOf c v (x ∷ xs) in
    (omega (arith, length-append before (ks ∷ kss)), subst P (sym (get_or-append_seam before ks kss [])) h, λ e. cc)

statics_found : (c : Text) (before kss : List (List ClauseCode)) (es : List (Indicator × List Clause)) (p : Indicator) → AreProcedures c kss es
    → IsFound c (before ++ kss) (clauses_in es p) (callee_in (statics (length before) es) p)
statics_found c before [] [] p h = refl
statics_found c before [] (e ∷ es) p h = absurd h
statics_found c before (ks ∷ kss) [] p h = absurd h
statics_found c before (ks ∷ kss) (e ∷ es) p h = go (statics_found c (before ++ ks ∷ []) kss es p h.1) (same_indicator p e.0)
  where
    go : IsFound c ((before ++ ks ∷ []) ++ kss) (clauses_in es p) (callee_in (statics (length (before ++ ks ∷ [])) es) p) → (b : Bool)
        → IsFound c (before ++ ks ∷ kss) (if b then e.1 else clauses_in es p) (if b then of_clauses (length before) e.1 else callee_in (statics (suc (length before)) es) p)
    go later true = found_first c before ks kss e.1 h.0
    go later false =
        let len : length (before ++ ks ∷ []) ≡ suc (length before) = omega (arith, length-append before (ks ∷ [])) in
        let all : (before ++ ks ∷ []) ++ kss ≡ before ++ ks ∷ kss = append_assoc before (ks ∷ []) kss in
        let P : ℕ → Type 0 = λ n. IsFound c (before ++ ks ∷ kss) (clauses_in es p) (callee_in (statics n es) p) in
        let Q : List (List ClauseCode) → Type 0 = λ v. IsFound c v (clauses_in es p) (callee_in (statics (length (before ++ ks ∷ [])) es) p) in
        subst P len (subst Q all later)

-- the entry that says it stands at the place of the procedure
abbrev nothing : Indicator × List Clause
nothing = (record { name = []; arity = 0 }, [])

entry_first : (gone es : List (Indicator × List Clause)) (e : Indicator × List Clause) (i : ℕ) (cs : List Clause) → cs ≡ e.1 → of_clauses (length gone) cs ≡ Static i
    → get_or (gone ++ e ∷ es) i nothing ≡ e
entry_first gone es e i [] is k = cc
entry_first gone es e i (x ∷ xs) is k =
    let at : length gone ≡ i = cc in
    ap (λ (n : ℕ). get_or (gone ++ e ∷ es) n nothing) (sym at) ∙ get_or-append_seam gone e es nothing

entry_found : (gone es : List (Indicator × List Clause)) (p : Indicator) (i : ℕ) → callee_in (statics (length gone) es) p ≡ Static i → get_or (gone ++ es) i nothing ≡ (p, clauses_in es p)
entry_found gone [] p i k = cc
entry_found gone (e ∷ es) p i k = go (entry_found (gone ++ e ∷ []) es p i) (same_indicator p e.0) refl k
  where
    go : (callee_in (statics (length (gone ++ e ∷ [])) es) p ≡ Static i → get_or ((gone ++ e ∷ []) ++ es) i nothing ≡ (p, clauses_in es p))
        → (b : Bool) → same_indicator p e.0 ≡ b → (if b then of_clauses (length gone) e.1 else callee_in (statics (suc (length gone)) es) p) ≡ Static i
        → get_or (gone ++ e ∷ es) i nothing ≡ (p, if b then e.1 else clauses_in es p)
    go later true same k =
        let with_name : Indicator → Indicator × List Clause = λ q. (q, e.1) in
        entry_first gone es e i e.1 refl k ∙ ap with_name (sym (indicator_is p e.0 same))
    go later false same k =
        let len : suc (length gone) ≡ length (gone ++ e ∷ []) = omega (arith, length-append gone (e ∷ [])) in
        let P : ℕ → Type 0 = λ n. callee_in (statics n es) p ≡ Static i in
        ap (λ (v : List (Indicator × List Clause)). get_or v i nothing) (sym (append_assoc gone (e ∷ []) es)) ∙ later (subst P len k)

-- ---- a program's

module _ (c : Text) (kss : List (List ClauseCode)) (P : Program) (procedures : AreProcedures c kss P.procedures) (p : Indicator) where
  kind_callee : (k : Kind) → kind_of p.name p.arity ≡ Some k → IsCallee c kss P p (of_kind k)
  kind_callee (kinds.Control k) e = e
  kind_callee (kinds.BuiltIn b) e = e

  found_callee : kind_of p.name p.arity ≡ None → (o : Callee) → callee_in (statics 0 P.procedures) p ≡ o → IsFound c kss (clauses_for P p) o → IsCallee c kss P p o
  found_callee e (Control k) is h = absurd h
  found_callee e (BuiltIn b) is h = absurd h
  found_callee e (Static i) is h = record { free = e; entry = entry_found [] P.procedures p i is; within = h.0; code = h.1; some = h.2 }
  found_callee e Unknown is h = (e, h)

  pub callee_is : IsCallee c kss P p (callee_in (map row_callee rows ++ statics 0 P.procedures) p)
  callee_is = go (kind_of p.name p.arity) refl
    where
      go : (o : Option Kind) → kind_of p.name p.arity ≡ o → IsCallee c kss P p (callee_in (map row_callee rows ++ statics 0 P.procedures) p)
      go (Some k) e = subst (IsCallee c kss P p) (sym (fixed rows (statics 0 P.procedures) p k e)) (kind_callee k e)
      go None e =
          subst (IsCallee c kss P p) (sym (free rows (statics 0 P.procedures) p e))
          (found_callee e (callee_in (statics 0 P.procedures) p) refl (statics_found c [] kss P.procedures p procedures))

-- ---- more of them

pub statics_last : (i : ℕ) (es : List (Indicator × List Clause)) (e : Indicator × List Clause) → statics i (es ++ e ∷ []) ≡ statics i es ++ (e.0, of_clauses (i + length es) e.1) ∷ []
statics_last i [] e = let n : i ≡ i + 0 = omega arith in ap (λ (k : ℕ). (e.0, of_clauses k e.1) ∷ []) n
statics_last i (x ∷ es) e =
    let n : suc i + length es ≡ i + suc (length es) = omega arith in
    ap (λ (ws : List (Indicator × Callee)). (x.0, of_clauses i x.1) ∷ ws)
    (statics_last (suc i) es e ∙ ap (λ (k : ℕ). statics (suc i) es ++ (e.0, of_clauses k e.1) ∷ []) n)
