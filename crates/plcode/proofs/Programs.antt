-- The entries of a program, and what its code says of each number.
use Rattle.std.proofs.Common.{◌≡◌, ℕ, ◌+◌, ◌<◌, ◌≤◌, Some, Bool, true, false, inl, inr, refl, List, [], ◌∷◌, ◌++◌, length, map, take, get_or, subst, ap, ◌∙◌, sym, arith, append_assoc, length-take, Bor}
use Rattle.std.specs.List.{slice_get}
use Rattle.std.proofs.lemmas.List.{get_or_past, map-append, map_more, take_more}
use Rattle.std.proofs.lemmas.Bool.{cases_lt}
use Rattle.std.proofs.lemmas.Option.{slice_get_within, get_or_from_slice_get}
use Rattle.plterm.specs.declared.indicator.Indicator.{Indicator}
use Rattle.plclause.specs.Clause.{Clause}
use Rattle.plprogram.specs.Program.{Program}
use Rattle.plnames.specs.declared.kind.Kind.{Kind}
use Rattle.plnames.specs.Names.{rows}
use Rattle.plnames.specs.Entries.{row_of}
use Rattle.platoms.specs.Names.{Table, IsTable, Extends}
use Rattle.plcode.specs.declared.callee.Callee.{Callee}
use Rattle.plcode.specs.declared.callee.Callee.TheVariants.{Unknown}
use Rattle.plcode.specs.declared.callee.Number.{Number}
use Rattle.plcode.specs.declared.callee.Entry.{Entry}
use Rattle.plcode.specs.declared.callee.Callees.{Callees}
use Rattle.plcode.specs.declared.clause.ClauseCode.{ClauseCode}
use Rattle.plcode.specs.Steps.{Text, renamed, ends, step_at, goals_from, Meets}
use Rattle.plcode.specs.Bodies.{IsCode}
use Rattle.plcode.specs.Clauses.{AreProcedures}
use Rattle.plcode.specs.Callees.{IsNumber, IsNumbered, found, callee_at, of_kind, row_callee, of_clauses, statics, AreEntries, IsCallee}
use Rattle.platoms.proofs.Extending.{Extends-trans}
use Rattle.plcode.specs.declared.op.Step.{Step}
use Rattle.plcode.proofs.Meanings.{nowhere, goals-past}
use Rattle.plcode.proofs.Stays.{names_extended}
use Rattle.plcode.proofs.Clauses.{AreProcedures-more}
use Rattle.plcode.proofs.Callees.{AreEntries-more, AreEntries-put, found_is, callee_is, statics_last}

-- ---- one entry more

module _ (s t : Table) (more : Extends s t) (table : IsTable s) (es new : List Entry) (e : Entry) (name : List ℕ) (pushed : new ≡ es ++ e ∷ []) where
  put : (ws : List (Indicator × Callee)) (p : Indicator) (o : Callee) → AreEntries s ws es → IsNumbered t p e.number → e.callee ≡ o → AreEntries t (ws ++ (p, o) ∷ []) new
  put ws p o h number callee =
      let P : List Entry → Type 0 = AreEntries t (ws ++ (p, o) ∷ []) in
      subst P (sym pushed) (AreEntries-put t ws es (p, o) e (AreEntries-more s t more table ws es h) number callee)

  pub row_more : (items : List (Bor (List ℕ) × ℕ × Kind)) (i : ℕ) (d : Bor (List ℕ) × ℕ × Kind) → i < length items → AreEntries s (map row_callee (map row_of (take i items))) es
      → name ≡ (get_or items i d).0.now → IsNumbered t (record { name = name; arity = (get_or items i d).1 }) e.number → e.callee ≡ of_kind (get_or items i d).2
      → AreEntries t (map row_callee (map row_of (take (i + 1) items))) new
  row_more items i d lt h is number callee =
      let x = get_or items i d in
      let next : map row_callee (map row_of (take (i + 1) items)) ≡ map row_callee (map row_of (take i items)) ++ row_callee (row_of x) ∷ [] =
      ap (map row_callee) (map_more row_of items i d lt) ∙ map-append row_callee (map row_of (take i items)) (row_of x ∷ []) in
      let P : List (Indicator × Callee) → Type 0 = λ ws. AreEntries t ws new in
      let Q : List ℕ → Type 0 = λ n. IsNumbered t (record { name = n; arity = x.1 }) e.number in
      subst P (sym next) (put (map row_callee (map row_of (take i items))) (row_callee (row_of x)).0 (of_kind x.2) h (subst Q is number) callee)

  pub procedure_more : (all : List (Indicator × List Clause)) (i place : ℕ) (x : Indicator × List Clause) (ws : List (Indicator × Callee)) → slice_get all i ≡ Some x → place ≡ i
      → AreEntries s (ws ++ statics 0 (take i all)) es → name ≡ x.0.name → IsNumbered t (record { name = name; arity = x.0.arity }) e.number → e.callee ≡ of_clauses place x.1
      → AreEntries t (ws ++ statics 0 (take (i + 1) all)) new
  procedure_more all i place x ws here at h is number callee =
      let lt : i < length all = slice_get_within all i x here in
      let taken : take (i + 1) all ≡ take i all ++ x ∷ [] = take_more all i x lt ∙ ap (λ (y : Indicator × List Clause). take i all ++ y ∷ []) (get_or_from_slice_get all i x x here) in
      let len : 0 + length (take i all) ≡ place = omega (arith, length-take i all) in
      let next : ws ++ statics 0 (take (i + 1) all) ≡ (ws ++ statics 0 (take i all)) ++ (x.0, of_clauses place x.1) ∷ [] =
      ap (λ (v : List (Indicator × List Clause)). ws ++ statics 0 v) taken
      ∙ ap (λ (v : List (Indicator × Callee)). ws ++ v) (statics_last 0 (take i all) x)
      ∙ ap (λ (k : ℕ). ws ++ (statics 0 (take i all) ++ (x.0, of_clauses k x.1) ∷ [])) len
      ∙ sym (append_assoc ws (statics 0 (take i all)) ((x.0, of_clauses place x.1) ∷ [])) in
      let P : List (Indicator × Callee) → Type 0 = λ v. AreEntries t v new in
      let Q : List ℕ → Type 0 = λ n. IsNumbered t (record { name = n; arity = x.0.arity }) e.number in
      subst P (sym next) (put (ws ++ statics 0 (take i all)) x.0 (of_clauses place x.1) h (subst Q is number) callee)

-- ---- the code of a program

-- what the step at a place says; past the last one stands the end of a sequence
pub meets_at : (c : Text) → IsCode c → (place : ℕ) → Meets c place (step_at c place)
meets_at c code place = elim (cases_lt place (length c.steps)) [ inl lt ↦ code.steps place lt | inr ge ↦ past ge ]
  where
    past : length c.steps ≤ place → Meets c place (step_at c place)
    past ge =
        let is : step_at c place ≡ nowhere = get_or_past c.steps place nowhere ge in
        let end : ends (step_at c place).op ≡ true = ap (λ (s : Step). ends s.op) is in
        record { none = λ e. goals-past c place end; runs = λ e. absurd (cc (end, e)) }

-- the lowest place is the end of a sequence: no place stands behind it
pub goals-end : (c : Text) → IsCode c → goals_from c 0 0 ≡ []
goals-end c code = go (ends (step_at c 0).op) refl
  where
    lowest : 0 < length c.steps
    lowest = omega (arith, code.fails.within)

    go : (b : Bool) → ends (step_at c 0).op ≡ b → goals_from c 0 0 ≡ []
    go true e = let m = code.steps 0 lowest in m.none e
    go false e = let m = code.steps 0 lowest in let r = m.runs e in absurd (omega (arith, r.some))

module _ (P : Program) (c : Text) (kss : List (List ClauseCode)) (is : IsCode c) (procedures : AreProcedures c kss P.procedures) where
  pub procedures_more : (t : Table) → Extends c.names t → AreProcedures (renamed t c) kss P.procedures
  procedures_more t more = AreProcedures-more c (renamed t c) is (names_extended c t more) kss P.procedures procedures

  pub callees_of : (es : List Entry) (m : Callees) (s : Table) → Extends c.names s → IsTable s → AreEntries s (map row_callee rows ++ statics 0 P.procedures) es
      → ((n : Number) → callee_at m n ≡ found Unknown es n) → (t : Table) → Extends s t → IsTable t → (n : Number) (p : Indicator) → IsNumber t n p
      → IsCallee (renamed t c) kss P p (callee_at m n)
  callees_of es m s names table entries made t more grown n p number =
      let ws = map row_callee rows ++ statics 0 P.procedures in
      let same = made n ∙ found_is t grown n p number ws es (AreEntries-more s t more table ws es entries) in
      subst (IsCallee (renamed t c) kss P p) (sym same)
      (callee_is (renamed t c) kss P (procedures_more t (Extends-trans c.names s t names more)) p)
