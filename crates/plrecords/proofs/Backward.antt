-- Runs and links as they were before a change.
use Rattle.std.proofs.Common.{◌≡◌, zero, ◌+◌, ◌-◌, refl, sym, ◌∙◌, ap, arith, ℕ, suc, ◌<◌, ◌≢◌, Bool, true, false, List, [], ◌∷◌, ◌++◌, Option, Some, None, length, get_or, set, take, drop}
use Rattle.std.proofs.Math.Seq.{take-append_seam}
use Rattle.std.proofs.lemmas.List.{get_or-set_same, length-set, length-map, length-drop, set-append_left, set-get_or}
use Rattle.plrecords.specs.declared.ends.Ends.{Ends}
use Rattle.plrecords.specs.declared.record.Record.{Record}
use Rattle.plrecords.specs.declared.runs.RecordNotes.{RecordNotes}
use Rattle.plrecords.specs.declared.runs.Noted.{Noted}
use Rattle.plrecords.specs.Links.{earlier, backs, back_of, linked_at, Class, IsIndexed}
use Rattle.plrecords.specs.Runs.{SameRuns}
use Rattle.std.specs.Prelude.{cond, MatchOption}
use Rattle.plrecords.specs.Kept.{first_of}
use Rattle.plrecords.specs.Undone.{HadRun, MoreRuns, WasAt, WasEnd, WasRecord}
use Rattle.plrecords.proofs.Bits.{LastIs, first-none, get-drop, last-some, length-push}
use Rattle.plrecords.proofs.Index.{newest-within}

pub same-join : (a b c : List RecordNotes) → SameRuns a b → SameRuns b c → SameRuns a c
same-join a b c h k = record { count = k.count ∙ h.count; each = λ i. k.each i ∙ h.each i }

pub had-same : (o : Option Noted) (old new now : List RecordNotes) → HadRun o old new → SameRuns new now → HadRun o old now
had-same None old new now h same = same-join old new now h same
had-same (Some n) old new now h same = record { count = same.count ∙ h.count; here = h.here; others = λ i e. h.others i e ∙ sym (same.each i) }

pub more-same : (old new now : List RecordNotes) → MoreRuns old new → SameRuns new now → MoreRuns old now
more-same old new now h same = record { count = same.count ∙ h.count; each = λ i l. same.each i ∙ h.each i l }

pub set-twice : {A : Type 0} (xs : List A) (i : ℕ) (a b : A) → set (set xs i a) i b ≡ set xs i b
set-twice [] i a b = refl
set-twice (x ∷ xs) zero a b = refl
set-twice (x ∷ xs) (suc i) a b = ap (λ l. x ∷ l) (set-twice xs i a b)

-- a record was not erased, or the erasure changes nothing
pub record-was : (rs : List Record) (n : ℕ) (d : Record) (b : ℕ) (erased o : Option ℕ) → n < length rs → erased ≡ first_of (get_or rs n d).erased b → ((i : ℕ) → o ≡ Some i → ((get_or rs n d).erased ≡ None) × (i ≡ n)) → (o ≡ None → (get_or rs n d).erased ≢ None) →
    MatchOption o (set rs n (record (get_or rs n d) { erased = erased }) ≡ rs) (λ i. WasRecord i rs (set rs n (record (get_or rs n d) { erased = erased })))
record-was rs n d b erased None l is some none = ap (λ e. set rs n (record (get_or rs n d) { erased = e })) (is ∙ kept (get_or rs n d).erased (none refl)) ∙ set-get_or rs n d
  where
    kept : (o : Option ℕ) → o ≢ None → first_of o b ≡ o
    kept None h = absurd (h refl)
    kept (Some e) h = refl
record-was rs n d b erased (Some i) l is some none =
    let q : Record = record (get_or rs n d) { erased = erased } in
    let h = some i refl in (
      omega (arith, h.1, length-set rs n q),
      λ x. sym (ap (λ i. set (set rs n q) i (record (get_or (set rs n q) i x) { erased = None })) h.1
          ∙ ap (λ (r : Record). set (set rs n q) n (record r { erased = None })) (get_or-set_same rs n q x l)
          ∙ set-twice rs n q (record (get_or rs n d) { erased = None })
          ∙ ap (λ e. set rs n (record (get_or rs n d) { erased = e })) (sym h.0)
          ∙ set-get_or rs n d),
    )

-- the ends before, from those after
pub at-set : {K : Type 0} (eq : K → K → Bool) (same : (a b : K) → eq a b ≡ true → a ≡ b) (own : K) → eq own own ≡ true → (d e : Ends) (old new : K → Ends) → d ≡ old own → ((k : K) → new k ≡ cond (eq own k) e (old k)) → e.since ≢ None → WasAt eq own d old new
at-set {K = K} eq same own self d e old new is law some = record {
  each = λ k. by-case k (eq own k) refl;
  named = λ h. some (ap (λ (e : Ends). e.since) (sym (law own ∙ ap (λ v. cond v e (old own)) self)) ∙ h);
}
  where
    by-case : (k : K) (v : Bool) → eq own k ≡ v → old k ≡ cond v d (new k)
    by-case k true w = ap old (sym (same own k w)) ∙ sym is
    by-case k false w = sym (law k ∙ ap (λ v. cond v e (old k)) w)

pub earlier-some : (o : Option ℕ) (b : ℕ) → earlier o b ≢ None
earlier-some None b e = cc
earlier-some (Some s) b e = cc

-- the last link goes, and the one to it
pub take-back : {A : Type 0} (xs : List A) (x : A) (ys : List A) (n : ℕ) → ys ≡ xs ++ x ∷ [] → n ≡ length ys - 1 → take n ys ≡ xs
take-back xs x ys n e l = let k : n ≡ length xs = omega (arith, l, ap length e, length-push xs x) in ap (take n) e ∙ ap (λ n. take n (xs ++ x ∷ [])) k ∙ take-append_seam xs (x ∷ [])

pub unlinked-to : (m i : ℕ) (o : Option ℕ) (xs ys : List (Option ℕ)) (n : ℕ) → o ≡ Some i → ys ≡ linked_at o m (xs ++ None ∷ []) → WasEnd o xs → n ≡ length ys - 1 → set (take n ys) i None ≡ xs
unlinked-to m i None xs ys n e links end l = absurd (cc)
unlinked-to m i (Some j) xs ys n e links end l =
    let q : i ≡ j = some-same e in
    let made : ys ≡ set xs j (Some m) ++ None ∷ [] = links ∙ set-append_left xs (None ∷ []) j (Some m) end.0 in
    ap (λ l. set l i None) (take-back (set xs j (Some m)) None ys n made l)
    ∙ ap (λ i. set (set xs j (Some m)) i None) q
    ∙ set-twice xs j (Some m) None
    ∙ ap (set xs j) (sym end.1) ∙ set-get_or xs j None
  where
    some-same : {a b : ℕ} → Some b ≡ Some a → a ≡ b
    some-same e = cc

-- the newest one behind leads nowhere
pub newest-end : (p : Class) (rs : List Record) (next : List (Option ℕ)) (e : Ends) (o : Option ℕ) → o ≡ e.newest_back → IsIndexed p rs next e → WasEnd o next
newest-end p rs next e None h ix = tt
newest-end p rs next e (Some j) h ix =
    let last : LastIs (backs p rs) (length rs) j = last-some (backs p rs) (length rs) j (sym ix.newest ∙ sym h) in (
      newest-within p rs next e j ix (sym h),
      ix.newer j last.here ∙ first-none (suc j) (drop (suc j) (backs p rs)) (λ i l. get-drop (suc j) (backs p rs) i ∙ above j last i l),
    )
  where
    above : (j : ℕ) → LastIs (backs p rs) (length rs) j → (i : ℕ) → i < length (drop (suc j) (backs p rs)) → get_or (backs p rs) (suc j + i) false ≡ false
    above j last i l = last.above (suc j + i) (omega arith) (omega (arith, l, length-drop (suc j) (backs p rs), length-map rs (back_of p)))
