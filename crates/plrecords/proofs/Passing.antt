-- Runs of erased records: how they are joined, and that a walk may pass over them.
use Rattle.std.proofs.Common.{◌≡◌, ◌+◌, ◌-◌, inl, inr, refl, sym, ◌∙◌, ap, subst, arith, ℕ, suc, zero, ◌<◌, ◌≤◌, Bool, true, false, List, [], ◌∷◌, ◌++◌, Option, Some, None, length, get_or, set, take, drop, map, nat_lt}
use Rattle.std.specs.Prelude.{◌&&◌, not}
use Rattle.std.proofs.Math.Seq.{take-append_seam}
use Rattle.std.proofs.lemmas.List.{get_or_append_left, get_or_at, get_or-set_same, get_or-set_other, length-map, length-set, map-append}
use Rattle.std.proofs.lemmas.Bool.Decides.{nat_tests}
use Rattle.plevent.specs.declared.update.ClauseName.{ClauseName}
use Rattle.plevent.specs.Alive.{change_if}
use Rattle.plrecords.specs.declared.record.Record.{Record}
use Rattle.plrecords.specs.declared.runs.ErasedRun.{ErasedRun}
use Rattle.plrecords.specs.declared.runs.RecordNotes.{RecordNotes}
use Rattle.plrecords.specs.declared.ends.Ends.{Ends}
use Rattle.plrecords.specs.Kept.{seen, not_below, first_of, erase_at, changed_where, is_named}
use Rattle.plrecords.specs.Links.{last_below, first_from, front_of, back_of, fronts, backs, Class, IsLinked, IsIndexed}
use Rattle.plrecords.specs.Undone.{OneRun, run_at}
use Rattle.plrecords.specs.Runs.{IsGone, IsRunDown, IsRunUp, IsRun, no_place, HasRuns, SameRuns}
use Rattle.plrecords.proofs.Law.{own}
use Rattle.plrecords.proofs.Bits.{LastIs, get-in, length-push, last-some, drop-mark, cases}
use Rattle.plrecords.proofs.Index.{fronts-erased, backs-erased, length-erased}
use Rattle.plrecords.proofs.Chains.{up-some, UpIs}

gone-later : (b c : ℕ) (o : Option ℕ) → b ≤ c → IsGone b o → IsGone c o
gone-later b c None l h = h
gone-later b c (Some e) l h = omega arith

-- a run of one record
pub run-alone : (p : Class) (rs : List Record) (i b : ℕ) → ((d : Record) → IsGone b (get_or rs i d).erased) → IsRun p rs i (record { last = i; latest = b })
run-alone p rs i b gone = record {
  down = λ h. record { order = omega arith; mark = h; gone = λ j d l m k. alone j d (omega arith) };
  up = λ h. record { order = omega arith; mark = h; gone = λ j d l m k. alone j d (omega arith) };
}
  where
    alone : (j : ℕ) (d : Record) → i ≡ j → IsGone b (get_or rs j d).erased
    alone j d e = subst (λ j. IsGone b (get_or rs j d).erased) e (gone d)

-- no mark stands between one and the next
pub first-above : (bs : List Bool) (m k i : ℕ) → k + m ≡ length bs → first_from k (drop k bs) ≡ Some i → (j : ℕ) → k ≤ j → j < i → get_or bs j false ≡ true → ⊥
first-above bs m k i s e j l u h = by-size m k s e l
  where
    in-list : j < length bs
    in-list = get-in bs j h

    some-same : {a b : ℕ} → Some a ≡ Some b → a ≡ b
    some-same e = cc

    by-mark : (v : Bool) (k : ℕ) → get_or bs k false ≡ v → change_if v (Some k) (first_from (suc k) (drop (suc k) bs)) ≡ Some i → k ≤ j → (first_from (suc k) (drop (suc k) bs) ≡ Some i → suc k ≤ j → ⊥) → ⊥
    by-mark true k g e l next = let q : k ≡ i = some-same e in absurd (omega arith)
    by-mark false k g e l next = elim (cases k j) [
      | inl lt ↦ next e (omega arith)
      | inr o ↦ elim o [ inl q ↦ let z : get_or bs j false ≡ false = ap (λ n. get_or bs n false) (sym q) ∙ g in absurd (cc) | inr gt ↦ absurd (omega arith) ]
    ]

    by-size : (m k : ℕ) → k + m ≡ length bs → first_from k (drop k bs) ≡ Some i → k ≤ j → ⊥
    by-size zero k s e l = absurd (omega (arith, in-list))
    by-size (suc m) k s e l = by-mark (get_or bs k false) k refl (sym (drop-mark bs k (omega arith)) ∙ e) l (λ e l. by-size m (suc k) (omega arith) e l)

-- two runs that follow one another are one
join-down : (bs : List Bool) (rs : List Record) (i n m : ℕ) (r q : ErasedRun) → IsRunDown bs rs i r → last_below bs r.last ≡ Some n → IsRunDown bs rs n q → r.latest ≤ m → q.latest ≤ m →
    IsRunDown bs rs i (record { last = q.last; latest = m })
join-down bs rs i n m r q a e b la lb =
    let l : LastIs bs r.last n = last-some bs r.last n e in
    record {
      order = omega (arith, a.order, b.order, l.within);
      mark = b.mark;
      gone = λ j d lo hi h. elim (cases n j) [
        | inl lt ↦ elim (cases j r.last) [
          | inl lt2 ↦ let z : get_or bs j false ≡ false = l.above j lt lt2 in absurd (cc)
          | inr o ↦ gone-later r.latest m (get_or rs j d).erased la (a.gone j d (elim o [ inl q ↦ omega arith | inr gt ↦ omega arith ]) hi h)
        ]
        | inr o ↦ gone-later q.latest m (get_or rs j d).erased lb (b.gone j d lo (elim o [ inl q ↦ omega arith | inr gt ↦ omega arith ]) h)
      ];
    }

join-up : (p : Class) (rs : List Record) (i n m : ℕ) (r q : ErasedRun) → IsRunUp (backs p rs) rs i r → first_from (suc r.last) (drop (suc r.last) (backs p rs)) ≡ Some n → IsRunUp (backs p rs) rs n q → r.latest ≤ m → q.latest ≤ m →
    IsRunUp (backs p rs) rs i (record { last = q.last; latest = m })
join-up p rs i n m r q a e b la lb =
    let bs = backs p rs in
    let within : r.last < length bs = get-in bs r.last a.mark in
    let whole : suc r.last + (length rs - suc r.last) ≡ length rs = omega (arith, within, length-map rs (back_of p)) in
    let whole2 : suc r.last + (length bs - suc r.last) ≡ length bs = omega (arith, within) in
    let u : UpIs p rs (suc r.last) n = up-some p rs (length rs - suc r.last) (suc r.last) n whole e in
    record {
      order = omega (arith, a.order, b.order, u.above);
      mark = b.mark;
      gone = λ j d lo hi h. elim (cases j n) [
        | inl lt ↦ elim (cases r.last j) [
          | inl lt2 ↦ absurd (first-above bs (length bs - suc r.last) (suc r.last) n whole2 e j (omega arith) lt h)
          | inr o ↦ gone-later r.latest m (get_or rs j d).erased la (a.gone j d lo (elim o [ inl q ↦ omega arith | inr gt ↦ omega arith ]) h)
        ]
        | inr o ↦ gone-later q.latest m (get_or rs j d).erased lb (b.gone j d (elim o [ inl q ↦ omega arith | inr gt ↦ omega arith ]) hi h)
      ];
    }

marked-last : (bs : List Bool) (k n : ℕ) → last_below bs k ≡ Some n → get_or bs n false ≡ true
marked-last bs k n e = (last-some bs k n e).here

pub run-joined : (p : Class) (rs : List Record) (next : List (Option ℕ)) (places : List RecordNotes) (i n m : ℕ) (r q : ErasedRun) → IsLinked p rs next → HasRuns p rs places → get_or next r.last None ≡ Some n → (get_or places n no_place).run ≡ Some q → r.latest ≤ m → q.latest ≤ m →
    IsRun p rs i r → IsRun p rs i (record { last = q.last; latest = m })
run-joined p rs next places i n m r q links runs to at la lb own = record {
  down = λ h.
      let a = own.down h in
      let e : last_below (fronts p rs) r.last ≡ Some n = sym (links.older r.last a.mark) ∙ to in
      join-down (fronts p rs) rs i n m r q a e ((runs.each n q at).down (marked-last (fronts p rs) r.last n e)) la lb;
  up = λ h.
      let a = own.up h in
      let e : first_from (suc r.last) (drop (suc r.last) (backs p rs)) ≡ Some n = sym (links.newer r.last a.mark) ∙ to in
      let within : r.last < length (backs p rs) = get-in (backs p rs) r.last a.mark in
      let whole : suc r.last + (length rs - suc r.last) ≡ length rs = omega (arith, within, length-map rs (back_of p)) in
      join-up p rs i n m r q a e ((runs.each n q at).up (up-some p rs (length rs - suc r.last) (suc r.last) n whole e).mark) la lb;
}

-- a place beyond the last one has no run
pub get-over : (xs : List RecordNotes) (i : ℕ) → length xs ≤ i → get_or xs i no_place ≡ no_place
get-over [] i h = refl
get-over (x ∷ xs) zero h = absurd (omega arith)
get-over (x ∷ xs) (suc i) h = get-over xs i (omega arith)

run-is : {r q : ErasedRun} → Some r ≡ Some q → r ≡ q
run-is e = cc

-- one run is noted
pub runs-one : (p : Class) (rs : List Record) (old new : List RecordNotes) (i : ℕ) (r : ErasedRun) → HasRuns p rs old → IsRun p rs i r → OneRun i (Some r) old new → HasRuns p rs new
runs-one p rs old new i r runs own one = record {
  count = one.count ∙ runs.count;
  each = λ j q h. elim (cases j i) [
    | inl lt ↦ other j q (λ e. omega arith) h
    | inr o ↦ elim o [ inl e ↦ subst (λ j. IsRun p rs j q) (sym e) (at q (ap (run_at new) (sym e) ∙ h)) | inr gt ↦ other j q (λ e. omega arith) h ]
  ];
}
  where
    other : (j : ℕ) (q : ErasedRun) → (j ≡ i → ⊥) → run_at new j ≡ Some q → IsRun p rs j q
    other j q n h = runs.each j q (sym (one.others j n) ∙ h)

    over : (q : ErasedRun) → length old ≤ i → run_at new i ≡ Some q → ⊥
    over q l h = let z : None ≡ Some q = ap (λ (x : RecordNotes). x.run) (sym (get-over new i (omega (arith, one.count)))) ∙ h in cc

    within : (q : ErasedRun) → i < length old → run_at new i ≡ Some q → IsRun p rs i q
    within q l h = subst (IsRun p rs i) (run-is (sym (one.here l) ∙ h)) own

    at : (q : ErasedRun) → run_at new i ≡ Some q → IsRun p rs i q
    at q h = elim (cases i (length old)) [
      | inl lt ↦ within q lt h
      | inr o ↦ elim o [ inl e ↦ absurd (over q (omega arith) h) | inr gt ↦ absurd (over q (omega arith) h) ]
    ]

-- what is no run leaves them alone
pub same-set : (places : List RecordNotes) (i : ℕ) (new : RecordNotes) → i < length places → new.run ≡ (get_or places i no_place).run → SameRuns places (set places i new)
same-set places i new l e = record {
  count = length-set places i new;
  each = λ j. elim (cases i j) [
    | inl lt ↦ ap (λ (x : RecordNotes). x.run) (get_or-set_other places i j new no_place (λ q. absurd (omega arith)))
    | inr o ↦ elim o [
      | inl q ↦ ap (λ j. (get_or (set places i new) j no_place).run) (sym q) ∙ ap (λ (x : RecordNotes). x.run) (get_or-set_same places i new no_place l) ∙ e ∙ ap (λ j. (get_or places j no_place).run) q
      | inr gt ↦ ap (λ (x : RecordNotes). x.run) (get_or-set_other places i j new no_place (λ q. absurd (omega arith)))
    ]
  ];
}

pub same-self : (places : List RecordNotes) → SameRuns places places
same-self places = record { count = refl; each = λ j. refl }

pub runs-same : (p : Class) (rs : List Record) (old new : List RecordNotes) → SameRuns old new → HasRuns p rs old → HasRuns p rs new
runs-same p rs old new same runs = record { count = same.count ∙ runs.count; each = λ i r h. runs.each i r (sym (same.each i) ∙ h) }

-- one more record
mark-kept : (t : Record → Bool) (rs : List Record) (r : Record) (i : ℕ) → i < length rs → get_or (map t (rs ++ r ∷ [])) i false ≡ get_or (map t rs) i false
mark-kept t rs r i l = ap (λ bs. get_or bs i false) (map-append t rs (r ∷ [])) ∙ get_or_append_left (map t rs) (t r ∷ []) false i (omega (arith, length-map rs t))

record-kept : (b : ℕ) (rs : List Record) (r : Record) (j : ℕ) (d : Record) → j < length rs → IsGone b (get_or rs j d).erased → IsGone b (get_or (rs ++ r ∷ []) j d).erased
record-kept b rs r j d l h = subst (λ (q : Record). IsGone b q.erased) (sym (get_or_append_left rs (r ∷ []) d j l)) h

run-push : (p : Class) (rs : List Record) (r : Record) (i : ℕ) (q : ErasedRun) → i < length rs → IsRun p rs i q → IsRun p (rs ++ r ∷ []) i q
run-push p rs r i q l run = record {
  down = λ h.
      let a = run.down (sym (mark-kept (front_of p) rs r i l) ∙ h) in
      record {
        order = a.order;
        mark = mark-kept (front_of p) rs r q.last (omega (arith, a.order)) ∙ a.mark;
        gone = λ j d lo hi k. let m : j < length rs = omega arith in record-kept q.latest rs r j d m (a.gone j d lo hi (sym (mark-kept (front_of p) rs r j m) ∙ k));
      };
  up = λ h.
      let a = run.up (sym (mark-kept (back_of p) rs r i l) ∙ h) in
      let within : q.last < length rs = let w = get-in (backs p rs) q.last a.mark in omega (arith, w, length-map rs (back_of p)) in
      record {
        order = a.order;
        mark = mark-kept (back_of p) rs r q.last within ∙ a.mark;
        gone = λ j d lo hi k. let m : j < length rs = omega arith in record-kept q.latest rs r j d m (a.gone j d lo hi (sym (mark-kept (back_of p) rs r j m) ∙ k));
      };
}

pub runs-push : (p : Class) (rs : List Record) (r : Record) (places : List RecordNotes) (new : RecordNotes) → new.run ≡ None → HasRuns p rs places → HasRuns p (rs ++ r ∷ []) (places ++ new ∷ [])
runs-push p rs r places new none runs = record {
  count = length-push places new ∙ ap suc runs.count ∙ sym (length-push rs r);
  each = λ i q h. elim (cases i (length places)) [
    | inl lt ↦ run-push p rs r i q (omega (arith, runs.count)) (runs.each i q (ap (λ (x : RecordNotes). x.run) (sym (get_or_append_left places (new ∷ []) no_place i lt)) ∙ h))
    | inr o ↦ elim o [
      | inl e ↦ let z : None ≡ Some q = sym none ∙ ap (λ (x : RecordNotes). x.run) (sym (get_or_at places new [] no_place i (sym e))) ∙ h in absurd (cc)
      | inr gt ↦ let z : None ≡ Some q = ap (λ (x : RecordNotes). x.run) (sym (get-over (places ++ new ∷ []) i (omega (arith, length-push places new)))) ∙ h in absurd (cc)
    ]
  ];
}

-- an erasure
gone-first : (b e : ℕ) (o : Option ℕ) → IsGone b o → IsGone b (first_of o e)
gone-first b e None h = absurd h
gone-first b e (Some n) h = h

gone-erased : (t : Record → Bool) (b e : ℕ) (rs : List Record) (j : ℕ) (d : Record) → IsGone b (get_or rs j d).erased → IsGone b (get_or (changed_where t (erase_at e) rs) j d).erased
gone-erased t b e [] j d h = h
gone-erased t b e (r ∷ rs) zero d h = elim (t r) as (λ v. IsGone b (change_if v (erase_at e r) r).erased) [ true ↦ gone-first b e r.erased h | false ↦ h ]
gone-erased t b e (r ∷ rs) (suc j) d h = gone-erased t b e rs j d h

run-erase : (p : Class) (y : ClauseName) (b : ℕ) (rs : List Record) (i : ℕ) (q : ErasedRun) → IsRun p rs i q → IsRun p (changed_where (is_named y) (erase_at b) rs) i q
run-erase p y b rs i q run = record {
  down = λ h.
      let a = run.down (ap (λ bs. get_or bs i false) (sym (fronts-erased p y b rs)) ∙ h) in
      record {
        order = a.order;
        mark = ap (λ bs. get_or bs q.last false) (fronts-erased p y b rs) ∙ a.mark;
        gone = λ j d lo hi k. gone-erased (is_named y) q.latest b rs j d (a.gone j d lo hi (ap (λ bs. get_or bs j false) (sym (fronts-erased p y b rs)) ∙ k));
      };
  up = λ h.
      let a = run.up (ap (λ bs. get_or bs i false) (sym (backs-erased p y b rs)) ∙ h) in
      record {
        order = a.order;
        mark = ap (λ bs. get_or bs q.last false) (backs-erased p y b rs) ∙ a.mark;
        gone = λ j d lo hi k. gone-erased (is_named y) q.latest b rs j d (a.gone j d lo hi (ap (λ bs. get_or bs j false) (sym (backs-erased p y b rs)) ∙ k));
      };
}

pub runs-erase : (p : Class) (y : ClauseName) (b : ℕ) (rs : List Record) (places : List RecordNotes) → HasRuns p rs places → HasRuns p (changed_where (is_named y) (erase_at b) rs) places
runs-erase p y b rs places runs = record { count = runs.count ∙ sym (length-erased y b rs); each = λ i q h. run-erase p y b rs i q (runs.each i q h) }

pub linked : (p : Class) (rs : List Record) (next : List (Option ℕ)) (e : Ends) → IsIndexed p rs next e → IsLinked p rs next
linked p rs next e ix = record { count = ix.count; older = ix.older; newer = ix.newer }

pub no-runs : (p : Class) → HasRuns p [] []
no-runs p = record { count = refl; each = λ i r h. absurd (cc) }

-- what is written back into a list of the same length
pub written : {A : Type 0} (n : ℕ) (xs ys : List A) → n ≡ length xs → take n (xs ++ ys) ≡ xs
written n xs ys e = ap (λ n. take n (xs ++ ys)) e ∙ take-append_seam xs ys

-- what was erased below a place is not seen there
pub hidden : (b g : ℕ) (r : Record) → b < g → IsGone b r.erased → seen g r ≡ false
hidden b g r l h = by-erasure r.erased h ∙ and-false (nat_lt r.name.place g)
  where
    and-false : (v : Bool) → v && false ≡ false
    and-false true = refl
    and-false false = refl

    below-it : (e : ℕ) → e ≤ b → nat_lt e g ≡ true
    below-it e k = grind (arith, nat_tests)

    by-erasure : (o : Option ℕ) → IsGone b o → nat_lt r.name.place g && not_below g o ≡ nat_lt r.name.place g && false
    by-erasure None h = absurd h
    by-erasure (Some e) h = ap (λ v. nat_lt r.name.place g && not v) (below-it e h)
