-- Links and ends of a class stay those of the records.
use Rattle.std.proofs.Common.{◌≡◌, ◌≢◌, ◌+◌, ◌-◌, inl, inr, refl, sym, ◌∙◌, ap, ap₂, subst, arith, ℕ, suc, zero, ◌<◌, Bool, true, false, cond, List, [], ◌∷◌, ◌++◌, Option, Some, None, length, get_or, set, drop}
use Rattle.std.specs.Prelude.{◌&&◌, not}
use Rattle.std.proofs.lemmas.List.{get_or_append_left, get_or_at, drop-append-le, map-append, length-map, length-drop, get_or-set_same, get_or-set_other, length-set}
use Rattle.plclause.specs.Clause.{Clause}
use Rattle.plevent.specs.declared.update.ClauseName.{ClauseName}
use Rattle.plevent.specs.Alive.{change_if, or_else}
use Rattle.plrecords.specs.declared.record.Record.{Record}
use Rattle.plrecords.specs.declared.ends.Ends.{Ends}
use Rattle.plrecords.specs.Kept.{made, changed_where, erase_at, is_named}
use Rattle.plrecords.specs.Links.{last_below, first_from, front_of, back_of, fronts, backs, ends_after, linked_at, links_after, no_ends, Class, IsIndexed}
use Rattle.plrecords.proofs.Bits.{get-in, length-push, last-snoc, last-push, first-snoc, LastIs, last-none, last-some, first-none, first-kept, get-drop, drop-whole, or-nothing, cases}

-- the new record
module _ (x : ClauseName) (c : Clause) (f : Bool) (rs : List Record) where
  abbrev more : List Record
  more = rs ++ made x c f ∷ []

  fronts-push : (p : Class) → fronts p more ≡ fronts p rs ++ (f && p c) ∷ []
  fronts-push p = map-append (front_of p) rs (made x c f ∷ [])

  backs-push : (p : Class) → backs p more ≡ backs p rs ++ (not f && p c) ∷ []
  backs-push p = map-append (back_of p) rs (made x c f ∷ [])

  last-front : (p : Class) → last_below (fronts p more) (length more) ≡ change_if (f && p c) (Some (length rs)) (last_below (fronts p rs) (length rs))
  last-front p =
      let bs = fronts p rs in
      let n : length bs ≡ length rs = length-map rs (front_of p) in
      let m : length more ≡ length (bs ++ (f && p c) ∷ []) = length-push rs (made x c f) ∙ ap suc (sym n) ∙ sym (length-push bs (f && p c)) in
      ap₂ last_below (fronts-push p) m ∙ last-push bs (f && p c)
      ∙ ap (λ k. change_if (f && p c) (Some k) (last_below bs k)) n

  last-back : (p : Class) → last_below (backs p more) (length more) ≡ change_if (not f && p c) (Some (length rs)) (last_below (backs p rs) (length rs))
  last-back p =
      let bs = backs p rs in
      let n : length bs ≡ length rs = length-map rs (back_of p) in
      let m : length more ≡ length (bs ++ (not f && p c) ∷ []) = length-push rs (made x c f) ∙ ap suc (sym n) ∙ sym (length-push bs (not f && p c)) in
      ap₂ last_below (backs-push p) m ∙ last-push bs (not f && p c)
      ∙ ap (λ k. change_if (not f && p c) (Some k) (last_below bs k)) n

  first-back : (p : Class) → first_from 0 (backs p more) ≡ or_else (first_from 0 (backs p rs)) (change_if (not f && p c) (Some (length rs)) None)
  first-back p =
      let e : 0 + length (backs p rs) ≡ length rs = omega (arith, length-map rs (back_of p)) in
      ap (first_from 0) (backs-push p) ∙ first-snoc 0 (backs p rs) (not f && p c)
      ∙ ap (λ n. or_else (first_from 0 (backs p rs)) (change_if (not f && p c) (Some n) None)) e

-- marks of one more record, from those before it
mark-old : (bs : List Bool) (v : Bool) (i : ℕ) → i < length bs → get_or (bs ++ v ∷ []) i false ≡ true → get_or bs i false ≡ true
mark-old bs v i l h = sym (get_or_append_left bs (v ∷ []) false i l) ∙ h

mark-new : (bs : List Bool) (v : Bool) (i : ℕ) → i ≡ length bs → get_or (bs ++ v ∷ []) i false ≡ true → v ≡ true
mark-new bs v i e h = sym (get_or_at bs v [] false i (sym e)) ∙ h

mark-over : (bs : List Bool) (v : Bool) (i : ℕ) → length bs < i → get_or (bs ++ v ∷ []) i false ≡ true → ⊥
mark-over bs v i l h = let k = get-in (bs ++ v ∷ []) i h in absurd (omega (arith, k, length-push bs v))

first-drop-snoc : (bs : List Bool) (v : Bool) (i : ℕ) → i < length bs → first_from (suc i) (drop (suc i) (bs ++ v ∷ [])) ≡ or_else (first_from (suc i) (drop (suc i) bs)) (change_if v (Some (length bs)) None)
first-drop-snoc bs v i l =
    let e : suc i + length (drop (suc i) bs) ≡ length bs = omega (arith, length-drop (suc i) bs) in
    ap (first_from (suc i)) (drop-append-le (suc i) bs (v ∷ []) (omega arith)) ∙ first-snoc (suc i) (drop (suc i) bs) v
    ∙ ap (λ n. or_else (first_from (suc i) (drop (suc i) bs)) (change_if v (Some n) None)) e

linked-length : (o : Option ℕ) (n : ℕ) (xs : List (Option ℕ)) → length (linked_at o n xs) ≡ length xs
linked-length None n xs = refl
linked-length (Some j) n xs = length-set xs j (Some n)

link-other : (o : Option ℕ) (n : ℕ) (xs : List (Option ℕ)) (i : ℕ) → ((j : ℕ) → o ≡ Some j → i ≢ j) → get_or (linked_at o n xs) i None ≡ get_or xs i None
link-other None n xs i h = refl
link-other (Some j) n xs i h = get_or-set_other xs j i (Some n) None (h j refl)

-- a record is in front or behind
exclusive : (p q : Class) (rs : List Record) (i : ℕ) → get_or (fronts p rs) i false ≡ true → get_or (backs q rs) i false ≡ true → ⊥
exclusive p q [] i h k = absurd (cc)
exclusive p q (r ∷ rs) zero h k = by-side r.front h k
  where
    by-side : (f : Bool) → f && p r.clause ≡ true → not f && q r.clause ≡ true → ⊥
    by-side true h k = absurd (cc)
    by-side false h k = absurd (cc)
exclusive p q (r ∷ rs) (suc i) h k = exclusive p q rs i h k

-- one more record of the class q, where p is the same class or has no record of it: the ends of p are d, those of q are e
module _ (x : ClauseName) (c : Clause) (rs : List Record) (next : List (Option ℕ)) (p q : Class) (d e : Ends) (ip : IsIndexed p rs next d) (iq : IsIndexed q rs next e)
    (same : p c ≡ true → e ≡ d) (apart : p c ≡ false → (i : ℕ) → get_or (backs p rs) i false ≡ true → get_or (backs q rs) i false ≡ true → ⊥) where
  -- what an entry has where one more changes nothing
  same-at : {A : Type 0} (get : Ends → A) (f : Bool) → get (ends_after f (length rs) x.place e) ≡ get e → get (cond (p c) (ends_after f (length rs) x.place e) d) ≡ get d
  same-at get f h = by-case (p c) refl
    where
      by-case : (v : Bool) → p c ≡ v → get (cond v (ends_after f (length rs) x.place e) d) ≡ get d
      by-case true w = h ∙ ap get (same w)
      by-case false w = refl

  -- in front
  newest-front : (v : Bool) → (cond v (ends_after true (length rs) x.place e) d).newest_front ≡ change_if v (Some (length rs)) (last_below (fronts p rs) (length rs))
  newest-front true = refl
  newest-front false = ip.front

  older-front : (i : ℕ) → get_or (fronts p rs ++ p c ∷ []) i false ≡ true → get_or (next ++ e.newest_front ∷ []) i None ≡ last_below (fronts p rs ++ p c ∷ []) i
  older-front i h =
      let bs = fronts p rs in
      let v = p c in
      let m : length bs ≡ length rs = length-map rs (front_of p) in
      elim (cases i (length bs)) [
        | inl l ↦ get_or_append_left next (e.newest_front ∷ []) None i (omega (arith, m, ip.count)) ∙ ip.older i (mark-old bs v i l h) ∙ sym (last-snoc bs v i (omega arith))
        | inr o ↦ elim o [
          | inl k ↦ get_or_at next e.newest_front [] None i (omega (arith, m, k, ip.count))
              ∙ ap (λ (z : Ends). z.newest_front) (same (mark-new bs v i k h)) ∙ ip.front
              ∙ ap (last_below bs) (omega (arith, m, k)) ∙ sym (last-snoc bs v i (omega (arith, k)))
          | inr l ↦ absurd (mark-over bs v i l h)
        ]
      ]

  newer-front : (i : ℕ) → get_or (backs p rs ++ false ∷ []) i false ≡ true → get_or (next ++ e.newest_front ∷ []) i None ≡ first_from (suc i) (drop (suc i) (backs p rs ++ false ∷ []))
  newer-front i h =
      let bs = backs p rs in
      let m : length bs ≡ length rs = length-map rs (back_of p) in
      elim (cases i (length bs)) [
        | inl l ↦ get_or_append_left next (e.newest_front ∷ []) None i (omega (arith, m, ip.count)) ∙ ip.newer i (mark-old bs false i l h)
            ∙ sym (first-drop-snoc bs false i l ∙ or-nothing (first_from (suc i) (drop (suc i) bs)))
        | inr o ↦ elim o [
          | inl k ↦ let z : false ≡ true = mark-new bs false i k h in absurd (cc)
          | inr l ↦ absurd (mark-over bs false i l h)
        ]
      ]

  front-put : IsIndexed p (rs ++ made x c true ∷ []) (links_after true (length rs) e next) (cond (p c) (ends_after true (length rs) x.place e) d)
  front-put = record {
    count = length-push next e.newest_front ∙ ap suc ip.count ∙ sym (length-push rs (made x c true));
    front = newest-front (p c) ∙ sym (last-front x c true rs p);
    oldest = same-at (λ d. d.oldest_back) true refl ∙ ip.oldest ∙ sym (first-back x c true rs p ∙ or-nothing (first_from 0 (backs p rs)));
    newest = same-at (λ d. d.newest_back) true refl ∙ ip.newest ∙ sym (last-back x c true rs p);
    older = λ i h. older-front i (subst (λ bs. get_or bs i false ≡ true) (fronts-push x c true rs p) h) ∙ ap (λ bs. last_below bs i) (sym (fronts-push x c true rs p));
    newer = λ i h. newer-front i (subst (λ bs. get_or bs i false ≡ true) (backs-push x c true rs p) h) ∙ ap (λ bs. first_from (suc i) (drop (suc i) bs)) (sym (backs-push x c true rs p));
  }

  -- behind
  oldest-behind : (v : Bool) → p c ≡ v → (cond v (ends_after false (length rs) x.place e) d).oldest_back ≡ or_else (first_from 0 (backs p rs)) (change_if v (Some (length rs)) None)
  oldest-behind true h = ap (λ (z : Ends). or_else z.oldest_back (Some (length rs))) (same h) ∙ ap (λ o. or_else o (Some (length rs))) ip.oldest
  oldest-behind false h = ip.oldest ∙ sym (or-nothing (first_from 0 (backs p rs)))

  newest-behind : (v : Bool) → (cond v (ends_after false (length rs) x.place e) d).newest_back ≡ change_if v (Some (length rs)) (last_below (backs p rs) (length rs))
  newest-behind true = refl
  newest-behind false = ip.newest

  last-of : (j : ℕ) → e.newest_back ≡ Some j → LastIs (backs q rs) (length rs) j
  last-of j h = last-some (backs q rs) (length rs) j (sym iq.newest ∙ h)

  older-behind : (i : ℕ) → get_or (fronts p rs ++ false ∷ []) i false ≡ true → get_or (linked_at e.newest_back (length rs) (next ++ None ∷ [])) i None ≡ last_below (fronts p rs ++ false ∷ []) i
  older-behind i h =
      let bs = fronts p rs in
      let o = e.newest_back in
      let m : length bs ≡ length rs = length-map rs (front_of p) in
      elim (cases i (length bs)) [
        | inl l ↦ link-other o (length rs) (next ++ None ∷ []) i (λ j k w. exclusive p q rs i (mark-old bs false i l h) (subst (λ j. get_or (backs q rs) j false ≡ true) (sym w) (last-of j k).here))
            ∙ get_or_append_left next (None ∷ []) None i (omega (arith, m, ip.count)) ∙ ip.older i (mark-old bs false i l h) ∙ sym (last-snoc bs false i (omega arith))
        | inr o ↦ elim o [
          | inl k ↦ let z : false ≡ true = mark-new bs false i k h in absurd (cc)
          | inr l ↦ absurd (mark-over bs false i l h)
        ]
      ]

  -- the last one behind now leads to the new one, and those before it lead where they did
  same-class : (i : ℕ) → e ≡ d → i < length (backs p rs) → get_or (backs p rs) i false ≡ true → (o : Option ℕ) → e.newest_back ≡ o →
      get_or (linked_at o (length rs) (next ++ None ∷ [])) i None ≡ or_else (first_from (suc i) (drop (suc i) (backs p rs))) (Some (length (backs p rs)))
  same-class i w l h None k =
      let none : last_below (backs p rs) (length rs) ≡ None = sym ip.newest ∙ ap (λ (z : Ends). z.newest_back) (sym w) ∙ k in
      let m : length (backs p rs) ≡ length rs = length-map rs (back_of p) in
      let z : get_or (backs p rs) i false ≡ false = last-none (backs p rs) (length rs) none i (omega (arith, m)) in
      absurd (cc)
  same-class i w l h (Some j) k =
      let bs = backs p rs in
      let m : length bs ≡ length rs = length-map rs (back_of p) in
      let s : LastIs bs (length rs) j = last-some bs (length rs) j (sym ip.newest ∙ ap (λ (z : Ends). z.newest_back) (sym w) ∙ k) in
      elim (cases i j) [
        | inl lt ↦
            let at : suc i + (j - suc i) ≡ j = omega arith in
            get_or-set_other (next ++ None ∷ []) j i (Some (length rs)) None (λ q. absurd (omega arith)) ∙ get_or_append_left next (None ∷ []) None i (omega (arith, m, ip.count)) ∙ ip.newer i h
            ∙ sym (first-kept (suc i) (drop (suc i) bs) (j - suc i) (Some (length bs)) (get-drop (suc i) bs (j - suc i) ∙ ap (λ n. get_or bs n false) at ∙ s.here))
        | inr o ↦ elim o [
          | inl eq ↦
              let none : first_from (suc i) (drop (suc i) bs) ≡ None = first-none (suc i) (drop (suc i) bs) (λ w b. get-drop (suc i) bs w ∙ s.above (suc i + w) (omega arith) (omega (arith, b, length-drop (suc i) bs, m))) in
              ap (λ n. get_or (set (next ++ None ∷ []) j (Some (length rs))) n None) eq
              ∙ get_or-set_same (next ++ None ∷ []) j (Some (length rs)) None (omega (arith, length-push next None, ip.count, s.within))
              ∙ sym (ap (λ u. or_else u (Some (length bs))) none ∙ ap Some m)
          | inr gt ↦ let z : get_or bs i false ≡ false = s.above i gt (omega (arith, m)) in absurd (cc)
        ]
      ]

  other-class : (i : ℕ) → p c ≡ false → i < length (backs p rs) → get_or (backs p rs) i false ≡ true → get_or (linked_at e.newest_back (length rs) (next ++ None ∷ [])) i None ≡ first_from (suc i) (drop (suc i) (backs p rs))
  other-class i f l h =
      let m : length (backs p rs) ≡ length rs = length-map rs (back_of p) in
      link-other e.newest_back (length rs) (next ++ None ∷ []) i (λ j k w. apart f i h (subst (λ j. get_or (backs q rs) j false ≡ true) (sym w) (last-of j k).here))
      ∙ get_or_append_left next (None ∷ []) None i (omega (arith, m, ip.count)) ∙ ip.newer i h

  newer-behind : (i : ℕ) (v : Bool) → p c ≡ v → get_or (backs p rs ++ v ∷ []) i false ≡ true →
      get_or (linked_at e.newest_back (length rs) (next ++ None ∷ [])) i None ≡ first_from (suc i) (drop (suc i) (backs p rs ++ v ∷ []))
  newer-behind i v f h =
      let bs = backs p rs in
      let m : length bs ≡ length rs = length-map rs (back_of p) in
      elim (cases i (length bs)) [
        | inl l ↦ before-end v f (mark-old bs v i l h) l ∙ sym (first-drop-snoc bs v i l)
        | inr o ↦ elim o [
          | inl k ↦ link-other e.newest_back (length rs) (next ++ None ∷ []) i (λ j w eq. let b = (last-of j w).within in absurd (omega (arith, b, m)))
              ∙ get_or_at next None [] None i (omega (arith, m, k, ip.count))
              ∙ sym (ap (first_from (suc i)) (drop-whole (bs ++ v ∷ []) (suc i) (omega (arith, length-push bs v))))
          | inr l ↦ absurd (mark-over bs v i l h)
        ]
      ]
    where
      before-end : (v : Bool) → p c ≡ v → get_or (backs p rs) i false ≡ true → i < length (backs p rs) →
          get_or (linked_at e.newest_back (length rs) (next ++ None ∷ [])) i None ≡ or_else (first_from (suc i) (drop (suc i) (backs p rs))) (change_if v (Some (length (backs p rs))) None)
      before-end true f h l = same-class i (same f) l h e.newest_back refl
      before-end false f h l = other-class i f l h ∙ sym (or-nothing (first_from (suc i) (drop (suc i) (backs p rs))))

  back-put : IsIndexed p (rs ++ made x c false ∷ []) (links_after false (length rs) e next) (cond (p c) (ends_after false (length rs) x.place e) d)
  back-put = record {
    count = linked-length e.newest_back (length rs) (next ++ None ∷ []) ∙ length-push next None ∙ ap suc ip.count ∙ sym (length-push rs (made x c false));
    front = same-at (λ d. d.newest_front) false refl ∙ ip.front ∙ sym (last-front x c false rs p);
    oldest = oldest-behind (p c) refl ∙ sym (first-back x c false rs p);
    newest = newest-behind (p c) ∙ sym (last-back x c false rs p);
    older = λ i h. older-behind i (subst (λ bs. get_or bs i false ≡ true) (fronts-push x c false rs p) h) ∙ ap (λ bs. last_below bs i) (sym (fronts-push x c false rs p));
    newer = λ i h. newer-behind i (p c) refl (subst (λ bs. get_or bs i false ≡ true) (backs-push x c false rs p) h) ∙ ap (λ bs. first_from (suc i) (drop (suc i) bs)) (sym (backs-push x c false rs p));
  }

  pub any-put : (f : Bool) → IsIndexed p (rs ++ made x c f ∷ []) (links_after f (length rs) e next) (cond (p c) (ends_after f (length rs) x.place e) d)
  any-put true = front-put
  any-put false = back-put

-- an erasure changes no side
front-erased : (p : Class) (b : ℕ) (r : Record) (v : Bool) → front_of p (change_if v (erase_at b r) r) ≡ front_of p r
front-erased p b r true = refl
front-erased p b r false = refl

back-erased : (p : Class) (b : ℕ) (r : Record) (v : Bool) → back_of p (change_if v (erase_at b r) r) ≡ back_of p r
back-erased p b r true = refl
back-erased p b r false = refl

pub fronts-erased : (p : Class) (y : ClauseName) (b : ℕ) (rs : List Record) → fronts p (changed_where (is_named y) (erase_at b) rs) ≡ fronts p rs
fronts-erased p y b [] = refl
fronts-erased p y b (r ∷ rs) = ap₂ (λ u us. u ∷ us) (front-erased p b r (is_named y r)) (fronts-erased p y b rs)

pub backs-erased : (p : Class) (y : ClauseName) (b : ℕ) (rs : List Record) → backs p (changed_where (is_named y) (erase_at b) rs) ≡ backs p rs
backs-erased p y b [] = refl
backs-erased p y b (r ∷ rs) = ap₂ (λ u us. u ∷ us) (back-erased p b r (is_named y r)) (backs-erased p y b rs)

pub length-erased : (y : ClauseName) (b : ℕ) (rs : List Record) → length (changed_where (is_named y) (erase_at b) rs) ≡ length rs
length-erased y b [] = refl
length-erased y b (r ∷ rs) = ap suc (length-erased y b rs)

pub erase-keeps : (p : Class) (y : ClauseName) (b : ℕ) (rs : List Record) (next : List (Option ℕ)) (e : Ends) → IsIndexed p rs next e → IsIndexed p (changed_where (is_named y) (erase_at b) rs) next e
erase-keeps p y b rs next e ix =
    let l = length-erased y b rs in
    record {
      count = ix.count ∙ sym l;
      front = ix.front ∙ ap₂ last_below (sym (fronts-erased p y b rs)) (sym l);
      oldest = ix.oldest ∙ ap (first_from 0) (sym (backs-erased p y b rs));
      newest = ix.newest ∙ ap₂ last_below (sym (backs-erased p y b rs)) (sym l);
      older = λ i h. ix.older i (subst (λ bs. get_or bs i false ≡ true) (fronts-erased p y b rs) h) ∙ ap (λ bs. last_below bs i) (sym (fronts-erased p y b rs));
      newer = λ i h. ix.newer i (subst (λ bs. get_or bs i false ≡ true) (backs-erased p y b rs) h) ∙ ap (λ bs. first_from (suc i) (drop (suc i) bs)) (sym (backs-erased p y b rs));
    }

-- other ends that say the same of the records
pub ends-alike : (p : Class) (rs : List Record) (next : List (Option ℕ)) (d e : Ends) → d.newest_front ≡ e.newest_front → d.oldest_back ≡ e.oldest_back → d.newest_back ≡ e.newest_back → IsIndexed p rs next e → IsIndexed p rs next d
ends-alike p rs next d e f o n ix = record { count = ix.count; front = f ∙ ix.front; oldest = o ∙ ix.oldest; newest = n ∙ ix.newest; older = ix.older; newer = ix.newer }

pub no-records : (p : Class) (e : Ends) → e ≡ no_ends → IsIndexed p [] [] e
no-records p e none = record {
  count = refl;
  front = ap (λ (d : Ends). d.newest_front) none;
  oldest = ap (λ (d : Ends). d.oldest_back) none;
  newest = ap (λ (d : Ends). d.newest_back) none;
  older = λ i h. absurd (cc);
  newer = λ i h. absurd (cc);
}

-- a last record behind is there
pub newest-within : (p : Class) (rs : List Record) (next : List (Option ℕ)) (e : Ends) (j : ℕ) → IsIndexed p rs next e → e.newest_back ≡ Some j → j < length next
newest-within p rs next e j ix h = let b = (last-some (backs p rs) (length rs) j (sym ix.newest ∙ h)).within in omega (arith, b, ix.count)
