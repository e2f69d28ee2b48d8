-- The chains of all keys, as those of procedures and those of slots, stay those of the records.
use Rattle.std.proofs.Common.{◌≡◌, refl, sym, ◌∙◌, ap, ap₂, subst, ℕ, suc, zero, Bool, true, false, cond, List, [], ◌∷◌, ◌++◌, length, get_or}
use Rattle.std.specs.Prelude.{◌&&◌, not, nat_eq}
use Rattle.plterm.specs.Indicators.{same_indicator}
use Rattle.plevent.specs.Alive.{is_of}
use Rattle.plclause.specs.Clause.{Clause}
use Rattle.plevent.specs.declared.update.ClauseName.{ClauseName}
use Rattle.plrecords.specs.declared.record.Record.{Record}
use Rattle.plrecords.specs.declared.ends.Ends.{Ends}
use Rattle.plrecords.specs.declared.links.Links.{Links}
use Rattle.plrecords.specs.Kept.{made, changed_where, erase_at, is_named, is_there}
use Rattle.plrecords.specs.Links.{backs, ends_after, links_after, no_ends, Class, class_at, ends_in, since_below, IsIndexed, IsLinked}
use Rattle.plrecords.specs.Runs.{HasRuns, IsGone, SameRuns}
use Rattle.plrecords.specs.Undone.{SameLinks}
use Rattle.plstore.specs.Trail.{SameTables}
use Rattle.plrecords.specs.Slots.{in_slot}
use Rattle.plstore.specs.Chains.{IsChain}
use Rattle.plstore.specs.Tables.{AreKeyed, Chained}
use Rattle.plstore.specs.declared.tables.Tables.{Tables}
use Rattle.plrecords.proofs.Index.{any-put, ends-alike, erase-keeps, no-records}
use Rattle.plrecords.proofs.Passing.{linked, runs-erase, runs-same, same-self, no-runs}

-- keys that are equal only where they are the same
module _ {K : Type 0} (eq : K → K → Bool) (same : (a b : K) → eq a b ≡ true → a ≡ b) (key : Clause → K) where
  -- a record has one key
  one-key : (k l : K) (rs : List Record) (i : ℕ) → get_or (backs (class_at eq key k) rs) i false ≡ true → get_or (backs (class_at eq key l) rs) i false ≡ true → l ≡ k
  one-key k l [] i g h = absurd (cc)
  one-key k l (r ∷ rs) zero g h = by-side r.front g h
    where
      by-side : (f : Bool) → not f && eq (key r.clause) k ≡ true → not f && eq (key r.clause) l ≡ true → l ≡ k
      by-side true g h = absurd (cc)
      by-side false g h = sym (same (key r.clause) l h) ∙ same (key r.clause) k g
  one-key k l (r ∷ rs) (suc i) g h = one-key k l rs i g h

  module _ (f : Bool) (x : ClauseName) (c : Clause) (rs : List Record) (old new : Links) (E E' : K → Ends) (n : ℕ) (own : K) (was : (k : K) → IsChain (class_at eq key k) rs old (E k))
      (is_own : own ≡ key c) (count : n ≡ length rs) (next : new.next.items ≡ links_after f n (E own) old.next.items) (ends : (k : K) → E' k ≡ cond (eq own k) (ends_after f n x.place (E own)) (E k))
      (runs : (p : Class) (rs : List Record) (r : Record) → HasRuns p rs old.places.items → HasRuns p (rs ++ r ∷ []) new.places.items) where
    links-put : (k : K) → IsIndexed (class_at eq key k) (rs ++ made x c f ∷ []) new.next.items (E' k)
    links-put k =
        let p = class_at eq key k in
        let q = class_at eq key (key c) in
        let put = any-put x c rs old.next.items p q (E k) (E (key c)) (was k).indexed (was (key c)).indexed (λ e. ap E (same (key c) k e))
        (λ o i g h. let e : true ≡ false = sym (alone k i g h) ∙ o in absurd (cc)) f in
        let links : new.next.items ≡ links_after f (length rs) (E (key c)) old.next.items = next ∙ ap₂ (λ n o. links_after f n (E o) old.next.items) count is_own in
        let to : E' k ≡ cond (p c) (ends_after f (length rs) x.place (E (key c))) (E k) = ends k ∙ ap₂ (λ n o. cond (eq o k) (ends_after f n x.place (E o)) (E k)) count is_own in
        subst (λ ns. IsIndexed p (rs ++ made x c f ∷ []) ns (E' k)) (sym links) (subst (IsIndexed p (rs ++ made x c f ∷ []) (links_after f (length rs) (E (key c)) old.next.items)) (sym to) put)
      where
        alone : (k : K) (i : ℕ) → get_or (backs (class_at eq key k) rs) i false ≡ true → get_or (backs (class_at eq key (key c)) rs) i false ≡ true → eq (key c) k ≡ true
        alone k i g h = subst (λ (l : K). eq l k ≡ true) (sym (one-key k (key c) rs i g h)) (self k i rs g)
          where
            self : (k : K) (i : ℕ) (rs : List Record) → get_or (backs (class_at eq key k) rs) i false ≡ true → eq k k ≡ true
            self k i [] g = absurd (cc)
            self k zero (r ∷ rs) g = by-side r.front g
              where
                by-side : (f : Bool) → not f && eq (key r.clause) k ≡ true → eq k k ≡ true
                by-side true g = absurd (cc)
                by-side false g = subst (λ (l : K). eq l k ≡ true) (same (key r.clause) k g) g
            self k (suc i) (r ∷ rs) g = self k i rs g

    pub chains-put : (rs' : List Record) → rs' ≡ rs ++ made x c f ∷ [] → (k : K) → IsChain (class_at eq key k) rs' new (E' k)
    chains-put rs' e k = subst (λ rs. IsChain (class_at eq key k) rs new (E' k)) (sym e)
        (record { indexed = links-put k; runs = runs (class_at eq key k) rs (made x c f) (was k).runs })

-- a record that is erased
pub chain-erased : (p : Class) (y : ClauseName) (b n : ℕ) (rs : List Record) (old new : Links) (e : Ends) → IsChain p rs old e → ((d : Record) → IsGone b (get_or (changed_where (is_named y) (erase_at b) rs) n d).erased) →
    new.next ≡ old.next →
    ((p : Class) (rs : List Record) → IsLinked p rs old.next.items → ((d : Record) → IsGone b (get_or rs n d).erased) → HasRuns p rs old.places.items → HasRuns p rs new.places.items) →
    IsChain p (changed_where (is_named y) (erase_at b) rs) new e
chain-erased p y b n rs old new e was gone next runs =
    let made = changed_where (is_named y) (erase_at b) rs in
    let ix = erase-keeps p y b rs old.next.items e was.indexed in
    record {
      indexed = subst (λ ns. IsIndexed p made ns.items e) (sym next) ix;
      runs = runs p made (linked p made old.next.items e ix) gone (runs-erase p y b rs old.places.items was.runs);
    }

pub chain-kept : (p : Class) (y : ClauseName) (b : ℕ) (rs : List Record) (l : Links) (e : Ends) → IsChain p rs l e → IsChain p (changed_where (is_named y) (erase_at b) rs) l e
chain-kept p y b rs l e was = record { indexed = erase-keeps p y b rs l.next.items e was.indexed; runs = runs-erase p y b rs l.places.items was.runs }

-- the same links elsewhere
pub chain-same : (p : Class) (rs : List Record) (old new : Links) (d e : Ends) → IsChain p rs old e → SameLinks old new → d ≡ e → IsChain p rs new d
chain-same p rs old new d e was same ends = record {
  indexed = subst (IsIndexed p rs new.next.items) (sym ends) (subst (λ ns. IsIndexed p rs ns e) (sym same.next) was.indexed);
  runs = runs-same p rs old.places.items new.places.items same.runs was.runs;
}

pub chain-empty : (p : Class) (l : Links) (e : Ends) → l.next.items ≡ [] → l.places.items ≡ [] → e ≡ no_ends → IsChain p [] l e
chain-empty p l e next places ends = record {
  indexed = subst (λ ns. IsIndexed p [] ns e) (sym next) (no-records p e ends);
  runs = subst (HasRuns p []) (sym places) (no-runs p);
}

-- ends that differ in the place alone
pub chain-noted : {K : Type 0} (eq : K → K → Bool) (same : (a b : K) → eq a b ≡ true → a ≡ b) (own : K) (p : Class) (k : K) (rs : List Record) (l : Links) (E E' : K → Ends) (d : Ends) → E' k ≡ cond (eq own k) d (E k) →
    (e : Ends) → e ≡ E own → d.newest_front ≡ e.newest_front → d.oldest_back ≡ e.oldest_back → d.newest_back ≡ e.newest_back → IsChain p rs l (E k) → IsChain p rs l (E' k)
chain-noted eq same own p k rs l E E' d law e is f o n was = record {
  indexed = ends-alike p rs l.next.items (E' k) (E k) (at (λ d. d.newest_front) f) (at (λ d. d.oldest_back) o) (at (λ d. d.newest_back) n) was.indexed;
  runs = was.runs;
}
  where
    at : {A : Type 0} (get : Ends → A) → get d ≡ get e → get (E' k) ≡ get (E k)
    at get h = ap get law ∙ by-case (eq own k) refl
      where
        by-case : (v : Bool) → eq own k ≡ v → get (cond v d (E k)) ≡ get (E k)
        by-case true w = h ∙ ap get is ∙ ap (λ z. get (E z)) (same own k w)
        by-case false w = refl

-- tables that have the same in another memory
pub chained-same : (t u : Tables) → SameTables t u → Chained t → Chained u
chained-same t u same was = record {
  procedures = λ p. subst (λ rs. IsChain (is_of p) rs u.by_procedure (ends_in same_indicator u.index p)) (sym same.records)
      (chain-same (is_of p) t.records.items t.by_procedure u.by_procedure (ends_in same_indicator u.index p) (ends_in same_indicator t.index p) (was.procedures p) same.by_procedure (same.index p));
  slots = λ n. subst (λ rs. IsChain (in_slot n) rs u.by_slot (ends_in nat_eq u.slots n)) (sym same.records)
      (chain-same (in_slot n) t.records.items t.by_slot u.by_slot (ends_in nat_eq u.slots n) (ends_in nat_eq t.slots n) (was.slots n) same.by_slot (same.slots n));
  since = λ p g. ap (λ (e : Ends). since_below g e.since) (same.index p) ∙ was.since p g ∙ ap₂ (λ rs ds. is_there g p (record { records = rs; declared = ds })) (sym same.records) (sym same.declared);
  keyed = λ k. subst AreKeyed (sym same.records) (was.keyed (same.unkeyed k));
}

pub links-alike : (old new : Links) → new.next.items ≡ old.next.items → new.places.items ≡ old.places.items → SameLinks old new
links-alike old new next places = record { next = next; runs = subst (SameRuns old.places.items) (sym places) (same-self old.places.items) }
