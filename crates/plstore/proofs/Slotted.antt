-- The slot of a key and that of variables have each clause that may be for a goal of the key.
use Rattle.std.proofs.Common.{◌≡◌, ◌≢◌, ◌⊎◌, inl, inr, refl, sym, ◌∙◌, ap, ap₂, arith, ℕ, suc, zero, Bool, true, false, List, [], ◌∷◌, ◌++◌, length, get_or, nat_eq, bytes_eq}
use Rattle.std.specs.Prelude.{◌&&◌}
use Rattle.std.proofs.lemmas.List.{get_or_append_left, get_or_at}
use Rattle.std.proofs.lemmas.Slice.Eq.{bytes_eq-Decides}
use Rattle.std.specs.declared.hash.FoldHasher.{FoldHasher}
use Rattle.plterm.specs.Tree.{Tree}
use Rattle.plterm.specs.declared.indicator.Indicator.{Indicator}
use Rattle.plclause.specs.Clause.{Clause}
use Rattle.plclause.specs.Indicators.{indicator}
use Rattle.plevent.specs.declared.update.ClauseName.{ClauseName}
use Rattle.plevent.specs.declared.key.Key.{Key}
use Rattle.plevent.specs.declared.key.Key.TheVariants.{Any, Int, Atom, Functor}
use Rattle.plevent.specs.Keys.{first_key, may_fit}
use Rattle.plevent.specs.Alive.{is_of, change_if}
use Rattle.plsubst.proofs.Unify.{same_int}
use Rattle.plrecords.specs.declared.record.Record.{Record}
use Rattle.plrecords.specs.Slots.{in_slot, pred_hash, slot, slot_behind, slot_of}
use Rattle.plrecords.specs.Kept.{made, changed_where, erase_at, is_named}
use Rattle.plstore.specs.Merged.{Covers}
use Rattle.plstore.specs.Tables.{AreKeyed}
use Rattle.plrecords.proofs.Bits.{cases, length-push}
use Rattle.plrecords.proofs.Index.{length-erased}
use Rattle.plstore.proofs.Same.{left-true, right-true, nat-self, nat-same, same-is}

-- the procedure's own chain has them all
pub procedure-covers : (p : Indicator) (k : Key) (rs : List Record) → Covers (is_of p) (is_of p) p k rs
unfolding Covers
procedure-covers p k rs i d l h = inl (right-true (may_fit k (first_key (get_or rs i d).clause.head)) (is_of p (get_or rs i d).clause) h)

-- keys that fit one another are the same, unless one is that of anything
fit-same : (k l : Key) → may_fit k l ≡ true → k ≢ Any → l ≢ Any → k ≡ l
fit-same Any l h n m = absurd (n refl)
fit-same k Any h n m = absurd (m refl)
fit-same (Int i) (Int j) h n m = ap Int (same_int i j h)
fit-same (Int i) (Atom s) h n m = absurd (cc)
fit-same (Int i) (Functor s a) h n m = absurd (cc)
fit-same (Atom s) (Int i) h n m = absurd (cc)
fit-same (Atom s) (Atom r) h n m = ap Atom ((bytes_eq-Decides s r).0 h)
fit-same (Atom s) (Functor r a) h n m = absurd (cc)
fit-same (Functor s a) (Int i) h n m = absurd (cc)
fit-same (Functor s a) (Atom r) h n m = absurd (cc)
fit-same (Functor s a) (Functor r b) h n m = ap₂ Functor ((bytes_eq-Decides s r).0 (left-true (bytes_eq s r) (nat_eq a b) h)) (nat-same a b (right-true (bytes_eq s r) (nat_eq a b) h))

key-any : (k : Key) → (k ≡ Any) ⊎ (k ≢ Any)
key-any Any = inl refl
key-any (Int i) = inr (λ e. absurd (cc))
key-any (Atom s) = inr (λ e. absurd (cc))
key-any (Functor s n) = inr (λ e. absurd (cc))

-- a clause that may be for a goal of a key, where both have one, is in the slot of that
in-own : (p : Indicator) (k : Key) (c : Clause) (n : ℕ) → k ≢ Any → first_key c.head ≢ Any → n ≡ slot_behind (pred_hash p) k → may_fit k (first_key c.head) && is_of p c ≡ true → in_slot n c ≡ true
unfolding slot
in-own p k c n not-any keyed is-n h =
    let of : indicator c.head ≡ p = same-is (indicator c.head) p (right-true (may_fit k (first_key c.head)) (is_of p c) h) in
    let fit : k ≡ first_key c.head = fit-same k (first_key c.head) (left-true (may_fit k (first_key c.head)) (is_of p c) h) not-any keyed in
    let same : slot_of c ≡ n = ap₂ (λ q k. slot_behind (pred_hash q) k) of (sym fit) ∙ sym is-n in
    ap (λ m. nat_eq m n) same ∙ nat-self n

pub slots-cover : (p : Indicator) (k : Key) (rs : List Record) (any n : ℕ) → k ≢ Any → any ≡ slot_behind (pred_hash p) Any → n ≡ slot_behind (pred_hash p) k → Covers (in_slot n) (in_slot any) p k rs
unfolding Covers slot
slots-cover p k rs any n not-any is-any is-n i d l h =
    let c = (get_or rs i d).clause in
    let of : indicator c.head ≡ p = same-is (indicator c.head) p (right-true (may_fit k (first_key c.head)) (is_of p c) h) in
    elim (key-any (first_key c.head)) [
      | inl a ↦
          let same : slot_of c ≡ any = ap₂ (λ q k. slot_behind (pred_hash q) k) of a ∙ sym is-any in
          inr (ap (λ m. nat_eq m any) same ∙ nat-self any)
      | inr b ↦ inl (in-own p k c n not-any b is-n h)
    ]

-- where each clause has a key, the slot of a key has them all
pub keyed-cover : (p : Indicator) (k : Key) (rs : List Record) (n : ℕ) → AreKeyed rs → k ≢ Any → n ≡ slot_behind (pred_hash p) k → Covers (in_slot n) (in_slot n) p k rs
unfolding Covers AreKeyed
keyed-cover p k rs n keyed not-any is-n i d l h =
    let c = (get_or rs i d).clause in
    inl (in-own p k c n not-any (keyed i d l) is-n h)

pub keyed-none : AreKeyed []
unfolding AreKeyed
keyed-none i d l = absurd (omega (arith, l))

pub keyed-put : (x : ClauseName) (c : Clause) (f : Bool) (rs : List Record) → AreKeyed rs → first_key c.head ≢ Any → AreKeyed (rs ++ made x c f ∷ [])
unfolding AreKeyed
keyed-put x c f rs keyed own i d l =
    let key : Record → Key = λ r. first_key r.clause.head in
    elim (cases i (length rs)) [
      | inl b ↦ λ e. keyed i d b (sym (ap key (get_or_append_left rs (made x c f ∷ []) d i b)) ∙ e)
      | inr o ↦ elim o [
        | inl at ↦ λ e. own (sym (ap key (get_or_at rs (made x c f) [] d i (sym at))) ∙ e)
        | inr b ↦ absurd (omega (arith, b, l, length-push rs (made x c f)))
      ]
    ]

-- an erasure leaves each clause
clause-left : (y : ClauseName) (b : ℕ) (rs : List Record) (i : ℕ) (d : Record) → (get_or (changed_where (is_named y) (erase_at b) rs) i d).clause ≡ (get_or rs i d).clause
clause-left y b [] i d = refl
clause-left y b (r ∷ rs) zero d = by-case (is_named y r)
  where
    by-case : (v : Bool) → (change_if v (erase_at b r) r).clause ≡ r.clause
    by-case true = refl
    by-case false = refl
clause-left y b (r ∷ rs) (suc i) d = clause-left y b rs i d

pub keyed-erased : (y : ClauseName) (b : ℕ) (rs : List Record) → AreKeyed rs → AreKeyed (changed_where (is_named y) (erase_at b) rs)
unfolding AreKeyed
keyed-erased y b rs keyed i d l = λ e. keyed i d (omega (arith, l, length-erased y b rs)) (sym (ap (λ (c : Clause). first_key c.head) (clause-left y b rs i d)) ∙ e)

-- a clause that is not in the slot of those without a key has one
pub own-key : (h : FoldHasher) (c : Clause) (n : ℕ) (t : Tree) → t ≡ c.head → n ≡ slot_behind h (first_key t) → n ≢ slot_behind h Any → first_key c.head ≢ Any
own-key h c n t is_head e apart = λ any. apart (e ∙ ap (λ t. slot_behind h (first_key t)) is_head ∙ ap (slot_behind h) any)

-- the slot of a clause, as it is computed
pub slot-is : (h : FoldHasher) (p : Indicator) (c : Clause) (n : ℕ) → h ≡ pred_hash p → p ≡ indicator c.head → (t : Tree) → t ≡ c.head → n ≡ slot_behind h (first_key t) → n ≡ slot_of c
unfolding slot
slot-is h p c n is_hash is_pred t is_head e = e ∙ ap₂ (λ h t. slot_behind h (first_key t)) (is_hash ∙ ap pred_hash is_pred) is_head
