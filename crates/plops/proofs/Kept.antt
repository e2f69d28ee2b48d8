-- A changed table is a table.
use Rattle.std.proofs.Common.{◌≡◌, ◌≤◌, ℕ, ◌-◌, eqb, ltb, leb, Bool, true, false, cond, ◌&&◌, List, [], ◌∷◌, ◌++◌, Option, Some, None, refl, sym, ap, ◌∙◌, arith, append_assoc}
use Rattle.std.proofs.lemmas.Bool.{false≢true, true≢false, and_parts, and_from, cond_both, cond-true, cond-false, le-leb, ltb-false, lt-ltb, eqb-false}
use Rattle.std.proofs.lemmas.List.Folds.{list_all-append}
use Rattle.std.specs.Prelude.{filter, unwrap_or, is_some, is_none, option_and_then}
use Rattle.std.specs.List.{list_all}
use Rattle.std.specs.Str.{bytes_eq}
use Rattle.plops.specs.declared.operator.Kind.{Kind}
use Rattle.plops.specs.declared.operator.Kind.TheVariants as kinds
use Rattle.plops.specs.declared.operator.Infix.{Infix}
use Rattle.plops.specs.declared.operator.Postfix.{Postfix}
use Rattle.plops.specs.declared.table.Entry.{Entry}
use Rattle.plops.specs.declared.error.OpError.TheVariants as errors
use Rattle.plops.specs.Tables.{plain, is_named, find, with_operator, infix_of}
use Rattle.plops.specs.Operators.{operator_of}
use Rattle.plops.specs.Sane.{comma, comma_op, is_reserved}
use Rattle.plops.specs.Checks.{alone, is_good, IsTable}
use Rattle.plops.specs.Changes.{without, changed, is_plain, is_before, is_rising, kept, put, entry_of, added, is_beside, refusal}
use Rattle.plops.proofs.Names.{same_name, by_test}
use Rattle.plops.proofs.Ranks.{is_above, above_more}
use Rattle.plops.proofs.Checks.{Parts, parts}
use Rattle.plops.proofs.Finds.{elsewhere}

-- ---- it rises

all_filter : (p q : Entry → Bool) (t : List Entry) → list_all p t ≡ true → list_all p (filter q t) ≡ true
all_filter p q [] h = refl
all_filter p q (x ∷ t) h =
    let k = and_parts (p x) (list_all p t) h in
    cond_both (q x) (x ∷ filter q t) (filter q t) (λ l. list_all p l ≡ true) (λ b. and_from (p x) (list_all p (filter q t)) k.0 (all_filter p q t k.1)) (λ b. all_filter p q t k.1)

passing : (q : Entry → Bool) (t : List Entry) → list_all q (filter q t) ≡ true
passing q [] = refl
passing q (x ∷ t) =
    by_test (q x)
    (λ b. ap (list_all q) (cond-true (q x) (x ∷ filter q t) (filter q t) b) ∙ and_from (q x) (list_all q (filter q t)) b (passing q t))
    (λ b. ap (list_all q) (cond-false (q x) (x ∷ filter q t) (filter q t) b) ∙ passing q t)

rising_filter : (q : Entry → Bool) (t : List Entry) → is_rising t ≡ true → is_rising (filter q t) ≡ true
rising_filter q [] r = refl
rising_filter q (x ∷ t) r =
    let p = and_parts (is_above x.name t) (is_rising t) r in
    cond_both (q x) (x ∷ filter q t) (filter q t) (λ l. is_rising l ≡ true)
    (λ b. and_from (is_above x.name (filter q t)) (is_rising (filter q t)) (all_filter (λ y. is_before x.name y.name) q t p.0) (rising_filter q t p.1))
    (λ b. rising_filter q t p.1)

-- entries before a name, and others that each of their names comes before
rising_append : (n : List ℕ) (low high : List Entry) → list_all (λ x. is_before x.name n) low ≡ true → is_rising low ≡ true → is_rising high ≡ true → ((m : List ℕ) → is_before m n ≡ true → is_above m high ≡ true) → is_rising (low ++ high) ≡ true
rising_append n [] high h r s f = s
rising_append n (x ∷ low) high h r s f =
    let k = and_parts (is_before x.name n) (list_all (λ y. is_before y.name n) low) h in
    let p = and_parts (is_above x.name low) (is_rising low) r in
    and_from (is_above x.name (low ++ high)) (is_rising (low ++ high))
    (list_all-append (λ y. is_before x.name y.name) low high ∙ and_from (is_above x.name low) (is_above x.name high) p.0 (f x.name k.0))
    (rising_append n low high k.1 p.1 s f)

rising_put : (e : Entry) (t : List Entry) → is_rising t ≡ true → is_rising (put e t) ≡ true
rising_put e t r =
    let low : List Entry = filter (λ x. is_before x.name e.name) t in
    let high : List Entry = filter (λ x. is_before e.name x.name) t in
    let low_rises = rising_filter (λ x. is_before x.name e.name) t r in
    let high_rises = rising_filter (λ x. is_before e.name x.name) t r in
    let above = passing (λ x. is_before e.name x.name) t in
    ap is_rising (append_assoc low (kept e) high)
    ∙ cond_both (is_plain e) [] (e ∷ []) (λ l. is_rising (low ++ (l ++ high)) ≡ true)
    (λ b. rising_append e.name low high (passing (λ x. is_before x.name e.name) t) low_rises high_rises (λ m h. above_more m e.name high h above))
    (λ b. rising_append e.name low (e ∷ high) (passing (λ x. is_before x.name e.name) t) low_rises (and_from (is_above e.name high) (is_rising high) above high_rises)
    (λ m h. and_from (is_before m e.name) (is_above m high) h (above_more m e.name high h above)))

pub rising_added : (p : ℕ) (k : Kind) (n : List ℕ) (t : List Entry) → is_rising t ≡ true → is_rising (added p k n t) ≡ true
rising_added p k n t r = rising_put (changed p k (entry_of t n)) t r

-- ---- its entries pass the tests

all_put : (p : Entry → Bool) (e : Entry) (t : List Entry) → list_all p t ≡ true → p e ≡ true → list_all p (put e t) ≡ true
all_put p e t h k =
    let low : List Entry = filter (λ x. is_before x.name e.name) t in
    let high : List Entry = filter (λ x. is_before e.name x.name) t in
    list_all-append p (low ++ kept e) high ∙ and_from (list_all p (low ++ kept e)) (list_all p high)
    (list_all-append p low (kept e) ∙ and_from (list_all p low) (list_all p (kept e)) (all_filter p (λ x. is_before x.name e.name) t h)
    (cond_both (is_plain e) [] (e ∷ []) (λ l. list_all p l ≡ true) (λ b. refl) (λ b. and_from (p e) true k refl)))
    (all_filter p (λ x. is_before e.name x.name) t h)

good_from : (e : Entry) → Parts e → is_good e ≡ true
good_from e p = and_from _ _ p.before (and_from _ _ p.between (and_from _ _ p.behind p.lone))

alone_left : (o : Option Infix) → alone o None ≡ true
alone_left None = refl
alone_left (Some op) = refl

without_good : (e : Entry) (k : Kind) → Parts e → Parts (without e k)
without_good e kinds.Fx p = record { before = refl; between = p.between; behind = p.behind; lone = p.lone }
without_good e kinds.Fy p = record { before = refl; between = p.between; behind = p.behind; lone = p.lone }
without_good e kinds.Xfx p = record { before = p.before; between = refl; behind = p.behind; lone = refl }
without_good e kinds.Xfy p = record { before = p.before; between = refl; behind = p.behind; lone = refl }
without_good e kinds.Yfx p = record { before = p.before; between = refl; behind = p.behind; lone = refl }
without_good e kinds.Xf p = record { before = p.before; between = p.between; behind = refl; lone = alone_left e.as_infix }
without_good e kinds.Yf p = record { before = p.before; between = p.between; behind = refl; lone = alone_left e.as_infix }

two : (p most : ℕ) → (p ≡ 0 → ⊥) → p ≤ 1200 → most ≤ p → (ltb 0 p && (leb p 1200 && leb most p)) ≡ true
two p most h k m = and_from _ _ (lt-ltb 0 p (omega arith)) (and_from _ _ (le-leb p 1200 k) (le-leb most p m))

three : (p left right : ℕ) → (p ≡ 0 → ⊥) → p ≤ 1200 → left ≤ p → right ≤ p → (ltb 0 p && (leb p 1200 && (leb left p && leb right p))) ≡ true
three p left right h k m n = and_from _ _ (lt-ltb 0 p (omega arith)) (and_from _ _ (le-leb p 1200 k) (and_from _ _ (le-leb left p m) (le-leb right p n)))

no_postfix : (o : Option Postfix) → is_some o ≡ false → is_none o ≡ true
no_postfix None h = refl
no_postfix (Some op) h = absurd (true≢false h)

no_infix : (o : Option Infix) (q : Option Postfix) → is_some o ≡ false → alone o q ≡ true
no_infix None q h = refl
no_infix (Some op) q h = absurd (true≢false h)

with_good : (e : Entry) (p : ℕ) (k : Kind) → (p ≡ 0 → ⊥) → p ≤ 1200 → is_beside k e ≡ false → Parts e → Parts (with_operator e (operator_of p k))
with_good e p kinds.Fx h m b g = record { before = two p (p - 1) h m (omega arith); between = g.between; behind = g.behind; lone = g.lone }
with_good e p kinds.Fy h m b g = record { before = two p p h m (omega arith); between = g.between; behind = g.behind; lone = g.lone }
with_good e p kinds.Xfx h m b g = record { before = g.before; between = three p (p - 1) (p - 1) h m (omega arith) (omega arith); behind = g.behind; lone = no_postfix e.as_postfix b }
with_good e p kinds.Xfy h m b g = record { before = g.before; between = three p (p - 1) p h m (omega arith) (omega arith); behind = g.behind; lone = no_postfix e.as_postfix b }
with_good e p kinds.Yfx h m b g = record { before = g.before; between = three p p (p - 1) h m (omega arith) (omega arith); behind = g.behind; lone = no_postfix e.as_postfix b }
with_good e p kinds.Xf h m b g = record { before = g.before; between = g.between; behind = two p (p - 1) h m (omega arith); lone = no_infix e.as_infix _ b }
with_good e p kinds.Yf h m b g = record { before = g.before; between = g.between; behind = two p p h m (omega arith); lone = no_infix e.as_infix _ b }

-- what holds of a name and a priority that are not refused
record Allowed (p : ℕ) (k : Kind) (n : List ℕ) (t : List Entry) : Type 0 where
  low : p ≤ 1200
  not_comma : n ≡ comma → ⊥
  free : is_reserved n ≡ false
  apart : (ltb 0 p && is_beside k (entry_of t n)) ≡ false

allowed : (p : ℕ) (k : Kind) (n : List ℕ) (t : List Entry) → refusal p k n t ≡ None → Allowed p k n t
allowed p k n t = by (ltb 1200 p) (bytes_eq n comma) (is_reserved n) (ltb 0 p && is_beside k (entry_of t n)) refl refl refl refl
  where
    by : (a b c d : Bool) → ltb 1200 p ≡ a → bytes_eq n comma ≡ b → is_reserved n ≡ c → (ltb 0 p && is_beside k (entry_of t n)) ≡ d → cond a (Some errors.Priority) (cond b (Some errors.Comma) (cond c (Some errors.Reserved) (cond d (Some errors.InfixPostfix) None))) ≡ None → Allowed p k n t
    by true b c d e f r g h = absurd cc
    by false true c d e f r g h = absurd cc
    by false false true d e f r g h = absurd cc
    by false false false true e f r g h = absurd cc
    by false false false false e f r g h = record { low = ltb-false 1200 p e; not_comma = λ s. true≢false (sym (same_name n comma s) ∙ f); free = r; apart = g }

plain_good : (n : List ℕ) → is_good (plain n) ≡ true
plain_good n = refl

entry_good : (t : List Entry) (n : List ℕ) → list_all is_good t ≡ true → is_good (entry_of t n) ≡ true
entry_good [] n h = refl
entry_good (x ∷ t) n h =
    let p = and_parts (is_good x) (list_all is_good t) h in
    cond_both (is_named n x) (Some x) (find t n) (λ o. is_good (unwrap_or o (plain n)) ≡ true) (λ b. p.0) (λ b. entry_good t n p.1)

apart_here : (b c : Bool) → b ≡ true → (b && c) ≡ false → c ≡ false
apart_here true c h e = e
apart_here false c h e = absurd (false≢true h)

changed_good : (p : ℕ) (k : Kind) (n : List ℕ) (t : List Entry) → Allowed p k n t → is_good (entry_of t n) ≡ true → is_good (changed p k (entry_of t n)) ≡ true
changed_good p k n t a g =
    let e = entry_of t n in
    by_test (eqb p 0)
    (λ b. ap is_good (cond-true (eqb p 0) (without e k) (with_operator e (operator_of p k)) b) ∙ good_from (without e k) (without_good e k (parts e g)))
    (λ b.
    let some : p ≡ 0 → ⊥ = eqb-false p 0 b in
    ap is_good (cond-false (eqb p 0) (without e k) (with_operator e (operator_of p k)) b)
    ∙ good_from (with_operator e (operator_of p k)) (with_good e p k some a.low (apart_here (ltb 0 p) (is_beside k e) (lt-ltb 0 p (omega arith)) a.apart) (parts e g)))

-- ---- the comma, and the reserved names

comma_added : (p : ℕ) (k : Kind) (n : List ℕ) (t : List Entry) → (n ≡ comma → ⊥) → infix_of t comma ≡ Some comma_op → infix_of (added p k n t) comma ≡ Some comma_op
unfolding infix_of
comma_added p k n t h e = ap (option_and_then (λ x. x.as_infix)) (elsewhere p k n comma t (λ s. h (sym s))) ∙ e

none_added : (p : ℕ) (k : Kind) (n m : List ℕ) (t : List Entry) → is_reserved n ≡ false → is_reserved m ≡ true → find t m ≡ None → find (added p k n t) m ≡ None
none_added p k n m t h r e = elsewhere p k n m t (λ s. true≢false (sym r ∙ ap is_reserved s ∙ h)) ∙ e

pub table_added : (p : ℕ) (k : Kind) (n : List ℕ) (t : List Entry) → IsTable t → refusal p k n t ≡ None → IsTable (added p k n t)
table_added p k n t h e =
    let a = allowed p k n t e in
    record {
      rising = rising_added p k n t h.rising;
      good = all_put is_good (changed p k (entry_of t n)) t h.good (changed_good p k n t a (entry_good t n h.good));
      comma_stands = comma_added p k n t a.not_comma h.comma_stands;
      none_reserved = λ m r. none_added p k n m t a.free r (h.none_reserved m r);
    }
