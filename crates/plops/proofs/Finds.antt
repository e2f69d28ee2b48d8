-- What a changed table says of names.
use Rattle.std.proofs.Common.{◌≡◌, ℕ, eqb, Bool, true, false, cond, ◌&&◌, List, [], ◌∷◌, ◌++◌, Option, Some, None, refl, sym, ap, subst, ◌∙◌}
use Rattle.std.proofs.lemmas.Bool.{false≢true, true≢false, and_parts, cond_both, cond-true, cond-false, false_from_ne_true}
use Rattle.std.proofs.lemmas.List.Folds.{find-append}
use Rattle.std.specs.Prelude.{filter, unwrap_or, is_none}
use Rattle.std.specs.Option.{option_or}
use Rattle.plops.specs.declared.operator.Kind.{Kind}
use Rattle.plops.specs.declared.operator.Kind.TheVariants as kinds
use Rattle.plops.specs.declared.table.Entry.{Entry}
use Rattle.plops.specs.Tables.{plain, is_named, find, with_operator}
use Rattle.plops.specs.Operators.{operator_of}
use Rattle.plops.specs.Changes.{without, changed, is_plain, is_before, kept, put, entry_of, added}
use Rattle.plops.proofs.Names.{before_other, before_or, named_itself, not_before_itself, other_name, same_name, by_test}

-- ---- what is found among the entries that pass a test of their names

module _ (p : List ℕ → Bool) (n : List ℕ) where
  pub found_passing : (t : List Entry) → p n ≡ true → find (filter (λ x. p x.name) t) n ≡ find t n
  found_passing [] h = refl
  found_passing (x ∷ t) h =
      cond_both (p x.name) (x ∷ filter (λ y. p y.name) t) (filter (λ y. p y.name) t) (λ l. find l n ≡ find (x ∷ t) n)
      (λ b. ap (λ o. cond (is_named n x) (Some x) o) (found_passing t h))
      (λ b. found_passing t h ∙ sym (cond-false (is_named n x) (Some x) (find t n)
      (false_from_ne_true (is_named n x) (λ m. true≢false (sym h ∙ ap p (sym (named_itself x.name n m)) ∙ b)))))

  pub found_failing : (t : List Entry) → p n ≡ false → find (filter (λ x. p x.name) t) n ≡ None
  found_failing [] h = refl
  found_failing (x ∷ t) h =
      cond_both (p x.name) (x ∷ filter (λ y. p y.name) t) (filter (λ y. p y.name) t) (λ l. find l n ≡ None)
      (λ b. cond-false (is_named n x) (Some x) (find (filter (λ y. p y.name) t) n)
      (false_from_ne_true (is_named n x) (λ m. true≢false (sym b ∙ ap p (named_itself x.name n m) ∙ h))) ∙ found_failing t h)
      (λ b. found_failing t h)

find_kept : (e : Entry) (n : List ℕ) → is_named n e ≡ false → find (kept e) n ≡ None
find_kept e n h = cond_both (is_plain e) [] (e ∷ []) (λ l. find l n ≡ None) (λ b. refl) (λ b. cond-false (is_named n e) (Some e) None h)

find_put : (e : Entry) (t : List Entry) (n : List ℕ) → find (put e t) n ≡ option_or (option_or (find (filter (λ x. is_before x.name e.name) t) n) (find (kept e) n)) (find (filter (λ x. is_before e.name x.name) t) n)
find_put e t n =
    let low = filter (λ x. is_before x.name e.name) t in
    let high = filter (λ x. is_before e.name x.name) t in
    find-append (is_named n) (low ++ kept e) high ∙ ap (λ o. option_or o (find high n)) (find-append (is_named n) low (kept e))

or_none : (o : Option Entry) → option_or (option_or o None) None ≡ o
or_none None = refl
or_none (Some x) = refl

pub put_elsewhere : (e : Entry) (t : List Entry) (n : List ℕ) → (n ≡ e.name → ⊥) → find (put e t) n ≡ find t n
put_elsewhere e t n h =
    let not_here : is_named n e ≡ false = other_name e.name n (λ s. h (sym s)) in
    let here : find (kept e) n ≡ None = find_kept e n not_here in
    let low : List Entry = filter (λ x. is_before x.name e.name) t in
    let high : List Entry = filter (λ x. is_before e.name x.name) t in
    let all = find_put e t n in
    by_test (is_before n e.name)
    (λ b. all ∙ ap (λ o. option_or (option_or (find low n) o) (find high n)) here
    ∙ ap (λ o. option_or (option_or o None) (find high n)) (found_passing (λ m. is_before m e.name) n t b)
    ∙ ap (λ o. option_or (option_or (find t n) None) o) (found_failing (λ m. is_before e.name m) n t (before_other n e.name b)) ∙ or_none (find t n))
    (λ b. all ∙ ap (λ o. option_or (option_or (find low n) o) (find high n)) here
    ∙ ap (λ o. option_or (option_or o None) (find high n)) (found_failing (λ m. is_before m e.name) n t b)
    ∙ found_passing (λ m. is_before e.name m) n t (before_or n e.name (other_name n e.name h) b))

-- what is kept of an entry, found by its name
as_kept : (e : Entry) → find (kept e) e.name ≡ cond (is_plain e) None (Some e)
as_kept e =
    by_test (is_plain e)
    (λ b. ap (λ l. find l e.name) (cond-true (is_plain e) [] (e ∷ []) b) ∙ sym (cond-true (is_plain e) None (Some e) b))
    (λ b. ap (λ l. find l e.name) (cond-false (is_plain e) [] (e ∷ []) b) ∙ cond-true (is_named e.name e) (Some e) None (same_name e.name e.name refl) ∙ sym (cond-false (is_plain e) None (Some e) b))

or_this : (o : Option Entry) → option_or (option_or None o) None ≡ o
or_this None = refl
or_this (Some x) = refl

pub put_here : (e : Entry) (t : List Entry) → find (put e t) e.name ≡ cond (is_plain e) None (Some e)
put_here e t =
    find_put e t e.name ∙ ap (λ o. option_or (option_or o (find (kept e) e.name)) (find (filter (λ x. is_before e.name x.name) t) e.name)) (found_failing (λ m. is_before m e.name) e.name t (not_before_itself e.name))
    ∙ ap (λ o. option_or (option_or None (find (kept e) e.name)) o) (found_failing (λ m. is_before e.name m) e.name t (not_before_itself e.name))
    ∙ or_this (find (kept e) e.name) ∙ as_kept e

-- ---- the entry of a name

found_name : (t : List Entry) (n : List ℕ) → (unwrap_or (find t n) (plain n)).name ≡ n
found_name [] n = refl
found_name (x ∷ t) n =
    cond_both (is_named n x) (Some x) (find t n) (λ o. (unwrap_or o (plain n)).name ≡ n) (λ b. named_itself x.name n b) (λ b. found_name t n)

pub entry_name : (t : List Entry) (n : List ℕ) → (entry_of t n).name ≡ n
entry_name t n = found_name t n

without_name : (e : Entry) (k : Kind) → (without e k).name ≡ e.name
without_name e kinds.Fx = refl
without_name e kinds.Fy = refl
without_name e kinds.Xfx = refl
without_name e kinds.Xfy = refl
without_name e kinds.Yfx = refl
without_name e kinds.Xf = refl
without_name e kinds.Yf = refl

with_name : (e : Entry) (p : ℕ) (k : Kind) → (with_operator e (operator_of p k)).name ≡ e.name
with_name e p kinds.Fx = refl
with_name e p kinds.Fy = refl
with_name e p kinds.Xfx = refl
with_name e p kinds.Xfy = refl
with_name e p kinds.Yfx = refl
with_name e p kinds.Xf = refl
with_name e p kinds.Yf = refl

pub changed_name : (p : ℕ) (k : Kind) (e : Entry) → (changed p k e).name ≡ e.name
changed_name p k e = cond_both (eqb p 0) (without e k) (with_operator e (operator_of p k)) (λ x. x.name ≡ e.name) (λ b. without_name e k) (λ b. with_name e p k)

none_is : {A : Type 0} (o : Option A) → is_none o ≡ true → o ≡ None
none_is None h = refl
none_is (Some x) h = absurd (false≢true h)

pub plain_is : (e : Entry) → is_plain e ≡ true → plain e.name ≡ e
plain_is e h =
    let p = and_parts (is_none e.as_prefix) (is_none e.as_infix && is_none e.as_postfix) h in
    let q = and_parts (is_none e.as_infix) (is_none e.as_postfix) p.1 in
    λ i. record { name = e.name; as_prefix = sym (none_is e.as_prefix p.0) i; as_infix = sym (none_is e.as_infix q.0) i; as_postfix = sym (none_is e.as_postfix q.1) i }

pub entry_put : (e : Entry) (t : List Entry) → entry_of (put e t) e.name ≡ e
entry_put e t =
    ap (λ o. unwrap_or o (plain e.name)) (put_here e t)
    ∙ cond_both (is_plain e) None (Some e) (λ o. unwrap_or o (plain e.name) ≡ e) (λ b. plain_is e b) (λ b. refl)

pub here : (p : ℕ) (k : Kind) (n : List ℕ) (t : List Entry) → entry_of (added p k n t) n ≡ changed p k (entry_of t n)
here p k n t =
    let e = changed p k (entry_of t n) in
    subst (λ m. entry_of (put e t) m ≡ e) (changed_name p k (entry_of t n) ∙ entry_name t n) (entry_put e t)

pub elsewhere : (p : ℕ) (k : Kind) (n m : List ℕ) (t : List Entry) → (m ≡ n → ⊥) → find (added p k n t) m ≡ find t m
elsewhere p k n m t h = put_elsewhere (changed p k (entry_of t n)) t m (λ s. h (s ∙ changed_name p k (entry_of t n) ∙ entry_name t n))
