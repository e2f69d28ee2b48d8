-- The list of runs, step by step.
use Rattle.std.proofs.Common.{◌≡◌, ℕ, suc, ◌+◌, ◌-◌, ◌<◌, ◌≤◌, Bool, true, false, List, [], ◌∷◌, ◌++◌, refl, sym, ap, ap₂, ◌∙◌, subst, arith, append-nil, nat_lt, Result, Ok, Err}
use Rattle.std.specs.Prelude.{IfOk}
use Rattle.std.proofs.lemmas.List.Sums.{fold-append}
use Rattle.std.specs.declared.cmp.Ordering.{Ordering}
use Rattle.std.specs.declared.cmp.Ordering.TheVariants.{Less, Equal, Greater}
use Rattle.std.specs.Ordering.{is_ne, ordering_then}
use Rattle.plterm.specs.Tree.{Tree, trees}
use Rattle.plterm.specs.Order.{order, arguments_order}
use Rattle.plcells.specs.Store.{Store, term, terms}
use Rattle.plcells.specs.Walking.{weight, weights}
use Rattle.plcells.proofs.Searching.{weight-some}
use Rattle.plorder.specs.declared.compare.SpanPair.{SpanPair}
use Rattle.plorder.specs.declared.compare.Verdict.{Verdict}
use Rattle.plorder.specs.Runs.{IsSpanPair, AreSpanPairs, HasSpanPair, IsComparison, run_order, runs_order, rest_of}

-- how many nodes the terms on the left have
abbrev pub weigh_runs : Store → List SpanPair → ℕ
weigh_runs h [] = 0
weigh_runs h (r ∷ rs) = weights (trees (terms h r.left r.count)) + weigh_runs h rs

pub says-along : (h : Store) (s t u v : Tree) (verdict : Verdict) → s ≡ u → t ≡ v → IsComparison h s t verdict → IsComparison h u v verdict
says-along h s t u v verdict e f is = subst (λ x. IsComparison h x v verdict) e (subst (λ y. IsComparison h s y verdict) f is)

pub differs : (o : Ordering) → is_ne o ≡ true → o ≡ Equal → ⊥
differs o is e = let f : false ≡ true = ap is_ne (sym e) ∙ is in cc

pub equal : (o : Ordering) → is_ne o ≡ false → o ≡ Equal
equal Less is = cc
equal Equal is = refl
equal Greater is = cc

then_assoc : (o p q : Ordering) → ordering_then (ordering_then o p) q ≡ ordering_then o (ordering_then p q)
then_assoc Less p q = refl
then_assoc Equal p q = refl
then_assoc Greater p q = refl

then_decided : (o p : Ordering) → (o ≡ Equal → ⊥) → ordering_then o p ≡ o
then_decided Less p ne = refl
then_decided Equal p ne = absurd (ne refl)
then_decided Greater p ne = refl

then_equal : (o : Ordering) → ordering_then o Equal ≡ o
then_equal Less = refl
then_equal Equal = refl
then_equal Greater = refl

pub runs-append : (h : Store) (rs : List SpanPair) (r : SpanPair) → runs_order h (rs ++ r ∷ []) ≡ ordering_then (run_order h r) (runs_order h rs)
runs-append h rs r = fold-append (λ (o : Ordering) (q : SpanPair). ordering_then (run_order h q) o) Equal rs (r ∷ [])

weigh-append : (h : Store) (rs : List SpanPair) (r : SpanPair) → weigh_runs h (rs ++ r ∷ []) ≡ weigh_runs h rs + weights (trees (terms h r.left r.count))
weigh-append h [] r = omega arith
weigh-append h (q ∷ rs) r = omega (arith, weigh-append h rs r)

are-append : (h : Store) (rs : List SpanPair) (r : SpanPair) → AreSpanPairs h rs → IsSpanPair h r → AreSpanPairs h (rs ++ r ∷ [])
are-append h [] r are is = (is, tt)
are-append h (q ∷ rs) r are is = (are.0, are-append h rs r are.1 is)

are-pop : (h : Store) (rs : List SpanPair) (r : SpanPair) → AreSpanPairs h (rs ++ r ∷ []) → AreSpanPairs h rs × IsSpanPair h r
are-pop h [] r are = (tt, are.0)
are-pop h (q ∷ rs) r are = let p = are-pop h rs r are.1 in ((are.0, p.0), p.1)

-- what is left of a list when the first pair of its last run has been taken
pub record IsLeft (h : Store) (old new : List SpanPair) (a b : ℕ) : Type 0 where
  pub runs : AreSpanPairs h new
  pub is : runs_order h old ≡ ordering_then (order (term h a) (term h b)) (runs_order h new)
  pub weighs : weigh_runs h old ≡ weight (term h a) + weigh_runs h new

module _ (h : Store) (old rest : List SpanPair) (r : SpanPair) (e : old ≡ rest ++ r ∷ []) (are : AreSpanPairs h old) where
  pub taken : IsSpanPair h r
  taken = (are-pop h rest r (subst (AreSpanPairs h) e are)).1

  pub others : AreSpanPairs h rest
  others = (are-pop h rest r (subst (AreSpanPairs h) e are)).0

  shrunk : SpanPair
  shrunk = record { left = r.left + 1; right = r.right + 1; count = r.count - 1 }

  -- the run, in its first pair and what is behind it
  parted : (k : ℕ) → r.count ≡ suc k → run_order h r ≡ ordering_then (order (term h r.left) (term h r.right)) (arguments_order (trees (terms h (r.left + 1) k)) (trees (terms h (r.right + 1) k)))
  unfolding order
  parted k ek =
      ap (λ (n : ℕ). arguments_order (trees (terms h r.left n)) (trees (terms h r.right n))) ek
      ∙ ap₂ (λ (m n : ℕ). ordering_then (order (term h r.left) (term h r.right)) (arguments_order (trees (terms h m k)) (trees (terms h n k)))) (omega arith) (omega arith)

  parted_weight : (k : ℕ) → r.count ≡ suc k → weights (trees (terms h r.left r.count)) ≡ weight (term h r.left) + weights (trees (terms h (r.left + 1) k))
  unfolding weight
  parted_weight k ek =
      ap (λ (n : ℕ). weights (trees (terms h r.left n))) ek
      ∙ ap (λ (m : ℕ). weight (term h r.left) + weights (trees (terms h m k))) (omega arith)

  left_by : (b : Bool) → nat_lt 1 r.count ≡ b → (new : List SpanPair) → new ≡ rest ++ rest_of r → IsLeft h old new r.left r.right
  unfolding order weight shrunk
  left_by true is new en =
      let more : 1 < r.count = grind (arith, is) in
      let k = r.count - 1 in
      let ek : r.count ≡ suc k = omega (arith, more) in
      let now : new ≡ rest ++ shrunk ∷ [] = en ∙ rw is refl in
      let run : IsSpanPair h r = taken in
      record {
        runs = subst (AreSpanPairs h) (sym now) (are-append h rest shrunk others (record {
          some = omega (arith, more);
          left = omega (arith, more, run.left);
          right = omega (arith, more, run.right);
          left_plain = λ d le lt. run.left_plain d (omega arith) (omega (arith, more));
          right_plain = λ d le lt. run.right_plain d (omega arith) (omega (arith, more));
          few = run.few;
        }));
        is =
            ap (runs_order h) e ∙ runs-append h rest r
            ∙ ap (λ (o : Ordering). ordering_then o (runs_order h rest)) (parted k ek)
            ∙ then_assoc (order (term h r.left) (term h r.right)) (run_order h shrunk) (runs_order h rest)
            ∙ ap (ordering_then (order (term h r.left) (term h r.right))) (sym (ap (runs_order h) now ∙ runs-append h rest shrunk));
        weighs = omega (arith, ap (weigh_runs h) e, weigh-append h rest r, parted_weight k ek, ap (weigh_runs h) now, weigh-append h rest shrunk);
      }
  left_by false is new en =
      let run : IsSpanPair h r = taken in
      let few : r.count ≤ 1 = grind (arith, is) in
      let ek : r.count ≡ suc 0 = omega (arith, few, run.some) in
      let now : new ≡ rest ++ [] = en ∙ rw is refl in
      let same : new ≡ rest = now ∙ append-nil rest in
      record {
        runs = subst (AreSpanPairs h) (sym same) others;
        is =
            ap (runs_order h) e ∙ runs-append h rest r
            ∙ ap (λ (o : Ordering). ordering_then o (runs_order h rest)) (parted 0 ek)
            ∙ then_assoc (order (term h r.left) (term h r.right)) Equal (runs_order h rest)
            ∙ ap (λ (rs : List SpanPair). ordering_then (order (term h r.left) (term h r.right)) (runs_order h rs)) (sym same);
        weighs = omega (arith, ap (weigh_runs h) e, weigh-append h rest r, parted_weight 0 ek, ap (weigh_runs h) same);
      }

  pub left-taken : (new : List SpanPair) → new ≡ rest ++ rest_of r → IsLeft h old new r.left r.right
  left-taken new en = left_by (nat_lt 1 r.count) refl new en

module _ (h : Store) (start old new : List SpanPair) (a b : ℕ) (left : IsLeft h old new a b) (same : runs_order h old ≡ runs_order h start) where
  -- the two are equal
  pub on-equal : Equal ≡ order (term h a) (term h b) → runs_order h new ≡ runs_order h start
  on-equal e = ap (λ (o : Ordering). ordering_then o (runs_order h new)) e ∙ sym left.is ∙ same

  pub lighter-equal : weigh_runs h new < weigh_runs h old
  lighter-equal = omega (arith, left.weighs, weight-some (term h a))

  -- they are not
  pub on-decided : (o : Ordering) → o ≡ order (term h a) (term h b) → (o ≡ Equal → ⊥) → o ≡ runs_order h start
  on-decided o e ne = sym (then_decided o (runs_order h new) ne) ∙ ap (λ (p : Ordering). ordering_then p (runs_order h new)) e ∙ sym left.is ∙ same

  -- they come to their arguments
  module _ (r : SpanPair) (has : HasSpanPair h (term h a) (term h b) r) (after : List SpanPair) (e : after ≡ new ++ r ∷ []) where
    pub runs-more : AreSpanPairs h after
    runs-more = subst (AreSpanPairs h) (sym e) (are-append h new r left.runs has.run)

    pub on-more : runs_order h after ≡ runs_order h start
    on-more = ap (runs_order h) e ∙ runs-append h new r ∙ ap (λ (o : Ordering). ordering_then o (runs_order h new)) (sym has.is) ∙ sym left.is ∙ same

    pub lighter-more : weigh_runs h after < weigh_runs h old
    lighter-more = omega (arith, left.weighs, has.lighter, ap (weigh_runs h) e, weigh-append h new r)

-- a list of one run
module _ (h : Store) (s t : Tree) (r : SpanPair) (has : HasSpanPair h s t r) (none work : List SpanPair) (e : none ≡ []) (f : work ≡ none ++ r ∷ []) where
  alone : work ≡ r ∷ []
  alone = f ∙ ap (λ (rs : List SpanPair). rs ++ r ∷ []) e

  pub one-run : AreSpanPairs h work
  one-run = subst (AreSpanPairs h) (sym alone) (has.run, tt)

  pub one-order : runs_order h work ≡ order s t
  one-order = ap (runs_order h) alone ∙ then_equal (run_order h r) ∙ sym has.is

pub ok-same : {E : Type 0} (r : Result Ordering E) (o p : Ordering) → IfOk r (λ q. q ≡ o) → o ≡ p → IfOk r (λ q. q ≡ p)
ok-same (Ok q) o p h e = h ∙ e
ok-same (Err x) o p h e = tt
