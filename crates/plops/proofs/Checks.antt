-- A table is sane where each entry passes a test, and the comma is its operator.
use Rattle.std.proofs.Common.{◌≡◌, ◌<◌, ◌≤◌, Bool, true, false, cond, ◌&&◌, nat_lt, nat_le, ℕ, List, [], ◌∷◌, Option, Some, None, refl, subst, ap}
use Rattle.std.proofs.lemmas.Bool.{false≢true, and_parts, leb-true, ltb-true}
use Rattle.std.specs.Prelude.{is_none, option_and_then}
use Rattle.std.specs.List.{list_all}
use Rattle.plops.specs.declared.operator.Prefix.{Prefix}
use Rattle.plops.specs.declared.operator.Infix.{Infix}
use Rattle.plops.specs.declared.operator.Postfix.{Postfix}
use Rattle.plops.specs.declared.table.Entry.{Entry}
use Rattle.plops.specs.Tables.{is_named, find, prefix_of, infix_of, postfix_of}
use Rattle.plops.specs.Sane.{IsSane, comma, comma_op, is_reserved}
use Rattle.plops.specs.Checks.{good_prefix, good_infix, good_postfix, alone, is_good, IsTable}

abbrev IsGood : Option Entry → Type 0
IsGood None = Unit {0}
IsGood (Some e) = is_good e ≡ true

good_if : (b : Bool) (x y : Option Entry) → IsGood x → IsGood y → IsGood (cond b x y)
good_if true x y h k = h
good_if false x y h k = k

found_good : (entries : List Entry) (n : List ℕ) → list_all is_good entries ≡ true → IsGood (find entries n)
found_good [] n h = tt
found_good (e ∷ entries) n h =
    let parts = and_parts (is_good e) (list_all is_good entries) h in
    good_if (is_named n e) (Some e) (find entries n) parts.0 (found_good entries n parts.1)

-- what the test of an entry says
pub record Parts (e : Entry) : Type 0 where
  pub before : good_prefix e.as_prefix ≡ true
  pub between : good_infix e.as_infix ≡ true
  pub behind : good_postfix e.as_postfix ≡ true
  pub lone : alone e.as_infix e.as_postfix ≡ true

pub parts : (e : Entry) → is_good e ≡ true → Parts e
parts e h =
    let first = and_parts (good_prefix e.as_prefix) (good_infix e.as_infix && (good_postfix e.as_postfix && alone e.as_infix e.as_postfix)) h in
    let second = and_parts (good_infix e.as_infix) (good_postfix e.as_postfix && alone e.as_infix e.as_postfix) first.1 in
    let third = and_parts (good_postfix e.as_postfix) (alone e.as_infix e.as_postfix) second.1 in
    record { before = first.0; between = second.0; behind = third.0; lone = third.1 }

prefix_good : (o : Option Entry) (op : Prefix) → IsGood o → option_and_then (λ e. e.as_prefix) o ≡ Some op → good_prefix (Some op) ≡ true
prefix_good None op h e = absurd cc
prefix_good (Some x) op h e = subst (λ o. good_prefix o ≡ true) e (parts x h).before

infix_good : (o : Option Entry) (op : Infix) → IsGood o → option_and_then (λ e. e.as_infix) o ≡ Some op → good_infix (Some op) ≡ true
infix_good None op h e = absurd cc
infix_good (Some x) op h e = subst (λ o. good_infix o ≡ true) e (parts x h).between

postfix_good : (o : Option Entry) (op : Postfix) → IsGood o → option_and_then (λ e. e.as_postfix) o ≡ Some op → good_postfix (Some op) ≡ true
postfix_good None op h e = absurd cc
postfix_good (Some x) op h e = subst (λ o. good_postfix o ≡ true) e (parts x h).behind

no_postfix : (o : Option Postfix) → is_none o ≡ true → o ≡ None
no_postfix None h = refl
no_postfix (Some op) h = absurd (false≢true h)

infix_alone : (o : Option Entry) (op : Infix) → IsGood o → option_and_then (λ e. e.as_infix) o ≡ Some op → option_and_then (λ e. e.as_postfix) o ≡ None
infix_alone None op h e = refl
infix_alone (Some x) op h e = no_postfix x.as_postfix (subst (λ o. alone o x.as_postfix ≡ true) e (parts x h).lone)

-- what the test of an infix operator says
record Numbers (op : Infix) : Type 0 where
  some : 0 < op.priority
  top : op.priority ≤ 1200
  left : op.left ≤ op.priority
  right : op.right ≤ op.priority

numbers : (op : Infix) → good_infix (Some op) ≡ true → Numbers op
numbers op h =
    let first = and_parts (nat_lt 0 op.priority) (nat_le op.priority 1200 && (nat_le op.left op.priority && nat_le op.right op.priority)) h in
    let second = and_parts (nat_le op.priority 1200) (nat_le op.left op.priority && nat_le op.right op.priority) first.1 in
    let third = and_parts (nat_le op.left op.priority) (nat_le op.right op.priority) second.1 in
    record { some = ltb-true 0 op.priority first.0; top = leb-true op.priority 1200 second.0; left = leb-true op.left op.priority third.0; right = leb-true op.right op.priority third.1 }

module _ (ops : List Entry) (good : list_all is_good ops ≡ true) where
  pre : (n : List ℕ) (op : Prefix) → prefix_of ops n ≡ Some op → good_prefix (Some op) ≡ true
  unfolding prefix_of
  pre n op e = prefix_good (find ops n) op (found_good ops n good) e

  mid : (n : List ℕ) (op : Infix) → infix_of ops n ≡ Some op → good_infix (Some op) ≡ true
  unfolding infix_of
  mid n op e = infix_good (find ops n) op (found_good ops n good) e

  post : (n : List ℕ) (op : Postfix) → postfix_of ops n ≡ Some op → good_postfix (Some op) ≡ true
  unfolding postfix_of
  post n op e = postfix_good (find ops n) op (found_good ops n good) e

  lone : (n : List ℕ) (op : Infix) → infix_of ops n ≡ Some op → postfix_of ops n ≡ None
  unfolding infix_of postfix_of
  lone n op e = infix_alone (find ops n) op (found_good ops n good) e

  no_prefix : (n : List ℕ) → find ops n ≡ None → prefix_of ops n ≡ None
  unfolding prefix_of
  no_prefix n e = ap (option_and_then (λ x. x.as_prefix)) e

  no_infix : (n : List ℕ) → find ops n ≡ None → infix_of ops n ≡ None
  unfolding infix_of
  no_infix n e = ap (option_and_then (λ x. x.as_infix)) e

  not_behind : (n : List ℕ) → find ops n ≡ None → postfix_of ops n ≡ None
  unfolding postfix_of
  not_behind n e = ap (option_and_then (λ x. x.as_postfix)) e

  pub sane : infix_of ops comma ≡ Some comma_op → ((n : List ℕ) → is_reserved n ≡ true → find ops n ≡ None) → IsSane ops
  sane h none = record {
    pre_some = λ n op e. ltb-true 0 op.priority (and_parts _ _ (pre n op e)).0;
    pre_top = λ n op e. leb-true op.priority 1200 (and_parts _ _ (and_parts _ _ (pre n op e)).1).0;
    pre_right = λ n op e. leb-true op.right op.priority (and_parts _ _ (and_parts _ _ (pre n op e)).1).1;
    in_some = λ n op e. (numbers op (mid n op e)).some;
    in_top = λ n op e. (numbers op (mid n op e)).top;
    in_left = λ n op e. (numbers op (mid n op e)).left;
    in_right = λ n op e. (numbers op (mid n op e)).right;
    in_alone = lone;
    post_some = λ n op e. ltb-true 0 op.priority (and_parts _ _ (post n op e)).0;
    post_top = λ n op e. leb-true op.priority 1200 (and_parts _ _ (and_parts _ _ (post n op e)).1).0;
    post_left = λ n op e. leb-true op.left op.priority (and_parts _ _ (and_parts _ _ (post n op e)).1).1;
    in_comma = h;
    pre_reserved = λ n r. no_prefix n (none n r);
    in_reserved = λ n r. no_infix n (none n r);
    post_reserved = λ n r. not_behind n (none n r);
  }

pub is_sane : (ops : List Entry) → IsTable ops → IsSane ops
is_sane ops t = sane ops t.good t.comma_stands t.none_reserved
