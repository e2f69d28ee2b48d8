-- The order of names.
use Rattle.std.proofs.Common.{◌≡◌, ℕ, Bool, true, false, List, refl, sym, ap, subst, ◌∙◌}
use Rattle.std.proofs.lemmas.Bool.{false≢true, true≢false, false_from_ne_true}
use Rattle.std.proofs.lemmas.Cmp.{nat_list_cmp_total}
use Rattle.std.specs.Cmp.Lexicographic.{slice_cmp, texts_ties, same_text, bytes_decides}
use Rattle.std.specs.declared.cmp.Ordering.{Ordering}
use Rattle.std.specs.declared.cmp.Ordering.TheVariants.{Less, Equal, Greater}
use Rattle.std.specs.Ordering.{is_lt, is_eq, nat_cmp, ordering_reverse}
use Rattle.std.specs.Str.{bytes_eq}
use Rattle.plops.specs.Changes.{is_before}

is_less : (r : Ordering) → is_lt r ≡ true → r ≡ Less
is_less Less h = refl
is_less Equal h = absurd (false≢true h)
is_less Greater h = absurd (false≢true h)

reverse_less : (r : Ordering) → r ≡ Less → is_lt (ordering_reverse r) ≡ false
reverse_less r h = ap (λ o. is_lt (ordering_reverse o)) h

less_not_equal : (r : Ordering) → is_lt r ≡ true → is_eq r ≡ false
less_not_equal Less h = refl
less_not_equal Equal h = absurd (false≢true h)
less_not_equal Greater h = refl

neither : (r : Ordering) → is_eq r ≡ false → is_lt r ≡ false → is_lt (ordering_reverse r) ≡ true
neither Less h k = absurd (true≢false k)
neither Equal h k = absurd (true≢false h)
neither Greater h k = refl

self_equal : (r : Ordering) → is_eq r ≡ true → is_lt r ≡ false
self_equal Less h = absurd (false≢true h)
self_equal Equal h = refl
self_equal Greater h = refl

turned : (a b : List ℕ) → slice_cmp nat_cmp a b ≡ ordering_reverse (slice_cmp nat_cmp b a)
turned a b = nat_list_cmp_total.antisymm a b

pub before_trans : (a b c : List ℕ) → is_before a b ≡ true → is_before b c ≡ true → is_before a c ≡ true
before_trans a b c h k = ap is_lt (nat_list_cmp_total.trans a b c (is_less (slice_cmp nat_cmp a b) h) (is_less (slice_cmp nat_cmp b c) k))

pub before_other : (a b : List ℕ) → is_before a b ≡ true → is_before b a ≡ false
before_other a b h = ap is_lt (turned b a) ∙ reverse_less (slice_cmp nat_cmp a b) (is_less (slice_cmp nat_cmp a b) h)

pub before_differs : (a b : List ℕ) → is_before a b ≡ true → bytes_eq a b ≡ false
before_differs a b h = texts_ties a b ∙ less_not_equal (slice_cmp nat_cmp a b) h

pub behind_differs : (a b : List ℕ) → is_before a b ≡ true → bytes_eq b a ≡ false
behind_differs a b h = texts_ties b a ∙ ap is_eq (turned b a) ∙ flip (slice_cmp nat_cmp a b) h
  where
    flip : (r : Ordering) → is_lt r ≡ true → is_eq (ordering_reverse r) ≡ false
    flip Less e = refl
    flip Equal e = absurd (false≢true e)
    flip Greater e = refl

pub before_or : (a b : List ℕ) → bytes_eq a b ≡ false → is_before a b ≡ false → is_before b a ≡ true
before_or a b h k = ap is_lt (turned b a) ∙ neither (slice_cmp nat_cmp a b) (sym (texts_ties a b) ∙ h) k

pub named_itself : (a b : List ℕ) → bytes_eq a b ≡ true → a ≡ b
named_itself a b h = same_text a b (sym h)

pub not_before_named : (a b : List ℕ) → bytes_eq a b ≡ true → is_before a b ≡ false
not_before_named a b h = self_equal (slice_cmp nat_cmp a b) (sym (texts_ties a b) ∙ h)

pub not_before_itself : (n : List ℕ) → is_before n n ≡ false
not_before_itself n = false_from_ne_true (is_before n n) (λ t. true≢false (sym t ∙ before_other n n t))

pub not_behind_named : (a b : List ℕ) → bytes_eq a b ≡ true → is_before b a ≡ false
not_behind_named a b h = subst (λ x. is_before b x ≡ false) (sym (named_itself a b h)) (not_before_itself b)

pub other_name : (a b : List ℕ) → (a ≡ b → ⊥) → bytes_eq a b ≡ false
other_name a b h = false_from_ne_true (bytes_eq a b) (λ t. h (named_itself a b t))

pub same_name : (a b : List ℕ) → a ≡ b → bytes_eq a b ≡ true
same_name a b h = (bytes_decides a b).1 h

-- a test is true or false
pub by_test : {X : Type 0} (b : Bool) → (b ≡ true → X) → (b ≡ false → X) → X
by_test true f g = f refl
by_test false f g = g refl
