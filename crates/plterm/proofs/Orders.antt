-- The laws of the order of terms.
use Rattle.std.proofs.Common.{◌≡◌, ℕ, List, length, refl, ap, ap₂, ◌∙◌, sym}
use Rattle.std.specs.declared.cmp.Ordering.{Ordering}
use Rattle.std.specs.declared.cmp.Ordering.TheVariants.{Less, Equal, Greater}
use Rattle.std.specs.Ordering.{nat_cmp, ordering_then, ordering_reverse, on, then_cmp}
use Rattle.std.specs.Cmp.{IsTotalOrder, then_flip}
use Rattle.std.specs.Cmp.Lexicographic.{slice_cmp}
use Rattle.std.proofs.lemmas.Cmp.{nat_cmp_total, int_cmp_total, nat_list_cmp_total, tied_itself, alike_right, then_total, on_total}
use Rattle.std.proofs.lemmas.Map.Lookups.{exact_unsigned, exact_signed, exact_bytes}
use Rattle.plterm.specs.Tree.{Tree, var, int, atom, compound, Trees, none, more, list_of}
use Rattle.plterm.specs.Order.{name_order, functor_order, order, arguments_order}

pub then_first : (o p : Ordering) → ordering_then o p ≡ Equal → o ≡ Equal
then_first Less p h = cc
then_first Equal p h = refl
then_first Greater p h = cc

then_second : (o p : Ordering) → ordering_then o p ≡ Equal → p ≡ Equal
then_second Less p h = cc
then_second Equal p h = h
then_second Greater p h = cc

both_equal : (o p : Ordering) → o ≡ Equal → p ≡ Equal → ordering_then o p ≡ Equal
both_equal o p e f = ap (λ (x : Ordering). ordering_then x p) e ∙ f

-- ---- the same term

mutual
  unfolding order

  pub order-same : (t : Tree) → order t t ≡ Equal
  order-same (var v) = tied_itself nat_cmp_total v
  order-same (int i) = tied_itself int_cmp_total i
  order-same (atom s) = tied_itself nat_list_cmp_total s
  order-same (compound s ts) =
      both_equal (functor_order s (length (list_of ts)) s (length (list_of ts))) (arguments_order ts ts)
      (both_equal (nat_cmp (length (list_of ts)) (length (list_of ts))) (name_order s s) (tied_itself nat_cmp_total (length (list_of ts))) (tied_itself nat_list_cmp_total s))
      (arguments_order-same ts)

  pub arguments_order-same : (ts : Trees) → arguments_order ts ts ≡ Equal
  arguments_order-same none = refl
  arguments_order-same (more t ts) = both_equal (order t t) (arguments_order ts ts) (order-same t) (arguments_order-same ts)

mutual
  unfolding order

  pub order-exact : (a b : Tree) → order a b ≡ Equal → a ≡ b
  order-exact (var v) (var w) h = ap var (exact_unsigned v w h)
  order-exact (int i) (int j) h = ap int (exact_signed i j h)
  order-exact (atom s) (atom r) h = ap atom (exact_bytes s r h)
  order-exact (compound s ts) (compound r us) h =
      let functor = then_first (functor_order s (length (list_of ts)) r (length (list_of us))) (arguments_order ts us) h in
      ap₂ compound
      (exact_bytes s r (then_second (nat_cmp (length (list_of ts)) (length (list_of us))) (name_order s r) functor))
      (arguments_order-exact ts us (then_second (functor_order s (length (list_of ts)) r (length (list_of us))) (arguments_order ts us) h))
  order-exact a b h = cc

  pub arguments_order-exact : (ts us : Trees) → arguments_order ts us ≡ Equal → ts ≡ us
  arguments_order-exact none none h = refl
  arguments_order-exact none (more u us) h = cc
  arguments_order-exact (more t ts) none h = cc
  arguments_order-exact (more t ts) (more u us) h =
      ap₂ more (order-exact t u (then_first (order t u) (arguments_order ts us) h)) (arguments_order-exact ts us (then_second (order t u) (arguments_order ts us) h))

-- ---- turned round

functor_order-turned : (s r : List ℕ) (m n : ℕ) → functor_order r n s m ≡ ordering_reverse (functor_order s m r n)
functor_order-turned s r m n =
    ap₂ ordering_then (nat_cmp_total.antisymm n m) (nat_list_cmp_total.antisymm r s) ∙ then_flip (nat_cmp m n) (name_order s r)

mutual
  unfolding order

  pub order-turned : (a b : Tree) → order b a ≡ ordering_reverse (order a b)
  order-turned (var v) (var w) = nat_cmp_total.antisymm w v
  order-turned (int i) (int j) = int_cmp_total.antisymm j i
  order-turned (atom s) (atom r) = nat_list_cmp_total.antisymm r s
  order-turned (compound s ts) (compound r us) =
      ap₂ ordering_then (functor_order-turned s r (length (list_of ts)) (length (list_of us))) (arguments_order-turned ts us)
      ∙ then_flip (functor_order s (length (list_of ts)) r (length (list_of us))) (arguments_order ts us)
  order-turned a b = refl

  pub arguments_order-turned : (ts us : Trees) → arguments_order us ts ≡ ordering_reverse (arguments_order ts us)
  arguments_order-turned none none = refl
  arguments_order-turned none (more u us) = refl
  arguments_order-turned (more t ts) none = refl
  arguments_order-turned (more t ts) (more u us) =
      ap₂ ordering_then (order-turned t u) (arguments_order-turned ts us) ∙ then_flip (order t u) (arguments_order ts us)

-- ---- one behind the other

-- two orders one after the other: a to b, b to c and a to c
then_less : (o₁ o₂ o₃ p₁ p₂ p₃ : Ordering) → (o₁ ≡ Less → o₂ ≡ Less → o₃ ≡ Less) → (o₁ ≡ Equal → o₃ ≡ o₂) → (o₂ ≡ Equal → o₃ ≡ o₁) → (p₁ ≡ Less → p₂ ≡ Less → p₃ ≡ Less)
    → ordering_then o₁ p₁ ≡ Less → ordering_then o₂ p₂ ≡ Less → ordering_then o₃ p₃ ≡ Less
then_less Less Less o₃ p₁ p₂ p₃ along left right rest h k = ap (λ (x : Ordering). ordering_then x p₃) (along refl refl)
then_less Less Equal o₃ p₁ p₂ p₃ along left right rest h k = ap (λ (x : Ordering). ordering_then x p₃) (right refl)
then_less Less Greater o₃ p₁ p₂ p₃ along left right rest h k = cc
then_less Equal Less o₃ p₁ p₂ p₃ along left right rest h k = ap (λ (x : Ordering). ordering_then x p₃) (left refl)
then_less Equal Equal o₃ p₁ p₂ p₃ along left right rest h k = ap (λ (x : Ordering). ordering_then x p₃) (left refl) ∙ rest h k
then_less Equal Greater o₃ p₁ p₂ p₃ along left right rest h k = cc
then_less Greater o₂ o₃ p₁ p₂ p₃ along left right rest h k = cc

-- functors as pairs
functors_total : IsTotalOrder (then_cmp (on (λ (f : List ℕ × ℕ). f.1) nat_cmp) (on (λ (f : List ℕ × ℕ). f.0) (slice_cmp nat_cmp)))
functors_total = then_total (on_total (λ (f : List ℕ × ℕ). f.1) nat_cmp_total) (on_total (λ (f : List ℕ × ℕ). f.0) nat_list_cmp_total)

mutual
  unfolding order

  pub order-along : (a b c : Tree) → order a b ≡ Less → order b c ≡ Less → order a c ≡ Less
  order-along (var u) (var v) (var w) h k = nat_cmp_total.trans u v w h k
  order-along (int i) (int j) (int l) h k = int_cmp_total.trans i j l h k
  order-along (atom s) (atom r) (atom q) h k = nat_list_cmp_total.trans s r q h k
  order-along (compound s ts) (compound r us) (compound q vs) h k =
      let m = length (list_of ts) in
      let n = length (list_of us) in
      let l = length (list_of vs) in
      then_less (functor_order s m r n) (functor_order r n q l) (functor_order s m q l) (arguments_order ts us) (arguments_order us vs) (arguments_order ts vs)
      (functors_total.trans (s, m) (r, n) (q, l))
      (functors_total.congr (s, m) (r, n) (q, l))
      (λ e. sym (alike_right functors_total (r, n) (q, l) (s, m) e))
      (arguments_order-along ts us vs)
      h k
  order-along (var v) b (int j) h k = refl
  order-along (var v) b (atom s) h k = refl
  order-along (var v) b (compound s ts) h k = refl
  order-along (int i) b (atom s) h k = refl
  order-along (int i) b (compound s ts) h k = refl
  order-along (atom r) b (compound s ts) h k = refl
  order-along a (var v) c h k = cc
  order-along a (int i) c h k = cc
  order-along a (atom s) c h k = cc
  order-along a (compound s ts) c h k = cc

  pub arguments_order-along : (ts us vs : Trees) → arguments_order ts us ≡ Less → arguments_order us vs ≡ Less → arguments_order ts vs ≡ Less
  arguments_order-along none none none h k = h
  arguments_order-along none (more u us) none h k = cc
  arguments_order-along none us (more v vs) h k = refl
  arguments_order-along (more t ts) none vs h k = cc
  arguments_order-along (more t ts) (more u us) none h k = cc
  arguments_order-along (more t ts) (more u us) (more v vs) h k =
      then_less (order t u) (order u v) (order t v) (arguments_order ts us) (arguments_order us vs) (arguments_order ts vs)
      (order-along t u v)
      (λ e. ap (λ (x : Tree). order x v) (order-exact t u e))
      (λ e. ap (λ (x : Tree). order t x) (sym (order-exact u v e)))
      (arguments_order-along ts us vs)
      h k
