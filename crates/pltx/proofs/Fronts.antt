-- Updates before the first that puts a clause before all others.
use Rattle.std.proofs.Common.{◌≡◌, ◌∙◌, ◌<◌, ◌≤◌, ◌⊎◌, inl, inr, ℕ, zero, suc, Bool, true, false, List, [], ◌∷◌, ◌++◌, length, length-append, take, fold, refl, sym, ap, arith}
use Rattle.std.proofs.lemmas.Bool.{cases_lt}
use Rattle.plterm.specs.declared.indicator.Indicator.{Indicator}
use Rattle.plevent.specs.declared.update.Update.{Update}
use Rattle.plevent.specs.declared.update.Update.TheVariants.{First, Last, Erase, EraseOwn, Declare}
use Rattle.plevent.specs.Alive.{change_if, change, living, stamped}
use Rattle.pltx.specs.declared.target.Target.{Target}
use Rattle.pltx.specs.declared.target.Target.TheVariants.{Committed, Own}
use Rattle.pltx.specs.Own.{erasing}
use Rattle.pltx.specs.Walks.{before_first, is_first, no_last, own_batch, own_fronts}

suc-if : (b : Bool) (m n : ℕ) → suc (change_if b m n) ≡ change_if b (suc m) (suc n)
suc-if true m n = refl
suc-if false m n = refl

-- what one more makes of them, where all put no clause in front, and where one does
abbrev OfAll : List Update → Type 0
OfAll us = (before_first us ≡ length us) × ((u : Update) → before_first (us ++ u ∷ []) ≡ change_if (is_first u) (before_first us) (suc (before_first us)))

abbrev OfSome : List Update → Type 0
OfSome us = (before_first us < length us) × ((u : Update) → before_first (us ++ u ∷ []) ≡ before_first us)

behind : (v : Update) (us : List Update) → is_first v ≡ false → OfAll us ⊎ OfSome us → OfAll (v ∷ us) ⊎ OfSome (v ∷ us)
behind v us e (inl (all, f)) = inl (
  ap (λ b. change_if b 0 (suc (before_first us))) e ∙ ap suc all,
  λ u.
      ap (λ b. change_if b 0 (suc (before_first (us ++ u ∷ [])))) e ∙ ap suc (f u) ∙ suc-if (is_first u) (before_first us) (suc (before_first us)) ∙ ap (λ m. change_if (is_first u) m (suc m)) (sym (ap (λ b. change_if b 0 (suc (before_first us))) e)),
)
behind v us e (inr (some, f)) = inr (
  omega (arith, some, ap (λ b. change_if b 0 (suc (before_first us))) e),
  λ u.
      ap (λ b. change_if b 0 (suc (before_first (us ++ u ∷ [])))) e ∙ ap suc (f u) ∙ sym (ap (λ b. change_if b 0 (suc (before_first us))) e),
)

kinds : (us : List Update) → OfAll us ⊎ OfSome us
kinds [] = inl (refl, λ u. refl)
kinds (First c ∷ us) = inr (omega arith, λ u. refl)
kinds (Last c ∷ us) = behind (Last c) us refl (kinds us)
kinds (Erase y ∷ us) = behind (Erase y) us refl (kinds us)
kinds (EraseOwn k ∷ us) = behind (EraseOwn k) us refl (kinds us)
kinds (Declare q ∷ us) = behind (Declare q) us refl (kinds us)

-- one more is counted where all before it are, unless it puts a clause in front
pub more : (us : List Update) (u : Update) (x : ℕ) → (suc (before_first us) ≡ suc (length us) → is_first u ≡ false → x ≡ suc (length us)) → ((suc (before_first us) ≡ suc (length us) → is_first u ≡ true) → x ≡ before_first us) →
    x ≡ before_first (us ++ u ∷ [])
more us u x counts stays = elim (kinds us) [
  | inl all ↦ by (is_first u) refl all.0 (all.1 u)
  | inr some ↦ stays (λ e. absurd (omega (arith, e, some.0))) ∙ sym (some.1 u)
]
  where
    by : (b : Bool) → is_first u ≡ b → before_first us ≡ length us → before_first (us ++ u ∷ []) ≡ change_if (is_first u) (before_first us) (suc (before_first us)) → x ≡ before_first (us ++ u ∷ [])
    by true e all is = stays (λ _. e) ∙ sym (is ∙ ap (λ c. change_if c (before_first us) (suc (before_first us))) e)
    by false e all is = counts (ap suc all) e ∙ sym (ap suc all) ∙ sym (is ∙ ap (λ c. change_if c (before_first us) (suc (before_first us))) e)

-- of those that are left where updates are taken back
low : (n : ℕ) (us : List Update) → n < before_first us → before_first (take n us) ≡ n
low zero us l = refl
low (suc n) [] l = absurd (omega (arith, l))
low (suc n) (First c ∷ us) l = absurd (omega (arith, l))
low (suc n) (Last c ∷ us) l = ap suc (low n us (omega (arith, l)))
low (suc n) (Erase y ∷ us) l = ap suc (low n us (omega (arith, l)))
low (suc n) (EraseOwn k ∷ us) l = ap suc (low n us (omega (arith, l)))
low (suc n) (Declare q ∷ us) l = ap suc (low n us (omega (arith, l)))

high : (n : ℕ) (us : List Update) → before_first us ≤ n → before_first (take n us) ≡ before_first us
high zero us l = omega (arith, l)
high (suc n) [] l = refl
high (suc n) (First c ∷ us) l = refl
high (suc n) (Last c ∷ us) l = ap suc (high n us (omega (arith, l)))
high (suc n) (Erase y ∷ us) l = ap suc (high n us (omega (arith, l)))
high (suc n) (EraseOwn k ∷ us) l = ap suc (high n us (omega (arith, l)))
high (suc n) (Declare q ∷ us) l = ap suc (high n us (omega (arith, l)))

pub less : (n : ℕ) (us : List Update) (x : ℕ) → (n < before_first us → x ≡ n) → (before_first us ≤ n → x ≡ before_first us) → x ≡ before_first (take n us)
less n us x lower upper = elim (cases_lt n (before_first us)) [
  | inl l ↦ lower l ∙ sym (low n us l)
  | inr l ↦ upper l ∙ sym (high n us l)
]

-- none of those before it puts a clause in front
nothing-front : (b k m : ℕ) (us : List Update) (p : Indicator) → m ≤ before_first us → fold (change p) [] (no_last (stamped b k (take m us))) ≡ []
nothing-front b k zero us p le = refl
nothing-front b k (suc m) [] p le = refl
nothing-front b k (suc m) (First c ∷ us) p le = absurd (omega (arith, le))
nothing-front b k (suc m) (Last c ∷ us) p le = nothing-front b (suc k) m us p (omega (arith, le))
nothing-front b k (suc m) (Erase y ∷ us) p le = nothing-front b (suc k) m us p (omega (arith, le))
nothing-front b k (suc m) (EraseOwn j ∷ us) p le = nothing-front b (suc k) m us p (omega (arith, le))
nothing-front b k (suc m) (Declare q ∷ us) p le = nothing-front b (suc k) m us p (omega (arith, le))

pub no-own-front : (b m : ℕ) (us : List Update) (p : Indicator) → m ≤ before_first us → own_fronts (own_batch b m us) p ≡ []
unfolding living
no-own-front b m us p le = nothing-front b 0 m us p le

-- the same of what is kept of them
pub more-kept : (us : List Update) (u : Update) (x before count : ℕ) (f : Bool) → before ≡ before_first us → count ≡ suc (length us) → f ≡ is_first u → (suc before ≡ count → f ≡ false → x ≡ count) → ((suc before ≡ count → f ≡ true) → x ≡ before) →
    x ≡ before_first (us ++ u ∷ [])
more-kept us u x before count f is many first counts stays =
    more us u x (λ e other. counts (omega (arith, e, is, many)) (first ∙ other) ∙ many) (λ g. stays (λ e. first ∙ g (omega (arith, e, is, many))) ∙ is)

pub one-more : (n : ℕ) (ys xs us : List Update) (u : Update) → n ≡ length ys → ys ≡ xs ++ u ∷ [] → xs ≡ us → n ≡ suc (length us)
one-more n ys xs us u many is same = many ∙ ap length is ∙ ap (λ zs. length (zs ++ u ∷ [])) same ∙ length-append us (u ∷ []) ∙ omega arith

pub erasing-plain : (t : Target) → false ≡ is_first (erasing t)
erasing-plain (Committed x) = refl
erasing-plain (Own k) = refl
