-- The arguments of compounds by their numbers.
use Rattle.std.proofs.Common.{◌≡◌, ◌<◌, ◌≤◌, false, ◌&&◌, pos, nat_eq, ℕ, zero, suc, ◌+◌, refl, sym, ap, ◌∙◌, arith}
use Rattle.std.specs.Prelude.{codes}
use Rattle.std.specs.Str.{bytes_eq}
use Rattle.plterm.specs.Tree.{Tree, Trees, int, none, more, trees}
use Rattle.platoms.specs.Names.{functor_name}
use Rattle.plcells.specs.Store.{Store, term, terms, spread, IsBlock}
use Rattle.plprogram.specs.declared.settings.Settings.{Settings}
use Rattle.plbuiltin.specs.Solution.{fails, unifies}
use Rattle.plbuiltin.specs.Parts.{arg, is_argument}
use Rattle.plbuiltin.specs.Sorting.{is_two, is_pair}

module _ (h : Store) (a : Tree) (s : Settings) where
  argument_at : (c k n : ℕ) → n < k → is_argument (suc n) (trees (terms h c k)) a s ≡ unifies a (term h (c + n)) s
  argument_at c zero n lt = absurd (omega arith)
  argument_at c (suc k) zero lt = let same : c ≡ c + 0 = omega arith in ap (λ j. unifies a (term h j) s) same
  argument_at c (suc k) (suc n) lt =
      let same : suc c + n ≡ c + suc n = omega arith in
      argument_at (suc c) k n (omega arith) ∙ ap (λ j. unifies a (term h j) s) same

  no_argument : (c k n : ℕ) → k ≤ n → is_argument (suc n) (trees (terms h c k)) a s ≡ fails s
  no_argument c zero n le = refl
  no_argument c (suc k) zero le = absurd (omega arith)
  no_argument c (suc k) (suc n) le = no_argument (suc c) k n (omega arith)

argument_0 : (a : Tree) (s : Settings) (ts : Trees) → is_argument zero ts a s ≡ fails s
argument_0 a s none = refl
argument_0 a s (more t ts) = refl

-- the arguments of a block
module _ (h : Store) (p f k : ℕ) (block : IsBlock h p f k) (a : Tree) (s : Settings) where
  numbered : (n : ℕ) → arg (int (pos n)) (term h p) a s ≡ is_argument n (trees (terms h (suc p) k)) a s
  numbered n = ap (λ t. arg (int (pos n)) t a s) block.is

  pub no_first : (n : ℕ) → n ≡ 0 → fails s ≡ arg (int (pos n)) (term h p) a s
  no_first n e = sym (numbered n ∙ ap (λ m. is_argument m (trees (terms h (suc p) k)) a s) e ∙ argument_0 a s (trees (terms h (suc p) k)))

  pub none_behind : (n : ℕ) → k < n → fails s ≡ arg (int (pos n)) (term h p) a s
  none_behind zero lt = absurd (omega arith)
  none_behind (suc n) lt = sym (numbered (suc n) ∙ no_argument h a s (suc p) k n (omega arith))

  pub one_at : (n : ℕ) (t : Tree) → 0 < n → n ≤ k → t ≡ term h (p + n) → unifies a t s ≡ arg (int (pos n)) (term h p) a s
  one_at zero t some le e = absurd (omega arith)
  one_at (suc n) t some le e =
      let place : suc p + n ≡ p + suc n = omega arith in
      sym (numbered (suc n) ∙ argument_at h a s (suc p) k n (omega arith) ∙ ap (λ j. unifies a (term h j) s) place ∙ ap (λ u. unifies a u s) (sym e))

-- pairs have two arguments
two : (w : ℕ → Tree) (c k : ℕ) → is_two (trees (spread w c k)) ≡ nat_eq k 2
two w c zero = refl
two w c (suc zero) = refl
two w c (suc (suc zero)) = refl
two w c (suc (suc (suc k))) = let other : nat_eq (suc (suc (suc k))) 2 ≡ false = grind arith in sym other

pub pair_at : (h : Store) (p f k : ℕ) → IsBlock h p f k → is_pair (term h p) ≡ (nat_eq k 2 && bytes_eq (functor_name h.names f) (codes "-"))
pair_at h p f k block = ap is_pair block.is ∙ ap (λ b. b && bytes_eq (functor_name h.names f) (codes "-")) (two (term h) (suc p) k)
