-- The parts and the divisions that can be unified with arguments.
use Rattle.std.proofs.Common.{◌≡◌, ℕ, zero, suc, ◌+◌, ◌<◌, ◌≤◌, List, [], ◌∷◌, ◌++◌, length, ◌⊎◌, inl, inr, Option, Some, None, refl, sym, ap, ap₂, ◌∙◌, arith}
use Rattle.std.proofs.lemmas.Bool.{cases_lt}
use Rattle.std.proofs.lemmas.List.{append-nil}
use Rattle.plterm.specs.Tree.{Tree}
use Rattle.plsubst.specs.Unify.{unify}
use Rattle.plbuiltin.specs.Solution.{Solution}
use Rattle.plbuiltin.specs.Pieces.{part, parts_at, parts_from, split, splits_from}
use Rattle.plgenerator.specs.Fitting.{Misses, fitting, fitting_by}
use Rattle.plgenerator.specs.Turns.{parts_behind}

pub fitting-append : (xs ys : List Solution) → fitting (xs ++ ys) ≡ fitting xs ++ fitting ys
fitting-append [] ys = refl
fitting-append (x ∷ xs) ys = ap (fitting_by (unify x.left x.right) x) (fitting-append xs ys) ∙ go (unify x.left x.right)
  where
    go : (o : Option (ℕ → Tree)) → fitting_by o x (fitting xs ++ fitting ys) ≡ fitting_by o x (fitting xs) ++ fitting ys
    go None = refl
    go (Some σ) = refl

-- one that is passed over
pub passed : (s : Solution) (ss : List Solution) → Misses s → fitting (s ∷ ss) ≡ fitting ss
passed s ss miss = ap (λ o. fitting_by o s (fitting ss)) miss

-- what fits among the same
pub fitting-front : (xs ys zs : List Solution) → fitting xs ≡ fitting ys → fitting (xs ++ zs) ≡ fitting (ys ++ zs)
fitting-front xs ys zs e = fitting-append xs zs ∙ ap (λ l. l ++ fitting zs) e ∙ sym (fitting-append ys zs)

module _ (cs : List ℕ) (us : List Tree) (b : ℕ) where
  -- how many a row has
  pub length-row : (l r : ℕ) → length (parts_at cs us b l r) ≡ suc r
  length-row l zero = refl
  length-row l (suc r) = ap suc (length-row (suc l) r)

  -- none of a row
  pub row-misses : (l r : ℕ) → ((m k : ℕ) → m + k ≡ l + r → l ≤ m → Misses (part cs us b m k)) → fitting (parts_at cs us b l r) ≡ []
  row-misses l zero none = passed (part cs us b l zero) [] (none l zero refl (omega arith))
  row-misses l (suc r) none =
      passed (part cs us b l (suc r)) (parts_at cs us b (suc l) r) (none l (suc r) refl (omega arith))
      ∙ row-misses (suc l) r (λ m k e le. none m k (omega (arith, e)) (omega (arith, le)))

  -- one of a row, and those behind it
  pub row-only : (l r m k : ℕ) → l ≤ m → m + k ≡ l + r → ((n j : ℕ) → n + j ≡ l + r → n < m → Misses (part cs us b n j)) → fitting (parts_at cs us b l r) ≡ fitting (parts_at cs us b m k)
  row-only l zero m k le e none =
      let length : m ≡ l = omega (arith, le, e) in
      let after : k ≡ zero = omega (arith, le, e) in
      ap₂ (λ x y. fitting (parts_at cs us b x y)) (sym length) (sym after)
  row-only l (suc r) m k le e none = go (cases_lt l m) (λ less. row-only (suc l) r m k (omega (arith, less)) (omega (arith, e)) (λ n j f lt. none n j (omega (arith, f)) lt))
    where
      go : (l < m) ⊎ (m ≤ l) → (l < m → fitting (parts_at cs us b (suc l) r) ≡ fitting (parts_at cs us b m k)) → fitting (parts_at cs us b l (suc r)) ≡ fitting (parts_at cs us b m k)
      go (inl less) rest = passed (part cs us b l (suc r)) (parts_at cs us b (suc l) r) (none l (suc r) refl less) ∙ rest less
      go (inr most) rest =
          let length : m ≡ l = omega (arith, le, most) in
          let after : k ≡ suc r = omega (arith, le, most, e) in
          ap₂ (λ x y. fitting (parts_at cs us b x y)) (sym length) (sym after)

-- none of the rows
pub rows-miss : (cs : List ℕ) (us : List Tree) (b k : ℕ) → ((c m j : ℕ) → b ≤ c → Misses (part cs us c m j)) → fitting (parts_from cs us b k) ≡ []
rows-miss cs us b zero none = row-misses cs us b 0 zero (λ m j e le. none b m j (omega arith))
rows-miss cs us b (suc k) none =
    fitting-append (parts_at cs us b 0 (suc k)) (parts_from cs us (suc b) k)
    ∙ ap₂ (λ x y. x ++ y) (row-misses cs us b 0 (suc k) (λ m j e le. none b m j (omega arith))) (rows-miss cs us (suc b) k (λ c m j le. none c m j (omega (arith, le))))

-- the rows from one on
pub rows-from : (cs : List ℕ) (us : List Tree) (b k : ℕ) → parts_from cs us b k ≡ parts_at cs us b 0 k ++ parts_behind cs us b k
rows-from cs us b zero = sym (append-nil (parts_at cs us b 0 zero))
rows-from cs us b (suc k) = refl

module _ (cs : List ℕ) (us : List Tree) where
  -- none of the divisions from one on
  pub splits-miss : (a k : ℕ) → ((c : ℕ) → a ≤ c → c ≤ a + k → Misses (split cs us c)) → fitting (splits_from cs us a k) ≡ []
  splits-miss a zero none = passed (split cs us a) [] (none a (omega arith) (omega arith))
  splits-miss a (suc k) none =
      passed (split cs us a) (splits_from cs us (suc a) k) (none a (omega arith) (omega arith))
      ∙ splits-miss (suc a) k (λ c le most. none c (omega (arith, le)) (omega (arith, most)))

  -- one of them
  pub split-only : (a k m : ℕ) → a ≤ m → m ≤ a + k → ((c : ℕ) → c ≤ a + k → (c ≡ m → ⊥) → Misses (split cs us c)) → fitting (splits_from cs us a k) ≡ fitting (split cs us m ∷ [])
  split-only a zero m le most none = let same : a ≡ m = omega (arith, le, most) in ap (λ c. fitting (split cs us c ∷ [])) same
  split-only a (suc k) m le most none =
      go (cases_lt a m) (λ less. split-only (suc a) k m (omega (arith, less)) (omega (arith, most)) (λ c below apart. none c (omega (arith, below)) apart))
    where
      go : (a < m) ⊎ (m ≤ a) → (a < m → fitting (splits_from cs us (suc a) k) ≡ fitting (split cs us m ∷ [])) → fitting (splits_from cs us a (suc k)) ≡ fitting (split cs us m ∷ [])
      go (inl less) rest = passed (split cs us a) (splits_from cs us (suc a) k) (none a (omega arith) (λ e. absurd (omega (arith, e, less)))) ∙ rest less
      go (inr before) rest =
          let same : a ≡ m = omega (arith, le, before) in
          ap (fitting_by (unify (split cs us a).left (split cs us a).right) (split cs us a)) (splits-miss (suc a) k (λ c above below. none c (omega (arith, below)) (λ e. absurd (omega (arith, e, above, same)))))
          ∙ ap (λ c. fitting (split cs us c ∷ [])) same
