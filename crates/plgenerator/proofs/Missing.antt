-- Solutions that cannot be unified, by one of their terms.
use Rattle.std.proofs.Common.{◌≡◌, ℕ, ℤ, pos, negsuc, List, [], ◌∷◌, take, drop, sym, ap, ◌∙◌}
use Rattle.std.specs.Str.{encode_utf8_all}
use Rattle.plterm.specs.Tree.{Tree, int, atom}
use Rattle.plsubst.specs.Subst.{bind}
use Rattle.plsubst.proofs.Unify.{compound-parts, more-head, more-tail, int-number, atom-name}
use Rattle.plsubst.proofs.UnifyUnique.{unify-none}
use Rattle.plbuiltin.specs.Pieces.{part, split}
use Rattle.plgenerator.specs.Fitting.{Misses}

magnitude : ℤ → ℕ
magnitude (pos n) = n
magnitude (negsuc n) = n

pos-same : {m n : ℕ} → pos m ≡ pos n → m ≡ n
unfolding magnitude
pos-same e = ap magnitude e

module _ (cs : List ℕ) (b l r : ℕ) (x y z w : Tree) where
  pub missing-before : (n : ℕ) → x ≡ int (pos n) → (b ≡ n → ⊥) → Misses (part cs (x ∷ y ∷ z ∷ w ∷ []) b l r)
  unfolding bind
  missing-before n is apart = unify-none _ _ (λ τ e. apart (pos-same (sym (int-number (sym (ap (bind τ) is) ∙ more-head (compound-parts e))))))

  pub missing-length : (n : ℕ) → y ≡ int (pos n) → (l ≡ n → ⊥) → Misses (part cs (x ∷ y ∷ z ∷ w ∷ []) b l r)
  unfolding bind
  missing-length n is apart = unify-none _ _ (λ τ e. apart (pos-same (sym (int-number (sym (ap (bind τ) is) ∙ more-head (more-tail (compound-parts e)))))))

  pub missing-after : (n : ℕ) → z ≡ int (pos n) → (r ≡ n → ⊥) → Misses (part cs (x ∷ y ∷ z ∷ w ∷ []) b l r)
  unfolding bind
  missing-after n is apart = unify-none _ _ (λ τ e. apart (pos-same (sym (int-number (sym (ap (bind τ) is) ∙ more-head (more-tail (more-tail (compound-parts e))))))))

  pub missing-text : (s : List ℕ) → w ≡ atom s → (encode_utf8_all (take l (drop b cs)) ≡ s → ⊥) → Misses (part cs (x ∷ y ∷ z ∷ w ∷ []) b l r)
  unfolding bind
  missing-text s is apart = unify-none _ _ (λ τ e. apart (sym (atom-name (sym (ap (bind τ) is) ∙ more-head (more-tail (more-tail (more-tail (compound-parts e))))))))

module _ (cs : List ℕ) (a : ℕ) (x y : Tree) where
  pub missing-front : (s : List ℕ) → x ≡ atom s → (encode_utf8_all (take a cs) ≡ s → ⊥) → Misses (split cs (x ∷ y ∷ []) a)
  unfolding bind
  missing-front s is apart = unify-none _ _ (λ τ e. apart (sym (atom-name (sym (ap (bind τ) is) ∙ more-head (compound-parts e)))))

  pub missing-back : (s : List ℕ) → y ≡ atom s → (encode_utf8_all (drop a cs) ≡ s → ⊥) → Misses (split cs (x ∷ y ∷ []) a)
  unfolding bind
  missing-back s is apart = unify-none _ _ (λ τ e. apart (sym (atom-name (sym (ap (bind τ) is) ∙ more-head (more-tail (compound-parts e))))))
