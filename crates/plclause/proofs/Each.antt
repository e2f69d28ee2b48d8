-- A part of each of some terms, taken one after another.
use Rattle.std.proofs.Common.{◌≡◌, ℕ, ◌+◌, ◌<◌, suc, List, [], ◌∷◌, ◌++◌, length, get_or, drop, Option, Some, None, option_map, refl, sym, ap, ◌∙◌, append_assoc, append-nil, add-one}
use Rattle.std.proofs.Math.Seq.{drop-cons}
use Rattle.plterm.specs.Tree.{Tree}
use Rattle.plclause.specs.Lists.{each, one_more}

module _ {A : Type 0} (f : Tree → Option A) where
  -- parts that were taken, before those of the rest
  abbrev pub behind : List A → Option (List A) → Option (List A)
  behind v rest = option_map (λ xs. v ++ xs) rest

  behind_none : (o : Option (List A)) → o ≡ behind [] o
  behind_none None = refl
  behind_none (Some xs) = refl

  behind_one : (v : List A) (x : A) (o : Option (List A)) → behind v (one_more (Some x) o) ≡ behind (v ++ x ∷ []) o
  behind_one v x None = refl
  behind_one v x (Some xs) = ap Some (sym (append_assoc v (x ∷ []) xs))

  pub each_from : (ts : List Tree) → each f ts ≡ behind [] (each f (drop 0 ts))
  each_from ts = behind_none (each f ts)

  here : (ts : List Tree) (k : ℕ) (t : Tree) (o : Option A) → k < length ts → t ≡ get_or ts k t → f t ≡ o → each f (drop k ts) ≡ one_more o (each f (drop (k + 1) ts))
  here ts k t o h is e =
      ap (each f) (drop-cons ts k t h)
      ∙ ap (λ x. one_more (f x) (each f (drop (suc k) ts))) (sym is)
      ∙ ap (λ p. one_more p (each f (drop (suc k) ts))) e
      ∙ ap (λ n. one_more o (each f (drop n ts))) (sym (add-one k))

  pub each_goes : (whole : Option (List A)) (v : List A) (ts : List Tree) (k : ℕ) (t : Tree) (x : A) → k < length ts → t ≡ get_or ts k t → f t ≡ Some x
      → whole ≡ behind v (each f (drop k ts)) → whole ≡ behind (v ++ x ∷ []) (each f (drop (k + 1) ts))
  each_goes whole v ts k t x h is e so_far = so_far ∙ ap (behind v) (here ts k t (Some x) h is e) ∙ behind_one v x (each f (drop (k + 1) ts))

  pub each_lacks : (whole : Option (List A)) (v : List A) (ts : List Tree) (k : ℕ) (t : Tree) → k < length ts → t ≡ get_or ts k t → f t ≡ None
      → whole ≡ behind v (each f (drop k ts)) → None ≡ whole
  each_lacks whole v ts k t h is e so_far = sym (so_far ∙ ap (behind v) (here ts k t None h is e))

  over : (v : List A) (ts : List Tree) → ts ≡ [] → behind v (each f ts) ≡ Some v
  over v [] e = ap Some (append-nil v)
  over v (t ∷ ts) e = cc

  pub each_ends : (whole : Option (List A)) (v : List A) (ts : List Tree) (k : ℕ) → drop k ts ≡ [] → whole ≡ behind v (each f (drop k ts)) → Some v ≡ whole
  each_ends whole v ts k e so_far = sym (so_far ∙ over v (drop k ts) e)
