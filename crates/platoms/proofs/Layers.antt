-- Keys in two parts, of which the first is looked through before the second.
use Rattle.std.proofs.Common.{◌≡◌, ℕ, ◌+◌, ◌<◌, Bool, true, false, List, [], ◌∷◌, ◌++◌, length, length-append, get_or, Option, Some, None, IfSome, refl, sym, ap, ◌∙◌, arith, if◌then◌else◌}
use Rattle.std.specs.Bool.{Decides}
use Rattle.std.specs.List.{list_any, position}
use Rattle.std.proofs.lemmas.List.{get_or_append_left, get_or-append-add}
use Rattle.std.proofs.lemmas.List.Folds.{list_any_at}
use Rattle.std.proofs.lemmas.List.Quantifiers.{position-Some}
use Rattle.indexmap.specs.IndexSet.{insert_key}

module _ {X : Type 0} (eq : X → X → Bool) (decides : (x y : X) → Decides (eq x y) (x ≡ y)) (d : X) where
  -- where a key was found it stands
  pub found : (xs : List X) (x : X) (r : Option ℕ) → r ≡ position (eq x) xs → IfSome r (λ i. (i < length xs) × (get_or xs i d ≡ x))
  found xs x None e = tt
  found xs x (Some i) e = let p = position-Some (eq x) xs i d (sym e) in (p.0, sym ((decides x (get_or xs i d)).0 p.1))

  -- and is not put again
  pub there : (xs : List X) (x : X) (i : ℕ) → i < length xs → get_or xs i d ≡ x → xs ≡ insert_key eq xs x
  there xs x i lt is = put (list_any (eq x) xs) (list_any_at (eq x) xs i d lt ((decides x (get_or xs i d)).1 (sym is)))
    where
      put : (b : Bool) → b ≡ true → xs ≡ if b then xs else xs ++ x ∷ []
      put true e = refl
      put false e = absurd (cc)

  -- a key of the first part
  pub there-before : (base own xs : List X) (x : X) (i : ℕ) → base ++ own ≡ xs → i < length base → get_or base i d ≡ x → xs ≡ insert_key eq xs x
  there-before base own xs x i whole lt is =
      there xs x i (omega (arith, lt, ap length whole, length-append base own)) (ap (λ ys. get_or ys i d) (sym whole) ∙ get_or_append_left base own d i lt ∙ is)

  -- a key of the second part
  pub stands-behind : (base own xs : List X) (below : ℕ) (x : X) (i : ℕ) → base ++ own ≡ xs → below ≡ length base → i < length own → get_or own i d ≡ x → (below + i < length xs) × (get_or xs (below + i) d ≡ x)
  stands-behind base own xs below x i whole count lt is = (
    omega (arith, lt, count, ap length whole, length-append base own),
    ap (λ ys. get_or ys (below + i) d) (sym whole) ∙ ap (λ n. get_or (base ++ own) (n + i) d) count ∙ get_or-append-add base own i d ∙ is,
  )
