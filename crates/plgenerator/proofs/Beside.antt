-- The parts that begin at one place, and those behind it, as far as they fit.
use Rattle.std.proofs.Common.{◌≡◌, ℕ, zero, suc, ◌+◌, ◌<◌, ◌≤◌, ◌⊎◌, inl, inr, Option, Some, None, List, [], ◌∷◌, ◌++◌, length, refl, sym, ap, ap₂, ◌∙◌, arith, subst}
use Rattle.std.specs.Prelude.{IfSome, IfNone}
use Rattle.std.proofs.lemmas.Bool.{cases_eq}
use Rattle.std.proofs.lemmas.List.{length-append}
use Rattle.plterm.specs.Tree.{Tree}
use Rattle.plbuiltin.specs.Solution.{Solution}
use Rattle.plbuiltin.specs.Pieces.{part, parts_at}
use Rattle.plgenerator.specs.declared.part.Lengths.TheVariants.{One, None as NoLength}
use Rattle.plgenerator.specs.declared.turn.Part.{Part}
use Rattle.plgenerator.specs.Fitting.{Misses, fitting, fitting_by}
use Rattle.plgenerator.specs.Turns.{parts_behind, beside, others, parts_left, parts_if}
use Rattle.plgenerator.specs.Wanting.{AreAllowed, NoneBegins}
use Rattle.plgenerator.proofs.Rows.{length-row, fitting-append, fitting-front, row-misses, row-only, rows-miss, rows-from}

module _ (cs : List ℕ) (us : List Tree) (b l r room : ℕ) (e : room ≡ l + r) where
  pub one-beside : (m k : ℕ) → m + k ≡ l + r → l ≤ m → AreAllowed us cs b room (One m) → fitting (parts_at cs us b l r) ≡ fitting (parts_at cs us b m k)
  one-beside m k f le allowed = row-only cs us b l r m k le f (λ n j g lt. allowed n j (omega (arith, e, g)) (λ same. absurd (omega (arith, same, lt))))

  pub none-beside : AreAllowed us cs b room NoLength → fitting (parts_at cs us b l r) ≡ []
  none-beside allowed = row-misses cs us b l r (λ m k g le. allowed m k (omega (arith, e, g)) (λ x. x))

  pub too-far : (m : ℕ) → AreAllowed us cs b room (One m) → (m ≤ l + r → l ≤ m → ⊥) → fitting (parts_at cs us b l r) ≡ []
  too-far m allowed out = row-misses cs us b l r (λ n k g le. allowed n k (omega (arith, e, g)) (λ same. out (omega (arith, same, g)) (omega (arith, same, le))))

  pub not-ending : (m k : ℕ) → m + k ≡ l + r → AreAllowed us cs b room (One m) → Misses (part cs us b m k) → fitting (parts_at cs us b l r) ≡ []
  not-ending m k f allowed miss = row-misses cs us b l r (λ n j g le. go n j g (cases_eq n m))
    where
      go : (n j : ℕ) → n + j ≡ l + r → (n ≡ m) ⊎ (n ≡ m → ⊥) → Misses (part cs us b n j)
      go n j g (inl same) =
          let after : k ≡ j = omega (arith, f, g, same) in
          subst (λ x. Misses (part cs us b n x)) after (subst (λ x. Misses (part cs us b x k)) (sym same) miss)
      go n j g (inr apart) = allowed n j (omega (arith, e, g)) apart

module _ (cs : List ℕ) (us : List Tree) (b : ℕ) where
  pub none-begins : (l r : ℕ) → NoneBegins us cs b (l + r) → fitting (parts_at cs us b l r) ≡ []
  none-begins l r none = row-misses cs us b l r (λ m k g le. none m k g)

  -- none behind a place
  pub behind-misses : (k : ℕ) → ((c m j : ℕ) → b < c → Misses (part cs us c m j)) → fitting (parts_behind cs us b k) ≡ []
  behind-misses zero none = refl
  behind-misses (suc k) none = rows-miss cs us (suc b) k (λ c m j le. none c m j (omega (arith, le)))

  -- those behind it are those from the next place on
  pub behind-from : (k c j : ℕ) → k ≡ suc j → c ≡ suc b → parts_behind cs us b k ≡ parts_at cs us c 0 j ++ parts_behind cs us c (0 + j)
  behind-from k c j e f =
      let all : j ≡ 0 + j = omega arith in
      ap (parts_behind cs us b) e ∙ rows-from cs us (suc b) j ∙ ap₂ (λ x y. parts_at cs us x 0 j ++ parts_behind cs us x y) (sym f) all

  -- the last one of those that fit where it begins
  pub last-beside : (l r : ℕ) (ss : List Solution) → ((m k : ℕ) → m + k ≡ l + r → l < m → Misses (part cs us b m k)) → fitting (parts_at cs us b l r ++ ss) ≡ fitting (part cs us b l r ∷ ss)
  last-beside l zero ss none = refl
  last-beside l (suc r) ss none =
      ap (fitting_by _ (part cs us b l (suc r)))
      (fitting-append (parts_at cs us b (suc l) r) ss ∙ ap (λ l. l ++ fitting ss) (row-misses cs us b (suc l) r (λ m k e le. none m k (omega (arith, e)) (omega (arith, le)))))

module _ (cs : List ℕ) (us : List Tree) (p : Part) where
  pub others-fit : (o : Option Part) → IfSome o (λ q. others cs us p ≡ parts_left cs us q) → IfNone o (fitting (others cs us p) ≡ []) → fitting (others cs us p) ≡ fitting (parts_if cs us o)
  others-fit None some none = none
  others-fit (Some q) some none = ap fitting some

  pub here-fits : (o : Option Part) → IfSome o (λ q. (q.offset ≡ p.offset) × (q.length + q.after ≡ p.length + p.after)) → IfSome o (λ q. fitting (beside cs us p) ≡ fitting (beside cs us q)) → IfSome o (λ q. fitting (parts_left cs us p) ≡ fitting (parts_left cs us q))
  here-fits None same e = tt
  here-fits (Some q) same e =
      fitting-front (beside cs us p) (beside cs us q) (others cs us p) e
      ∙ ap₂ (λ o n. fitting (beside cs us q ++ parts_behind cs us o.characters n)) (sym same.0) (sym same.1)

  length-left : (q : Part) → length (parts_left cs us q) ≡ suc q.after + length (others cs us q)
  length-left q = length-append (beside cs us q) (others cs us q) ∙ ap (λ n. n + length (others cs us q)) (length-row cs us q.offset.characters q.length q.after)

  -- no more are left from one of those beside it on
  pub here-left : (o : Option Part) → IfSome o (λ q. (q.offset ≡ p.offset) × (q.length + q.after ≡ p.length + p.after)) → IfSome o (λ q. q.after ≤ p.after) → IfSome o (λ q. length (parts_left cs us q) ≤ length (parts_left cs us p))
  here-left None same later = tt
  here-left (Some q) same later =
      let behind : length (others cs us q) ≡ length (others cs us p) = ap₂ (λ o n. length (parts_behind cs us o.characters n)) same.0 same.1 in
      omega (arith, length-left q, length-left p, behind, later)

  -- fewer are left from the next place on
  pub behind-left : (o : Option Part) → IfSome o (λ q. others cs us p ≡ parts_left cs us q) → IfSome o (λ q. length (parts_left cs us q) < length (parts_left cs us p))
  behind-left None is = tt
  behind-left (Some q) is = omega (arith, length-left p, ap length is)

  pub none-here : fitting (beside cs us p) ≡ [] → fitting (parts_left cs us p) ≡ fitting (others cs us p)
  none-here e = fitting-append (beside cs us p) (others cs us p) ∙ ap (λ l. l ++ fitting (others cs us p)) e

  pub none-here-if : (o : Option Part) → IfNone o (fitting (beside cs us p) ≡ []) → IfNone o (fitting (parts_left cs us p) ≡ fitting (others cs us p))
  none-here-if None e = none-here e
  none-here-if (Some q) e = tt
