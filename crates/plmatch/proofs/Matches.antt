-- A pattern and a message put on a heap, and unified there.
use Rattle.std.proofs.Common.{◌≡◌, ℕ, ◌+◌, ◌<◌, ◌≤◌, Bool, true, false, Option, Some, None, Result, Ok, Err, length, refl, sym, ap, ap₂, ◌∙◌, arith, zero-add}
use Rattle.std.specs.Option.{is_some}
use Rattle.std.specs.Result.{IfOk}
use Rattle.plterm.specs.Tree.{Tree, var}
use Rattle.plterm.specs.Variables.{variables}
use Rattle.plsubst.specs.Subst.{bind, shift}
use Rattle.plsubst.specs.Unify.{unify}
use Rattle.plsubst.proofs.Unify.{bind-var}
use Rattle.plcells.specs.Store.{Store, value, IsValue, IsFresh}
use Rattle.plpacked.specs.declared.putting.Put.{Put}
use Rattle.plpacked.specs.Putting.{PutsWhole}
use Rattle.plbind.specs.Unifying.{Unified}
use Rattle.plmatch.specs.Matching.{fits}

answer_is : (b : Bool) (r : Option (ℕ → Tree)) → (b ≡ true → (σ : ℕ → Tree) × (r ≡ Some σ)) → (b ≡ false → r ≡ None) → b ≡ is_some r
answer_is true r on_true on_false = let found = on_true refl in sym (ap is_some found.1)
answer_is false r on_true on_false = sym (ap is_some (on_false refl))

shift-none : (t : Tree) → shift 0 t ≡ t
shift-none t = ap (λ (σ : ℕ → Tree). bind σ t) (λ i x. var (zero-add x i)) ∙ bind-var t

module _ (h h1 : Store) (p : Tree) (put : Put) (first : PutsWhole h h1 p 0 put) where
  -- the numbers behind those of the pattern are free
  pub next-fresh : ((n : ℕ) → IsFresh h n) → (n : ℕ) → put.variables ≤ n → IsFresh h1 n
  next-fresh free n le = first.fresh n (free n) (λ from to. omega (arith, le, to))

  module _ (h2 : Store) (m : Tree) (put' : Put) (second : PutsWhole h1 h2 m put.variables put') where
    pub pattern-fits : IsValue h2 put.value
    pattern-fits = (second.preserves.values put.value first.fits).0

    are : unify (value h2 put.value) (value h2 put'.value) ≡ unify p (shift (length (variables p)) m)
    are =
        let pattern = (second.preserves.values put.value first.fits).1 ∙ first.is ∙ shift-none p in
        let message = second.is ∙ ap (λ (n : ℕ). shift n m) first.count in
        ap₂ unify pattern message

    pub matches-is : (h3 : Store) (b : Bool) → (b ≡ true → Unified h2 h3 (value h2 put.value) (value h2 put'.value)) → (b ≡ false → unify (value h2 put.value) (value h2 put'.value) ≡ None) → b ≡ fits p m
    matches-is h3 b on_true on_false =
        answer_is b (unify p (shift (length (variables p)) m))
        (λ e. let u = on_true e in (u.unifier, sym are ∙ u.is))
        (λ e. sym are ∙ on_false e)

    pub result-is : {E : Type 0} (h3 : Store) (r : Result Bool E) → IfOk r (λ b. b ≡ true → Unified h2 h3 (value h2 put.value) (value h2 put'.value)) → IfOk r (λ b. b ≡ false → unify (value h2 put.value) (value h2 put'.value) ≡ None) → IfOk r (λ b. b ≡ fits p m)
    result-is h3 (Ok b) on_true on_false = matches-is h3 b on_true on_false
    result-is h3 (Err e) on_true on_false = tt
