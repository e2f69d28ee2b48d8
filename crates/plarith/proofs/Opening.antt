-- What terms are seen to be.
use Rattle.std.proofs.Common.{◌≡◌, ℕ, zero, suc, ◌<◌, ℤ, List, [], ◌∷◌, length, Option, Some, None, option_map, Ok, Err, refl, sym, ap, ◌∙◌, arith}
use Rattle.std.proofs.lemmas.List.Elements.{All-nil, All-cons}
use Rattle.plterm.specs.Tree.{Tree, var, int, atom, compound, none, more, trees}
use Rattle.plcells.specs.Walking.{weight}
use Rattle.plarith.specs.declared.error.ArithError.TheVariants.{Unbound}
use Rattle.platoms.specs.declared.evaluable.Unary.{Unary}
use Rattle.platoms.specs.declared.evaluable.Binary.{Binary}
use Rattle.plarith.specs.declared.operand.Operand.{Operand}
use Rattle.plarith.specs.declared.operand.Opened.TheVariants.{Known, One, Two}
use Rattle.platoms.specs.declared.evaluable.Operation.TheVariants as ops
use Rattle.platoms.specs.Evaluable.{unary_of, binary_of, operation_of}
use Rattle.plarith.specs.Errors.{Evaluated}
use Rattle.plarith.specs.Evaluation.{eval, eval_all, by_one, by_two, combined, not_evaluable}
use Rattle.plarith.specs.Operands.{Opens}

-- what an operation tells of the functor
no_one : (o : Option Unary) → option_map ops.One o ≡ None → o ≡ None
no_one None e = refl
no_one (Some f) e = absurd (cc)

no_two : (o : Option Binary) → option_map ops.Two o ≡ None → o ≡ None
no_two None e = refl
no_two (Some f) e = absurd (cc)

only_one : (o : Option Unary) (f : Unary) → option_map ops.One o ≡ Some (ops.One f) → o ≡ Some f
only_one None f e = absurd (cc)
only_one (Some g) f e = cc

only_two : (o : Option Binary) (f : Binary) → option_map ops.Two o ≡ Some (ops.Two f) → o ≡ Some f
only_two None f e = absurd (cc)
only_two (Some g) f e = cc

not_one : (o : Option Unary) (f : Binary) → option_map ops.One o ≡ Some (ops.Two f) → ⊥
not_one None f e = absurd (cc)
not_one (Some g) f e = absurd (cc)

not_two : (o : Option Binary) (f : Unary) → option_map ops.Two o ≡ Some (ops.One f) → ⊥
not_two None f e = absurd (cc)
not_two (Some g) f e = absurd (cc)

pub is_one : (name : List ℕ) (k : ℕ) (f : Unary) → operation_of name k ≡ Some (ops.One f) → (k ≡ 1) × (unary_of name ≡ Some f)
is_one name zero f e = absurd (cc)
is_one name (suc zero) f e = (refl, only_one (unary_of name) f e)
is_one name (suc (suc zero)) f e = absurd (not_two (binary_of name) f e)
is_one name (suc (suc (suc k))) f e = absurd (cc)

pub is_two : (name : List ℕ) (k : ℕ) (f : Binary) → operation_of name k ≡ Some (ops.Two f) → (k ≡ 2) × (binary_of name ≡ Some f)
is_two name zero f e = absurd (cc)
is_two name (suc zero) f e = absurd (not_one (unary_of name) f e)
is_two name (suc (suc zero)) f e = (refl, only_two (binary_of name) f e)
is_two name (suc (suc (suc k))) f e = absurd (cc)

module _ (w : Operand → Tree) (P : Operand → Type 0) where
  known : (t : Tree) (r : Evaluated) → r ≡ eval t → 0 < weight t → Opens w P t (Known r)
  known t r is some = record { is = is; there = All-nil P; lighter = some }

  pub opens_unbound : (t : Tree) (n : ℕ) → t ≡ var n → Opens w P t (Known (Err Unbound))
  unfolding eval weight
  opens_unbound t n e = known t (Err Unbound) (sym (ap eval e)) (omega (arith, ap weight e))

  pub opens_integer : (t : Tree) (i : ℤ) → t ≡ int i → Opens w P t (Known (Ok i))
  unfolding eval weight
  opens_integer t i e = known t (Ok i) (sym (ap eval e)) (omega (arith, ap weight e))

  pub opens_atom : (t : Tree) (name : List ℕ) → t ≡ atom name → Opens w P t (Known (not_evaluable name 0))
  unfolding eval weight
  opens_atom t name e = known t (not_evaluable name 0) (sym (ap eval e)) (omega (arith, ap weight e))

  pub opens_one : (t : Tree) (name : List ℕ) (f : Unary) (p : Operand) → unary_of name ≡ Some f → t ≡ compound name (more (w p) none) → P p → Opens w P t (One f p)
  unfolding eval weight
  opens_one t name f p is e there = record {
    is = sym (ap eval e ∙ ap (λ o. by_one o name (eval (w p))) is);
    there = All-cons P p [] there (All-nil P);
    lighter = omega (arith, ap weight e);
  }

  pub opens_two : (t : Tree) (name : List ℕ) (f : Binary) (p q : Operand) → binary_of name ≡ Some f → t ≡ compound name (more (w p) (more (w q) none)) → P p → P q → Opens w P t (Two f p q)
  unfolding eval weight
  opens_two t name f p q is e left right = record {
    is = sym (ap eval e ∙ ap (λ o. by_two o name (eval (w p)) (eval (w q))) is);
    there = All-cons P p (q ∷ []) left (All-cons P q [] right (All-nil P));
    lighter = omega (arith, ap weight e);
  }

  length-eval_all : (ts : List Tree) → length (eval_all (trees ts)) ≡ length ts
  unfolding eval
  length-eval_all [] = refl
  length-eval_all (t ∷ ts) = ap suc (length-eval_all ts)

  combined_none : (name : List ℕ) (rs : List Evaluated) → operation_of name (length rs) ≡ None → combined name rs ≡ not_evaluable name (length rs)
  combined_none name [] h = refl
  combined_none name (r ∷ []) h = ap (λ o. by_one o name r) (no_one (unary_of name) h)
  combined_none name (r ∷ s ∷ []) h = ap (λ o. by_two o name r s) (no_two (binary_of name) h)
  combined_none name (r ∷ s ∷ t ∷ rest) h = refl

  pub opens_none : (t : Tree) (name : List ℕ) (ts : List Tree) (k : ℕ) → t ≡ compound name (trees ts) → length ts ≡ k → operation_of name k ≡ None → Opens w P t (Known (not_evaluable name k))
  unfolding eval weight
  opens_none t name ts k e len h =
      let count = length-eval_all ts ∙ len in
      known t (not_evaluable name k)
      (ap (not_evaluable name) (sym count) ∙ sym (combined_none name (eval_all (trees ts)) (ap (operation_of name) count ∙ h)) ∙ sym (ap eval e))
      (omega (arith, ap weight e))
