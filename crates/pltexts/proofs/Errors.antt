-- The errors of arguments.
use Rattle.std.proofs.Common.{◌≡◌, ℕ, ℤ, pos, negsuc, Some, None, codes, true, false, true≢false, refl, sym, ap, ◌∙◌, arith}
use Rattle.std.specs.Prelude.{int_lt, int_le, if◌then◌else◌}
use Rattle.std.proofs.lemmas.Bool.{leb-false, ltb-true}
use Rattle.plterm.specs.Tree.{Tree, int}
use Rattle.plcells.specs.Store.{Store}
use Rattle.plerror.specs.Errors.{type_error, domain_error, permission_error}
use Rattle.plorder.specs.Shapes.{IsOfShape}
use Rattle.plorder.specs.declared.shape.Shape.{Shape}
use Rattle.plorder.specs.declared.shape.Shape.TheVariants.{Variable, Integer, Atom, Compound}
use Rattle.plops.specs.declared.error.OpError.{OpError}
use Rattle.plops.specs.declared.error.OpError.TheVariants as causes
use Rattle.plbuiltin.specs.Flags.{refused_as}
use Rattle.plorder.specs.declared.shape.Block.{Block}
use Rattle.plbuiltin.specs.Current.{priority_error}
use Rattle.plbuiltin.specs.Pieces.{atomic_error, count_error}

-- a number of characters
pub count_below : (t : Tree) (i : ℤ) → t ≡ int i → int_lt i (pos 0) ≡ true → count_error t ≡ Some (domain_error (codes "not_less_than_zero") t)
count_below t (pos n) is below = absurd (omega (arith, ltb-true n 0 below))
count_below t (negsuc n) is below = ap count_error is ∙ sym (ap (λ u. Some (domain_error (codes "not_less_than_zero") u)) is)

pub count_natural : (t : Tree) (i : ℤ) → t ≡ int i → int_lt i (pos 0) ≡ false → count_error t ≡ None
count_natural t (pos n) is natural = ap count_error is
count_natural t (negsuc n) is natural = absurd (true≢false natural)

pub no_count : (h : Store) (t : Tree) (shape : Shape) → IsOfShape h t shape → ((x : ℕ) → shape ≡ Variable x → ⊥) → ((i : ℤ) → shape ≡ Integer i → ⊥) → count_error t ≡ Some (type_error (codes "integer") t)
no_count h t (Variable x) is no_variable no_integer = absurd (no_variable x refl)
no_count h t (Integer i) is no_variable no_integer = absurd (no_integer i refl)
no_count h t (Atom x) is no_variable no_integer = ap count_error is.2 ∙ sym (ap (λ u. Some (type_error (codes "integer") u)) is.2)
no_count h t (Compound b) is no_variable no_integer = let e = is.2 ∙ is.1.is in ap count_error e ∙ sym (ap (λ u. Some (type_error (codes "integer") u)) e)

-- a variable, an atom or an integer
pub atomic : (h : Store) (t : Tree) (shape : Shape) → IsOfShape h t shape → ((b : Block) → shape ≡ Compound b → ⊥) → atomic_error t ≡ None
atomic h t (Variable x) is other = ap atomic_error is
atomic h t (Integer i) is other = ap atomic_error is
atomic h t (Atom x) is other = ap atomic_error is.2
atomic h t (Compound b) is other = absurd (other b refl)

pub not_atomic : (h : Store) (t : Tree) (b : Block) → IsOfShape h t (Compound b) → atomic_error t ≡ Some (type_error (codes "atomic") t)
not_atomic h t b is = let e = is.2 ∙ is.1.is in ap atomic_error e ∙ sym (ap (λ u. Some (type_error (codes "atomic") u)) e)

-- a priority
pub priority_within : (t : Tree) (i : ℤ) → t ≡ int i → int_le (pos 0) i ≡ true → int_le i (pos 1200) ≡ true → priority_error t ≡ None
priority_within t (pos n) is least most = ap priority_error is ∙ ap (λ b. if b then None else Some (domain_error (codes "operator_priority") (int (pos n)))) most
priority_within t (negsuc n) is least most = absurd (true≢false (sym least))

pub priority_above : (t : Tree) (i : ℤ) → t ≡ int i → int_le (pos 0) i ≡ true → int_le i (pos 1200) ≡ false → priority_error t ≡ Some (domain_error (codes "operator_priority") t)
priority_above t (pos n) is least most =
    ap priority_error is ∙ ap (λ b. if b then None else Some (domain_error (codes "operator_priority") (int (pos n)))) most ∙ sym (ap (λ u. Some (domain_error (codes "operator_priority") u)) is)
priority_above t (negsuc n) is least most = absurd (true≢false (sym least))

pub priority_below : (t : Tree) (i : ℤ) → t ≡ int i → int_le (pos 0) i ≡ false → priority_error t ≡ Some (domain_error (codes "operator_priority") t)
priority_below t (pos n) is least = absurd (omega (arith, leb-false 0 n least))
priority_below t (negsuc n) is least = ap priority_error is ∙ sym (ap (λ u. Some (domain_error (codes "operator_priority") u)) is)

pub no_priority : (h : Store) (t : Tree) (shape : Shape) → IsOfShape h t shape → ((x : ℕ) → shape ≡ Variable x → ⊥) → ((i : ℤ) → shape ≡ Integer i → ⊥) → priority_error t ≡ Some (domain_error (codes "operator_priority") t)
no_priority h t (Variable x) is no_variable no_integer = absurd (no_variable x refl)
no_priority h t (Integer i) is no_variable no_integer = absurd (no_integer i refl)
no_priority h t (Atom x) is no_variable no_integer = ap priority_error is.2 ∙ sym (ap (λ u. Some (domain_error (codes "operator_priority") u)) is.2)
no_priority h t (Compound b) is no_variable no_integer = let e = is.2 ∙ is.1.is in ap priority_error e ∙ sym (ap (λ u. Some (domain_error (codes "operator_priority") u)) e)

-- a name that is not made an operator
pub refused_other : (cause : OpError) (name : Tree) → (cause ≡ causes.Comma → ⊥) → refused_as cause name ≡ permission_error (codes "create") (codes "operator") name
refused_other causes.Priority name other = refl
refused_other causes.Comma name other = absurd (other refl)
refused_other causes.Reserved name other = refl
refused_other causes.InfixPostfix name other = refl
refused_other causes.NoMemory name other = refl
