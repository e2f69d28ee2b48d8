-- Compounds of a heap.
use Rattle.std.proofs.Common.{◌≡◌, ℕ, zero, suc, ◌+◌, List, Some, None, length, refl, sym, ap, ap₂, ◌∙◌, arith}
use Rattle.plterm.specs.Tree.{Tree, compound, none, more, trees}
use Rattle.platoms.specs.declared.evaluable.Unary.{Unary}
use Rattle.platoms.specs.declared.evaluable.Binary.{Binary}
use Rattle.platoms.specs.declared.evaluable.Operation.TheVariants as ops
use Rattle.platoms.specs.Evaluable.{operation_of}
use Rattle.platoms.specs.Names.{functor_name, operation_at}
use Rattle.plcells.specs.declared.cell.Cell.{Cell}
use Rattle.plcells.specs.Store.{Store, term, terms, spread, value, IsValue, IsBlock}
use Rattle.plarith.specs.declared.operand.Operand.TheVariants.{Value}
use Rattle.plarith.specs.declared.operand.Opened.TheVariants.{Known, One, Two}
use Rattle.plarith.specs.Evaluation.{not_evaluable}
use Rattle.plarith.specs.Operands.{Opens}
use Rattle.plarith.specs.Values.{IsOperand, tree}
use Rattle.plarith.proofs.Opening.{is_one, is_two, opens_one, opens_two, opens_none}

length-spread : (w : ℕ → Tree) (k c : ℕ) → length (spread w c k) ≡ k
length-spread w zero c = refl
length-spread w (suc k) c = ap suc (length-spread w k (suc c))

module _ (h : Store) (p f k : ℕ) (block : IsBlock h p f k) where
  abbrev name : List ℕ
  name = functor_name h.names f

  shown : (j : ℕ) → k ≡ j → term h p ≡ compound name (trees (terms h (suc p) j))
  shown j e = block.is ∙ ap (λ i. compound name (trees (terms h (suc p) i))) e

  named : operation_at h.names f ≡ operation_of name k
  named = ap (operation_of name) block.arity

  pub block_of_one : (g : Unary) (v : Cell) → operation_at h.names f ≡ Some (ops.One g) → value h v ≡ term h (p + 1) → IsValue h v → Opens (tree h) (IsOperand h) (term h p) (One g (Value v))
  block_of_one g v is same fits =
      let one = is_one name k g (sym named ∙ is) in
      let first : term h (suc p) ≡ value h v = ap (term h) (omega arith) ∙ sym same in
      opens_one (tree h) (IsOperand h) (term h p) name g (Value v) one.1 (shown 1 one.0 ∙ ap (λ t. compound name (more t none)) first) fits

  pub block_of_two : (g : Binary) (v u : Cell) → operation_at h.names f ≡ Some (ops.Two g) → value h v ≡ term h (p + 1) → value h u ≡ term h (p + 2) → IsValue h v → IsValue h u → Opens (tree h) (IsOperand h) (term h p) (Two g (Value v) (Value u))
  block_of_two g v u is left right fits_left fits_right =
      let two = is_two name k g (sym named ∙ is) in
      let first : term h (suc p) ≡ value h v = ap (term h) (omega arith) ∙ sym left in
      let second : term h (suc (suc p)) ≡ value h u = ap (term h) (omega arith) ∙ sym right in
      opens_two (tree h) (IsOperand h) (term h p) name g (Value v) (Value u) two.1 (shown 2 two.0 ∙ ap₂ (λ s t. compound name (more s (more t none))) first second) fits_left fits_right

  pub block_of_none : operation_at h.names f ≡ None → Opens (tree h) (IsOperand h) (term h p) (Known (not_evaluable name k))
  block_of_none h0 = opens_none (tree h) (IsOperand h) (term h p) name (terms h (suc p) k) k (shown k refl) (length-spread (term h) k (suc p)) (sym named ∙ h0)
