-- Goals of arithmetic predicates that stand in clauses.
use Rattle.std.proofs.Common.{◌≡◌, ℕ, List, [], ◌∷◌, Option, Some, None, refl, sym, ap, ◌∙◌, subst}
use Rattle.std.specs.Prelude.{IfNone}
use Rattle.plterm.specs.Tree.{Tree, compound, trees}
use Rattle.plterm.specs.declared.indicator.Indicator.{Indicator}
use Rattle.plsubst.specs.Subst.{bind}
use Rattle.plsubst.proofs.Unify.{compound-name}
use Rattle.platoms.specs.Names.{IsTable, Extends}
use Rattle.plnames.specs.Names.{kind_of}
use Rattle.plnames.specs.declared.kind.Arithmetic.{Arithmetic}
use Rattle.plnames.specs.declared.kind.Kind.TheVariants as kinds
use Rattle.plnames.specs.declared.kind.BuiltIn.TheVariants as predicates
use Rattle.plcode.specs.declared.callee.Callee.{Callee}
use Rattle.plcode.specs.declared.callee.Callee.TheVariants as callees
use Rattle.plcode.specs.declared.callee.Number.TheVariants.{Functor}
use Rattle.plcode.specs.Callees.{callee_at, IsCallee}
use Rattle.plcode.specs.Nodes.{row}
use Rattle.plcode.specs.Steps.{renamed, Text}
use Rattle.plprogram.specs.Program.{Program}
use Rattle.plsearch.specs.Forms.{form, form_by, BuiltIn}
use Rattle.plenv.specs.Env.{over}
use Rattle.plexpression.specs.Nodes.{IsOffHeap}
use Rattle.plexpression.specs.declared.pair.Pair.{Pair}
use Rattle.pllinks.specs.declared.item.ClauseGoals.{ClauseGoals}
use Rattle.plstack.specs.Arguments.{IsArgument, IsPair}
use Rattle.plstack.specs.State.{State}
use Rattle.plmachine.specs.declared.arithmetic.Calculation.{Calculation}
use Rattle.plmachine.specs.declared.machine.Machine.{Machine as Reached}
use Rattle.plmachine.specs.declared.select.Source.TheVariants.{Node}
use Rattle.plmachine.specs.Calculating.{IsArithmetic, IsCalculation, NeedsNoCell}
use Rattle.plmachine.specs.Machine.{IsBegun}
use Rattle.plmachine.specs.Selected.{bound_at}

-- the form of a goal of two arguments whose functor is that of an arithmetic predicate
form-pair : (name : List ℕ) (l r : Tree) (b : Arithmetic) → kind_of name 2 ≡ Some (kinds.BuiltIn (predicates.Arithmetic b)) → form (compound name (trees (l ∷ r ∷ []))) ≡ BuiltIn (predicates.Arithmetic b) (l ∷ r ∷ [])
form-pair name l r b kind = ap (λ k. form_by k (record { name = name; arity = 2 }) (l ∷ r ∷ [])) kind

bind-pair : (σ : ℕ → Tree) (name : List ℕ) (l r : Tree) → bind σ (compound name (trees (l ∷ r ∷ []))) ≡ compound name (trees (bind σ l ∷ bind σ r ∷ []))
unfolding bind
bind-pair σ name l r = refl

-- the form of a goal of an arithmetic predicate
pub form-arithmetic : (t : Tree) (a : IsArithmetic t) → form t ≡ BuiltIn (predicates.Arithmetic a.predicate) (a.left ∷ a.right ∷ [])
form-arithmetic t a = ap form a.is ∙ form-pair a.name a.left a.right a.predicate a.kind

bound-arithmetic : (σ : ℕ → Tree) (t : Tree) (a : IsArithmetic t) → form (bind σ t) ≡ BuiltIn (predicates.Arithmetic a.predicate) (bind σ a.left ∷ bind σ a.right ∷ [])
bound-arithmetic σ t a = ap form (ap (bind σ) a.is ∙ bind-pair σ a.name a.left a.right) ∙ form-pair a.name (bind σ a.left) (bind σ a.right) a.predicate a.kind

module _ (P : Program) (s : Reached) (begun : IsBegun P s) (more : Extends s.stack.basis.code.text.names s.stack.env.heap.names) (table : IsTable s.stack.env.heap.names) (r : ClauseGoals) (u : Tree) (p : Pair) (pair : IsPair s.stack r u p) where
  abbrev own_text : Text
  own_text = renamed s.stack.env.heap.names s.stack.basis.code.text

  abbrev own_indicator : Indicator
  own_indicator = record { name = pair.name; arity = 2 }

  -- what is called by the functor of a pair
  own-callee : (k : Callee) → callee_at s.stack.basis.code.callees (Functor p.functor) ≡ k → IsCallee own_text s.stack.basis.code.procedures P own_indicator k
  own-callee k at = subst (IsCallee own_text s.stack.basis.code.procedures P own_indicator) at (begun.callees s.stack.env.heap.names more table (Functor p.functor) own_indicator pair.procedure)

  pub calculation-is : (at : ℕ) (t : Tree) (b : Arithmetic) → IsArgument s.stack r at u → bound_at s.stack r u ≡ t →
      callee_at s.stack.basis.code.callees (Functor p.functor) ≡ callees.BuiltIn (predicates.Arithmetic b) → IsCalculation s.stack (record { predicate = b; run = r; node = at; left = p.left; right = p.right }) t
  calculation-is at t b is_one bound callee =
      let kind : kind_of pair.name 2 ≡ Some (kinds.BuiltIn (predicates.Arithmetic b)) = own-callee (callees.BuiltIn (predicates.Arithmetic b)) callee in
      let σ = over s.stack.env r.base in
      record {
        left = pair.left;
        right = pair.right;
        left_there = pair.left_there;
        right_there = pair.right_there;
        stands = (u, is_one, bound);
        pair = (pair.name, pair.is);
        is = ap form (sym bound ∙ ap (bind σ) pair.is ∙ bind-pair σ pair.name pair.left pair.right) ∙ form-pair pair.name (bind σ pair.left) (bind σ pair.right) b kind;
      }

  -- a pair with the functor of an arithmetic predicate calls that
  pub arithmetic-callee : (a : IsArithmetic u) → callee_at s.stack.basis.code.callees (Functor p.functor) ≡ callees.BuiltIn (predicates.Arithmetic a.predicate)
  arithmetic-callee a = go (callee_at s.stack.basis.code.callees (Functor p.functor)) (own-callee _ refl)
    where
      named : kind_of pair.name 2 ≡ Some (kinds.BuiltIn (predicates.Arithmetic a.predicate))
      named = ap (λ name. kind_of name 2) (compound-name (sym pair.is ∙ a.is)) ∙ a.kind

      go : (k : Callee) → IsCallee own_text s.stack.basis.code.procedures P own_indicator k → k ≡ callees.BuiltIn (predicates.Arithmetic a.predicate)
      go (callees.Control c) kind = let d : Some (kinds.Control c) ≡ Some (kinds.BuiltIn (predicates.Arithmetic a.predicate)) = sym kind ∙ named in absurd (cc)
      go (callees.BuiltIn b) kind = let d : Some (kinds.BuiltIn b) ≡ Some (kinds.BuiltIn (predicates.Arithmetic a.predicate)) = sym kind ∙ named in let same : b ≡ predicates.Arithmetic a.predicate = cc in ap callees.BuiltIn same
      go (callees.Static i) static = let d : None ≡ Some (kinds.BuiltIn (predicates.Arithmetic a.predicate)) = sym static.free ∙ named in absurd (cc)
      go callees.Unknown none = let d : None ≡ Some (kinds.BuiltIn (predicates.Arithmetic a.predicate)) = sym none.0 ∙ named in absurd (cc)

-- the node of a source
pub node-of : (r q : ClauseGoals) (i j : ℕ) → Node r i ≡ Node q j → i ≡ j
node-of r q i j same = cc

pub if-none : {A X : Type 0} (o : Option A) → X → IfNone o X
if-none (Some a) x = tt
if-none None x = x

-- a node stands for one term
one-term : (s : State) (r q : ClauseGoals) (i j : ℕ) (t u : Tree) → i ≡ j → IsArgument s r i t → IsArgument s q j u → t ≡ u
one-term s r q i j t u same left right =
    let rows = sym left.stand.terms ∙ ap (λ k. row s.basis.code.text.names s.basis.code.text.nodes k 1) same ∙ right.stand.terms in
    let heads : t ∷ [] ≡ u ∷ [] = rows in
    cc

-- a goal of an arithmetic predicate that stands in a clause, as it is found
pub found-needs : (s : State) (r : ClauseGoals) (node : ℕ) (t : Tree) (k : Calculation) (c : IsCalculation s k (bound_at s r t)) (a : IsArithmetic t) → Node r node ≡ Node k.run k.node → IsArgument s r node t →
    NeedsNoCell s r a.predicate a.left a.right → NeedsNoCell s k.run k.predicate c.left c.right
found-needs s r node t k c a source there needs =
    let run : r ≡ k.run = cc in
    let at : node ≡ k.node = cc in
    let one : t ≡ c.stands.0 = one-term s r k.run node k.node t c.stands.0 at there c.stands.1 in
    let same : compound a.name (trees (a.left ∷ a.right ∷ [])) ≡ compound c.pair.0 (trees (c.left ∷ c.right ∷ [])) = sym a.is ∙ one ∙ c.pair.1 in
    let left : a.left ≡ c.left = cc in
    let right : a.right ≡ c.right = cc in
    let forms : BuiltIn (predicates.Arithmetic a.predicate) (bound_at s r a.left ∷ bound_at s r a.right ∷ []) ≡ BuiltIn (predicates.Arithmetic k.predicate) (bound_at s k.run c.left ∷ bound_at s k.run c.right ∷ []) =
    sym (bound-arithmetic (over s.env r.base) t a) ∙ c.is in
    let predicate : a.predicate ≡ k.predicate = cc in
    subst (λ x. NeedsNoCell s x k.predicate c.left c.right) run
    (subst (λ b. NeedsNoCell s r b c.left c.right) predicate
    (subst (λ x. NeedsNoCell s r a.predicate x c.right) left (subst (NeedsNoCell s r a.predicate a.left) right needs)))

-- what leaves the heap as it is for a term that stands for no variable there, from where nothing has changed yet
pub off-heap-from : (s t : Reached) (new : State) (base : ℕ) (u : Tree) → t ≡ s → IsOffHeap s.stack.env base u → (IsOffHeap t.stack.env base u → new.env.heap ≡ t.stack.env.heap) → new.env.heap ≡ s.stack.env.heap
off-heap-from s t new base u same off kept = kept (subst (λ (x : Reached). IsOffHeap x.stack.env base u) (sym same) off) ∙ ap (λ (x : Reached). x.stack.env.heap) same
