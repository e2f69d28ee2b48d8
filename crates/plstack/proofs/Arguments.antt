-- The terms of a clause's goals, put under their slots.
use Rattle.std.proofs.Common.{◌≡◌, ℕ, ◌+◌, ◌<◌, ◌≤◌, List, [], ◌∷◌, length, get_or, refl, sym, ap, ◌∙◌, subst, arith}
use Rattle.plterm.specs.Tree.{Tree, var, compound, trees}
use Rattle.plterm.specs.Variables.{AllBelow}
use Rattle.platoms.specs.Names.{functor_name}
use Rattle.plcode.specs.declared.node.Node.{Node}
use Rattle.plcode.specs.Laying.{IsLaid, IsRow}
use Rattle.plcode.specs.Packed.{node_at, IsArgument as IsArgumentAt}
use Rattle.plcode.proofs.Placing.{Grows-refl}
use Rattle.plcode.proofs.Values.{IsRow-more}
use Rattle.plcode.proofs.Waiting.{IsLaid-names}
use Rattle.plenv.specs.declared.slot.Row.{Row}
use Rattle.plcells.proofs.Nodes.{bind-agree}
use Rattle.plenv.specs.Changes.{Extends}
use Rattle.plenv.specs.Env.{Env, over, Covers}
use Rattle.plenv.specs.Rows.{row_at, tree_at}
use Rattle.plenv.proofs.Rows.{row-tree}
use Rattle.plhead.proofs.Trees.{row-spread, tree-names}
use Rattle.plexpression.specs.Nodes.{IsNode, IsPair as IsPairAt}
use Rattle.plexpression.specs.declared.pair.Pair.{Pair}
use Rattle.pllinks.specs.declared.item.ClauseGoals.{ClauseGoals}
use Rattle.plstack.specs.State.{State, IsState}
use Rattle.plstack.specs.Arguments.{IsArgument, IsPair, KeepsArguments}

-- the nodes of the code, with the names of the heap
module _ (s : State) (is : IsState s) (laid : IsLaid s.basis.code.text.names s.basis.code.text.nodes) (nodes : List Node) (same : nodes ≡ s.basis.code.text.nodes) where
  pub laid-now : IsLaid s.env.heap.names nodes
  laid-now = subst (IsLaid s.env.heap.names) (sym same) (IsLaid-names s.basis.code.text.names s.env.heap.names s.basis.code.text.nodes is.names is.env.heap.names laid)

  module _ (r : ClauseGoals) (at : ℕ) (t : Tree) (is_one : IsArgument s r at t) where
    the-row : IsRow s.env.heap.names s.basis.code.text.nodes at 1 (t ∷ [])
    the-row = IsRow-more s.basis.code.text.names s.env.heap.names s.basis.code.text.nodes s.basis.code.text.nodes at 1 (t ∷ []) laid is.names (Grows-refl s.basis.code.text.nodes) is_one.stand

    abbrev one : Row
    one = record { at = at; count = 1 }

    pub one-within : at < length nodes
    one-within = omega (arith, the-row.within, ap length same)

    pub one-is : tree_at s.env.heap.names nodes at ≡ t
    one-is =
        let e : at + 0 ≡ at = omega arith in
        let within : at + 1 ≤ length nodes = omega (arith, one-within) in
        ap (tree_at s.env.heap.names nodes) (sym e)
        ∙ sym (row-tree s.env.heap.names nodes one within 0 (omega arith))
        ∙ ap (λ ts. get_or ts 0 (var 0)) (ap (λ ns. row_at s.env.heap.names ns one) same ∙ the-row.terms)

    pub one-whole : IsArgumentAt 0 at (node_at nodes at)
    one-whole = subst (λ ns. IsArgumentAt 0 at (node_at ns at)) (sym same) (the-row.whole at (omega arith) (omega arith))

    pub one-covers : Covers s.env r.base (tree_at s.env.heap.names nodes at)
    one-covers = subst (Covers s.env r.base) (sym one-is) (record { width = is_one.width; below = is_one.below; within = omega (arith, is_one.own, is_one.slots) })

    pub one-node : IsNode s.env nodes r.base at
    one-node = record { laid = laid-now; within = one-within; whole = one-whole; covers = one-covers }

  part : (r : ClauseGoals) (at width : ℕ) → IsNode s.env nodes r.base at → AllBelow width (tree_at s.env.heap.names nodes at) → r.base + width ≤ r.«end» → r.«end» ≤ length s.env.slots → IsArgument s r at (tree_at s.env.heap.names nodes at)
  part r at width node below own slots =
      let within : at + 1 ≤ length s.basis.code.text.nodes = omega (arith, node.within, ap length same) in
      let named = tree-names s.basis.code.text.names s.env.heap.names s.basis.code.text.nodes is.names laid at in
      record {
        stand = record {
          within = within;
          terms = row-spread s.basis.code.text.names s.basis.code.text.nodes at 1 within ∙ ap (λ u. u ∷ []) (sym named ∙ ap (λ ns. tree_at s.env.heap.names ns at) (sym same));
          whole = λ j low high.
              let only : at ≡ j = omega (arith, low, high) in
              subst (λ i. IsArgumentAt 0 i (node_at s.basis.code.text.nodes i)) only (subst (λ ns. IsArgumentAt 0 at (node_at ns at)) same node.whole);
        };
        width = width;
        below = below;
        own = own;
        slots = slots;
      }

  -- a compound of two arguments, or another term
  module _ (r : ClauseGoals) (at : ℕ) (t : Tree) (is_one : IsArgument s r at t) where
    pub pair-found : (p : Pair) → IsPairAt s.env nodes r.base at p → IsPair s r t p
    pair-found p q =
        let name = functor_name s.env.heap.names p.functor in
        let left = tree_at s.env.heap.names nodes p.left in
        let right = tree_at s.env.heap.names nodes p.right in
        let shown : t ≡ compound name (trees (left ∷ right ∷ [])) = sym (one-is r at t is_one) ∙ q.is in
        let below = subst (AllBelow is_one.width) shown is_one.below in
        record {
          name = name;
          left = left;
          right = right;
          left_there = part r p.left is_one.width q.left below.0 is_one.own is_one.slots;
          right_there = part r p.right is_one.width q.right below.1.0 is_one.own is_one.slots;
          procedure = record { within = q.known; name = refl; arity = q.arity };
          is = shown;
        }

    pub pair-none : ((f : List ℕ) (a b : Tree) → tree_at s.env.heap.names nodes at ≡ compound f (trees (a ∷ b ∷ [])) → ⊥) → (f : List ℕ) (a b : Tree) → t ≡ compound f (trees (a ∷ b ∷ [])) → ⊥
    pair-none never f a b e = never f a b (one-is r at t is_one ∙ e)

-- a change of the environment that keeps what is there
pub arguments-stay : (s : State) (e : Env) → Extends s.env e → KeepsArguments s (record s { env = e })
arguments-stay s e x r node t is = (
  record { stand = is.stand; width = is.width; below = is.below; own = is.own; slots = omega (arith, is.slots, x.slots) },
  bind-agree is.width (over e r.base) (over s.env r.base) (λ y lt. x.variables (r.base + y) (omega (arith, lt, is.own, is.slots))) t is.below,
)
