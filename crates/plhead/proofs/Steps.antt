-- Steps of the solution of equations.
use Rattle.std.proofs.Common.{◌≡◌, ℕ, ◌<◌, Bool, false, List, [], ◌∷◌, ◌++◌, sym, subst, append-nil, None, Result, Ok, Err, IfOk}
use Rattle.plterm.specs.Tree.{Tree}
use Rattle.plsubst.specs.Subst.{bind}
use Rattle.plsubst.specs.Unify.{unify}
use Rattle.plcells.specs.declared.cell.Cell.{Cell}
use Rattle.plcells.specs.Store.{value}
use Rattle.plcells.proofs.Searching.{weight-some}
use Rattle.plcode.specs.declared.node.Node.{Node}
use Rattle.plcode.specs.Nodes.{IsSound}
use Rattle.plcode.specs.Laying.{IsLaid}
use Rattle.plcode.proofs.Values.{IsSound-names}
use Rattle.plenv.specs.Env.{Env, over}
use Rattle.plenv.specs.Changes.{Keeps}
use Rattle.plenv.specs.Rows.{tree_at}
use Rattle.plhead.specs.declared.compare.Verdict.{Verdict}
use Rattle.plhead.specs.declared.compare.Verdict.TheVariants.{Same, Clash, Args}
use Rattle.plhead.specs.Equations.{Terms, left, right, weigh, IsEquation, AreEquations, Pushes}
use Rattle.plhead.specs.Fitting.{Answers, Comes, HasArgs, Stands}
use Rattle.plhead.specs.Progress.{Ends, Onward, Reduces}
use Rattle.plhead.proofs.Trees.{tree-names}
use Rattle.plhead.proofs.Listing.{equations-both, equations-left, equations-right, equations-swap, reduced-lighter}
use Rattle.plhead.proofs.Solving.{came-on, ended, equations-after, never-solved, swapped, unified}
use Rattle.plhead.proofs.Rows.{split}

-- nodes stand for the same under the names that there are now
module _ (old e : Env) (nodes : List Node) (laid : IsLaid old.heap.names nodes) (keeps : Keeps old e) where
  terms-now : tree_at e.heap.names nodes ≡ tree_at old.heap.names nodes
  terms-now = λ j i. tree-names old.heap.names e.heap.names nodes keeps.names laid i j

  pub sound-now : IsSound e.heap.names nodes
  sound-now = IsSound-names old.heap.names e.heap.names keeps.names laid.table nodes laid.sound

  reduces-then : (new : Env) (base : ℕ) (p : ℕ × Cell) (before after : List (ℕ × Cell)) → Reduces e new base nodes (tree_at e.heap.names nodes) p before after → Reduces e new base nodes (tree_at old.heap.names nodes) p before after
  reduces-then new base p before after r = subst (λ (w : Terms). Reduces e new base nodes w p before after) terms-now r

  none-then : (base : ℕ) (p : ℕ × Cell) → unify (left e base (tree_at e.heap.names nodes) p) (right e p) ≡ None → unify (left e base (tree_at old.heap.names nodes) p) (right e p) ≡ None
  none-then base p u = subst (λ (w : Terms). unify (left e base w p) (right e p) ≡ None) terms-now u

  -- where equations gave way to others, their answer is that of the others
  pub stood-onward : (new : Env) (base : ℕ) (before after : List (ℕ × Cell)) → Onward old e base nodes (tree_at old.heap.names nodes) before after → {E : Type 0} (r : Result Bool E) → IfOk r (Ends e new base (tree_at e.heap.names nodes) after) → IfOk r (λ fits. (s t : Tree) → Stands old base (tree_at old.heap.names nodes) before s t → Answers old new s t fits)
  stood-onward new base before after on (Ok fits) ends =
      let w = tree_at old.heap.names nodes in
      let now = subst (λ (w : Terms). Ends e new base w after fits) terms-now ends in
      ended old new base w before fits (λ start s t come. now start s t (on.progress start s t come))
  stood-onward new base before after on (Err x) ends = tt

  pub equations-now : (base : ℕ) (work : List (ℕ × Cell)) → AreEquations e base nodes (tree_at old.heap.names nodes) work → AreEquations e base nodes (tree_at e.heap.names nodes) work
  equations-now base work u = subst (λ (w : Terms). AreEquations e base nodes w work) (sym terms-now) u

-- what an equation came to
module _ (e new : Env) (base : ℕ) (nodes : List Node) (at : ℕ) (v : Cell) (before : List (ℕ × Cell)) (r : Verdict)
    (comes : Comes e new nodes (tree_at e.heap.names nodes) (tree_at e.heap.names nodes at) (bind (over e base) (tree_at e.heap.names nodes at)) (value e.heap v) r) where
  it_came : (q : Verdict) → r ≡ q → Comes e new nodes (tree_at e.heap.names nodes) (tree_at e.heap.names nodes at) (bind (over e base) (tree_at e.heap.names nodes at)) (value e.heap v) q
  it_came q is =
      let w = tree_at e.heap.names nodes in
      subst (Comes e new nodes w (w at) (bind (over e base) (w at)) (value e.heap v)) is comes

  pub alone-met : r ≡ Same → Reduces e new base nodes (tree_at e.heap.names nodes) (at, v) before before
  unfolding Comes
  alone-met is =
      let w = tree_at e.heap.names nodes in
      record {
        added = [];
        items = sym (append-nil before);
        equations = tt;
        progress = unified e new base w (left e base w (at, v)) (right e (at, v)) (it_came Same is);
        lighter = weight-some (w at);
      }

  pub alone-never : r ≡ Clash → unify (left e base (tree_at e.heap.names nodes) (at, v)) (right e (at, v)) ≡ None
  unfolding Comes
  alone-never is = it_came Clash is

  module _ (i c k : ℕ) (is : r ≡ Args i c k) where
    parts : HasArgs e.heap nodes (tree_at e.heap.names nodes) (tree_at e.heap.names nodes at) (value e.heap v) i c k × (new ≡ e)
    unfolding Comes
    parts = it_came (Args i c k) is

    pub alone-args : HasArgs new.heap nodes (tree_at e.heap.names nodes) (tree_at e.heap.names nodes at) (value e.heap v) i c k
    alone-args = subst (λ (x : Env). HasArgs x.heap nodes (tree_at e.heap.names nodes) (tree_at e.heap.names nodes at) (value e.heap v) i c k) (sym parts.1) parts.0

    pub alone-split : (after : List (ℕ × Cell)) → IsEquation e base nodes (tree_at e.heap.names nodes) (at, v) → Pushes new.heap before after i c k → Reduces e new base nodes (tree_at e.heap.names nodes) (at, v) before after
    alone-split after top pushed =
        let w = tree_at e.heap.names nodes in
        let pushed_then = subst (λ (x : Env). Pushes x.heap before after i c k) parts.1 pushed in
        subst (λ x. Reduces e x base nodes w (at, v) before after) (sym parts.1) (split e base w nodes i c k at v parts.0 before after pushed_then top)

-- the order of the equations does not matter
pub onward-swap : (old e : Env) (base : ℕ) (nodes : List Node) (w : Terms) (before ps qs rs : List (ℕ × Cell)) → Onward old e base nodes w before ((ps ++ qs) ++ rs) → Onward old e base nodes w before ((ps ++ rs) ++ qs)
onward-swap old e base nodes w before ps qs rs on = record {
  equations = equations-swap e base nodes w ps qs rs on.equations;
  progress = λ start s t come. swapped start e base w s t ps qs rs (on.progress start s t come);
}

-- an equation was taken off, and gave way to others
module _ (old e : Env) (base : ℕ) (nodes : List Node) (laid : IsLaid old.heap.names nodes) (keeps : Keeps old e)
    (before work rest : List (ℕ × Cell)) (p : ℕ × Cell) (taken : work ≡ rest ++ p ∷ []) (on : Onward old e base nodes (tree_at old.heap.names nodes) before work) where
  both : AreEquations e base nodes (tree_at old.heap.names nodes) (rest ++ p ∷ [])
  both = subst (AreEquations e base nodes (tree_at old.heap.names nodes)) taken on.equations

  left_over : AreEquations e base nodes (tree_at old.heap.names nodes) rest
  left_over = equations-left e base nodes (tree_at old.heap.names nodes) rest (p ∷ []) both

  pub top : IsEquation e base nodes (tree_at e.heap.names nodes) p
  top = (equations-now old e nodes laid keeps base (p ∷ []) (equations-right e base nodes (tree_at old.heap.names nodes) rest (p ∷ []) both)).0

  pub never : (new : Env) → unify (left e base (tree_at e.heap.names nodes) p) (right e p) ≡ None → Ends old new base (tree_at old.heap.names nodes) before false
  unfolding Answers
  never new is = λ start s t come.
      never-solved start e new base (tree_at old.heap.names nodes) nodes s t work rest p taken left_over (on.progress start s t come) (none-then old e nodes laid keeps base p is)

  module _ (new : Env) (after : List (ℕ × Cell)) (r : Reduces e new base nodes (tree_at e.heap.names nodes) p rest after) where
    reduces : Reduces e new base nodes (tree_at old.heap.names nodes) p rest after
    reduces = reduces-then old e nodes laid keeps new base p rest after r

    onward-last : Onward old new base nodes (tree_at old.heap.names nodes) before (rest ++ reduces.added)
    onward-last =
        let w = tree_at old.heap.names nodes in
        record {
          equations = equations-both new base nodes w rest reduces.added (equations-after e new reduces.progress.put_for reduces.progress.made base w nodes rest left_over) reduces.equations;
          progress = λ start s t come. came-on start e new base w nodes s t work rest p taken left_over (on.progress start s t come) reduces.added reduces.progress;
        }

    pub onward : Onward old new base nodes (tree_at old.heap.names nodes) before after
    onward = subst (Onward old new base nodes (tree_at old.heap.names nodes) before) (sym reduces.items) onward-last

    pub lighter : weigh (tree_at old.heap.names nodes) after < weigh (tree_at old.heap.names nodes) work
    lighter = reduced-lighter (tree_at old.heap.names nodes) work rest after reduces.added p taken reduces.items reduces.lighter
