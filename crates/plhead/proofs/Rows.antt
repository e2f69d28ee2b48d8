-- Rows of equations: the arguments of two compounds, and those of a head.
use Rattle.std.proofs.Common.{◌≡◌, ℕ, zero, suc, ◌+◌, ◌<◌, ◌≤◌, List, [], ◌∷◌, length, map, refl, sym, ap, ◌∙◌, subst, arith, inl, inr, Bool, true, false, Result, Ok, Err, IfOk}
use Rattle.std.proofs.lemmas.Bool.{cases_eq}
use Rattle.std.proofs.lemmas.List.{length-map}
use Rattle.plterm.specs.Tree.{Tree, compound, more, trees}
use Rattle.plterm.specs.Variables.{AllBelow, EachBelow}
use Rattle.plsubst.specs.Subst.{bind, bind_all}
use Rattle.plsubst.proofs.Unify.{compound-parts}
use Rattle.plsubst.proofs.UnifyUnique.{unify-is}
use Rattle.plcells.specs.declared.cell.Cell.{Cell}
use Rattle.plcells.specs.Store.{term, value, spread, AreValues}
use Rattle.plcells.specs.Walking.{weight}
use Rattle.plcode.specs.declared.node.Node.{Node}
use Rattle.plcode.specs.Packed.{node_at, IsArgument}
use Rattle.plenv.specs.Env.{Env, over}
use Rattle.plenv.specs.Changes.{Unifies}
use Rattle.plenv.specs.Rows.{AllBelowEach, CoversAll}
use Rattle.plhead.specs.Equations.{Terms, Solves, left, right, weigh, IsEquation, AreEquations, pairs, Pushes}
use Rattle.plhead.specs.Fitting.{Answers, HasArgs, NotUnifiable, Stands, UnifiesAll}
use Rattle.plhead.specs.Progress.{Reduces}
use Rattle.plhead.proofs.Trees.{length-spread}
use Rattle.plhead.proofs.Listing.{pairs-solved, solved-pairs, pairs-equations, weigh-pairs}
use Rattle.plhead.proofs.Solving.{started, unifier-general, unifier-younger}

bind_all-trees : (σ : ℕ → Tree) (ts : List Tree) → bind_all σ (trees ts) ≡ trees (map (bind σ) ts)
unfolding bind
bind_all-trees σ [] = refl
bind_all-trees σ (t ∷ ts) = ap (more (bind σ t)) (bind_all-trees σ ts)

below-row : (n : ℕ) (w : ℕ → Tree) (k i j : ℕ) → EachBelow n (trees (spread w i k)) → i ≤ j → j < i + k → AllBelow n (w j)
below-row n w zero i j b low lt = absurd (omega arith)
below-row n w (suc k) i j b low lt = elim (cases_eq j i) [
  | inl e ↦ subst (λ d. AllBelow n (w d)) (sym e) b.0
  | inr ne ↦ below-row n w k (suc i) j b.1 (omega arith) (omega arith)
]

below-each : (n : ℕ) (ts : List Tree) → AllBelowEach n ts → EachBelow n (trees ts)
below-each n [] b = tt
below-each n (t ∷ ts) b = (b.0, below-each n ts b.1)

-- the arguments of the equation on top
module _ (e : Env) (base : ℕ) (w : Terms) (nodes : List Node) (i c k at : ℕ) (v : Cell) (args : HasArgs e.heap nodes w (w at) (value e.heap v) i c k)
    (rest now : List (ℕ × Cell)) (pushed : Pushes e.heap rest now i c k) where
  count : length pushed.values ≡ k
  count = sym (length-map pushed.values (value e.heap)) ∙ ap length pushed.are ∙ length-spread (term e.heap) k c

  left_row : w at ≡ compound args.name (trees (spread w i (length pushed.values)))
  left_row = args.left_is ∙ ap (λ j. compound args.name (trees (spread w i j))) (sym count)

  right_row : value e.heap v ≡ compound args.name (trees (map (value e.heap) pushed.values))
  right_row = args.right_is ∙ ap (λ ts. compound args.name (trees ts)) (sym pushed.are)

  left_bound : (τ : ℕ → Tree) → bind τ (left e base w (at, v)) ≡ compound args.name (bind_all τ (trees (map (bind (over e base)) (spread w i (length pushed.values)))))
  unfolding bind
  left_bound τ = ap (λ t. bind τ (bind (over e base) t)) left_row ∙ ap (λ ts. compound args.name (bind_all τ ts)) (bind_all-trees (over e base) (spread w i (length pushed.values)))

  right_bound : (τ : ℕ → Tree) → bind τ (right e (at, v)) ≡ compound args.name (bind_all τ (trees (map (value e.heap) pushed.values)))
  unfolding bind
  right_bound τ = ap (bind τ) right_row

  args-to : (τ : ℕ → Tree) → bind τ (left e base w (at, v)) ≡ bind τ (right e (at, v)) → Solves τ e base w (pairs i pushed.values)
  args-to τ q = pairs-solved τ e base w pushed.values i (compound-parts (sym (left_bound τ) ∙ q ∙ right_bound τ))

  args-back : (τ : ℕ → Tree) → Solves τ e base w (pairs i pushed.values) → bind τ (left e base w (at, v)) ≡ bind τ (right e (at, v))
  args-back τ s = left_bound τ ∙ ap (compound args.name) (solved-pairs τ e base w pushed.values i s) ∙ sym (right_bound τ)

  args-stand : Stands e base w (pairs i pushed.values) (left e base w (at, v)) (right e (at, v))
  args-stand = record { to = args-to; back = args-back }

  args-equations : IsEquation e base nodes w (at, v) → AreEquations e base nodes w (pairs i pushed.values)
  args-equations top =
      let below : EachBelow top.covers.width (trees (spread w i (length pushed.values))) = subst (AllBelow top.covers.width) left_row top.covers.below in
      pairs-equations e base nodes w pushed.values i pushed.fit (λ j low lt. (
        omega (arith, args.nodes_within, count, lt),
        args.whole j low (omega (arith, lt, count)),
        record { width = top.covers.width; below = below-row top.covers.width w (length pushed.values) i j below low lt; within = top.covers.within },
      ))

  args-lighter : weigh w (pairs i pushed.values) < weight (w at)
  unfolding weight
  args-lighter = omega (arith, weigh-pairs w pushed.values i, ap weight left_row)

  pub split : IsEquation e base nodes w (at, v) → Reduces e e base nodes w (at, v) rest now
  split top = record {
    added = pairs i pushed.values;
    items = pushed.items;
    equations = args-equations top;
    progress = started e base w (left e base w (at, v)) (right e (at, v)) (pairs i pushed.values) args-stand;
    lighter = args-lighter;
  }

-- the unifier of rows under one name is that under any
pub unifies-all : (old new : Env) (ts us : List Tree) (f : List ℕ) → Unifies old new (compound f (trees ts)) (compound f (trees us)) → UnifiesAll old new ts us
unfolding bind
unifies-all old new ts us f u =
    let general = unifier-general (compound f (trees ts)) (compound f (trees us)) u.unifier u.is in
    let younger = unifier-younger (compound f (trees ts)) (compound f (trees us)) u.unifier u.is in
    record {
      unifier = u.unifier;
      is = λ g. unify-is (compound g (trees ts)) (compound g (trees us)) u.unifier (
        ap (compound g) (compound-parts general.0),
        λ τ q y. general.1 τ (ap (compound f) (compound-parts q)) y,
      ) younger;
      made = u.made;
    }

-- ---- a head's arguments against values
module _ (e : Env) (base : ℕ) (w : Terms) (nodes : List Node) (at k : ℕ) (values : List Cell) (us : List Tree) (is : us ≡ spread w at k) (count : length values ≡ k) where
  row_is : map (bind (over e base)) (spread w at (length values)) ≡ map (bind (over e base)) us
  row_is = ap (λ j. map (bind (over e base)) (spread w at j)) count ∙ ap (map (bind (over e base))) (sym is)

  pub row-equations : AreValues e.heap values → at + k ≤ length nodes → ((j : ℕ) → at ≤ j → j < at + k → IsArgument 0 j (node_at nodes j)) → CoversAll e base us → AreEquations e base nodes w (pairs at values)
  row-equations fit within whole covers =
      let below : EachBelow covers.width (trees (spread w at k)) = subst (λ ts. EachBelow covers.width (trees ts)) is (below-each covers.width us covers.below) in
      pairs-equations e base nodes w values at fit (λ j low lt. (
        omega (arith, within, count, lt),
        whole j low (omega (arith, lt, count)),
        record { width = covers.width; below = below-row covers.width w k at j below low (omega (arith, lt, count)); within = covers.within },
      ))

  pub row-stands : (f : List ℕ) → Stands e base w (pairs at values) (compound f (trees (map (value e.heap) values))) (compound f (trees (map (bind (over e base)) us)))
  unfolding bind
  row-stands f = record {
    to = λ τ q. pairs-solved τ e base w values at (ap (λ ts. bind_all τ (trees ts)) row_is ∙ sym (compound-parts q));
    back = λ τ s. ap (compound f) (sym (sym (ap (λ ts. bind_all τ (trees ts)) row_is) ∙ solved-pairs τ e base w values at s));
  }

  -- what they come to
  module _ {E : Type 0} (last : Env) (answer : Result Bool E) (answers : IfOk answer (λ b. (s t : Tree) → Stands e base w (pairs at values) s t → Answers e last s t b)) where
    pub row-yes : IfOk answer (λ b. b ≡ true → UnifiesAll e last (map (value e.heap) values) (map (bind (over e base)) us))
    unfolding Answers
    row-yes = go answer answers
      where
        go : (a : Result Bool E) → IfOk a (λ b. (s t : Tree) → Stands e base w (pairs at values) s t → Answers e last s t b) → IfOk a (λ b. b ≡ true → UnifiesAll e last (map (value e.heap) values) (map (bind (over e base)) us))
        go (Ok b) f = λ q.
            unifies-all e last (map (value e.heap) values) (map (bind (over e base)) us) []
            (subst (Answers e last (compound [] (trees (map (value e.heap) values))) (compound [] (trees (map (bind (over e base)) us)))) q (f _ _ (row-stands [])))
        go (Err x) f = tt

    pub row-no : IfOk answer (λ b. b ≡ false → NotUnifiable (map (value e.heap) values) (map (bind (over e base)) us))
    unfolding Answers
    row-no = go answer answers
      where
        go : (a : Result Bool E) → IfOk a (λ b. (s t : Tree) → Stands e base w (pairs at values) s t → Answers e last s t b) → IfOk a (λ b. b ≡ false → NotUnifiable (map (value e.heap) values) (map (bind (over e base)) us))
        go (Ok b) f = λ q name. subst (Answers e last (compound name (trees (map (value e.heap) values))) (compound name (trees (map (bind (over e base)) us)))) q (f _ _ (row-stands name))
        go (Err x) f = tt
