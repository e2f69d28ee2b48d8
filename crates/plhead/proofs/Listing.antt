-- The list of equations.
use Rattle.std.proofs.Common.{◌≡◌, ℕ, suc, ◌+◌, ◌<◌, ◌≤◌, List, [], ◌∷◌, ◌++◌, length, map, refl, sym, ap, ap₂, ◌∙◌, subst, arith, append_assoc, append-nil}
use Rattle.plterm.specs.Tree.{Tree, more, trees}
use Rattle.plsubst.specs.Subst.{bind, bind_all}
use Rattle.plsubst.proofs.Unify.{more-head, more-tail}
use Rattle.plcells.specs.declared.cell.Cell.{Cell}
use Rattle.plcells.specs.Store.{Store, term, terms, value, spread, AreValues, IsValue}
use Rattle.plcells.specs.Walking.{weight, weights}
use Rattle.plcode.specs.declared.node.Node.{Node}
use Rattle.plcode.specs.Packed.{node_at, IsArgument}
use Rattle.plenv.specs.Env.{Env, Covers, over}
use Rattle.plhead.specs.Equations.{Terms, Solves, AreEquations, pairs, weigh, Pushes}

module _ (τ : ℕ → Tree) (e : Env) (base : ℕ) (w : Terms) where
  pub solves-left : (ps qs : List (ℕ × Cell)) → Solves τ e base w (ps ++ qs) → Solves τ e base w ps
  solves-left [] qs s = tt
  solves-left (p ∷ ps) qs s = (s.0, solves-left ps qs s.1)

  pub solves-right : (ps qs : List (ℕ × Cell)) → Solves τ e base w (ps ++ qs) → Solves τ e base w qs
  solves-right [] qs s = s
  solves-right (p ∷ ps) qs s = solves-right ps qs s.1

  pub solves-both : (ps qs : List (ℕ × Cell)) → Solves τ e base w ps → Solves τ e base w qs → Solves τ e base w (ps ++ qs)
  solves-both [] qs s r = r
  solves-both (p ∷ ps) qs s r = (s.0, solves-both ps qs s.1 r)

  -- the last ones put before those in front of them
  pub solves-swap : (ps qs rs : List (ℕ × Cell)) → Solves τ e base w ((ps ++ qs) ++ rs) → Solves τ e base w ((ps ++ rs) ++ qs)
  solves-swap ps qs rs s =
      let front = solves-left (ps ++ qs) rs s in
      solves-both (ps ++ rs) qs (solves-both ps rs (solves-left ps qs front) (solves-right (ps ++ qs) rs s)) (solves-right ps qs front)

  -- the equations of two rows
  pub pairs-solved : (vs : List Cell) (at : ℕ) → bind_all τ (trees (map (bind (over e base)) (spread w at (length vs)))) ≡ bind_all τ (trees (map (value e.heap) vs)) → Solves τ e base w (pairs at vs)
  unfolding bind
  pairs-solved [] at h = tt
  pairs-solved (v ∷ vs) at h = solves-both (pairs (suc at) vs) ((at, v) ∷ []) (pairs-solved vs (suc at) (more-tail h)) (more-head h, tt)

  pub solved-pairs : (vs : List Cell) (at : ℕ) → Solves τ e base w (pairs at vs) → bind_all τ (trees (map (bind (over e base)) (spread w at (length vs)))) ≡ bind_all τ (trees (map (value e.heap) vs))
  unfolding bind
  solved-pairs [] at s = refl
  solved-pairs (v ∷ vs) at s =
      ap₂ more (solves-right (pairs (suc at) vs) ((at, v) ∷ []) s).0 (solved-pairs vs (suc at) (solves-left (pairs (suc at) vs) ((at, v) ∷ []) s))

module _ (e : Env) (base : ℕ) (nodes : List Node) (w : Terms) where
  pub equations-left : (ps qs : List (ℕ × Cell)) → AreEquations e base nodes w (ps ++ qs) → AreEquations e base nodes w ps
  equations-left [] qs s = tt
  equations-left (p ∷ ps) qs s = (s.0, equations-left ps qs s.1)

  pub equations-right : (ps qs : List (ℕ × Cell)) → AreEquations e base nodes w (ps ++ qs) → AreEquations e base nodes w qs
  equations-right [] qs s = s
  equations-right (p ∷ ps) qs s = equations-right ps qs s.1

  pub equations-both : (ps qs : List (ℕ × Cell)) → AreEquations e base nodes w ps → AreEquations e base nodes w qs → AreEquations e base nodes w (ps ++ qs)
  equations-both [] qs s r = r
  equations-both (p ∷ ps) qs s r = (s.0, equations-both ps qs s.1 r)

  pub equations-swap : (ps qs rs : List (ℕ × Cell)) → AreEquations e base nodes w ((ps ++ qs) ++ rs) → AreEquations e base nodes w ((ps ++ rs) ++ qs)
  equations-swap ps qs rs s =
      let front = equations-left (ps ++ qs) rs s in
      equations-both (ps ++ rs) qs (equations-both ps rs (equations-left ps qs front) (equations-right (ps ++ qs) rs s)) (equations-right ps qs front)

  pub pairs-equations : (vs : List Cell) (at : ℕ) → AreValues e.heap vs → ((j : ℕ) → at ≤ j → j < at + length vs → (j < length nodes) × IsArgument 0 j (node_at nodes j) × Covers e base (w j)) → AreEquations e base nodes w (pairs at vs)
  pairs-equations [] at f each = tt
  pairs-equations (v ∷ vs) at f each =
      let here = each at (omega arith) (omega arith) in
      equations-both (pairs (suc at) vs) ((at, v) ∷ [])
      (pairs-equations vs (suc at) f.1 (λ j low lt. each j (omega (arith, low)) (omega (arith, lt))))
      (record { within = here.0; whole = here.1; covers = here.2; fits = f.0 }, tt)

module _ (w : Terms) where
  weigh-append : (ps qs : List (ℕ × Cell)) → weigh w (ps ++ qs) ≡ weigh w ps + weigh w qs
  weigh-append [] qs = omega arith
  weigh-append (p ∷ ps) qs = omega (arith, weigh-append ps qs)

  pub weigh-pairs : (vs : List Cell) (at : ℕ) → weigh w (pairs at vs) ≡ weights (trees (spread w at (length vs)))
  unfolding weight
  weigh-pairs [] at = refl
  weigh-pairs (v ∷ vs) at = omega (arith, weigh-append (pairs (suc at) vs) ((at, v) ∷ []), weigh-pairs vs (suc at))

  -- the last one gave way to lighter ones
  pub reduced-lighter : (work rest now added : List (ℕ × Cell)) (p : ℕ × Cell) → work ≡ rest ++ p ∷ [] → now ≡ rest ++ added → weigh w added < weight (w p.0) → weigh w now < weigh w work
  reduced-lighter work rest now added p e f lighter =
      omega (arith, ap (weigh w) e, ap (weigh w) f, weigh-append rest (p ∷ []), weigh-append rest added, lighter)

-- ---- putting equations on the list

-- one more pair in front, which goes behind the others
pub pairs-more : (items old : List (ℕ × Cell)) (vs rest : List Cell) (at i : ℕ) (v : Cell) → items ≡ old ++ pairs (at + suc i) rest → vs ≡ v ∷ rest → items ++ (at + i, v) ∷ [] ≡ old ++ pairs (at + i) vs
pairs-more items old vs rest at i v e f =
    ap (λ xs. xs ++ (at + i, v) ∷ []) e
    ∙ append_assoc old (pairs (at + suc i) rest) ((at + i, v) ∷ [])
    ∙ ap (λ m. old ++ (pairs m rest ++ (at + i, v) ∷ [])) (omega arith)
    ∙ ap (λ us. old ++ pairs (at + i) us) (sym f)

pub pushes-more : (h : Store) (old items new : List (ℕ × Cell)) (at c i k : ℕ) (v : Cell) → Pushes h old items (at + suc i) (c + suc i) k → IsValue h v → value h v ≡ term h (c + i) → new ≡ items ++ (at + i, v) ∷ [] → Pushes h old new (at + i) (c + i) (suc k)
pushes-more h old items new at c i k v p f is e = record {
  values = v ∷ p.values;
  items = e ∙ pairs-more items old (v ∷ p.values) p.values at i v p.items refl;
  fit = (f, p.fit);
  are = ap₂ (λ t ts. t ∷ ts) is (p.are ∙ ap (λ d. terms h d k) (omega arith));
}

pub pushes-none : (h : Store) (old : List (ℕ × Cell)) (at c k : ℕ) → k ≡ 0 → Pushes h old old at c k
pushes-none h old at c k e = subst (Pushes h old old at c) (sym e) none
  where
    none : Pushes h old old at c 0
    none = record { values = []; items = sym (append-nil old); fit = tt; are = refl }
