-- Signs spell at most one term: the machine, which takes one way, meets each.
use Rattle.std.proofs.Common.{◌≡◌, ◌<◌, ◌+◌, arith, ℕ, zero, suc, List, [], ◌∷◌, length, sym, ◌∙◌}
use Rattle.plterm.specs.Tree.{Tree}
use Rattle.plops.specs.declared.table.OpTable.{OpTable}
use Rattle.plread.specs.Signs.{Sign}
use Rattle.plread.specs.Reading.{Spells}
use Rattle.plread.specs.Machine.{State, After, Goes, Done, Fails, step, held, one_if}
use Rattle.plread.proofs.Meeting.{Meets, MeetsAfter}
use Rattle.plread.proofs.Steps.{kept}
use Rattle.plread.proofs.Bounds.{Bounded, step_bounded}
use Rattle.plread.proofs.Runs.{size, first, at_first}

one_tree : (trees : List Tree) (t u : Tree) → trees ≡ t ∷ [] → trees ≡ u ∷ [] → t ≡ u
one_tree trees t u e f = let same : t ∷ [] ≡ u ∷ [] = sym e ∙ f in cc

-- what a step gives meets one tree at most, if what is smaller does
met_after : (ops : OpTable) (m : ℕ) (after : After) (t u : Tree) → ((s : State) → size s < m → length s.trees ≡ held s.stack + one_if s.given → Meets ops s t → Meets ops s u → t ≡ u) → Bounded m after → MeetsAfter ops after t → MeetsAfter ops after u → t ≡ u
met_after ops m (Goes s) t u below k a b = below s k.0 k.1 a b
met_after ops m (Done trees) t u below k a b = one_tree trees t u a b
met_after ops m Fails t u below k a b = absurd a

met_once : (ops : OpTable) (n : ℕ) (s : State) (t u : Tree) → size s < n → length s.trees ≡ held s.stack + one_if s.given → Meets ops s t → Meets ops s u → t ≡ u
met_once ops zero s t u h e a b = absurd (omega arith)
met_once ops (suc n) s t u h e a b =
    met_after ops (size s) (step ops s) t u (λ r k. met_once ops n r t u (omega arith)) (step_bounded ops s.room s.stack s.trees s.given s.left e) (kept ops t s.room s.stack s.trees s.given s.left a) (kept ops u s.room s.stack s.trees s.given s.left b)

pub spelled_once : (ops : OpTable) (levels : ℕ) (signs : List Sign) (t u : Tree) → Spells ops levels signs t → Spells ops levels signs u → t ≡ u
spelled_once ops levels signs t u a b =
    let start = at_first ops levels signs in
    met_once ops (suc (size (first levels signs))) (first levels signs) t u (omega arith) start.counted (start.ahead t a) (start.ahead u b)
