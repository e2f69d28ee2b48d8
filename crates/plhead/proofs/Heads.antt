-- Nodes from a place on, each beside its value, behind the equations of a list: those of the first values are left.
use Rattle.std.proofs.Common.{◌≡◌, ℕ, zero, suc, ◌+◌, ◌<◌, List, [], ◌∷◌, ◌++◌, length, take, get_or, sym, ap, ◌∙◌, arith, append_assoc}
use Rattle.std.proofs.lemmas.List.{get_or_default}
use Rattle.plcells.specs.declared.cell.Cell.{Cell}
use Rattle.plcells.specs.declared.cell.Cell.TheVariants.{Free}
use Rattle.plhead.specs.Equations.{pairs}

-- the last of the first ones stands in front
last-first : (values : List Cell) (at i : ℕ) → i < length values → pairs at (take (suc i) values) ≡ (at + i, get_or values i (Free 0)) ∷ pairs at (take i values)
last-first [] at i lt = absurd (omega (arith, lt))
last-first (v ∷ vs) at zero lt = ap (λ a. (a, v) ∷ []) (omega arith)
last-first (v ∷ vs) at (suc i) lt =
    ap (λ ps. ps ++ (at, v) ∷ []) (last-first vs (suc at) i (omega (arith, lt)))
    ∙ ap (λ a. (a, get_or vs i (Free 0)) ∷ (pairs (suc at) (take i vs) ++ (at, v) ∷ [])) (omega arith)

pub one-taken : (work : List (ℕ × Cell)) (at : ℕ) (values : List Cell) (k i : ℕ) (v d : Cell) → k ≡ i + 1 → i < length values → v ≡ get_or values i d → work ++ pairs at (take k values) ≡ (work ++ (at + i, v) ∷ []) ++ pairs at (take i values)
one-taken work at values k i v d up lt read =
    let next : k ≡ suc i = omega (arith, up) in
    ap (λ k. work ++ pairs at (take k values)) next
    ∙ ap (λ ps. work ++ ps) (last-first values at i lt)
    ∙ ap (λ u. work ++ ((at + i, u) ∷ pairs at (take i values))) (sym (read ∙ get_or_default values i d (Free 0) lt))
    ∙ sym (append_assoc work ((at + i, v) ∷ []) (pairs at (take i values)))
