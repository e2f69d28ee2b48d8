-- Lists of values.
use Rattle.std.proofs.Common.{◌≡◌, ◌<◌, List, [], length, ◌∷◌, refl, arith}
use Rattle.plcells.specs.declared.cell.Cell.{Cell}

-- a list that is not empty
pub some-first : (xs : List Cell) → 0 < length xs → (v : Cell) × (vs : List Cell) × (xs ≡ v ∷ vs)
some-first [] lt = absurd (omega (arith, lt))
some-first (v ∷ vs) lt = (v, vs, refl)
