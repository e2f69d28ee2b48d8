use Rattle.std.proofs.Common.{◌∙◌, ℕ, List, ap}
use Rattle.plnames.specs.Names.{kind_of}
use Rattle.plcode.specs.Goals.{piece_for}
use Rattle.plcode.proofs.goal.piece_at.Goals as goal

pub returns-in-Compound : goal.returns-in-Compound
returns-in-Compound c =
    let k = c.in-Compound.count in
    let is = c.kind_of-kind.ensures ∙ ap (λ (n : List ℕ). kind_of n k) c.as_str.ensures in
    rw c.in-Compound.is (c.control_piece.ensures ∙ ap (λ o. piece_for o k) is)
