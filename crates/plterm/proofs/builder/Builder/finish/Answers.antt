use Rattle.std.proofs.Common.{◌≡◌, ◌∙◌, [], ◌∷◌, sym, ap, length, reverse}
use Rattle.plterm.specs.Reading.{reading, IsTerm}
use Rattle.plterm.specs.Building.{trees_of}
use Rattle.plterm.proofs.Forests.{reading_term}
use Rattle.plterm.proofs.Postfixes.{moved_one}
use Rattle.plterm.proofs.builder.Builder.finish.Goals as goal

pub of_nodes-requires : goal.of_nodes-requires
of_nodes-requires c =
    let one : length (trees_of c.self.inside.nodes.items) ≡ 1 = rw c.self.view_is c.requires in
    let e = moved_one _ (reading (reverse c.in_ok-nodes.nodes.items)) c.in_ok-nodes.ensures.trees one in
    record { forest = c.in_ok-nodes.ensures.forest; one = ap length e ∙ one }

pub returns : goal.returns
returns c =
    let one : length (trees_of c.self.inside.nodes.items) ≡ 1 = rw c.self.view_is c.requires in
    let e = moved_one _ (reading (reverse c.in_ok-nodes.nodes.items)) c.in_ok-nodes.ensures.trees one in
    let whole : IsTerm (reverse c.in_ok-nodes.nodes.items) = record { forest = c.in_ok-nodes.ensures.forest; one = ap length e ∙ one } in
    sym c.self.view_is ∙ sym e ∙ reading_term (reverse c.in_ok-nodes.nodes.items) whole ∙ ap (λ t. t ∷ []) (sym c.of_nodes.ensures)
