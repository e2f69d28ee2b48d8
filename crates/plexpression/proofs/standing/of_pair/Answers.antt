use Rattle.std.proofs.Common.{◌≡◌, ◌∙◌, sym, ap₂, w64, FitsSigned, Some, rules}
use Rattle.std.proofs.lemmas.Int.{to_z-of_z}
use Rattle.platoms.specs.Names.{operation_at}
use Rattle.platoms.specs.declared.evaluable.Operation.TheVariants.{Two}
use Rattle.plarith.specs.Operations.{binary}
use Rattle.plexpression.proofs.Clauses.{of-pair}
use Rattle.plexpression.proofs.standing.of_pair.Goals as goal

pub binary_at-requires : goal.binary_at-requires
binary_at-requires c = (c.in_ok-pair.ensures.some c.args.env.now c.args.base c.requires).known

pub number_at-requires : goal.number_at-requires
number_at-requires c = (c.in_ok-pair.ensures.some c.args.env.now c.args.base c.requires).left

pub number_at-requires-2 : goal.number_at-requires-2
number_at-requires-2 c = (c.in_ok-pair.ensures.some c.args.env.now c.args.base c.requires).right

pub returns : goal.returns
returns c =
    let e = c.args.env.now in
    let x : FitsSigned w64 c.in_ok-x.x = search rules in
    let y : FitsSigned w64 c.in_ok-y.y = search rules in
    let applied : c.apply.result ≡ binary c.in_ok-f.f c.in_ok-x.x c.in_ok-y.y = c.apply.ensures ∙ ap₂ (binary c.in_ok-f.f) (to_z-of_z w64 c.in_ok-x.x x) (to_z-of_z w64 c.in_ok-y.y y) in
    let known : operation_at e.heap.names c.in_ok-pair.pair.functor ≡ Some (Two c.in_ok-f.f) = c.in_ok-f.ensures in
    applied ∙ sym (of-pair e c.args.nodes.now c.args.base c.args.at c.in_ok-pair.pair (c.in_ok-pair.ensures.some e c.args.base c.requires) c.in_ok-f.f c.in_ok-x.x c.in_ok-y.y known c.in_ok-x.ensures c.in_ok-y.ensures)
