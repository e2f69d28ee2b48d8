use Rattle.std.proofs.Common.{◌∷◌, [], length}
use Rattle.std.specs.List.{flat_map}
use Rattle.plterm.specs.Reading.{spelling}
use Rattle.plcode.specs.Steps.{text, Extended}
use Rattle.plcode.specs.Bodies.{IsCode, Leads}
use Rattle.plcode.proofs.body.pieces_of.Given as goal

abbrev pub invariant-goals : goal.invariant-goals
invariant-goals l = record {
  code : IsCode (text l.code);
  extended : Extended (text l.initial.code) (text l.code);
  leads : Leads (text l.code) l.pieces.items (l.body ∷ []) l.goals;
}

abbrev pub decreases-goals : goal.decreases-goals
decreases-goals l = length (flat_map spelling l.goals)
